use Rattle.std.proofs.Common.{◌≡◌, ℕ, length, ap, sym, ◌∙◌, arith, rules}
use Rattle.rb_world.specs.Kind.{Enters, Want}
use Rattle.rb_code.specs.Instructions.Plain.{block}
use Rattle.rb_code.specs.WordMachine.Turn.{enters}
use Rattle.rb_proc.proofs.Entered.{mapped_there}
use Rattle.rb_proc.proofs.wants.facts_of.Goals as goal

pub overflow_cast-result : goal.overflow_cast-result
overflow_cast-result c =
    let one = c.index-one.result.now in
    let there = mapped_there block c.args.code.now.blocks.items c.args.block one (omega arith) c.index-one.ensures in
    let few = c.requires.code.alternates c.args.block (block one) there in
    let count : c.len.result ≡ length one.alternates.items = search rules in
    omega arith

pub returns : goal.returns
returns c =
    let one = c.index-one.result.now in
    let there = mapped_there block c.args.code.now.blocks.items c.args.block one (omega arith) c.index-one.ensures in
    let count : c.len.result ≡ length one.alternates.items = search rules in
    let wants : ℕ → Want =
    λ (n : ℕ). Enters (record { number = c.args.block; line = one.line; conversation = one.conversation; bound = one.bound; alternates = n }) in
    ap wants count ∙ sym (ap (enters c.args.block) there)
