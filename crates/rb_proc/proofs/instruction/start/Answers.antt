use Rattle.std.proofs.Common.{◌≡◌, ℕ, length, vec_len, ap, sym, ◌∙◌, subst, arith, rules}
use Rattle.std.specs.Prelude.{Option}
use Rattle.rb_code.specs.Instructions.Plain.{Block, block}
use Rattle.rb_code.specs.WordMachine.Act.{Going, Outcome, alternate_address, if_there}
use Rattle.rb_code.specs.SoundCode.Safe.{IsThere}
use Rattle.rb_proc.proofs.Alternates.{address_is, has_alternate, has_block, is_counted}
use Rattle.rb_proc.proofs.Entered.{mapped_there}
use Rattle.rb_proc.proofs.instruction.start.Goals as goal

pub index-one-requires : goal.index-one-requires
index-one-requires c =
    let blocks = c.args.code.now.blocks in
    let within = has_block blocks.items c.args.block c.args.alternate c.requires in
    let count : vec_len blocks ≡ length blocks.items = search rules in
    omega arith

pub overflow_sub-alternate : goal.overflow_sub-alternate
overflow_sub-alternate c =
    let blocks = c.args.code.now.blocks.items in
    let one = c.index-one.result.now in
    let there = mapped_there block blocks c.args.block one (has_block blocks c.args.block c.args.alternate c.requires) c.index-one.ensures in
    is_counted (block one) c.args.alternate (subst (λ (o : Option Block). IsThere (alternate_address o c.args.alternate)) there c.requires)

pub index-requires : goal.index-requires
index-requires c =
    let blocks = c.args.code.now.blocks.items in
    let one = c.index-one.result.now in
    let there = mapped_there block blocks c.args.block one (has_block blocks c.args.block c.args.alternate c.requires) c.index-one.ensures in
    let within = has_alternate (block one) c.args.alternate
    (subst (λ (o : Option Block). IsThere (alternate_address o c.args.alternate)) there c.requires) in
    let count : vec_len one.alternates ≡ length one.alternates.items = search rules in
    omega arith

pub returns : goal.returns
returns c a operands m =
    let blocks = c.args.code.now.blocks.items in
    let one = c.index-one.result.now in
    let there = mapped_there block blocks c.args.block one (has_block blocks c.args.block c.args.alternate c.requires) c.index-one.ensures in
    let go : ℕ → Outcome = λ (to : ℕ). Going to operands m in
    let is = address_is (block one) c.args.alternate c.index.result.now
    (subst (λ (o : Option Block). IsThere (alternate_address o c.args.alternate)) there c.requires) c.index.ensures in
    sym (ap (λ (o : Option Block). if_there (alternate_address o c.args.alternate) go) there ∙ ap (λ (o : Option ℕ). if_there o go) is)
