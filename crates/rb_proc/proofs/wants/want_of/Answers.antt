use Rattle.std.proofs.Common.{◌≡◌, ◌<◌, Option, length, ap, sym, ◌∙◌, arith, rules}
use Rattle.std.proofs.lemmas.List.{length-map}
use Rattle.rb_world.proofs.ListFacts.{slice_get-there}
use Rattle.rb_code.specs.Instructions.Plain.{Block, block, code as plain}
use Rattle.rb_code.specs.WordMachine.Turn.{enters, wants_by}
use Rattle.rb_code.specs.declared.instr.Instr.{Instr}
use Rattle.rb_proc.specs.Process.{wanted_by}
use Rattle.rb_proc.proofs.wants.want_of.Goals as goal

pub returns-in-Enter : goal.returns-in-Enter
returns-in-Enter c =
    let code = plain c.args.code.now in
    let blocks = c.args.code.now.blocks.items in
    let count : c.len.result ≡ length blocks = search rules in
    let within : c.in-Enter.block < length code.blocks = omega (arith, length-map blocks block, c.if-block-len.true) in
    let found = slice_get-there code.blocks c.in-Enter.block within in
    sym (ap (λ (i : Instr). wanted_by (wants_by code i)) c.in-Enter.is ∙ ap (λ (o : Option Block). wanted_by (enters c.in-Enter.block o)) found.1)
