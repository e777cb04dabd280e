use Rattle.std.proofs.Common.{◌≡◌, ◌<◌, arith, ap, ◌∙◌, sym, length, map, Some}
use Rattle.std.specs.Prelude.{slice_get}
use Rattle.std.proofs.lemmas.Option.{slice_get-get_or}
use Rattle.rb_code.specs.Instructions.Plain.{procedure}
use Rattle.rb_code.specs.declared.instr.Instr.{Instr}
use Rattle.rb_draft.specs.Output.{output, patched}
use Rattle.rb_gen.proofs.LinkSteps.{linked_step}
use Rattle.rb_gen.proofs.linking.link.Goals as goal

pub instrs-preserved : goal.instrs-preserved
instrs-preserved c =
    let inside : c.instrs.at < length c.instrs.draft.instrs.items = omega (arith, c.instrs.invariant.long) in
    let there : slice_get c.instrs.draft.instrs.items c.instrs.at ≡ Some c.index.result.now =
    slice_get-get_or c.instrs.draft.instrs.items c.instrs.at c.index.result.now inside ∙ ap (λ (x : Instr). Some x) (sym c.index.ensures) in
    linked_step (map procedure c.args.procedures.now) c.args.from c.instrs.at c.index.result.now inside there
    (c.patch.ensures ∙ ap (λ (x : Instr). patched (output c.instrs.draft) c.instrs.at x) c.linked-instr.ensures) c.instrs.invariant
