use Rattle.std.proofs.lemmas.Result.{IfOk-weaker}
use Rattle.rb_syntax.specs.Plain.{tree}
use Rattle.rb_faults.proofs.Telling.{told_none, told_of_nesting}
use Rattle.rb_faults.proofs.told.faults_of_nesting.Goals as goal

pub returns-in-Ok-nest : goal.returns-in-Ok-nest
returns-in-Ok-nest c =
    told_none (tree c.args.program) (tree c.in-Ok.checked.program) c.new.result.items c.requires.well c.in-Ok.ensures.same
    c.in-Ok-nest.ensures.nested.no_fault c.new.ensures.items

pub returns-in-Ok : goal.returns-in-Ok
returns-in-Ok c =
    IfOk-weaker c.alone.result _ _
    (λ told. told_of_nesting (tree c.args.program) (tree c.in-Ok.checked.program) c.in-Err-nest.refusal told.items
    c.requires.well c.in-Ok.ensures.same c.in-Err-nest.ensures.refused) c.alone.ensures
