use Rattle.std.proofs.lemmas.Result.{IfOk-weaker}
use Rattle.rb_syntax.specs.Plain.{tree}
use Rattle.rb_judge.proofs.OwnNumbers.{parsed_have_own_numbers}
use Rattle.rb_faults.specs.Told.{in_tree}
use Rattle.rb_faults.proofs.Telling.{told_of_text}
use Rattle.rb_faults.proofs.told.faults_of_source.Goals as goal

pub faults_of_program-requires : goal.faults_of_program-requires
faults_of_program-requires c = parsed_have_own_numbers c.args.source.now (tree c.in-Ok.program) c.in-Ok.ensures.ok

pub returns-in-Ok : goal.returns-in-Ok
returns-in-Ok c =
    IfOk-weaker c.faults_of_program.result _ _
    (λ told. in_tree (tree c.in-Ok.program) told.items c.in-Ok.ensures.ok) c.faults_of_program.ensures

pub returns-in-Err : goal.returns-in-Err
returns-in-Err c =
    IfOk-weaker c.alone.result _ _
    (λ told. told_of_text c.args.source.now c.in-Err.refusal told.items c.in-Err.ensures.err) c.alone.ensures
