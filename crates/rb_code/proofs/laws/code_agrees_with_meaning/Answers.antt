use Rattle.rb_code.specs.Agreement.Laws.{CodeAgreesWithMeaning}
use Rattle.rb_code.proofs.Tables.CodeTables.{code_has_table}
use Rattle.rb_code.proofs.WholeRuns.CodeAgrees.{agrees_by_table}
use Rattle.rb_code.proofs.laws.code_agrees_with_meaning.Goals as goal

agrees : CodeAgreesWithMeaning
agrees tree slots c resolved limits nested few stands turns =
    let tabled = code_has_table c tree slots resolved limits nested few stands in
    agrees_by_table tree slots c tabled.0 resolved limits nested stands tabled.1 turns

pub returns : goal.returns
returns c = agrees
