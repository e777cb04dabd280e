use Rattle.std.proofs.Common.{◌≡◌, [], length, sym, ap, ◌∙◌, arith}
use Rattle.std.proofs.lemmas.Bool.{eqb-true}
use Rattle.std.proofs.lemmas.Grind.{common_steps}
use Rattle.std.proofs.lemmas.List.{nil_from_length}
use Rattle.rb_syntax.specs.Plain.{tree}
use Rattle.rb_scope.specs.Rules.{faults_of}
use Rattle.rb_faults.proofs.Ordering.{none_in_order}
use Rattle.rb_faults.proofs.Telling.{told_of_names}
use Rattle.rb_faults.proofs.told.faults_of_program.Goals as goal

pub faults_of_nesting-requires-clause-well : goal.faults_of_nesting-requires-clause-well
faults_of_nesting-requires-clause-well c =
    let faults = c.in_ok-faults.faults in
    let none : length faults.items ≡ 0 = sym faults.ok.0 ∙ eqb-true _ _ (sym c.is_empty.ensures ∙ c.if-is_empty.true) in
    none_in_order (faults_of (tree c.args.program)) (sym c.in_ok-faults.ensures ∙ nil_from_length faults.items none)

pub returns : goal.returns
returns c =
    let faults = c.in_ok-faults.faults in
    told_of_names (tree c.args.program) faults.items c.in_ok-faults.ensures
    (λ none. (let long : faults.len ≡ 0 = faults.ok.0 ∙ ap length none in
    grind (arith, common_steps, c.is_empty.ensures, c.if-is_empty.false)))
