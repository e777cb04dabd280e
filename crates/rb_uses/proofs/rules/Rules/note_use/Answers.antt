use Rattle.std.proofs.Common.{reverse, ap, sym, ◌∙◌}
use Rattle.std.specs.List.{list_any}
use Rattle.rb_syntax.specs.Plain.{tree}
use Rattle.rb_scope.specs.Finding.{first_after}
use Rattle.rb_uses.specs.declared.usage.Use.{Use}
use Rattle.rb_uses.specs.Memory.{all_held, deed_of, held}
use Rattle.rb_uses.specs.Summary.{deed_faults, join_faults, joins_like}
use Rattle.rb_uses.proofs.FirstAnswers.{joins_back}
use Rattle.rb_uses.proofs.rules.Rules.note_use.Goals as goal

pub returns-in_ok-push-in-Joins-clause-found : goal.returns-in_ok-push-in-Joins-clause-found
returns-in_ok-push-in-Joins-clause-found c =
    let whole = tree c.args.self.now.uses.now.program.now in
    let one = c.args.one.now in
    let first = c.args.first.now in
    let like = λ (other : Use). joins_like (held one) (held other) in
    let again = list_any (joins_like (held one)) (all_held c.args.joins.now.items) in
    c.note_join.ensures
    ∙ ap (λ b. first_after first (join_faults whole b c.in-Joins.alternates (held one)))
    (c.is_joined_before-again.ensures
    ∙ ap (λ joins. list_any like (reverse joins)) c.deref.ensures.value
    ∙ joins_back one c.args.joins.now.items)
    ∙ ap (λ d. first_after first (deed_faults whole again (held one) (deed_of d))) (sym c.in-Joins.is)
