use Rattle.std.proofs.Common.{[], ◌∷◌, ◌++◌, map, option_map, ap, sym, ◌∙◌}
use Rattle.std.proofs.lemmas.List.{map-append}
use Rattle.rb_syntax.specs.Plain.{alternates_of, identifier, tree}
use Rattle.rb_meaning.specs.Nesting.{Joins, joined}
use Rattle.rb_uses.specs.Memory.{all_held, held, spot_of}
use Rattle.rb_uses.specs.Summary.{summary}
use Rattle.rb_uses.proofs.Around.{counted}
use Rattle.rb_uses.proofs.walk.add_join.Goals as goal

pub returns-in_ok-push-in-Some-clause-added : goal.returns-in_ok-push-in-Some-clause-added
returns-in_ok-push-in-Some-clause-added c =
    let whole = tree c.args.spot.now.program.now in
    let spot = spot_of c.args.spot.now in
    let before = all_held c.args.uses.now.items in
    ap all_held c.in_ok-push-in-Some.ensures.items
    ∙ map-append held c.args.uses.now.items (c.use_of.result ∷ [])
    ∙ ap (λ s. before ++ s ∷ []) c.use_of.ensures
    ∙ ap (λ n. before ++ summary whole (record { name = identifier c.in-Some.name; deed = Joins n; spot = spot }) ∷ [])
    (sym (counted c.args.alternates.now))
    ∙ ap (λ o. before ++ map (summary whole) (joined (option_map identifier o) (alternates_of c.args.alternates.now) spot)) (sym c.in-Some.is)
