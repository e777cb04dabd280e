use Rattle.std.proofs.Common.{ℕ, List, [], slice_get, ap, ◌∙◌}
use Rattle.std.specs.Option.{unwrap_or}
use Rattle.rb_picture.proofs.turn.write_at_line.Goals as goal

pub returns-in-None : goal.returns-in-None
returns-in-None g c = rw (c.in-None.is) c.put_turn.ensures

pub returns-in-Some : goal.returns-in-Some
returns-in-Some g c =
    let name = c.name_at-name.ensures ∙ ap (λ (names : List (List ℕ)). unwrap_or (slice_get names c.in-Some.d) []) c.deref.ensures.value in
    rw (c.in-Some.is, ← name) c.put_turn-in-Some.ensures
