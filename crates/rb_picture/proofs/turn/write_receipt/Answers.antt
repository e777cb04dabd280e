use Rattle.std.proofs.Common.{ℕ, List, [], slice_get, ap, ◌∙◌}
use Rattle.std.specs.Option.{unwrap_or}
use Rattle.rb_picture.proofs.turn.write_receipt.Goals as goal

pub returns : goal.returns
returns g c =
    let name = c.name_at-channel.ensures ∙ ap (λ (names : List (List ℕ)). unwrap_or (slice_get names c.args.c) []) c.deref.ensures.value in
    rw (← name) c.put_turn.ensures
