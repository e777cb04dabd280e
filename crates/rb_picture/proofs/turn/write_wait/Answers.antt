use Rattle.std.proofs.Common.{ℕ, List, [], ◌∷◌, slice_get, ap, ◌∙◌}
use Rattle.std.specs.Prelude.{codes}
use Rattle.std.specs.Option.{unwrap_or}
use Rattle.rb_outside.proofs.Puts.{puts_same}
use Rattle.rb_trace.specs.Naming.{naming}
use Rattle.rb_changes.specs.Changes.{line_in}
use Rattle.rb_picture.specs.Turns.{place_word}
use Rattle.rb_picture.proofs.Bare.{waits_bare}
use Rattle.rb_picture.proofs.turn.write_wait.Goals as goal

pub returns-in-Line : goal.returns-in-Line
returns-in-Line g c = rw (c.in-Line.is) c.write_at_line.ensures

pub returns-in-Room : goal.returns-in-Room
returns-in-Room g c =
    let name = c.name_at-channel.ensures ∙ ap (λ (names : List (List ℕ)). unwrap_or (slice_get names c.in-Room.c) []) c.deref.ensures.value in
    rw (c.in-Room.is, ← name) c.put_turn.ensures

pub returns-in-Message : goal.returns-in-Message
returns-in-Message g c =
    let name = c.name_at-channel-in-Message.ensures
    ∙ ap (λ (names : List (List ℕ)). unwrap_or (slice_get names c.in-Message.c) []) c.deref-in-Message.ensures.value in
    rw (c.in-Message.is, ← name) c.put_turn-in-Message.ensures

pub returns-in_default : goal.returns-in_default
returns-in_default g c =
    puts_same _ _ _ _ _ _ _
    (ap (λ (words : List (List ℕ)). line_in c.args.number (codes "turn" ∷ c.args.process.now ∷ place_word c.args.place ∷ codes "waits" ∷ words))
    (waits_bare (naming c.args.names.now) c.args.asked c.in_default.not-Line c.in_default.not-Room c.in_default.not-Message))
    c.put_turn-in_default.ensures
