-- How a call ends that put a text, which is another one by another name.
use Rattle.std.proofs.Common.{◌≡◌, ℕ, List, Option, Ok, Err, subst}
use Rattle.rb_outside.specs.Outside.{Faults, WrotePart, failed_once, then_written}
use Rattle.rb_outside.specs.Puts.{Puts}

module _ (text meant : List ℕ) (same : text ≡ meant) (old new : Option (List ℕ)) (before after : Faults) where
  -- a text was put, all of it
  pub put_done : {T E : Type 0} (v : T) → Puts {T = T} {E = E} text old new before after (Ok v)
      → (new ≡ then_written old meant) × (after.count ≡ before.count)
  put_done {T} {E} v puts =
      let there = subst (λ bytes. Puts {T = T} {E = E} bytes old new before after (Ok v)) same puts in (there.ok, there.quiet)

  -- or a put of it failed
  pub put_stopped : {T E : Type 0} (e : E) → Puts {T = T} {E = E} text old new before after (Err e)
      → WrotePart old new meant × (after ≡ failed_once before)
  put_stopped {T} {E} e puts =
      let there = subst (λ bytes. Puts {T = T} {E = E} bytes old new before after (Err e)) same puts in (there.err, there.failed)
