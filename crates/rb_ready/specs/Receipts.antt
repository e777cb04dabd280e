-- Receipts, which wait for a message or go on without one.
use Rattle.std.specs.Prelude.{ℕ, Bool, true, false}
use Rattle.rb_world.specs.Kind.{Want, ReceivesOn, MayReceiveOn}
use Rattle.rb_proc.specs.declared.answers.Wanted.{Wanted}
use Rattle.rb_proc.specs.declared.answers.Wanted.TheVariants as wanted

-- what a receipt of a channel wants, by whether it waits
abbrev pub receipt : Bool → ℕ → Want
receipt true channel = ReceivesOn channel
receipt false channel = MayReceiveOn channel

-- whether who wants this waits for a message
abbrev pub is_receipt_that_waits : Wanted → Bool
is_receipt_that_waits (wanted.Message channel) = true
is_receipt_that_waits w = false
