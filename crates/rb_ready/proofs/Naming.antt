-- The words that a step names, and who enters nothing.
use Rattle.std.proofs.Common.{◌≡◌, ◌⊎◌, inl, inr, ℕ, ℤ, Bool, true, false, cond, List, [], Option, Some, None, slice_get, refl, ap, sym, ◌∙◌, subst, true≢false}
use Rattle.rb_world.specs.Channels.{has_room, message_there}
use Rattle.rb_world.specs.Kind.{Membership, Want, NothingLeft, SendsOn, ReceivesOn, MayReceiveOn, Enters, Starts, Acts}
use Rattle.rb_world.specs.Slots.{Slots}
use Rattle.rb_world.specs.World.{Process}
use Rattle.rb_code.specs.Instructions.Plain.{Code}
use Rattle.rb_code.specs.WordMachine.Turn.{Copy, Standing, want}
use Rattle.rb_code.specs.WordMachine.WordKind.{word_kind}
use Rattle.rb_code.specs.WordMachine.WordRun.{WordWorld}
use Rattle.rb_proc.specs.Process.{Seen, alternate_for, wanted_by}
use Rattle.rb_proc.specs.declared.answers.Wanted.{Wanted}
use Rattle.rb_proc.specs.declared.answers.Wanted.TheVariants as wanted
use Rattle.rb_ready.specs.Readiness.{IsEntryReady, IsReadyAt, IsStep}
use Rattle.rb_recovery.specs.Work.{is_entry, named_by_acts, named_by_receipt, named_by_steps}
use Rattle.rb_ready.specs.declared.readiness.ReadyFor.{ReadyFor}
use Rattle.rb_ready.specs.declared.readiness.ReadyFor.TheVariants as ready
use Rattle.rb_ready.proofs.Wanting.{is_start, is_step, wants_block}

-- who steps enters nothing
pub step_is_no_entry : (message : Option ℤ) (w : Want) → IsStep message w → is_entry w ≡ false
step_is_no_entry message NothingLeft h = absurd h
step_is_no_entry message (SendsOn channel) h = refl
step_is_no_entry message (ReceivesOn channel) h = refl
step_is_no_entry message (MayReceiveOn channel) h = refl
step_is_no_entry message (Enters facts) h = absurd h
step_is_no_entry message Starts h = refl
step_is_no_entry message Acts h = refl

-- and who enters nothing is ready for no entry
pub is_no_entry : (c : Code) (procs : List Seen) (slots : Slots) (p : ℕ) (one : ReadyFor) (x : Seen) → IsReadyAt c procs slots p one
    → slice_get procs p ≡ Some x → is_entry (want c x.process.state) ≡ false → IsEntryReady one → ⊥
is_no_entry c procs slots p (ready.Enters b) x at there none entry =
    let found = wants_block b (want c x.process.state) (at x [] [] 0 there) in
    true≢false (ap is_entry (sym found.1) ∙ none)
is_no_entry c procs slots p ready.Idle x at there none entry = entry
is_no_entry c procs slots p ready.Waits x at there none entry = entry
is_no_entry c procs slots p (ready.Steps message) x at there none entry = entry

-- the words that are named in a turn, where what stands first is a step, are those of the step
module _ (c : Code) (groups : List Membership) (t p : ℕ) (q : Process Standing Copy) (w : WordWorld) where
  abbrev NamesBy : Option ℤ → Want → Type 0
  NamesBy message x = named_by_acts c groups t p q w x ≡ named_by_steps c groups t p (alternate_for x q.levels) message q w

  pub send_names : (channel : ℕ) → want c q.state ≡ SendsOn channel → has_room (word_kind c groups) w channel ≡ true → NamesBy None (want c q.state)
  send_names channel wants room =
      subst (NamesBy None) (sym wants) (ap (λ (b : Bool). cond b (named_by_steps c groups t p 0 None q w) 0) room)

  pub receipt_names : (channel : ℕ) (message : ℤ) → want c q.state ≡ ReceivesOn channel
      → message_there (word_kind c groups) w channel ≡ Some message → NamesBy (Some message) (want c q.state)
  receipt_names channel message wants there = subst (NamesBy (Some message)) (sym wants) (ap (named_by_receipt c groups t p q w) there)

  pub look_names : (channel : ℕ) (message : Option ℤ) → want c q.state ≡ MayReceiveOn channel
      → message_there (word_kind c groups) w channel ≡ message → NamesBy message (want c q.state)
  look_names channel message wants is =
      subst (NamesBy message) (sym wants) (ap (λ (given : Option ℤ). named_by_steps c groups t p 0 given q w) is)

  pub step_names : (answer : Wanted) → wanted_by (want c q.state) ≡ answer → (answer ≡ wanted.Start) ⊎ (answer ≡ wanted.Step)
      → NamesBy None (want c q.state)
  step_names answer e (inl start) = subst (NamesBy None) (sym (is_start (want c q.state) (e ∙ start))) refl
  step_names answer e (inr step) = subst (NamesBy None) (sym (is_step (want c q.state) (e ∙ step))) refl
