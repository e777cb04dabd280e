-- What the answer of a process tells of what stands first in it, and where that leads.
use Rattle.std.proofs.Common.{◌≡◌, ◌⊎◌, inl, inr, ℕ, ℤ, Bool, true, false, cond, Option, Some, None, refl, ap, sym, ◌∙◌, subst}
use Rattle.rb_world.specs.Channels.{has_room, message_there}
use Rattle.rb_world.specs.Kind.{Facts, Kind, Want, NothingLeft, SendsOn, ReceivesOn, MayReceiveOn, Enters, Starts, Acts}
use Rattle.rb_world.specs.Turn.{Moved, acts, enters, idles, receives, steps, waits}
use Rattle.rb_world.specs.World.{Process}
use Rattle.rb_code.specs.Instructions.Plain.{Code}
use Rattle.rb_code.specs.WordMachine.Turn.{Common, Copy, Standing, want}
use Rattle.rb_code.specs.WordMachine.WordRun.{WordWorld}
use Rattle.rb_proc.specs.Entries.{WantsBlock}
use Rattle.rb_proc.specs.Process.{alternate_for, wanted_by}
use Rattle.rb_proc.specs.declared.answers.Wanted.{Wanted}
use Rattle.rb_proc.specs.declared.answers.Wanted.TheVariants as wanted
use Rattle.rb_ready.specs.Readiness.{IsStep}

-- nothing else has this answer
pub is_idle : (w : Want) → wanted_by w ≡ wanted.Idle → w ≡ NothingLeft
is_idle NothingLeft e = refl
is_idle (SendsOn d) e = cc
is_idle (ReceivesOn d) e = cc
is_idle (MayReceiveOn d) e = cc
is_idle (Enters facts) e = cc
is_idle Starts e = cc
is_idle Acts e = cc

pub no_line : (w : Want) → wanted_by w ≡ wanted.Line → w ≡ NothingLeft
no_line NothingLeft e = refl
no_line (SendsOn d) e = cc
no_line (ReceivesOn d) e = cc
no_line (MayReceiveOn d) e = cc
no_line (Enters facts) e = cc
no_line Starts e = cc
no_line Acts e = cc

pub is_room : (w : Want) (channel : ℕ) → wanted_by w ≡ wanted.Room channel → w ≡ SendsOn channel
is_room NothingLeft channel e = cc
is_room (SendsOn d) channel e = cc
is_room (ReceivesOn d) channel e = cc
is_room (MayReceiveOn d) channel e = cc
is_room (Enters facts) channel e = cc
is_room Starts channel e = cc
is_room Acts channel e = cc

pub is_message : (w : Want) (channel : ℕ) → wanted_by w ≡ wanted.Message channel → w ≡ ReceivesOn channel
is_message NothingLeft channel e = cc
is_message (SendsOn d) channel e = cc
is_message (ReceivesOn d) channel e = cc
is_message (MayReceiveOn d) channel e = cc
is_message (Enters facts) channel e = cc
is_message Starts channel e = cc
is_message Acts channel e = cc

pub is_maybe : (w : Want) (channel : ℕ) → wanted_by w ≡ wanted.Maybe channel → w ≡ MayReceiveOn channel
is_maybe NothingLeft channel e = cc
is_maybe (SendsOn d) channel e = cc
is_maybe (ReceivesOn d) channel e = cc
is_maybe (MayReceiveOn d) channel e = cc
is_maybe (Enters facts) channel e = cc
is_maybe Starts channel e = cc
is_maybe Acts channel e = cc

pub is_start : (w : Want) → wanted_by w ≡ wanted.Start → w ≡ Starts
is_start NothingLeft e = cc
is_start (SendsOn d) e = cc
is_start (ReceivesOn d) e = cc
is_start (MayReceiveOn d) e = cc
is_start (Enters facts) e = cc
is_start Starts e = refl
is_start Acts e = cc

pub is_step : (w : Want) → wanted_by w ≡ wanted.Step → w ≡ Acts
is_step NothingLeft e = cc
is_step (SendsOn d) e = cc
is_step (ReceivesOn d) e = cc
is_step (MayReceiveOn d) e = cc
is_step (Enters facts) e = cc
is_step Starts e = cc
is_step Acts e = refl

pub is_entry : (w : Want) (b : ℕ) → wanted_by w ≡ wanted.Entry b → WantsBlock b w
is_entry NothingLeft b e = absurd (let no_way : ⊥ = cc in no_way)
is_entry (SendsOn d) b e = absurd (let no_way : ⊥ = cc in no_way)
is_entry (ReceivesOn d) b e = absurd (let no_way : ⊥ = cc in no_way)
is_entry (MayReceiveOn d) b e = absurd (let no_way : ⊥ = cc in no_way)
is_entry (Enters facts) b e = cc
is_entry Starts b e = absurd (let no_way : ⊥ = cc in no_way)
is_entry Acts b e = absurd (let no_way : ⊥ = cc in no_way)

-- two answers of a process that has nothing left, and two of one that steps
pub is_done : (w : Want) (answer : Wanted) → wanted_by w ≡ answer → (answer ≡ wanted.Idle) ⊎ (answer ≡ wanted.Line) → w ≡ NothingLeft
is_done w answer e (inl idle) = is_idle w (e ∙ idle)
is_done w answer e (inr line) = no_line w (e ∙ line)

pub starts_or_acts : (w : Want) (answer : Wanted) → wanted_by w ≡ answer → (answer ≡ wanted.Start) ⊎ (answer ≡ wanted.Step) → IsStep None w
starts_or_acts w answer e (inl start) = subst (IsStep None) (sym (is_start w (e ∙ start))) tt
starts_or_acts w answer e (inr step) = subst (IsStep None) (sym (is_step w (e ∙ step))) tt

-- who wants to enter a block
pub wants_block : (b : ℕ) (w : Want) → WantsBlock b w → (facts : Facts) × (w ≡ Enters facts) × (facts.number ≡ b)
wants_block b NothingLeft h = absurd h
wants_block b (SendsOn channel) h = absurd h
wants_block b (ReceivesOn channel) h = absurd h
wants_block b (MayReceiveOn channel) h = absurd h
wants_block b (Enters facts) h = (facts, refl, h)
wants_block b Starts h = absurd h
wants_block b Acts h = absurd h

module _ (c : Code) (k : Kind Standing Copy Common) (t p : ℕ) (q : Process Standing Copy) (w : WordWorld) where
  abbrev Does : Moved Standing Copy Common
  Does = acts k t p q w (want c q.state)

  abbrev StepsThere : Option ℤ → Moved Standing Copy Common
  StepsThere message = steps k t p (alternate_for (want c q.state) q.levels) message q w

  -- the same, of whatever is wanted
  abbrev StepsBy : Option ℤ → Want → Type 0
  StepsBy message x = acts k t p q w x ≡ steps k t p (alternate_for x q.levels) message q w

  pub done_idles : want c q.state ≡ NothingLeft → Does ≡ idles w
  done_idles wants = ap (acts k t p q w) wants

  pub send_steps : (channel : ℕ) → want c q.state ≡ SendsOn channel → has_room k w channel ≡ true → Does ≡ StepsThere None
  send_steps channel wants room =
      subst (StepsBy None) (sym wants) (ap (λ (b : Bool). cond b (steps k t p 0 None q w) (waits w)) room)

  pub send_waits : (channel : ℕ) → want c q.state ≡ SendsOn channel → has_room k w channel ≡ false → Does ≡ waits w
  send_waits channel wants none =
      ap (acts k t p q w) wants ∙ ap (λ (b : Bool). cond b (steps k t p 0 None q w) (waits w)) none

  pub receipt_steps : (channel : ℕ) (message : ℤ) → want c q.state ≡ ReceivesOn channel → message_there k w channel ≡ Some message
      → Does ≡ StepsThere (Some message)
  receipt_steps channel message wants there = subst (StepsBy (Some message)) (sym wants) (ap (receives k t p q w) there)

  pub look_steps : (channel : ℕ) (message : Option ℤ) → want c q.state ≡ MayReceiveOn channel → message_there k w channel ≡ message
      → Does ≡ StepsThere message
  look_steps channel message wants is =
      subst (StepsBy message) (sym wants) (ap (λ (given : Option ℤ). steps k t p 0 given q w) is)

  pub entry_enters : (facts : Facts) → want c q.state ≡ Enters facts → Does ≡ enters k t p facts q w
  entry_enters facts wants = ap (acts k t p q w) wants

  pub step_steps : (answer : Wanted) → wanted_by (want c q.state) ≡ answer → (answer ≡ wanted.Start) ⊎ (answer ≡ wanted.Step)
      → Does ≡ StepsThere None
  step_steps answer e (inl start) = subst (StepsBy None) (sym (is_start (want c q.state) (e ∙ start))) refl
  step_steps answer e (inr step) = subst (StepsBy None) (sym (is_step (want c q.state) (e ∙ step))) refl
