-- What a process is ready for in its turn, by what it wants.
use Rattle.std.proofs.Common.{◌≡◌, ◌⊎◌, inl, inr, ℕ, ℤ, Bool, true, false, List, Option, Some, None, slice_get, refl, ap, sym, ◌∙◌, subst}
use Rattle.rb_world.specs.Channels.{has_room, message_there}
use Rattle.rb_world.specs.Kind.{SendsOn, Enters}
use Rattle.rb_world.specs.Slots.{Slots}
use Rattle.rb_code.specs.Instructions.Plain.{Code}
use Rattle.rb_code.specs.SoundCode.Sound.{IsReceiver}
use Rattle.rb_code.specs.WordMachine.Turn.{Link, want}
use Rattle.rb_code.specs.WordMachine.WordRun.{WordWorld}
use Rattle.rb_conv.specs.Conversations.{Conversation, memberships}
use Rattle.rb_proc.specs.Process.{Seen}
use Rattle.rb_proc.specs.declared.answers.Wanted.{Wanted}
use Rattle.rb_proc.specs.declared.answers.Wanted.TheVariants as wanted
use Rattle.rb_ready.specs.Readiness.{IsReadyAt, IsReceiverIf, IsStep, ReceivesThere}
use Rattle.rb_recovery.specs.Innermost.{WantsThere}
use Rattle.rb_ready.specs.Receipts.{is_receipt_that_waits, receipt}
use Rattle.rb_recovery.specs.Work.{is_entry as enters_by}
use Rattle.rb_recovery.specs.Worlds.{kind_with, world_of}
use Rattle.rb_ready.specs.declared.readiness.ReadyFor.TheVariants as ready
use Rattle.rb_ready.proofs.Wanting.{done_idles, is_done, is_entry, is_maybe, is_message, look_steps, receipt_steps, send_steps, send_waits, starts_or_acts, step_steps}
use Rattle.rb_ready.proofs.Naming.{look_names, receipt_names, send_names, step_names}

-- a receipt is no entry
pub receipt_is_no_entry : (waits : Bool) (channel : ℕ) → enters_by (receipt waits channel) ≡ false
receipt_is_no_entry true channel = refl
receipt_is_no_entry false channel = refl

module _ (c : Code) (procs : List Seen) (slots : Slots) (p : ℕ) where
  abbrev world_with : List Conversation → List Link → WordWorld
  world_with table links = world_of procs table (record { slots = slots; links = links })

  module _ (answer : Wanted) (wants : WantsThere c procs p answer) where
    pub idles_ready : (answer ≡ wanted.Idle) ⊎ (answer ≡ wanted.Line) → IsReadyAt c procs slots p ready.Idle
    idles_ready e x table links t there =
        done_idles c (kind_with c table) t p x.process (world_with table links)
        (is_done (want c x.process.state) answer (sym (wants x there)) e)

    pub enters_ready : (b : ℕ) → answer ≡ wanted.Entry b → IsReadyAt c procs slots p (ready.Enters b)
    enters_ready b e x table links t there = is_entry (want c x.process.state) b (sym (wants x there) ∙ e)

    pub steps_ready : (answer ≡ wanted.Start) ⊎ (answer ≡ wanted.Step) → IsReadyAt c procs slots p (ready.Steps None)
    steps_ready e x table links t there = (
      starts_or_acts (want c x.process.state) answer (sym (wants x there)) e,
      step_steps c (kind_with c table) t p x.process (world_with table links) answer (sym (wants x there)) e,
      step_names c (memberships table) t p x.process (world_with table links) answer (sym (wants x there)) e,
    )

    -- who takes a message is the receiver, whether it waits for one or not
    module _ (channel : ℕ) (takes : (answer ≡ wanted.Message channel) ⊎ (answer ≡ wanted.Maybe channel)) (x : Seen)
        (there : slice_get procs p ≡ Some x) where
      receipt_of : (waits : Bool) → waits ≡ is_receipt_that_waits answer
          → (answer ≡ wanted.Message channel) ⊎ (answer ≡ wanted.Maybe channel) → want c x.process.state ≡ receipt waits channel
      receipt_of waits says (inl e) =
          is_message (want c x.process.state) channel (sym (wants x there) ∙ e)
          ∙ ap (λ (b : Bool). receipt b channel) (sym (says ∙ ap is_receipt_that_waits e))
      receipt_of waits says (inr e) =
          is_maybe (want c x.process.state) channel (sym (wants x there) ∙ e)
          ∙ ap (λ (b : Bool). receipt b channel) (sym (says ∙ ap is_receipt_that_waits e))

      pub receipt_here : (waits : Bool) → waits ≡ is_receipt_that_waits answer → want c x.process.state ≡ receipt waits channel
      receipt_here waits says = receipt_of waits says takes

      of_receipt : (waits : Bool) → IsReceiverIf c p (receipt waits channel) → IsReceiver (slice_get c.channels channel) p
      of_receipt true h = h
      of_receipt false h = h

      pub receiver_here : ReceivesThere c procs p → IsReceiver (slice_get c.channels channel) p
      receiver_here receives =
          let waits = is_receipt_that_waits answer in
          of_receipt waits (subst (IsReceiverIf c p) (receipt_here waits refl) (receives x there))

  -- a send, by whether there is room
  module _ (channel : ℕ) (wants : (x : Seen) → slice_get procs p ≡ Some x → want c x.process.state ≡ SendsOn channel) where
    pub send_ready : ((table : List Conversation) (links : List Link) → has_room (kind_with c table) (world_with table links) channel ≡ true)
        → IsReadyAt c procs slots p (ready.Steps None)
    send_ready room x table links t there = (
      subst (IsStep None) (sym (wants x there)) tt,
      send_steps c (kind_with c table) t p x.process (world_with table links) channel (wants x there) (room table links),
      send_names c (memberships table) t p x.process (world_with table links) channel (wants x there) (room table links),
    )

    pub send_unready : ((table : List Conversation) (links : List Link) → has_room (kind_with c table) (world_with table links) channel ≡ false)
        → IsReadyAt c procs slots p ready.Waits
    send_unready room x table links t there =
        send_waits c (kind_with c table) t p x.process (world_with table links) channel (wants x there) (room table links)

  -- a receipt, by the message that is there
  module _ (channel : ℕ) where
    abbrev Wants : Bool → Type 0
    Wants waits = (x : Seen) → slice_get procs p ≡ Some x → want c x.process.state ≡ receipt waits channel

    abbrev Given : Option ℤ → Type 0
    Given message = (table : List Conversation) (links : List Link) → message_there (kind_with c table) (world_with table links) channel ≡ message

    -- who does not wait for one takes what is there, or nothing
    look_ready : (message : Option ℤ) → Wants false → Given message → IsReadyAt c procs slots p (ready.Steps message)
    look_ready message wants given x table links t there = (
      subst (IsStep message) (sym (wants x there)) tt,
      look_steps c (kind_with c table) t p x.process (world_with table links) channel message (wants x there) (given table links),
      look_names c (memberships table) t p x.process (world_with table links) channel message (wants x there) (given table links),
    )

    pub taking_ready : (message : ℤ) (waits : Bool) → Wants waits → Given (Some message) → IsReadyAt c procs slots p (ready.Steps (Some message))
    taking_ready message true wants given x table links t there = (
      subst (IsStep (Some message)) (sym (wants x there)) tt,
      receipt_steps c (kind_with c table) t p x.process (world_with table links) channel message (wants x there) (given table links),
      receipt_names c (memberships table) t p x.process (world_with table links) channel message (wants x there) (given table links),
    )
    taking_ready message false wants given x table links t there = look_ready (Some message) wants given x table links t there
