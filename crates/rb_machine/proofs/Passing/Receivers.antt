-- Who waits for a message of a channel, or takes one if it is there, is the receiver of the channel.
use Rattle.std.proofs.Common.{◌≡◌, ℕ, ◌+◌, ℤ, pos, List, Option, Some, None, slice_get, ap, subst, ◌∙◌}
use Rattle.rb_world.specs.Kind.{Membership, Want, NothingLeft, SendsOn, ReceivesOn, MayReceiveOn, Enters, Starts, Acts}
use Rattle.rb_world.specs.Slots.{Slots}
use Rattle.rb_world.specs.World.{Level, Running}
use Rattle.rb_world.proofs.ListFacts.{none_some, some_same}
use Rattle.rb_code.specs.Instructions.Plain.{Block, Code}
use Rattle.rb_code.specs.SoundCode.Sound.{Entry, FineAt, IsReceiver}
use Rattle.rb_code.specs.SoundCode.Stands.{Serves, Stands, inside_out}
use Rattle.rb_code.specs.SoundCode.StandsInRuns.{StandsNow}
use Rattle.rb_code.specs.WordMachine.Turn.{Copy, Standing, enters, want, wants_behind, wants_there}
use Rattle.rb_code.specs.SoundCode.WellFormed.{IsSound}
use Rattle.rb_code.specs.declared.instr.Instr.{Instr}
use Rattle.rb_code.specs.declared.instr.Instr.TheVariants.{There, Absent, Enter}
use Rattle.rb_code.proofs.Executing.OpenLevels.{body_process}
use Rattle.rb_code.proofs.Executing.Served.{is_turn, known_behind}
use Rattle.rb_conv.specs.Conversations.{Conversation, memberships}
use Rattle.rb_proc.specs.Executable.{HasNext}
use Rattle.rb_proc.specs.Process.{Seen}
use Rattle.rb_machine.specs.AtWork.{IsAtWork, MayActNow}
use Rattle.rb_recovery.specs.Worlds.{counts_of, memory_of}
use Rattle.rb_recovery.specs.declared.links.Link.{Link}
use Rattle.rb_machine.proofs.Knowing.KnownNumbers.{placed}
use Rattle.rb_machine.proofs.Knowing.Placed.Behind.{has_next}

-- the channel of a receipt
abbrev receipt_of : Want → Option ℕ
receipt_of NothingLeft = None
receipt_of (SendsOn channel) = None
receipt_of (ReceivesOn channel) = Some channel
receipt_of (MayReceiveOn channel) = Some channel
receipt_of (Enters facts) = None
receipt_of Starts = None
receipt_of Acts = None

-- with a message a receipt is served
served : (w : Want) (channel : ℕ) (message : ℤ) (levels : List (Level Copy)) → receipt_of w ≡ Some channel → Serves w 0 (Some message) levels
served NothingLeft channel message levels h = absurd (none_some h)
served (SendsOn d) channel message levels h = tt
served (ReceivesOn d) channel message levels h = tt
served (MayReceiveOn d) channel message levels h = tt
served (Enters facts) channel message levels h = absurd (none_some h)
served Starts channel message levels h = absurd (none_some h)
served Acts channel message levels h = tt

-- an entry is no receipt
entry_receives : (b channel : ℕ) (o : Option Block) → receipt_of (enters b o) ≡ Some channel → ⊥
entry_receives b channel None h = none_some h
entry_receives b channel (Some block) h = none_some h

module _ (c : Code) (groups : List Membership) (counts : List ℕ) (sound : IsSound c groups counts) where
  -- the rule of a receipt names its channel's receiver
  by_rule : (channel a : ℕ) (e : Entry) (o : Option Instr) → receipt_of (wants_behind c o) ≡ Some channel
      → FineAt c groups sound.table o a e → IsReceiver (slice_get c.channels channel) e.within.process
  by_rule channel a e None h fine = absurd fine
  by_rule channel a e (Some (There d)) h fine = subst (λ n. IsReceiver (slice_get c.channels n) e.within.process) (some_same h) fine.2
  by_rule channel a e (Some (Absent d b)) h fine = subst (λ n. IsReceiver (slice_get c.channels n) e.within.process) (some_same h) fine.2
  by_rule channel a e (Some (Enter b)) h fine = absurd (entry_receives b channel (slice_get c.blocks b) h)
  by_rule channel a e (Some instr) h fine = absurd (none_some h)

  -- so whoever stands before it is the receiver
  receives : (s : Standing) (levels : List (Level Copy)) (channel : ℕ) → Stands c sound.table s levels → receipt_of (want c s) ≡ Some channel
      → IsReceiver (slice_get c.channels channel) s.process
  receives s levels channel stands h =
      let t = sound.table in
      let serves = served (want c s) channel (pos 0) levels h in
      let turn = is_turn c groups t sound.has sound.well.lists s levels stands 0 (Some (pos 0)) serves in
      let g = known_behind c groups t sound.has sound.well.lists s levels stands 0 (Some (pos 0)) serves in
      let wanted = subst (λ o. receipt_of (wants_there c o (slice_get c.instrs (s.at + 1))) ≡ Some channel) turn h in
      let body = body_process c t s.process s.calls stands.entry.within stands.entry.blocks (inside_out levels) stands.layout.body in
      subst (IsReceiver (slice_get c.channels channel)) (ap (λ within. within.process) g.within_is ∙ body)
      (by_rule channel (s.at + 1) g.entry (slice_get c.instrs (s.at + 1)) wanted (sound.has.each (s.at + 1) g.entry g.there).fine)

module _ (c : Code) (t : ℕ) (procs : List Seen) (table : List Conversation) (slots : Slots) (links : List Link)
    (work : IsAtWork c t procs table slots links) (p : ℕ) (one : Seen) (there : slice_get procs p ≡ Some one) (acts : MayActNow one) where
  -- an instruction is there, and another one behind it unless the process is done
  pub next_at_work : HasNext c one.process.state.at
  next_at_work =
      let sound = work.sound in
      let at = placed c (memberships table) (counts_of table) sound t procs table (memory_of slots links) work.known p one there in
      let q = one.process in
      let stands = subst (λ b. StandsNow c sound.table Running b q.state q.levels) acts.away
      (subst (λ s. StandsNow c sound.table s q.at_line q.state q.levels) acts.running at.stands.now) in
      has_next c (memberships table) sound.table sound.has sound.well.lists q.state q.levels stands

  receives_at_work : (channel : ℕ) → receipt_of (want c one.process.state) ≡ Some channel → IsReceiver (slice_get c.channels channel) p
  receives_at_work channel h =
      let sound = work.sound in
      let at = placed c (memberships table) (counts_of table) sound t procs table (memory_of slots links) work.known p one there in
      let q = one.process in
      let stands = subst (λ b. StandsNow c sound.table Running b q.state q.levels) acts.away
      (subst (λ s. StandsNow c sound.table s q.at_line q.state q.levels) acts.running at.stands.now) in
      subst (IsReceiver (slice_get c.channels channel)) at.number
      (receives c (memberships table) (counts_of table) sound q.state q.levels channel stands h)

  -- the receiver alone waits for a message, and alone takes one if it is there
  pub waits_as_receiver : (channel : ℕ) → want c one.process.state ≡ ReceivesOn channel → IsReceiver (slice_get c.channels channel) p
  waits_as_receiver channel wants = receives_at_work channel (ap receipt_of wants)

  pub takes_as_receiver : (channel : ℕ) → want c one.process.state ≡ MayReceiveOn channel → IsReceiver (slice_get c.channels channel) p
  takes_as_receiver channel wants = receives_at_work channel (ap receipt_of wants)
