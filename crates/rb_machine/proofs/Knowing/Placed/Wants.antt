-- What a running process at no line has, by what it wants: the channel is its own, and the block is one of the code.
use Rattle.std.proofs.Common.{◌≡◌, ◌<◌, ◌≤◌, ℕ, false, List, length, slice_get, Option, Some, None, refl, sym, ◌∙◌, subst}
use Rattle.rb_world.specs.Kind.{Ends, Facts, Membership, SendsOn, ReceivesOn, MayReceiveOn, Enters}
use Rattle.rb_world.specs.World.{Level, Process, Running}
use Rattle.rb_code.specs.Instructions.Plain.{Block, Code}
use Rattle.rb_code.specs.WordMachine.Workspace.{part_of}
use Rattle.rb_code.specs.WordMachine.Turn.{Copy, Standing, block_facts, want}
use Rattle.rb_code.specs.SoundCode.Safe.{IsThere}
use Rattle.rb_code.specs.SoundCode.Sound.{HasTable, IsReceiver, IsSender, Table}
use Rattle.rb_code.specs.SoundCode.Stands.{IsAmong, Stands, inside_out}
use Rattle.rb_code.specs.SoundCode.WellFormed.{IsBlock, IsWellFormed, ListsChannels}
use Rattle.rb_code.proofs.InWords.Channels.{receives, sends}
use Rattle.rb_code.proofs.Executing.OpenLevels.{body_process}
use Rattle.rb_code.proofs.Executing.ProcessesStand.{stands_to_step}
use Rattle.rb_code.proofs.WholeRuns.ProcessesBegin.{all_there}
use Rattle.rb_recovery.specs.Known.{IsPlaced}
use Rattle.rb_machine.proofs.Knowing.Placed.Behind.{EntersBlock, IsBehind, behind, behind_may, IsBusy}
use Rattle.rb_machine.proofs.Knowing.Placed.NewLevel.{MayOpen, entry_opens}

-- process p is the sender of a channel, or its receiver, and the channel is among its own
pub record IsSending (c : Code) (p channel : ℕ) : Type 0 where
  pub ends : Ends
  pub there : slice_get c.channels channel ≡ Some ends
  pub sender : ends.sender ≡ p
  pub among : IsAmong channel (part_of c p).channels

pub record IsReceiving (c : Code) (p channel : ℕ) : Type 0 where
  pub ends : Ends
  pub there : slice_get c.channels channel ≡ Some ends
  pub receiver : ends.receiver ≡ p
  pub among : IsAmong channel (part_of c p).channels

-- a block that is entered: it has an alternate, and its conversation is there
pub record IsEntering (c : Code) (groups : List Membership) (facts : Facts) : Type 0 where
  pub number : ℕ
  pub block : Block
  pub there : slice_get c.blocks number ≡ Some block
  pub facts_are : facts ≡ block_facts number block
  pub conversation : (d : ℕ) → block.conversation ≡ Some d → d < length groups
  pub some : 1 ≤ length block.alternates

module _ (c : Code) (groups : List Membership) (t : Table) (has : HasTable c groups t) (lists : ListsChannels c) (p : ℕ)
    (q : Process Standing Copy) (placed : IsPlaced c groups t p q) (running : q.status ≡ Running) (away : q.at_line ≡ false) where
  pub placed_stands : Stands c t q.state q.levels
  placed_stands = stands_to_step c groups t has lists q placed.stands running away

  exists : IsThere (slice_get c.processes p)
  exists = subst (λ (n : ℕ). IsThere (slice_get c.processes n)) placed.number placed.stands.exists

  abbrev Here : Type 0
  Here = IsBehind c groups t has lists q.state q.levels placed_stands

  here : IsBusy (want c q.state) → Here
  here busy = behind c groups t has lists q.state q.levels placed_stands busy

  -- the body in which it stands is one of p
  own : (one : Here) → one.entry.within.process ≡ p
  own one = body_process c t q.state.process q.state.calls one.entry.within one.entry.blocks (inside_out q.levels) one.body ∙ placed.number

  sending : (channel : ℕ) (o : Option Ends) → slice_get c.channels channel ≡ o → IsSender o p → IsAmong channel (part_of c p).channels
      → IsSending c p channel
  sending channel None e h among = absurd h
  sending channel (Some ends) e h among = record { ends = ends; there = e; sender = h; among = among }

  receiving : (channel : ℕ) (o : Option Ends) → slice_get c.channels channel ≡ o → IsReceiver o p → IsAmong channel (part_of c p).channels
      → IsReceiving c p channel
  receiving channel None e h among = absurd h
  receiving channel (Some ends) e h among = record { ends = ends; there = e; receiver = h; among = among }

  received : (channel : ℕ) → IsReceiver (slice_get c.channels channel) p → IsReceiving c p channel
  received channel is = receiving channel (slice_get c.channels channel) refl is (receives c lists p exists channel is)

  pub sends_on : (channel : ℕ) → want c q.state ≡ SendsOn channel → IsSending c p channel
  sends_on channel wants =
      let one = here (subst IsBusy (sym wants) tt) in
      let is : IsSender (slice_get c.channels channel) p =
      subst (IsSender (slice_get c.channels channel)) (own one)
      (behind_may c groups t has lists q.state q.levels placed_stands (SendsOn channel) wants one) in
      sending channel (slice_get c.channels channel) refl is (sends c lists p exists channel is)

  pub receives_on : (channel : ℕ) → want c q.state ≡ ReceivesOn channel → IsReceiving c p channel
  receives_on channel wants =
      let one = here (subst IsBusy (sym wants) tt) in
      received channel
      (subst (IsReceiver (slice_get c.channels channel)) (own one)
      (behind_may c groups t has lists q.state q.levels placed_stands (ReceivesOn channel) wants one))

  pub may_receive_on : (channel : ℕ) → want c q.state ≡ MayReceiveOn channel → IsReceiving c p channel
  may_receive_on channel wants =
      let one = here (subst IsBusy (sym wants) tt) in
      received channel
      (subst (IsReceiver (slice_get c.channels channel)) (own one)
      (behind_may c groups t has lists q.state q.levels placed_stands (MayReceiveOn channel) wants one))

  -- a level of the block that it enters may be opened
  pub enters_opens : (new : Level Copy) → want c q.state ≡ Enters new.facts → MayOpen c groups p q.levels new
  enters_opens new wants =
      let one = here (subst IsBusy (sym wants) tt) in
      subst (λ (n : ℕ). MayOpen c groups n q.levels new) placed.number
      (entry_opens c groups t q.state.process q.state.calls one.entry q.levels new one.body
      (behind_may c groups t has lists q.state q.levels placed_stands (Enters new.facts) wants one))

  pub enters_block : (facts : Facts) → IsWellFormed c groups → want c q.state ≡ Enters facts → IsEntering c groups facts
  enters_block facts well wants =
      let one = here (subst IsBusy (sym wants) tt) in
      let enters : EntersBlock c groups t one.entry facts =
      behind_may c groups t has lists q.state q.levels placed_stands (Enters facts) wants one in
      let block = all_there (IsBlock c groups) c.blocks enters.number enters.block well.blocks enters.there in
      record {
        number = enters.number;
        block = enters.block;
        there = enters.there;
        facts_are = enters.facts_are;
        conversation = block.conversation;
        some = block.some;
      }
