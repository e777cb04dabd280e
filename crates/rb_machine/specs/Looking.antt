-- What is looked at of a channel between turns.
use Rattle.std.specs.Prelude.{◌≡◌, ◌+◌, ◌-◌, ◌^◌, ℕ, List, slice_get, Some}
use Rattle.rb_world.specs.Channels.{room_from, seen_copy, seen_count}
use Rattle.rb_world.specs.Kind.{Ends, Membership}
use Rattle.rb_world.specs.Standing.{Each}
use Rattle.rb_world.specs.World.{Process}
use Rattle.rb_code.specs.Instructions.Plain.{Code}
use Rattle.rb_code.specs.WordMachine.Turn.{Copy, Standing}
use Rattle.rb_code.specs.WordMachine.WordKind.{word_kind}
use Rattle.rb_proc.specs.Process.{Seen}
use Rattle.rb_recovery.specs.Known.{CursorsBelow}
use Rattle.rb_machine.specs.declared.channel_view.ChannelView.{ChannelView}

-- Of a channel from process s to process r: what was sent and taken, what the receiver can see, and for how many more there is room.
pub record IsViewBetween (c : Code) (groups : List Membership) (channel : ℕ) (ends : Ends) (s r : Process Standing Copy) (view : ChannelView) : Type 0 where
  pub sent : view.sent ≡ (word_kind c groups).sent s.state channel
  pub taken : view.taken ≡ (word_kind c groups).taken r.state channel
  pub seen : view.seen ≡ seen_count (word_kind c groups) s.state (seen_copy s.levels r.levels) channel
  pub free : view.free ≡ ends.size + room_from (word_kind c groups) r.state r.levels channel - (word_kind c groups).sent s.state channel

-- the same of the channel of this number, between its two ends
abbrev pub IsViewOn : Code → List Membership → List (Process Standing Copy) → ℕ → ChannelView → Type 0
IsViewOn c groups processes channel view =
    (ends : Ends) (s r : Process Standing Copy) → slice_get c.channels channel ≡ Some ends → slice_get processes ends.sender ≡ Some s
    → slice_get processes ends.receiver ≡ Some r → IsViewBetween c groups channel ends s r view

-- no cursor in a copy is too great for a signed number
abbrev pub CopiesBelow : Code → List Seen → Type 0
CopiesBelow c procs = Each (λ p (one : Seen). Each (λ _ level. CursorsBelow c p (2 ^ 63) level.copy.words) one.process.levels) procs
