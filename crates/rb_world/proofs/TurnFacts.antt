-- What is known of a process in its turn: that it runs, that it may act, with which message and at which alternate, why it
-- enters or falls, and which level of it is rejected. Laws over any kind of process state speak in these words.
use Rattle.std.specs.Prelude.{◌≡◌, ℕ, ℤ, ◌<◌, true, false, List, length, position, slice_get, Option, Some, None}
use Rattle.rb_base.specs.declared.event.Cause.{Cause}
use Rattle.rb_base.specs.declared.event.Cause.TheVariants.{Broken}
use Rattle.rb_world.specs.Kind.{Facts, Kind, Want, NothingLeft, SendsOn, ReceivesOn, MayReceiveOn, Enters, Starts, Acts}
use Rattle.rb_world.specs.World.{Level, Running, Process, Talk, World, change_at, last_of, without_last, talk_at, with_process, with_each, with_talks, with_memory, settled}
use Rattle.rb_world.specs.Channels.{has_room, message_there}
use Rattle.rb_world.specs.Reject.{all_back, broken_talk, fallen_inside, first_again, next_talk, raised, where_inside}
use Rattle.rb_world.specs.Turn.{is_over, most_levels, stands_now, tried_at}

-- q is process p of the world, and runs
pub record RunsAt {S C M : Type 0} (p : ℕ) (q : Process S C) (w : World S C M) : Type 0 where
  pub there : slice_get w.processes p ≡ Some q
  pub running : q.status ≡ Running

-- q may act: it is at no line, and no level of it is beyond its bound
pub record MayAct {S C M : Type 0} (p : ℕ) (q : Process S C) (w : World S C M) : Type 0 where
  pub runs : RunsAt p q w
  pub away : q.at_line ≡ false
  pub none_over : position is_over q.levels ≡ None

-- what stands first lets q step, and gives it this message
pub data IsReady {S C M : Type 0} (k : Kind S C M) (q : Process S C) (w : World S C M) (message : Option ℤ) : Type 0 where
  ToSend : (c : ℕ) → k.want q.state ≡ SendsOn c → has_room k w c ≡ true → message ≡ None → IsReady k q w message
  ToReceive : (c : ℕ) (v : ℤ) → k.want q.state ≡ ReceivesOn c → message_there k w c ≡ Some v → message ≡ Some v → IsReady k q w message
  ToReceiveIfThere : (c : ℕ) → k.want q.state ≡ MayReceiveOn c → message ≡ message_there k w c → IsReady k q w message
  ToStart : k.want q.state ≡ Starts → message ≡ None → IsReady k q w message
  ToAct : k.want q.state ≡ Acts → message ≡ None → IsReady k q w message

-- a start is made at the alternate that its level tries; all else at 0
abbrev pub alternate_for : {C : Type 0} → Want → Option (Level C) → ℕ
alternate_for NothingLeft level = 0
alternate_for (SendsOn c) level = 0
alternate_for (ReceivesOn c) level = 0
alternate_for (MayReceiveOn c) level = 0
alternate_for (Enters facts) level = 0
alternate_for Starts level = tried_at level
alternate_for Acts level = 0

-- q steps at this alternate, with this message
pub record StepsAt {S C M : Type 0} (k : Kind S C M) (p : ℕ) (q : Process S C) (w : World S C M) (alternate : ℕ) (message : Option ℤ) : Type 0 where
  pub acts : MayAct p q w
  pub ready : IsReady k q w message
  pub at : alternate ≡ alternate_for (k.want q.state) (last_of q.levels)

-- where the alternate of an entry comes from: the first, or the present one of a conversation that is not broken
pub data IsEntry {S C M : Type 0} (w : World S C M) (facts : Facts) (alternate : ℕ) : Type 0 where
  Alone : facts.conversation ≡ None → alternate ≡ 1 → IsEntry w facts alternate
  Joining : (c : ℕ) (talk : Talk) → facts.conversation ≡ Some c → talk_at w c ≡ Some talk → talk.is_broken ≡ false
      → alternate ≡ talk.alternate → IsEntry w facts alternate

-- q enters a block at this alternate, and has fewer levels than the most
pub record EntersAt {S C M : Type 0} (k : Kind S C M) (p : ℕ) (q : Process S C) (w : World S C M) (facts : Facts) (alternate : ℕ) : Type 0 where
  pub acts : MayAct p q w
  pub wants : k.want q.state ≡ Enters facts
  pub few : length q.levels < most_levels
  pub entry : IsEntry w facts alternate

-- why q falls: no level is left that could be put back, or it is at no line and the conversation that it enters is broken for good
pub data MustFall {S C M : Type 0} (k : Kind S C M) (q : Process S C) (w : World S C M) (left : ℕ) (cause : Cause) : Type 0 where
  NoLevelLeft : left ≡ 0 → MustFall k q w left cause
  Barred : (facts : Facts) (c : ℕ) (talk : Talk) → q.at_line ≡ false → k.want q.state ≡ Enters facts
      → facts.conversation ≡ Some c → talk_at w c ≡ Some talk → talk.is_broken ≡ true → left ≡ length q.levels
      → cause ≡ Broken → MustFall k q w left cause

-- the level number j of q is rejected
pub record RejectsAt {S C M : Type 0} (p : ℕ) (q : Process S C) (w : World S C M) (j : ℕ) (level : Level C) : Type 0 where
  pub runs : RunsAt p q w
  pub place : slice_get q.levels j ≡ Some level

-- The worlds after an acceptance test that held, with the state that was kept: the private level goes, or the member
-- stands at the line.
abbrev pub left_alone : {S C M : Type 0} → Kind S C M → ℕ → List (Level C) → World S C M → S × M → World S C M
left_alone k p levels w (s, m) = with_memory m (with_process p (λ _. settled k (k.accept s) (without_last levels)) w)

abbrev pub come_to_stand : {S C M : Type 0} → ℕ → List (Level C) → World S C M → S × M → World S C M
come_to_stand p levels w (s, m) = with_memory m (with_process p (λ _. stands_now s levels) w)

-- The worlds after a conversation was put back: all try the next alternate; or none is left, and the conversation around
-- it comes next, or it is broken.
abbrev pub all_next : {S C M : Type 0} → Kind S C M → ℕ → World S C M → World S C M
all_next k c w = with_talks (change_at c next_talk) (with_each (where_inside raised c) (all_back k c w))

abbrev pub all_spent : {S C M : Type 0} → Kind S C M → ℕ → World S C M → World S C M
all_spent k c w = with_talks (change_at c first_again) (all_back k c w)

abbrev pub all_broken : {S C M : Type 0} → Kind S C M → ℕ → World S C M → World S C M
all_broken k c w = with_talks (change_at c broken_talk) (with_each (fallen_inside k c) (all_back k c w))
