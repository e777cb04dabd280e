-- What is looked at of a channel, by the cursors of its two ends.
use Rattle.std.proofs.Common.{◌≡◌, ℕ, ◌+◌, ◌-◌, ◌<◌, ◌^◌, ℤ, List, [], ◌∷◌, slice_get, Some, None, refl, ap, sym, subst, ◌∙◌, arith}
use Rattle.rb_world.specs.Channels.{room_from, seen_copy}
use Rattle.rb_world.specs.Kind.{Ends, Membership}
use Rattle.rb_world.specs.Slots.{Slots}
use Rattle.rb_world.specs.Standing.{Each}
use Rattle.rb_world.specs.World.{Level, Process}
use Rattle.rb_world.proofs.ListFacts.{some_same}
use Rattle.rb_code.specs.Instructions.Plain.{Code}
use Rattle.rb_code.specs.SoundCode.Stands.{IsAmong}
use Rattle.rb_code.specs.WordMachine.Workspace.{part_of}
use Rattle.rb_code.specs.WordMachine.Turn.{Copy, Standing}
use Rattle.rb_code.specs.WordMachine.WordKind.{cursor_in, word_kind}
use Rattle.rb_conv.specs.Conversations.{Conversation}
use Rattle.rb_proc.specs.Process.{Seen}
use Rattle.rb_machine.specs.AtWork.{IsAtWork}
use Rattle.rb_recovery.specs.Channels.{AreNumbered, NoneFell, cursor_at, outermost_copy}
use Rattle.rb_recovery.specs.Known.{CursorsBelow}
use Rattle.rb_machine.specs.Looking.{CopiesBelow, IsViewBetween, IsViewOn}
use Rattle.rb_recovery.specs.Reading.{AreCounted}
use Rattle.rb_recovery.specs.Worlds.{processes_of}
use Rattle.rb_machine.specs.declared.channel_view.ChannelView.{ChannelView}
use Rattle.rb_recovery.specs.declared.links.Link.{Link}
use Rattle.rb_recovery.proofs.Passing.RoomsAndMessages.{count_is, from_is, sent_is, taken_is}
use Rattle.rb_machine.proofs.ReadAt.{process_there}

-- the number that room is counted from is no greater than any cursor
outermost_below : (c : Code) (p channel t : ℕ) (words : List ℤ) (levels : List (Level Copy)) (q : Process Standing Copy)
    → q.state.process ≡ p → q.state.words ≡ words → q.levels ≡ levels → IsAmong channel (part_of c p).channels
    → CursorsBelow c p t words → Each (λ _ level. CursorsBelow c p t level.copy.words) levels
    → cursor_at c channel q (outermost_copy levels) < t
outermost_below c p channel t words [] q number is levels_are among now copies =
    subst (λ n. cursor_in c n q.state.words channel < t) (sym number)
    (subst (λ ws. cursor_in c p ws channel < t) (sym is) (now channel among))
outermost_below c p channel t words (level ∷ levels) q number is levels_are among now copies =
    subst (λ n. cursor_in c n level.copy.words channel < t) (sym number) (copies 0 level refl channel among)

pub from_below : (c : Code) (procs : List Seen) → AreCounted c procs → CopiesBelow c procs → (p channel : ℕ) (one : Seen)
    → slice_get procs p ≡ Some one → IsAmong channel (part_of c p).channels
    → cursor_at c channel one.process (outermost_copy one.process.levels) < 2 ^ 63
from_below c procs counted copies p channel one there among =
    outermost_below c p channel (2 ^ 63) one.process.state.words one.process.levels one.process (counted.numbered.numbers p one there) refl refl among
    (counted.cursors p one there) (copies p one there)

-- What is seen between two processes, by their cursors.
module _ (c : Code) (groups : List Membership) (channel : ℕ) (ends : Ends) (at : slice_get c.channels channel ≡ Some ends)
    (s r : Process Standing Copy) (sends : s.state.process ≡ ends.sender) (takes : r.state.process ≡ ends.receiver) where
  between : (view : ChannelView) → view.sent ≡ cursor_at c channel s None → view.taken ≡ cursor_at c channel r None
      → view.seen ≡ cursor_at c channel s (seen_copy s.levels r.levels)
      → view.free ≡ ends.size + cursor_at c channel r (outermost_copy r.levels) - view.sent
      → IsViewBetween c groups channel ends s r view
  between view sent taken seen free =
      let sent_now = sent ∙ sym (sent_is c groups channel ends s.state.process s.state.words at sends) in
      record {
        sent = sent_now;
        taken = taken ∙ sym (taken_is c groups channel ends r.state.process r.state.words at takes);
        seen = seen ∙ sym (count_is c groups channel ends s.state (seen_copy s.levels r.levels) at sends);
        free = free ∙ ap (λ n. ends.size + n - view.sent) (sym (from_is c groups channel ends r.state r.levels at takes))
            ∙ ap (λ n. ends.size + room_from (word_kind c groups) r.state r.levels channel - n) sent_now;
      }

-- The same of a channel by its number.
pub looked : (c : Code) (groups : List Membership) (procs : List Seen) (numbered : AreNumbered c procs) (channel : ℕ) (ends : Ends)
    → slice_get c.channels channel ≡ Some ends → (q r : Seen) → slice_get procs ends.sender ≡ Some q → slice_get procs ends.receiver ≡ Some r
    → (view : ChannelView) → view.sent ≡ cursor_in c q.process.state.process q.process.state.words channel
    → view.taken ≡ cursor_in c r.process.state.process r.process.state.words channel
    → view.seen ≡ cursor_at c channel q.process (seen_copy q.process.levels r.process.levels)
    → view.free ≡ ends.size + cursor_at c channel r.process (outermost_copy r.process.levels) - view.sent
    → IsViewOn c groups (processes_of procs) channel view
looked c groups procs numbered channel ends at q r sender receiver view sent taken seen free other s t at_other s_there t_there =
    subst (λ e. IsViewBetween c groups channel e s t view) same_ends
    (subst (λ x. IsViewBetween c groups channel ends x t view) same_sender
    (subst (λ x. IsViewBetween c groups channel ends q.process x view) same_receiver
    (between c groups channel ends at q.process r.process (numbered.numbers ends.sender q sender) (numbered.numbers ends.receiver r receiver)
    view sent taken seen free)))
  where
    same_ends : ends ≡ other
    same_ends = some_same (sym at ∙ at_other)

    same_sender : q.process ≡ s
    same_sender =
        some_same (sym (process_there procs ends.sender q sender)
        ∙ subst (λ (e : Ends). slice_get (processes_of procs) e.sender ≡ Some s) (sym same_ends) s_there)

    same_receiver : r.process ≡ t
    same_receiver =
        some_same (sym (process_there procs ends.receiver r receiver)
        ∙ subst (λ (e : Ends). slice_get (processes_of procs) e.receiver ≡ Some t) (sym same_ends) t_there)

-- between two turns no cursor in a copy is too great
pub copies_at_work : (c : Code) (t : ℕ) (procs : List Seen) (table : List Conversation) (slots : Slots) (links : List Link)
    → IsAtWork c t procs table slots links → CopiesBelow c procs
copies_at_work c t procs table slots links work p one there k level found channel among =
    let below = (work.known.counted p one.process (process_there procs p one there)).copied k level found channel among in
    omega (arith, below, work.turns)

-- and none is greater than in the present
pub none_fell : (c : Code) (t : ℕ) (procs : List Seen) (table : List Conversation) (slots : Slots) (links : List Link)
    → IsAtWork c t procs table slots links → NoneFell c procs
none_fell c t procs table slots links work p one there = (work.known.counted p one.process (process_there procs p one there)).rising.on
