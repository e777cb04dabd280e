-- Rooms and messages of a world, told by the cursors of the two ends of a channel.
use Rattle.std.proofs.Common.{◌≡◌, ℕ, ◌+◌, ◌<◌, ◌≤◌, nat_lt, Bool, true, false, cond, ℤ, List, [], ◌∷◌, length, map, option_map, slice_get, get_or, Option, Some, None, refl, ap, sym, subst, ◌∙◌, eq-eqb, arith}
use Rattle.std.specs.Bool.{then_some}
use Rattle.std.proofs.lemmas.Bool.{le-ltb}
use Rattle.std.proofs.lemmas.Option.{slice_get-map, slice_get_within}
use Rattle.rb_world.specs.Channels.{has_room, has_room_for, has_room_on, room_from}
use Rattle.rb_world.specs.Channels.{message_between, message_on, message_there, seen_copy, seen_count, seen_message}
use Rattle.rb_world.specs.Kind.{Ends, Membership}
use Rattle.rb_world.specs.Slots.{slot_of}
use Rattle.rb_world.specs.Standing.{Each}
use Rattle.rb_world.specs.World.{Level, Process, Talk}
use Rattle.rb_world.proofs.ListFacts.{slice_get-there}
use Rattle.rb_scope.proofs.Long.{got}
use Rattle.rb_code.specs.WordMachine.Workspace.{part_of}
use Rattle.rb_code.specs.Instructions.Plain.{Code, channel as channel_of, code as plain}
use Rattle.rb_code.specs.declared.code.ChannelCode.{ChannelCode}
use Rattle.rb_code.specs.declared.code.Code.{Code as Held}
use Rattle.rb_code.specs.SoundCode.Safe.{IsThere}
use Rattle.rb_code.specs.SoundCode.Sound.{IsReceiver, IsSender}
use Rattle.rb_code.specs.SoundCode.Stands.{IsAmong}
use Rattle.rb_code.specs.WordMachine.Turn.{Common, Copy, Standing}
use Rattle.rb_code.specs.WordMachine.WordKind.{cursor_in, sent_by, taken_by, word_kind}
use Rattle.rb_code.proofs.InWords.Channels.{receives, sends}
use Rattle.rb_proc.specs.Process.{Seen}
use Rattle.rb_recovery.specs.Channels.{AreNumbered, HasCursor, HoldsCursors, NoneFell, cursor_at, outermost_copy, words_then}
use Rattle.rb_recovery.specs.Rising.{NoneFalls}
use Rattle.rb_recovery.specs.Worlds.{processes_of}
use Rattle.rb_recovery.proofs.Passing.SeenCopies.{seen_is_sent}

-- equal numbers are compared alike
pub compared : {A : Type 0} (f : ℕ → ℕ → A) (m n k l : ℕ) → m ≡ k → n ≡ l → f m n ≡ f k l
compared f m n k l e h = ap (λ x. f x n) e ∙ ap (f k) h

-- an option by a test
pub given_if : {A : Type 0} (b : Bool) (f : ℕ → A) (n : ℕ) → cond b (Some (f n)) None ≡ option_map f (then_some b n)
given_if true f n = refl
given_if false f n = refl

pub channel_lent : (code : Held) (lists : List ChannelCode) (k : ℕ) (one : ChannelCode) → lists ≡ code.channels.items → k < length lists
    → one ≡ get_or lists k one → slice_get (plain code).channels k ≡ Some (channel_of one)
channel_lent code lists k one same h read =
    ap (λ l. slice_get (map channel_of l) k) (sym same) ∙ (slice_get-map channel_of lists k ∙ ap (option_map channel_of) (got lists k one h read))

-- a process by its number, as the world has it
process_at : (procs : List Seen) (p : ℕ) (o : Option Seen) → slice_get procs p ≡ o
    → slice_get (processes_of procs) p ≡ option_map (λ (one : Seen). one.process) o
process_at procs p o e = slice_get-map (λ (one : Seen). one.process) procs p ∙ ap (option_map (λ (one : Seen). one.process)) e

module _ (c : Code) (procs : List Seen) (numbered : AreNumbered c procs) where
  -- each process is one of the code
  exists : (p : ℕ) (one : Seen) → slice_get procs p ≡ Some one → IsThere (slice_get c.processes p)
  exists p one there =
      let found = slice_get-there c.processes p (omega (arith, slice_get_within procs p one there, numbered.as_many)) in
      subst IsThere (sym found.1) tt

  -- cursors stand in whoever is an end of a channel
  has_cursor : (p channel : ℕ) (one : Seen) → slice_get procs p ≡ Some one → IsAmong channel (part_of c p).channels → HasCursor c channel one
  has_cursor p channel one there among =
      let number = numbered.numbers p one there in
      record {
        exists = omega (arith, number, slice_get_within procs p one there, numbered.as_many);
        among = subst (λ n. IsAmong channel (part_of c n).channels) (sym number) among;
        copies = subst (λ n. Each (λ _ level. HoldsCursors c n level) one.process.levels) (sym number) (numbered.copies p one there);
      }

  pub sender_has_cursor : (channel : ℕ) (ends : Ends) (one : Seen) → slice_get c.channels channel ≡ Some ends
      → slice_get procs ends.sender ≡ Some one → HasCursor c channel one
  sender_has_cursor channel ends one is there =
      has_cursor ends.sender channel one there
      (sends c numbered.lists ends.sender (exists ends.sender one there) channel (subst (λ o. IsSender o ends.sender) (sym is) refl))

  pub receiver_has_cursor : (channel : ℕ) (ends : Ends) (one : Seen) → slice_get c.channels channel ≡ Some ends
      → slice_get procs ends.receiver ≡ Some one → HasCursor c channel one
  receiver_has_cursor channel ends one is there =
      has_cursor ends.receiver channel one there
      (receives c numbered.lists ends.receiver (exists ends.receiver one there) channel (subst (λ o. IsReceiver o ends.receiver) (sym is) refl))

  pub is_of_code : (p : ℕ) (one : Seen) → slice_get procs p ≡ Some one → one.process.state.process < length c.processes
  is_of_code p one there = omega (arith, numbered.numbers p one there, slice_get_within procs p one there, numbered.as_many)

module _ (c : Code) (groups : List Membership) where
  -- what an end of a channel has sent or taken is its cursor
  pub sent_is : (channel : ℕ) (ends : Ends) (p : ℕ) (words : List ℤ) → slice_get c.channels channel ≡ Some ends → p ≡ ends.sender
      → sent_by c p words channel (slice_get c.channels channel) ≡ cursor_in c p words channel
  sent_is channel ends p words there is =
      ap (sent_by c p words channel) there ∙ ap (λ b. cond b (cursor_in c p words channel) 0) (eq-eqb ends.sender p (sym is))

  pub taken_is : (channel : ℕ) (ends : Ends) (p : ℕ) (words : List ℤ) → slice_get c.channels channel ≡ Some ends → p ≡ ends.receiver
      → taken_by c p words channel (slice_get c.channels channel) ≡ cursor_in c p words channel
  taken_is channel ends p words there is =
      ap (taken_by c p words channel) there ∙ ap (λ b. cond b (cursor_in c p words channel) 0) (eq-eqb ends.receiver p (sym is))

  -- the same in a copy
  pub from_is : (channel : ℕ) (ends : Ends) (s : Standing) (levels : List (Level Copy)) → slice_get c.channels channel ≡ Some ends
      → s.process ≡ ends.receiver
      → room_from (word_kind c groups) s levels channel ≡ cursor_in c s.process (words_then s.words (outermost_copy levels)) channel
  from_is channel ends s [] there is = taken_is channel ends s.process s.words there is
  from_is channel ends s (level ∷ levels) there is = taken_is channel ends s.process level.copy.words there is

  pub count_is : (channel : ℕ) (ends : Ends) (s : Standing) (copy : Option Copy) → slice_get c.channels channel ≡ Some ends
      → s.process ≡ ends.sender → seen_count (word_kind c groups) s copy channel ≡ cursor_in c s.process (words_then s.words copy) channel
  count_is channel ends s None there is = sent_is channel ends s.process s.words there is
  count_is channel ends s (Some copy) there is = sent_is channel ends s.process copy.words there is

  -- in a copy as in the present a message lies in its slot
  slot_is : (memory : Common) (s : Standing) (copy : Option Copy) (channel n : ℕ)
      → seen_message (word_kind c groups) memory s copy channel n ≡ slot_of c.channels memory.slots channel n
  slot_is memory s None channel n = refl
  slot_is memory s (Some copy) channel n = refl

  -- room between the two ends
  room_for : (channel : ℕ) (ends : Ends) (q r : Process Standing Copy) → slice_get c.channels channel ≡ Some ends
      → q.state.process ≡ ends.sender → r.state.process ≡ ends.receiver
      → has_room_for (word_kind c groups) channel ends (Some q) (Some r)
      ≡ nat_lt (cursor_at c channel q None) (ends.size + cursor_at c channel r (outermost_copy r.levels))
  room_for channel ends q r there sends takes =
      ap (λ n. nat_lt n (ends.size + room_from (word_kind c groups) r.state r.levels channel))
      (sent_is channel ends q.state.process q.state.words there sends)
      ∙ ap (λ n. nat_lt (cursor_at c channel q None) (ends.size + n)) (from_is channel ends r.state r.levels there takes)

  -- the message that the receiver sees of the sender
  message_for_both : (memory : Common) (channel : ℕ) (ends : Ends) (q r : Process Standing Copy) → slice_get c.channels channel ≡ Some ends
      → q.state.process ≡ ends.sender → r.state.process ≡ ends.receiver
      → message_between (word_kind c groups) memory channel (Some q) (Some r)
      ≡ cond (nat_lt (cursor_at c channel r None) (cursor_at c channel q (seen_copy q.levels r.levels)))
      (Some (slot_of c.channels memory.slots channel (cursor_at c channel r None))) None
  message_for_both memory channel ends q r there sends takes =
      let k = word_kind c groups in
      let copy = seen_copy q.levels r.levels in
      ap (λ n. cond (nat_lt n (seen_count k q.state copy channel)) (Some (seen_message k memory q.state copy channel n)) None)
      (taken_is channel ends r.state.process r.state.words there takes)
      ∙ (ap (λ n. cond (nat_lt (cursor_at c channel r None) n) (Some (seen_message k memory q.state copy channel (cursor_at c channel r None))) None)
      (count_is channel ends q.state copy there sends)
      ∙ ap (λ n. cond (nat_lt (cursor_at c channel r None) (cursor_at c channel q copy)) (Some n) None)
      (slot_is memory q.state copy channel (cursor_at c channel r None)))

  module _ (procs : List Seen) (numbered : AreNumbered c procs) (talks : List Talk) (memory : Common) (channel : ℕ) (ends : Ends)
      (there : slice_get c.channels channel ≡ Some ends) (q r : Seen) (sender : slice_get procs ends.sender ≡ Some q) where
    -- the room of a world
    pub room_is : slice_get procs ends.receiver ≡ Some r
        → has_room (word_kind c groups) (record { processes = processes_of procs; talks = talks; memory = memory }) channel
        ≡ nat_lt (cursor_at c channel q.process None) (ends.size + cursor_at c channel r.process (outermost_copy r.process.levels))
    room_is receiver =
        let k = word_kind c groups in
        ap (has_room_on k (record { processes = processes_of procs; talks = talks; memory = memory }) channel) there
        ∙ (ap (λ o. has_room_for k channel ends o (slice_get (processes_of procs) ends.receiver)) (process_at procs ends.sender (Some q) sender)
        ∙ (ap (has_room_for k channel ends (Some q.process)) (process_at procs ends.receiver (Some r) receiver)
        ∙ room_for channel ends q.process r.process there (numbered.numbers ends.sender q sender) (numbered.numbers ends.receiver r receiver)))

    -- the message that is there in a world
    abbrev MessageIs : ℕ → ℕ → Type 0
    MessageIs taken seen =
        message_there (word_kind c groups) (record { processes = processes_of procs; talks = talks; memory = memory }) channel
        ≡ cond (nat_lt taken seen) (Some (slot_of c.channels memory.slots channel taken)) None

    message_seen : slice_get procs ends.receiver ≡ Some r
        → MessageIs (cursor_at c channel r.process None) (cursor_at c channel q.process (seen_copy q.process.levels r.process.levels))
    message_seen receiver =
        let k = word_kind c groups in
        ap (message_on k (record { processes = processes_of procs; talks = talks; memory = memory }) channel) there
        ∙ (ap (λ o. message_between k memory channel o (slice_get (processes_of procs) ends.receiver)) (process_at procs ends.sender (Some q) sender)
        ∙ (ap (message_between k memory channel (Some q.process)) (process_at procs ends.receiver (Some r) receiver)
        ∙ message_for_both memory channel ends q.process r.process there (numbered.numbers ends.sender q sender)
        (numbered.numbers ends.receiver r receiver)))

    -- which is that of the receiver's cursor, as both were read
    pub message_is : (p taken seen : ℕ) → IsReceiver (slice_get c.channels channel) p → slice_get procs p ≡ Some r
        → taken ≡ cursor_at c channel r.process None → seen ≡ cursor_at c channel q.process (seen_copy q.process.levels r.process.levels)
        → MessageIs taken seen
    message_is p taken seen is at taken_is seen_is =
        let own : ends.receiver ≡ p = subst (λ o. IsReceiver o p) there is in
        subst (λ n. MessageIs n seen) (sym taken_is)
        (subst (MessageIs (cursor_at c channel r.process None)) (sym seen_is)
        (message_seen (subst (λ n. slice_get procs n ≡ Some r) (sym own) at)))

    -- where no more were sent than it has taken, none is there
    pub none_there : NoneFell c procs → (p taken sent : ℕ) → IsReceiver (slice_get c.channels channel) p → slice_get procs p ≡ Some r
        → taken ≡ cursor_at c channel r.process None → sent ≡ cursor_at c channel q.process None → sent ≤ taken
        → message_there (word_kind c groups) (record { processes = processes_of procs; talks = talks; memory = memory }) channel ≡ None
    none_there risen p taken sent is at taken_is sent_is few =
        let seen = cursor_at c channel q.process (seen_copy q.process.levels r.process.levels) in
        let number = numbered.numbers ends.sender q sender in
        let among = (sender_has_cursor c procs numbered channel ends q there sender).among in
        let less : seen ≤ cursor_at c channel q.process None =
        seen_is_sent c q.process.state.process channel q.process.state.words q.process.levels r.process.levels among
        (subst (λ n. Each (λ _ level. NoneFalls c n level.copy.words q.process.state.words) q.process.levels) (sym number)
        (risen ends.sender q sender)) in
        message_is p taken seen is at taken_is refl
        ∙ ap (λ b. cond b (Some (slot_of c.channels memory.slots channel taken)) None) (le-ltb taken seen (omega (arith, less, few, sent_is)))
