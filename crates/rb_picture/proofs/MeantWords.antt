-- The texts of turns of the word machine's run are those of the run of the meaning with slots beside its lists.
use Rattle.std.proofs.Common.{◌≡◌, ◌≤◌, inl, inr, ℕ, ◌+◌, suc, List, [], ◌∷◌, ◌++◌, length, option_map, slice_get, Option, Some, None, append_assoc, length-append, refl, sym, ap, ap₂, ◌∙◌, subst, arith}
use Rattle.std.proofs.lemmas.Option.{slice_get-map, slice_get_within}
use Rattle.rb_base.specs.declared.place.Place.{Place}
use Rattle.rb_syntax.specs.Tree.{Tree}
use Rattle.rb_world.specs.Kind.{Ends}
use Rattle.rb_world.specs.Channels.{room_from, seen_copy, seen_count}
use Rattle.rb_world.specs.Slots.{AllLieInSlots, Slots, slot_of, zero_slots}
use Rattle.rb_world.specs.Text.{Naming}
use Rattle.rb_world.specs.Turn.{turn}
use Rattle.rb_world.specs.World.{Level, Process, settled}
use Rattle.rb_world.proofs.ListFacts.{slice_get-there, some_same}
use Rattle.rb_world.proofs.Erasing.ErasableKinds.{IsFront}
use Rattle.rb_world.proofs.Erasing.Releasing.SameLinesReleased.{IsImageAt, get_mapped}
use Rattle.rb_world.proofs.Keeping.StandingFacts.{run-size}
use Rattle.rb_world.proofs.Relating.ProcessesMeet.{WorldsMeet}
use Rattle.rb_world.proofs.Relating.Simulation.{IsSimulation}
use Rattle.rb_world.proofs.Slots.UnderSlots.{bare}
use Rattle.rb_meaning.specs.Groups.{channels_of, groups_of}
use Rattle.rb_meaning.specs.Laws.{run_with_slots, slot_opening}
use Rattle.rb_meaning.specs.Meaning.{opening_states, run_of, sent_on, tree_kind}
use Rattle.rb_meaning.specs.Nesting.{IsNested}
use Rattle.rb_meaning.specs.State.{State}
use Rattle.rb_meaning.proofs.Knowing.KnownIsKept.{known_kept}
use Rattle.rb_meaning.proofs.Knowing.KnownOfProcess.{Known}
use Rattle.rb_meaning.proofs.Nesting.NestedProgram.{procedures_kept}
use Rattle.rb_meaning.proofs.Trees.TreeErasable.{erasable}
use Rattle.rb_meaning.proofs.Trees.TreeErasure.{nothing_taken_back}
use Rattle.rb_meaning.proofs.Trees.TreeParts.{parts_of}
use Rattle.rb_meaning.proofs.Trees.TreeSlots.{opens_with_slots, slots_hold_messages}
use Rattle.rb_scope.specs.declared.slot.Slot.{Slot}
use Rattle.rb_code.specs.Agreement.StandsFor.{StandsFor}
use Rattle.rb_code.specs.Instructions.Plain.{Code}
use Rattle.rb_code.specs.WordMachine.Turn.{Copy, Standing}
use Rattle.rb_code.specs.WordMachine.WordKind.{word_kind}
use Rattle.rb_code.specs.WordMachine.WordRun.{WordWorld, opening_of, opening_standings, word_run}
use Rattle.rb_code.proofs.WholeRuns.Agreeing.{IsAgreeing, Meeting}
use Rattle.rb_code.proofs.WholeRuns.BothAgree.{Agreed, CopyKept, SameSlots}
use Rattle.rb_code.proofs.WholeRuns.Openings.{all_openings_agree}
use Rattle.rb_code.proofs.WholeRuns.Pairs.{pairs_get}
use Rattle.rb_code.proofs.WholeRuns.RunsAgree.{same_processes}
use Rattle.rb_code.proofs.WholeRuns.WhatIsKnown.{KnownAlong, along, known_first, reading, reads}
use Rattle.rb_code.proofs.WholeRuns.WordsSimulate.{IsKnown, SlotWorld, slotted, words_simulate}
use Rattle.rb_world.proofs.Relating.RunsMeet.{opening_meets}
use Rattle.rb_changes.specs.Noted.{WorldNoted, world_noted}
use Rattle.rb_changes.specs.Shown.{ChannelShown, channel_of, channels_shown, world_shown}
use Rattle.rb_picture.specs.Trace.{address_told, opening_text, place_at, turn_texts, word_reading}
use Rattle.rb_changes.specs.declared.noted.Numbers.{Numbers}
use Rattle.rb_picture.proofs.MeantTurns.{apart, number_is_last, run_more, seen_level, slot_reading}
use Rattle.rb_picture.proofs.SameRuns.{SameMessages, get_shown, opening_same, shown_on, texts_same}
use Rattle.rb_picture.proofs.SameShown.{ReadsAlike}
use Rattle.rb_picture.proofs.SentOnce.{AsBefore, Either, turn_sends}

module _ (tree : Tree) (nested : IsNested tree) where
  -- who is there after a turn was there before it
  was_there : (t p r : ℕ) (w : SlotWorld) (q : Process State State) → slice_get (turn (slotted tree) t p w).0.processes r ≡ Some q
      → (old : Process State State) × (slice_get w.processes r ≡ Some old)
  was_there t p r w q there =
      slice_get-there w.processes r
      (omega (arith, slice_get_within (turn (slotted tree) t p w).0.processes r q there, (run-size (slotted tree) t (p ∷ []) w).of_processes))

  -- what was seen was sent
  seen_sent : (c : ℕ) (sender receiver : Process State State)
      → ((i : ℕ) (one : Level State) → slice_get sender.levels i ≡ Some one → IsFront (parts_of tree) one.copy sender.state)
      → (copy : Option State) → seen_copy sender.levels receiver.levels ≡ copy
      → seen_count (tree_kind tree) sender.state copy c ≤ length (sent_on sender.state c)
  seen_sent c sender receiver before None e = omega arith
  seen_sent c sender receiver before (Some copy) e =
      let of = seen_level sender.levels receiver.levels copy e in
      subst (λ (s : State). length (sent_on s c) ≤ length (sent_on sender.state c)) of.same ((before of.place of.level of.there).shorter c)

  -- the worlds of a run
  abbrev IsReached : List ℕ → SlotWorld → Type 0
  IsReached done w = w ≡ (run_with_slots tree done).0

  lies : (done : List ℕ) (w : SlotWorld) → IsReached done w → AllLieInSlots (tree_kind tree) w
  lies done w reached = subst (AllLieInSlots (tree_kind tree)) (sym reached) (slots_hold_messages tree nested done)

  in_run : (done : List ℕ) (w : SlotWorld) → IsReached done w → w.processes ≡ (run_of tree done).0.processes
  in_run done w reached = ap (λ (v : SlotWorld). v.processes) reached ∙ sym (same_processes tree done)

  -- what was sent before a turn, and the room then
  module _ (done : List ℕ) (w : SlotWorld) (t : ℕ) (reached : IsReached done w) (known : KnownAlong tree nested t w) (c : ℕ) (ends : Ends)
      (declared : slice_get (channels_of tree) c ≡ Some ends) (sender receiver : Process State State)
      (there : slice_get w.processes ends.sender ≡ Some sender) (here : slice_get w.processes ends.receiver ≡ Some receiver) where
    abbrev bound : ℕ
    bound = length (sent_on sender.state c)

    room_below : room_from (tree_kind tree) receiver.state receiver.levels c ≤ bound
    room_below =
        let holds = (known.all_readable c ends declared).1 in
        let ground = holds.0.each ends.sender sender there in
        let taken = nothing_taken_back tree nested done c ends sender receiver declared
        (ap (λ (qs : List (Process State State)). slice_get qs ends.sender) (sym (in_run done w reached)) ∙ there)
        (ap (λ (qs : List (Process State State)). slice_get qs ends.receiver) (sym (in_run done w reached)) ∙ here) in
        omega (
          arith,
          (holds.1.rise ends.receiver receiver here).now,
          taken,
          seen_sent c sender receiver ground.before_now (seen_copy sender.levels receiver.levels) refl,
        )

    as_before : AsBefore (parts_of tree) (Known tree) (erasable tree) c ends (apart tree nested c ends declared) bound (bare w)
    as_before = record {
      sent = λ q e. subst (λ (one : Process State State). length (sent_on one.state c) ≤ bound) (some_same (sym there ∙ e)) (omega arith);
      room = λ q e. subst (λ (one : Process State State). room_from (tree_kind tree) one.state one.levels c ≤ bound) (some_same (sym here ∙ e)) room_below;
    }

    -- what was sent in the turn lies behind the room after it
    room_after : (p n : ℕ) (q q' : Process State State) → slice_get (turn (slotted tree) t p w).0.processes ends.sender ≡ Some q
        → slice_get (turn (slotted tree) t p w).0.processes ends.receiver ≡ Some q' → bound ≤ n → length (sent_on q.state c) ≡ suc n
        → room_from (tree_kind tree) q'.state q'.levels c ≤ n
    room_after p n q q' at at' least sent =
        by (turn_sends (parts_of tree) (Known tree) (erasable tree) c ends (apart tree nested c ends declared) bound
        (known_kept tree (procedures_kept tree nested)) t p w (known.all_readable c ends declared).1.0 as_before)
      where
        by : Either (parts_of tree) (Known tree) (erasable tree) c ends (apart tree nested c ends declared) bound (bare (turn (slotted tree) t p w).0)
            → room_from (tree_kind tree) q'.state q'.levels c ≤ n
        by (inl most) = absurd (omega (arith, most q at, least, sent))
        by (inr room) = omega (arith, room q' at', least)

  -- nothing was sent before the first turn
  none_sent : (c r : ℕ) (q : Process State State) → slice_get (slot_opening tree (slotted tree)).processes r ≡ Some q → length (sent_on q.state c) ≡ 0
  none_sent c r q there =
      let from : IsImageAt (λ (s : State). settled (slotted tree) s []) (opening_states tree 0 tree.processes) r q =
      get_mapped (λ (s : State). settled (slotted tree) s []) (opening_states tree 0 tree.processes) r q there in
      ap (λ (one : Process State State). length (sent_on one.state c)) (sym from.same)
      ∙ ((erasable tree).settles from.origin).mail.sent c ∙ (opens_with_slots tree nested).sent r from.origin from.there c

module _ (tree : Tree) (slots : List Slot) (c : Code) (meets : Meeting) (laws : IsAgreeing tree c meets) (nested : IsNested tree)
    (stands : StandsFor tree slots c) (place : Process State State → Option Place) (places : List (Option Place)) where
  word_laws : IsSimulation (slotted tree) (word_kind c (groups_of tree)) SameSlots (Agreed meets) (IsKnown tree (reading tree nested))
  word_laws = words_simulate tree c meets laws stands.channels_are (reading tree nested) (reads tree nested)

  words_read : ReadsAlike (slot_reading tree place) (word_reading c (groups_of tree) places) (Agreed meets)
  words_read = record {
    words = λ line m n cs s ds u both. sym (laws.variables line cs s ds u both.they_meet);
    held = λ line m n cs s ds u both. sym both.lines;
    entered = λ line m n cs s ds u j x y both at at'.
        number_is_last x.kept ∙ sym (pairs_get (CopyKept n.links) cs ds j x y both.kept_then at at').last_is;
  }

  openings : WorldsMeet SameSlots (Agreed meets) (slot_opening tree (slotted tree)) (opening_of c (groups_of tree))
  openings =
      opening_meets word_laws.plain (tt, zero_slots (channels_of tree)) (record { slots = zero_slots c.channels; links = [] })
      (opening_states tree 0 tree.processes) (opening_standings 0 c.processes)
      (ap zero_slots (sym stands.channels_are)) (all_openings_agree tree c meets laws slots stands)

  -- a message in its slot, on both sides
  in_slot : (done : List ℕ) (w : SlotWorld) (v : WordWorld) → IsReached tree nested done w → SameSlots w.memory v.memory
      → (ch n : ℕ) (ends : Ends) (q q' : Process State State) → slice_get (channels_of tree) ch ≡ Some ends
      → slice_get w.processes ends.sender ≡ Some q → slice_get w.processes ends.receiver ≡ Some q'
      → room_from (tree_kind tree) q'.state q'.levels ch ≤ n → length (sent_on q.state ch) ≡ suc n
      → (tree_kind tree).message tt q.state ch n ≡ slot_of c.channels v.memory.slots ch n
  in_slot done w v reached memories ch n ends q q' declared there here room sent =
      sym ((lies tree nested done w reached ch ends q q' declared there here).lie n room (omega (arith, sent)))
      ∙ ap₂ (λ (channels : List Ends) (all : Slots). slot_of channels all ch n) (sym stands.channels_are) memories

  module _ (all : List ℕ) (agree : (before after : List ℕ) (p : ℕ) (q : Process State State) (u : Process Standing Copy)
      → all ≡ before ++ p ∷ after → slice_get (run_of tree before).0.processes p ≡ Some q
      → slice_get (word_run c (groups_of tree) before).0.processes p ≡ Some u → place_at places (address_told c u.status u) ≡ place q) where
    -- both worlds come after these turns of all
    record Reached (rest : List ℕ) (t : ℕ) (w : SlotWorld) (v : WordWorld) : Type 0 where
      pub done : List ℕ
      pub slots_there : w ≡ (run_with_slots tree done).0
      pub words_there : v ≡ (word_run c (groups_of tree) done).0
      pub number : t ≡ length done + 1
      pub whole : all ≡ done ++ rest

    next : (rest : List ℕ) (t p : ℕ) (w : SlotWorld) (v : WordWorld) → Reached (p ∷ rest) t w v
        → Reached rest (t + 1) (turn (slotted tree) t p w).0 (turn (word_kind c (groups_of tree)) t p v).0
    next rest t p w v at = record {
      done = at.done ++ p ∷ [];
      slots_there = (λ i. (turn (slotted tree) (at.number i) p (at.slots_there i)).0)
          ∙ sym (run_more (slotted tree) 1 at.done p (slot_opening tree (slotted tree)));
      words_there = (λ i. (turn (word_kind c (groups_of tree)) (at.number i) p (at.words_there i)).0)
          ∙ sym (run_more (word_kind c (groups_of tree)) 1 at.done p (opening_of c (groups_of tree)));
      number = omega (arith, at.number, length-append at.done (p ∷ []));
      whole = at.whole ∙ sym (append_assoc at.done (p ∷ []) rest);
    }

    -- the number that was told of a channel before the turn
    told_sent : (w : SlotWorld) (ch : ℕ) (was : Numbers) (ends : Ends) (sender receiver : Process State State)
        → slice_get (channels_of tree) ch ≡ Some ends → slice_get w.processes ends.sender ≡ Some sender
        → slice_get w.processes ends.receiver ≡ Some receiver
        → slice_get (world_noted (world_shown (slot_reading tree place) w)).channels ch ≡ Some was → was.sent ≡ length (sent_on sender.state ch)
    told_sent w ch was ends sender receiver declared there here told =
        let r = slot_reading tree place in
        let is : Some was ≡ Some (channel_of r w.memory ch ends.size (Some sender) (Some receiver)).numbers =
        sym told
        ∙ slice_get-map (λ (channel : ChannelShown). channel.numbers) (channels_shown r w 0 (channels_of tree)) ch
        ∙ ap (option_map (λ (channel : ChannelShown). channel.numbers))
        (get_shown r w 0 (channels_of tree) ch ch (omega arith) ∙ ap (option_map (shown_on r w ch)) declared)
        ∙ ap₂ (λ (q q' : Option (Process State State)). Some (channel_of r w.memory ch ends.size q q').numbers) there here in
        ap (λ (numbers : Numbers). numbers.sent) (some_same is)

    same_messages : (rest : List ℕ) (t p : ℕ) (w : SlotWorld) (v : WordWorld) → KnownAlong tree nested t w → Reached (p ∷ rest) t w v
        → SameMessages (slot_reading tree place) (word_reading c (groups_of tree) places) word_laws words_read
        (world_noted (world_shown (slot_reading tree place) w)).channels (turn (slotted tree) t p w).0 (turn (word_kind c (groups_of tree)) t p v).0
    same_messages rest t p w v known at ch n was ends q q' u told declared there here memories both least sent =
        let sender = was_there tree nested t p ends.sender w q there in
        let receiver = was_there tree nested t p ends.receiver w q' here in
        let later = next rest t p w v at in
        in_slot later.done (turn (slotted tree) t p w).0 (turn (word_kind c (groups_of tree)) t p v).0 later.slots_there memories ch n ends q q'
        declared there here
        (room_after tree nested at.done w t at.slots_there known ch ends declared sender.0 receiver.0 sender.1 receiver.1 p n q q' there here
        (omega (arith, least, told_sent w ch was ends sender.0 receiver.0 declared sender.1 receiver.1 told)) sent) sent

    pub words_are_slots : (names : Naming)
        → turn_texts (slot_reading tree place) names 1 (slot_opening tree (slotted tree)) all
        ≡ turn_texts (word_reading c (groups_of tree) places) names 1 (opening_of c (groups_of tree)) all
    words_are_slots names =
        texts_same (slot_reading tree place) (word_reading c (groups_of tree) places) word_laws words_read names Reached (along tree nested) next all 1
        (slot_opening tree (slotted tree)) (opening_of c (groups_of tree))
        (λ rest t p w v known at meets. record {
          place = λ q u there there' both.
              sym (agree at.done rest p q u at.whole
              (ap (λ (qs : List (Process State State)). slice_get qs p) (sym (in_run tree nested at.done w at.slots_there)) ∙ there)
              (ap (λ (x : WordWorld). slice_get x.processes p) (sym at.words_there) ∙ there'));
          messages = same_messages rest t p w v known at;
        })
        (known_first tree nested)
        (record { done = []; slots_there = refl; words_there = refl; number = omega arith; whole = refl })
        openings

    pub opening_is_slots : (names : Naming) (fresh : WorldNoted)
        → opening_text (slot_reading tree place) names fresh (slot_opening tree (slotted tree))
        ≡ opening_text (word_reading c (groups_of tree) places) names fresh (opening_of c (groups_of tree))
    opening_is_slots names fresh =
        opening_same (slot_reading tree place) (word_reading c (groups_of tree) places) word_laws words_read names fresh
        (slot_opening tree (slotted tree)) (opening_of c (groups_of tree)) openings
        (λ ch n was ends q q' u told declared there here memories both least sent.
        absurd (omega (arith, sent, none_sent tree nested ch ends.sender q there)))
