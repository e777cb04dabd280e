-- Whole runs of related kinds have the same texts of turns, where the places and the values told of each turn are the same.
use Rattle.std.proofs.Common.{◌≡◌, ◌≤◌, ◌<◌, ℕ, ◌+◌, zero, suc, List, [], ◌∷◌, ◌++◌, option_map, slice_get, Option, Some, None, refl, sym, ap, ap₂, ◌∙◌, subst₂, arith}
use Rattle.rb_world.specs.Kind.{Ends}
use Rattle.rb_world.specs.World.{Process, World}
use Rattle.rb_world.specs.Text.{Naming, told_text}
use Rattle.rb_world.specs.Turn.{turn}
use Rattle.rb_world.proofs.Relating.MarksMeet.{OptionsMeet}
use Rattle.rb_world.proofs.Relating.ProcessesMeet.{ProcessesMeet, WorldsMeet, get_meets}
use Rattle.rb_world.proofs.Relating.RunsMeet.{KeepsKnown, same_told_at_opening}
use Rattle.rb_world.proofs.Relating.Simulation.{Shared, Related, Knowing, IsSimulation, copies_of}
use Rattle.rb_world.proofs.Relating.TurnsMeet.{KnowsTurn, turn_meets}
use Rattle.rb_changes.specs.Noted.{WorldNoted, world_noted}
use Rattle.rb_changes.specs.Shown.{ChannelShown, Reading, channel_of, channels_shown, last_value, world_shown}
use Rattle.rb_picture.specs.Trace.{opening_text, turn_of, turn_texts}
use Rattle.rb_changes.specs.declared.noted.Numbers.{Numbers}
use Rattle.rb_picture.proofs.SameShown.{ChannelsAlike, ReadsAlike, ShownAlike, WorldsShownAlike, all_processes_same, asked_same, changes_same, noted_same, numbers_same, turn_same}

-- a channel of a world
abbrev pub shown_on : {S C M : Type 0} → Reading S C M → World S C M → ℕ → Ends → ChannelShown
shown_on r w c ends = channel_of r w.memory c ends.size (slice_get w.processes ends.sender) (slice_get w.processes ends.receiver)

pub get_shown : {S C M : Type 0} (r : Reading S C M) (w : World S C M) (first : ℕ) (channels : List Ends) (c n : ℕ) → n ≡ first + c
    → slice_get (channels_shown r w first channels) c ≡ option_map (shown_on r w n) (slice_get channels c)
get_shown r w first [] c n e = refl
get_shown r w first (ends ∷ others) zero n e = ap (λ (m : ℕ). Some (shown_on r w m ends)) (omega (arith, e))
get_shown r w first (ends ∷ others) (suc c) n e = get_shown r w (first + 1) others c n (omega (arith, e))

module _ {S C M T D N : Type 0} (r : Reading S C M) (l : Reading T D N) {shared : Shared M N} {related : Related S C M T D N} {known : Knowing S C M}
    (laws : IsSimulation r.kind l.kind shared related known) (reads : ReadsAlike r l related) where
  -- The message that was sent last on a channel, whose number is not below what was sent before, is the same.
  abbrev pub SameMessages : List Numbers → World S C M → World T D N → Type 0
  SameMessages before w v =
      (c n : ℕ) (was : Numbers) (ends : Ends) (q q' : Process S C) (u : Process T D) → slice_get before c ≡ Some was
      → slice_get r.kind.channels c ≡ Some ends → slice_get w.processes ends.sender ≡ Some q → slice_get w.processes ends.receiver ≡ Some q'
      → shared w.memory v.memory → ProcessesMeet related w.memory v.memory q u → was.sent ≤ n → r.kind.sent q.state c ≡ suc n
      → r.kind.message w.memory q.state c n ≡ l.kind.message v.memory u.state c n

  module _ (before : List Numbers) (w : World S C M) (v : World T D N) (meets : WorldsMeet shared related w v) (same : SameMessages before w v) where
    abbrev Meet : Process S C → Process T D → Type 0
    Meet q u = ProcessesMeet related w.memory v.memory q u

    last_by : (c : ℕ) (was : Numbers) (ends : Ends) (q q' : Process S C) (u : Process T D) → slice_get before c ≡ Some was
        → slice_get r.kind.channels c ≡ Some ends → slice_get w.processes ends.sender ≡ Some q → slice_get w.processes ends.receiver ≡ Some q'
        → Meet q u → (sent : ℕ) → r.kind.sent q.state c ≡ sent → was.sent < sent
        → last_value r w.memory q.state c sent ≡ last_value l v.memory u.state c sent
    last_by c was ends q q' u at declared there here both zero e more = refl
    last_by c was ends q q' u at declared there here both (suc n) e more =
        same c n was ends q q' u at declared there here meets.memories both (omega (arith, more)) e

    last_same : (c : ℕ) (was : Numbers) (ends : Ends) → slice_get before c ≡ Some was → slice_get r.kind.channels c ≡ Some ends
        → (q q' : Option (Process S C)) (u u' : Option (Process T D)) → slice_get w.processes ends.sender ≡ q → slice_get w.processes ends.receiver ≡ q'
        → OptionsMeet Meet q u → OptionsMeet Meet q' u' → was.sent < (channel_of r w.memory c ends.size q q').numbers.sent
        → (channel_of r w.memory c ends.size q q').last ≡ (channel_of l v.memory c ends.size u u').last
    last_same c was ends at declared None q' None u' there here e f more = refl
    last_same c was ends at declared None q' (Some u) u' there here e f more = absurd e
    last_same c was ends at declared (Some q) q' None u' there here e f more = absurd e
    last_same c was ends at declared (Some q) None (Some u) None there here e f more = refl
    last_same c was ends at declared (Some q) None (Some u) (Some u') there here e f more = absurd f
    last_same c was ends at declared (Some q) (Some q') (Some u) None there here e f more = absurd f
    last_same c was ends at declared (Some q) (Some q') (Some u) (Some u') there here e f more =
        last_by c was ends q q' u at declared there here e (r.kind.sent q.state c) refl more
        ∙ ap (last_value l v.memory u.state c) (laws.sent q.at_line w.memory v.memory (copies_of q.levels) q.state (copies_of u.levels) u.state c e.states)

    shown_alike : (c : ℕ) (was : Numbers) → slice_get before c ≡ Some was → (ends : Option Ends) → slice_get r.kind.channels c ≡ ends
        → OptionsMeet (ShownAlike was.sent) (option_map (shown_on r w c) ends) (option_map (shown_on l v c) ends)
    shown_alike c was at None declared = tt
    shown_alike c was at (Some ends) declared =
        let one = get_meets related w.memory v.memory w.processes v.processes ends.sender meets.processes in
        let other = get_meets related w.memory v.memory w.processes v.processes ends.receiver meets.processes in
        record {
          numbers = numbers_same r l laws reads w.memory v.memory c ends.size (slice_get w.processes ends.sender) (slice_get w.processes ends.receiver)
              (slice_get v.processes ends.sender) (slice_get v.processes ends.receiver) one other;
          last = last_same c was ends at declared (slice_get w.processes ends.sender) (slice_get w.processes ends.receiver)
              (slice_get v.processes ends.sender) (slice_get v.processes ends.receiver) refl refl one other;
        }

    channels_alike : ChannelsAlike before (channels_shown r w 0 r.kind.channels) (channels_shown l v 0 l.kind.channels)
    channels_alike c was at =
        subst₂ (OptionsMeet (ShownAlike was.sent))
        (sym (get_shown r w 0 r.kind.channels c c (omega arith)))
        (sym (get_shown l v 0 l.kind.channels c c (omega arith) ∙ ap (λ (channels : List Ends). option_map (shown_on l v c) (slice_get channels c)) (sym laws.channels)))
        (shown_alike c was at (slice_get r.kind.channels c) refl)

    pub worlds_alike : WorldsShownAlike before (world_shown r w) (world_shown l v)
    worlds_alike = record { processes = all_processes_same r l laws reads w v meets; channels = channels_alike; talks = meets.talks }

  -- what is asked of turn t of process p: the same place, and the same message
  pub record TellsSame (t p : ℕ) (w : World S C M) (v : World T D N) : Type 0 where
    pub place : (q : Process S C) (u : Process T D) → slice_get w.processes p ≡ Some q → slice_get v.processes p ≡ Some u
        → ProcessesMeet related w.memory v.memory q u → r.place q ≡ l.place u
    pub messages : SameMessages (world_noted (world_shown r w)).channels (turn r.kind t p w).0 (turn l.kind t p v).0

  module _ (names : Naming) where
    one_same : (t p : ℕ) (w : World S C M) (v : World T D N) → KnowsTurn known t p w → WorldsMeet shared related w v → TellsSame t p w v
        → (q : Option (Process S C)) (u : Option (Process T D)) → slice_get w.processes p ≡ q → slice_get v.processes p ≡ u
        → OptionsMeet (ProcessesMeet related w.memory v.memory) q u
        → turn_of r names t p q w ≡ turn_of l names t p u v
    one_same t p w v knows meets tells None None there here both = refl
    one_same t p w v knows meets tells None (Some u) there here both = absurd both
    one_same t p w v knows meets tells (Some q) None there here both = absurd both
    one_same t p w v knows meets tells (Some q) (Some u) there here both =
        let turned = turn_meets laws t p w v knows meets in
        turn_same names t p _ _ _ _ _ _ _ _ _ _ (tells.place q u there here both) (asked_same r l laws reads w.memory v.memory q u both)
        (noted_same r l laws reads w v meets) turned.same_told
        (worlds_alike (world_noted (world_shown r w)).channels (turn r.kind t p w).0 (turn l.kind t p v).0 turned.worlds tells.messages)

    -- the texts of turns, from number t on
    pub texts_same : (holds : List ℕ → ℕ → World S C M → World T D N → Type 0) {knows : ℕ → World S C M → Type 0} → KeepsKnown r.kind known knows
        → ((rest : List ℕ) (t p : ℕ) (w : World S C M) (v : World T D N) → holds (p ∷ rest) t w v
        → holds rest (t + 1) (turn r.kind t p w).0 (turn l.kind t p v).0)
        → (turns : List ℕ) (t : ℕ) (w : World S C M) (v : World T D N)
        → ((rest : List ℕ) (t p : ℕ) (w : World S C M) (v : World T D N) → knows t w → holds (p ∷ rest) t w v → WorldsMeet shared related w v
        → TellsSame t p w v)
        → knows t w → holds turns t w v → WorldsMeet shared related w v
        → turn_texts r names t w turns ≡ turn_texts l names t v turns
    texts_same holds along stays [] t w v tells known_now now meets = refl
    texts_same holds along stays (p ∷ turns) t w v tells known_now now meets =
        ap₂ ◌++◌
        (one_same t p w v (along.knows t p w known_now) meets (tells turns t p w v known_now now meets) (slice_get w.processes p) (slice_get v.processes p) refl refl
        (get_meets related w.memory v.memory w.processes v.processes p meets.processes))
        (texts_same holds along stays turns (t + 1) (turn r.kind t p w).0 (turn l.kind t p v).0 tells (along.stays t p w known_now) (stays turns t p w v now)
        (turn_meets laws t p w v (along.knows t p w known_now) meets).worlds)

    -- and that of the opening
    pub opening_same : (fresh : WorldNoted) (w : World S C M) (v : World T D N) → WorldsMeet shared related w v
        → SameMessages fresh.channels w v → opening_text r names fresh w ≡ opening_text l names fresh v
    opening_same fresh w v meets same =
        ap₂ (λ (one : List ℕ) (other : List ℕ). one ++ other)
        (ap (told_text names 0) (same_told_at_opening w v meets))
        (changes_same 0 names fresh (world_shown r w) (world_shown l v) (worlds_alike fresh.channels w v meets same))
