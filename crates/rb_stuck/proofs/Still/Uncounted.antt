-- What is the same in worlds that are alike: what a turn asks of them, but for the turns used.
use Rattle.std.proofs.Common.{◌≡◌, ℕ, ◌+◌, cond, List, [], ◌∷◌, length, map, slice_get, Option, Some, None, refl, sym, ap, ap₂, ◌∙◌}
use Rattle.std.specs.Prelude.{nat_lt}
use Rattle.std.specs.Option.{option_map}
use Rattle.std.proofs.lemmas.Option.{slice_get-map}
use Rattle.std.proofs.lemmas.List.{length-map}
use Rattle.rb_world.specs.Kind.{Ends, Kind}
use Rattle.rb_world.specs.World.{Level, Process, World, copy_of, is_shared, last_of}
use Rattle.rb_world.specs.Channels.{first_message, has_room, has_room_for, has_room_on, message_between, message_on, message_there, room_from, seen_copy}
use Rattle.rb_world.specs.Turn.{tried_at}
use Rattle.rb_stuck.specs.Alike.{IsAlike, all_uncounted, uncounted, unused}

-- processes that are the same but for the turns that their levels used
abbrev pub AreAlike : {S C : Type 0} → List (Process S C) → List (Process S C) → Type 0
AreAlike qs rs = all_uncounted qs ≡ all_uncounted rs

module _ {S C M : Type 0} (k : Kind S C M) where
  there : (qs : List (Process S C)) (p : ℕ) → slice_get (all_uncounted qs) p ≡ option_map uncounted (slice_get qs p)
  there qs p = slice_get-map uncounted qs p

  seen_same : (ls ms : List (Level C)) → seen_copy (map unused ls) (map unused ms) ≡ seen_copy ls ms
  seen_same [] ms = refl
  seen_same (l ∷ ls) [] = refl
  seen_same (l ∷ ls) (m ∷ ms) =
      ap (λ (o : Option C). cond (is_shared l.facts.conversation m.facts.conversation) o (Some l.copy)) (seen_same ls ms)

  room_from_same : (s : S) (ls : List (Level C)) (c : ℕ) → room_from k s (map unused ls) c ≡ room_from k s ls c
  room_from_same s [] c = refl
  room_from_same s (l ∷ ls) c = refl

  room_for_same : (c : ℕ) (ends : Ends) (p q : Option (Process S C))
      → has_room_for k c ends (option_map uncounted p) (option_map uncounted q) ≡ has_room_for k c ends p q
  room_for_same c ends None q = refl
  room_for_same c ends (Some p) None = refl
  room_for_same c ends (Some p) (Some q) =
      ap (λ n. nat_lt (k.sent p.state c) (ends.size + n)) (room_from_same q.state q.levels c)

  between_same : (memory : M) (c : ℕ) (p q : Option (Process S C))
      → message_between k memory c (option_map uncounted p) (option_map uncounted q) ≡ message_between k memory c p q
  between_same memory c None q = refl
  between_same memory c (Some p) None = refl
  between_same memory c (Some p) (Some q) =
      ap (λ (copy : Option C). first_message k memory c p.state copy (k.taken q.state c)) (seen_same p.levels q.levels)

  -- of a channel's two ends
  room_erased : (qs : List (Process S C)) (c : ℕ) (ends : Ends)
      → has_room_for k c ends (slice_get qs ends.sender) (slice_get qs ends.receiver)
      ≡ has_room_for k c ends (slice_get (all_uncounted qs) ends.sender) (slice_get (all_uncounted qs) ends.receiver)
  room_erased qs c ends =
      sym (room_for_same c ends (slice_get qs ends.sender) (slice_get qs ends.receiver))
      ∙ ap₂ (λ (a b : Option (Process S C)). has_room_for k c ends a b) (sym (there qs ends.sender)) (sym (there qs ends.receiver))

  message_erased : (memory : M) (qs : List (Process S C)) (c : ℕ) (ends : Ends)
      → message_between k memory c (slice_get qs ends.sender) (slice_get qs ends.receiver)
      ≡ message_between k memory c (slice_get (all_uncounted qs) ends.sender) (slice_get (all_uncounted qs) ends.receiver)
  message_erased memory qs c ends =
      sym (between_same memory c (slice_get qs ends.sender) (slice_get qs ends.receiver))
      ∙ ap₂ (λ (a b : Option (Process S C)). message_between k memory c a b) (sym (there qs ends.sender)) (sym (there qs ends.receiver))

  module _ (w v : World S C M) (alike : IsAlike w v) where
    room_on_alike : (c : ℕ) (o : Option Ends) → has_room_on k w c o ≡ has_room_on k v c o
    room_on_alike c None = refl
    room_on_alike c (Some ends) =
        room_erased w.processes c ends
        ∙ ap (λ (all : List (Process S C)). has_room_for k c ends (slice_get all ends.sender) (slice_get all ends.receiver)) alike.processes
        ∙ sym (room_erased v.processes c ends)

    pub room_alike : (c : ℕ) → has_room k w c ≡ has_room k v c
    room_alike c = room_on_alike c (slice_get k.channels c)

    message_on_alike : (c : ℕ) (o : Option Ends) → message_on k w c o ≡ message_on k v c o
    message_on_alike c None = refl
    message_on_alike c (Some ends) =
        message_erased w.memory w.processes c ends
        ∙ ap₂ (λ (memory : M) (all : List (Process S C)).
        message_between k memory c (slice_get all ends.sender) (slice_get all ends.receiver)) alike.memory alike.processes
        ∙ sym (message_erased v.memory v.processes c ends)

    pub message_alike : (c : ℕ) → message_there k w c ≡ message_there k v c
    message_alike c = message_on_alike c (slice_get k.channels c)

-- the innermost level, and what stands in it
pub last_uncounted : {C : Type 0} (ls : List (Level C)) → last_of (map unused ls) ≡ option_map unused (last_of ls)
last_uncounted [] = refl
last_uncounted (l ∷ []) = refl
last_uncounted (l ∷ m ∷ ls) = last_uncounted (m ∷ ls)

pub lasts_alike : {C : Type 0} (ls ms : List (Level C)) → map unused ls ≡ map unused ms → option_map unused (last_of ls) ≡ option_map unused (last_of ms)
lasts_alike ls ms e = sym (last_uncounted ls) ∙ ap last_of e ∙ last_uncounted ms

copy_uncounted : {C : Type 0} (o : Option (Level C)) → copy_of (option_map unused o) ≡ copy_of o
copy_uncounted None = refl
copy_uncounted (Some level) = refl

pub copies_alike : {C : Type 0} (a b : Option (Level C)) → option_map unused a ≡ option_map unused b → copy_of a ≡ copy_of b
copies_alike a b e = sym (copy_uncounted a) ∙ ap copy_of e ∙ copy_uncounted b

tried_uncounted : {C : Type 0} (o : Option (Level C)) → tried_at (option_map unused o) ≡ tried_at o
tried_uncounted None = refl
tried_uncounted (Some level) = refl

pub tried_alike : {C : Type 0} (a b : Option (Level C)) → option_map unused a ≡ option_map unused b → tried_at a ≡ tried_at b
tried_alike a b e = sym (tried_uncounted a) ∙ ap tried_at e ∙ tried_uncounted b

pub lengths_alike : {C : Type 0} (ls ms : List (Level C)) → map unused ls ≡ map unused ms → length ls ≡ length ms
lengths_alike ls ms e = sym (length-map ls unused) ∙ ap length e ∙ length-map ms unused
