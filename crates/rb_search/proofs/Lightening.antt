-- What is left to do becomes less.
use Rattle.std.proofs.Common.{◌≡◌, ◌⊎◌, inl, inr, ℕ, ◌+◌, ◌^◌, ◌<◌, ◌≤◌, List, ◌∷◌, length, set, slice_get, Some, None, option_map, sym, ap, ◌∙◌, subst, arith}
use Rattle.std.proofs.lemmas.List.{length-set}
use Rattle.std.proofs.lemmas.List.Sorted.{length_permutation}
use Rattle.std.specs.List.Sorted.{IsPermutation}
use Rattle.rb_code.specs.SoundCode.Sound.{Entry, Table, at_address}
use Rattle.rb_entries.specs.Join.{joined}
use Rattle.rb_entries.specs.declared.cell.Cell.{Cell}
use Rattle.rb_entries.specs.declared.entry.Held.{Held}
use Rattle.rb_entries.specs.declared.entry.Mode.{Mode as HeldMode}
use Rattle.rb_flow.specs.Held.{HasGrown, entry_of, operands_of}
use Rattle.rb_flow.specs.declared.lists.Lists.{Lists}
use Rattle.rb_search.specs.Found.{IsWell, found, held_in, pending}
use Rattle.rb_search.specs.Meeting.{HasOther, IsOther, met_of}
use Rattle.rb_search.specs.declared.join.Met.{Met}
use Rattle.rb_search.specs.declared.join.Met.TheVariants.{Apart, Same, Weaker}
use Rattle.rb_search.specs.Weight.{left, total, weight}
use Rattle.rb_search.proofs.Finding.{clear_found, cleared, found_grown, mark_found, mark_others, marked}
use Rattle.rb_search.proofs.Joins.{joined_is_weaker}
use Rattle.rb_search.proofs.Weights.{first_is_lighter, total_falls, weaker_is_lighter}

-- other parts make another entry
pub other_met : (before after : Lists) (known : Held) (operands : ℕ) (mode : HeldMode) (met : Met)
    → met_of after known met ≡ Some (entry_of after (record known { operands = operands; mode = mode }))
    → (operands_of after operands ≡ operands_of before known.operands → operands ≡ known.operands)
    → HasOther known operands mode met → IsOther before after known met
other_met before after known operands mode Apart is number other = tt
other_met before after known operands mode Same is number other = tt
other_met before after known operands mode (Weaker held) is number other = λ same.
    let parts : entry_of after held ≡ entry_of after (record known { operands = operands; mode = mode }) = cc
    in let all = sym parts ∙ same
    in other (number (ap (λ (e : Entry). e.operands) all)) (ap (λ (e : Entry). e.mode) all)

-- what entries meet in, where it is another one
meets_lighter : (e f g : Entry) → Some g ≡ joined e f → (g ≡ e → ⊥) → weight (2 ^ 32) (Some g) < weight (2 ^ 32) (Some e)
meets_lighter e f g meets other = by (weaker_is_lighter (2 ^ 32) e g (joined_is_weaker e f g (sym meets)).0)
  where
    by : (g ≡ e) ⊎ (weight (2 ^ 32) (Some g) < weight (2 ^ 32) (Some e)) → weight (2 ^ 32) (Some g) < weight (2 ^ 32) (Some e)
    by (inl same) = absurd (other same)
    by (inr h) = h

-- an address has a lighter entry, and is to be followed
pub mark_left : (lists : Lists) (cells : List Cell) (at : ℕ) (h : Held) (work after : List ℕ) → at < length cells
    → weight (2 ^ 32) (Some (entry_of lists h)) < weight (2 ^ 32) (found lists cells at) → length after ≤ length work + 1
    → left lists (set cells at (marked h)) after ≤ left lists cells work
mark_left lists cells at h work after within lighter few =
    let n = length cells
    in let long : length (set cells at (marked h)) ≡ n = length-set cells at (marked h)
    in let g = found lists (set cells at (marked h))
    in let here : weight (2 ^ 32) (g at) < weight (2 ^ 32) (found lists cells at)
    = subst (λ o. weight (2 ^ 32) o < weight (2 ^ 32) (found lists cells at)) (sym (mark_found lists cells at h within)) lighter
    in let falls = total_falls (2 ^ 32) n at (found lists cells) g within here (λ b. other b (mark_others lists cells at h within b))
    in let same = ap (λ k. total (2 ^ 32) k g) long
    in omega arith
  where
    other : (b : ℕ) → (b ≡ at) ⊎ ((found lists (set cells at (marked h)) b ≡ found lists cells b) × (pending (set cells at (marked h)) b ≡ pending cells b))
        → (b ≡ at) ⊎ (found lists (set cells at (marked h)) b ≡ found lists cells b)
    other b (inl e) = inl e
    other b (inr k) = inr k.0

-- nothing was known there
pub first_left : (lists : Lists) (cells : List Cell) (at : ℕ) (entry stay : Held) (work after : List ℕ) → at < length cells
    → held_in (slice_get cells at) ≡ None → entry_of lists stay ≡ at_address at (entry_of lists entry)
    → length (operands_of lists entry.operands) ≤ 2 ^ 32 → length after ≤ length work + 1
    → left lists (set cells at (marked stay)) after ≤ left lists cells work
first_left lists cells at entry stay work after within none is short few =
    let operands : length (operands_of lists stay.operands) ≡ length (operands_of lists entry.operands)
    = ap (λ (e : Entry). length e.operands) is
    in let lighter = first_is_lighter (2 ^ 32) (entry_of lists stay) (omega arith)
    in let nothing : found lists cells at ≡ None = ap (option_map (entry_of lists)) none
    in mark_left lists cells at stay work after within
    (subst (λ o. weight (2 ^ 32) (Some (entry_of lists stay)) < weight (2 ^ 32) o) (sym nothing) lighter) few

-- lists grow
pub grown_left : (before after : Lists) (cells : List Cell) (work : List ℕ) → IsWell before cells work → HasGrown before after
    → left after cells work ≡ left before cells work
grown_left before after cells work well grown =
    ap (λ (t : Table). total (2 ^ 32) (length cells) t + length work) (found_grown before after cells work well grown)

-- what was known is weakened
pub weaker_left : (before lists : Lists) (cells : List Cell) (at : ℕ) (stay known weak : Held) (work after : List ℕ) → at < length cells
    → IsWell before cells work → HasGrown before lists → held_in (slice_get cells at) ≡ Some known
    → Some (entry_of lists weak) ≡ joined (entry_of before known) (entry_of before stay)
    → (entry_of lists weak ≡ entry_of before known → ⊥) → length after ≤ length work + 1
    → left lists (set cells at (marked weak)) after ≤ left before cells work
weaker_left before lists cells at stay known weak work after within well grown is meets other few =
    let lighter = meets_lighter (entry_of before known) (entry_of before stay) (entry_of lists weak) meets other
    in let there : found lists cells at ≡ Some (entry_of before known)
    = ap (λ (t : Table). t at) (found_grown before lists cells work well grown) ∙ ap (option_map (entry_of before)) is
    in subst (λ k. left lists (set cells at (marked weak)) after ≤ k) (grown_left before lists cells work well grown)
    (mark_left lists cells at weak work after within
    (subst (λ o. weight (2 ^ 32) (Some (entry_of lists weak)) < weight (2 ^ 32) o) (sym there) lighter) few)

-- an address is taken from those that are to be followed
pub clear_left : (lists : Lists) (cells : List Cell) (at : ℕ) (h : Held) (work after : List ℕ) → at < length cells
    → held_in (slice_get cells at) ≡ Some h → IsPermutation work (at ∷ after)
    → left lists (set cells at (cleared h)) after + 1 ≡ left lists cells work
clear_left lists cells at h work after within is taken =
    let long = length-set cells at (cleared h)
    in let one = length_permutation work (at ∷ after) taken
    in let table = ap (total (2 ^ 32) (length cells)) (clear_found lists cells at h within is)
    in let same = ap (λ k. total (2 ^ 32) k (found lists (set cells at (cleared h)))) long
    in omega arith
