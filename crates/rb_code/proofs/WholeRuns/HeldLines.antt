-- Held lines: those of a recovery point are the first of those further in and of the present, so that they are found again by their bytes.
use Rattle.std.proofs.Common.{◌≡◌, ◌+◌, ◌-◌, ℕ, zero, suc, cond, List, [], ◌∷◌, ◌++◌, length, slice_get, take, Some, refl, sym, ap, ◌∙◌, subst, append_assoc, append-nil, arith}
use Rattle.std.proofs.lemmas.Bool.{le-leb, lt-leb}
use Rattle.std.proofs.lemmas.List.Sums.{sum_by-cons}
use Rattle.rb_world.specs.World.{without_last}
use Rattle.rb_world.proofs.ListFacts.{none_some, some_same}
use Rattle.rb_meaning.specs.State.{State}
use Rattle.rb_meaning.specs.Step.{held_bytes}
use Rattle.rb_code.specs.WordMachine.Workspace.{cut_held}

-- lines that come first in others
abbrev pub ComeFirst : List (List ℕ) → List (List ℕ) → Type 0
ComeFirst lines all = (more : List (List ℕ)) × (all ≡ lines ++ more)

pub first_same : (lines : List (List ℕ)) → ComeFirst lines lines
first_same lines = ([], sym (append-nil lines))

pub first_longer : (a b c : List (List ℕ)) → ComeFirst a b → ComeFirst b c → ComeFirst a c
first_longer a b c one other = (one.0 ++ other.0, other.1 ∙ ap (λ x. x ++ other.0) one.1 ∙ append_assoc a one.0 other.0)

-- what is left of lines after none
cut_none : (lines : List (List ℕ)) → cut_held 0 lines ≡ []
cut_none [] = refl
cut_none (line ∷ lines) = ap (λ b. cond b (line ∷ cut_held (0 - (length line + 1)) lines) []) (lt-leb (length line + 1) 0 (omega arith))

-- the first lines that have so many bytes in all
pub cut_first : (lines more : List (List ℕ)) → cut_held (held_bytes lines) (lines ++ more) ≡ lines
cut_first [] more = cut_none more
cut_first (line ∷ lines) more =
    let bytes : held_bytes (line ∷ lines) ≡ length line + 1 + held_bytes lines = sum_by-cons (λ (one : List ℕ). length one + 1) line lines in
    let rest : held_bytes (line ∷ lines) - (length line + 1) ≡ held_bytes lines = omega (arith, bytes) in
    ap (λ b. cond b (line ∷ cut_held (held_bytes (line ∷ lines) - (length line + 1)) (lines ++ more)) [])
    (le-leb (length line + 1) (held_bytes (line ∷ lines)) (omega (arith, bytes)))
    ∙ ap (λ n. line ∷ cut_held n (lines ++ more)) rest
    ∙ ap (λ others. line ∷ others) (cut_first lines more)

pub cut_back : (lines all : List (List ℕ)) → ComeFirst lines all → cut_held (held_bytes lines) all ≡ lines
cut_back lines all first = ap (cut_held (held_bytes lines)) first.1 ∙ cut_first lines first.0

-- the lines of the outermost of these points, or the present ones
abbrev outermost : List State → List (List ℕ) → List (List ℕ)
outermost [] present = present
outermost (copy ∷ copies) present = copy.held

-- from the outside in, the lines of each recovery point come first in those of the next, and of the last in the present ones
abbrev pub Grow : List State → List (List ℕ) → Type 0
Grow [] present = Unit {0}
Grow (copy ∷ copies) present = ComeFirst copy.held (outermost copies present) × Grow copies present

pub grow_longer : (copies : List State) (present later : List (List ℕ)) → ComeFirst present later → Grow copies present → Grow copies later
grow_longer [] present later e grow = tt
grow_longer (copy ∷ []) present later e grow = (first_longer copy.held present later grow.0 e, tt)
grow_longer (copy ∷ other ∷ copies) present later e grow = (grow.0, grow_longer (other ∷ copies) present later e grow.1)

pub grow_more : (copies : List State) (s : State) → Grow copies s.held → Grow (copies ++ s ∷ []) s.held
grow_more [] s grow = (first_same s.held, tt)
grow_more (copy ∷ []) s grow = (grow.0, (first_same s.held, tt))
grow_more (copy ∷ other ∷ copies) s grow = (grow.0, grow_more (other ∷ copies) s grow.1)

pub grow_front : (copies : List State) (present : List (List ℕ)) → Grow copies present → Grow (without_last copies) present
grow_front [] present grow = tt
grow_front (copy ∷ []) present grow = tt
grow_front (copy ∷ other ∷ []) present grow = (first_longer copy.held other.held present grow.0 grow.1.0, tt)
grow_front (copy ∷ other ∷ third ∷ copies) present grow = (grow.0, grow_front (other ∷ third ∷ copies) present grow.1)

outermost_first : (copies : List State) (present : List (List ℕ)) → Grow copies present → ComeFirst (outermost copies present) present
outermost_first [] present grow = first_same present
outermost_first (copy ∷ copies) present grow =
    first_longer copy.held (outermost copies present) present grow.0 (outermost_first copies present grow.1)

-- so those of each come first in the present ones, and in the levels up to it they grow to its own
pub grow_get : (copies : List State) (present : List (List ℕ)) (j : ℕ) (copy : State) → Grow copies present
    → slice_get copies j ≡ Some copy → ComeFirst copy.held present
grow_get [] present j copy grow e = absurd (none_some e)
grow_get (first ∷ copies) present zero copy grow e =
    subst (λ (s : State). ComeFirst s.held present) (some_same e) (outermost_first (first ∷ copies) present grow)
grow_get (first ∷ copies) present (suc j) copy grow e = grow_get copies present j copy grow.1 e

pub grow_take : (copies : List State) (present : List (List ℕ)) (j : ℕ) (copy : State) → Grow copies present → slice_get copies j ≡ Some copy
    → Grow (take (suc j) copies) copy.held
grow_take [] present j copy grow e = tt
grow_take (first ∷ copies) present zero copy grow e = (subst (λ (s : State). ComeFirst first.held s.held) (some_same e) (first_same first.held), tt)
grow_take (first ∷ []) present (suc j) copy grow e = absurd (none_some e)
grow_take (first ∷ other ∷ copies) present (suc j) copy grow e = (grow.0, grow_take (other ∷ copies) present j copy grow.1 e)
