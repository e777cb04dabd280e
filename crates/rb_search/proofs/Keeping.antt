-- Cells as they are kept, where contexts are added and a slot changes.
use Rattle.std.proofs.Common.{◌≡◌, ℕ, nat_eq, true, false, zero, suc, ◌+◌, ◌<◌, ◌≤◌, List, [], ◌∷◌, ◌++◌, length, get_or, replicate, set, slice_get, Option, Some, None, option_map, refl, sym, ap, ◌∙◌, subst, arith, eqb-true, eq-eqb}
use Rattle.std.proofs.lemmas.List.{map-set, length-append}
use Rattle.std.proofs.lemmas.List.Elements.{All-set}
use Rattle.std.proofs.lemmas.Option.{slice_get_within}
use Rattle.rb_flow.specs.Held.{IsFront}
use Rattle.rb_entries.specs.Join.{same_loops, same_procedure, same_within}
use Rattle.rb_entries.specs.Parts.{loop_of, loops_of, within_of}
use Rattle.rb_search.proofs.Joins.{loops_tell}
use Rattle.rb_flow.proofs.Tests.{both_tell, eq_tells}
use Rattle.rb_search.specs.Cells.{AreKept, cell_of, cells_of, context_in, entry_with}
use Rattle.rb_entries.specs.declared.cell.Cell.{Cell}
use Rattle.rb_search.specs.declared.cells.Context.{Context}
use Rattle.rb_search.specs.declared.cells.Slot.{Slot}
use Rattle.rb_entries.specs.declared.entry.Loop.{Loop}
use Rattle.rb_entries.specs.declared.entry.Loops.{Loops}
use Rattle.rb_entries.specs.declared.entry.Loops.TheVariants.{Zero, One, Two}
use Rattle.rb_entries.specs.declared.entry.Mode.TheVariants.{Changed}
use Rattle.rb_entries.specs.declared.entry.Within.{Within}

get_front : {X : Type 0} (xs more : List X) (n : ℕ) → n < length xs → slice_get (xs ++ more) n ≡ slice_get xs n
get_front [] more n h = absurd (omega (arith, h))
get_front (x ∷ xs) more zero h = refl
get_front (x ∷ xs) more (suc n) h = get_front xs more n (omega arith)

get_last : {X : Type 0} (xs : List X) (x : X) → slice_get (xs ++ x ∷ []) (length xs) ≡ Some x
get_last [] x = refl
get_last (y ∷ xs) x = get_last xs x

front_longer : {X : Type 0} (xs ys : List X) → IsFront xs ys → length xs ≤ length ys
front_longer xs ys (more, is) = let l = ap length is ∙ length-append xs more in omega arith

context_stays : (xs ys : List Context) (n : ℕ) → IsFront xs ys → n ≤ length xs → context_in ys n ≡ context_in xs n
context_stays xs ys zero front h = refl
context_stays xs ys (suc n) (more, is) h = ap (λ zs. slice_get zs n) is ∙ get_front xs more n (omega arith)

pub context_there : (xs : List Context) (n : ℕ) (c : Context) → context_in xs n ≡ Some c → n ≤ length xs
context_there xs zero c is = omega arith
context_there xs (suc n) c is = let h = slice_get_within xs n c is in omega arith

pub context_last : (xs : List Context) (n : ℕ) (c : Context) → n ≡ length xs + 1 → context_in (xs ++ c ∷ []) n ≡ Some c
context_last xs zero c e = absurd (omega (arith, e))
context_last xs (suc n) c e = let k : n ≡ length xs = omega arith in ap (slice_get (xs ++ c ∷ [])) k ∙ get_last xs c

cells_stay : (xs ys : List Context) (slots : List Slot) → IsFront xs ys → AreKept xs slots → cells_of ys slots ≡ cells_of xs slots
cells_stay xs ys [] front kept = refl
cells_stay xs ys (slot ∷ slots) front kept =
    let here : cell_of ys slot ≡ cell_of xs slot
    = ap (λ (o : Option Context). record { entry = option_map (entry_with slot) o; pending = slot.pending })
    (context_stays xs ys slot.context front (kept 0 slot (omega arith)))
    in let rest = cells_stay xs ys slots front (λ k d h. kept (suc k) d (omega (arith, h)))
    in ap (λ (one : Cell). one ∷ cells_of ys slots) here ∙ ap (λ (all : List Cell). cell_of xs slot ∷ all) rest

-- contexts are added
pub kept_more : (xs ys : List Context) (slots : List Slot) → IsFront xs ys → AreKept xs slots → AreKept ys slots
kept_more xs ys slots front kept = λ k d h. let l = front_longer xs ys front in let b = kept k d h in omega (arith, l, b)

-- a slot changes
pub kept_put : (xs ys : List Context) (slots : List Slot) (at : ℕ) (slot : Slot) → IsFront xs ys → AreKept xs slots
    → slot.context ≤ length ys → AreKept ys (set slots at slot)
kept_put xs ys slots at slot front kept there =
    All-set (λ (one : Slot). one.context ≤ length ys) slots at slot there (kept_more xs ys slots front kept)

pub cells_put : (xs ys : List Context) (slots : List Slot) (at : ℕ) (slot : Slot) (cell : Cell) → IsFront xs ys → AreKept xs slots
    → cell_of ys slot ≡ cell → cells_of ys (set slots at slot) ≡ set (cells_of xs slots) at cell
cells_put xs ys slots at slot cell front kept is =
    map-set (cell_of ys) slots at slot
    ∙ ap (λ (one : Cell). set (cells_of ys slots) at one) is
    ∙ ap (λ (all : List Cell). set all at cell) (cells_stay xs ys slots front kept)

-- nothing is known yet
abbrev empty : Slot
empty = record { context = 0; operands = 0; mode = Changed; pieces = 0; pending = false }

abbrev nothing : Cell
nothing = record { entry = None; pending = false }

empty_cells : (contexts : List Context) (n : ℕ) → cells_of contexts (replicate n empty) ≡ replicate n nothing
empty_cells contexts zero = refl
empty_cells contexts (suc n) = ap (λ (all : List Cell). nothing ∷ all) (empty_cells contexts n)

empty_kept : (n k : ℕ) (d : Slot) → k < length (replicate n empty) → (get_or (replicate n empty) k d).context ≡ 0
empty_kept zero k d h = absurd (omega (arith, h))
empty_kept (suc n) zero d h = refl
empty_kept (suc n) (suc k) d h = empty_kept n k d (omega (arith, h))

pub new_cells : (contexts : List Context) (n : ℕ) (slots : List Slot) → slots ≡ replicate n empty → cells_of contexts slots ≡ replicate n nothing
new_cells contexts n slots is = ap (cells_of contexts) is ∙ empty_cells contexts n

pub new_kept : (contexts : List Context) (n : ℕ) (slots : List Slot) → slots ≡ replicate n empty → AreKept contexts slots
new_kept contexts n slots is = subst (AreKept contexts) (sym is) (λ k d h. let e = empty_kept n k d h in omega (arith, e))

-- two contexts are the same
procedure_same : (o p : Option ℕ) → same_procedure o p ≡ true → o ≡ p
procedure_same None None h = refl
procedure_same None (Some n) h = let wrong : ⊥ = cc in absurd wrong
procedure_same (Some m) None h = let wrong : ⊥ = cc in absurd wrong
procedure_same (Some m) (Some n) h = ap Some (eqb-true m n h)

within_same : (v w : Within) → same_within (within_of v) (within_of w) ≡ true → v ≡ w
within_same v w h =
    let both = (both_tell (nat_eq v.process w.process) (same_procedure v.procedure w.procedure) (eq_tells v.process w.process) (
      (λ k. let e : same_procedure v.procedure w.procedure ≡ true = subst (λ o. same_procedure v.procedure o ≡ true) k (itself v.procedure) in e),
      procedure_same v.procedure w.procedure,
    )).1 h
    in let p = both.0
    in let q = both.1
    in λ i. record { process = p i; procedure = q i }
  where
    itself : (o : Option ℕ) → same_procedure o o ≡ true
    itself None = refl
    itself (Some n) = eq-eqb n n refl

loop_same : (k l : Loop) → loop_of k ≡ loop_of l → k ≡ l
loop_same k l h = λ i. record { counter = (h i).counter; first = (h i).first; last = (h i).last }

loops_same : (k l : Loops) → loops_of k ≡ loops_of l → k ≡ l
loops_same Zero Zero h = refl
loops_same Zero (One x) h = let wrong : ⊥ = cc in absurd wrong
loops_same Zero (Two x y) h = let wrong : ⊥ = cc in absurd wrong
loops_same (One x) Zero h = let wrong : ⊥ = cc in absurd wrong
loops_same (One x) (One v) h = let e : loop_of x ≡ loop_of v = cc in ap One (loop_same x v e)
loops_same (One x) (Two v w) h = let wrong : ⊥ = cc in absurd wrong
loops_same (Two x y) Zero h = let wrong : ⊥ = cc in absurd wrong
loops_same (Two x y) (One v) h = let wrong : ⊥ = cc in absurd wrong
loops_same (Two x y) (Two v w) h =
    let e : loop_of x ≡ loop_of v = cc in let d : loop_of y ≡ loop_of w = cc
    in let p = loop_same x v e in let q = loop_same y w d in λ i. Two (p i) (q i)

pub contexts_same : (a b : Context) → same_within (within_of a.within) (within_of b.within) ≡ true
    → same_loops (loops_of a.loops) (loops_of b.loops) ≡ true → a.words ≡ b.words → a.blocks ≡ b.blocks → a ≡ b
contexts_same a b w l words blocks =
    let p = within_same a.within b.within w
    in let q = loops_same a.loops b.loops ((loops_tell (loops_of a.loops) (loops_of b.loops)).1 l)
    in λ i. record { within = p i; words = words i; blocks = blocks i; loops = q i }
