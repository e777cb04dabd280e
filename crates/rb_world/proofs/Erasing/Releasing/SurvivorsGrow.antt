-- A record that gains its newest turn: the survivors gain it at their end, their turns still rise, and the plain run goes on by one
-- turn, with what is told of it.
use Rattle.std.proofs.Common.{◌≡◌, ◌≤◌, ◌<◌, ◌+◌, ℕ, zero, suc, Bool, true, false, cond, List, [], ◌∷◌, ◌++◌, length, Option, Some, None, refl, ap, ◌∙◌, subst, nat_lt, le-ltb, lt-ltb, arith}
use Rattle.rb_world.specs.Kind.{Kind}
use Rattle.rb_world.specs.World.{World, change_at}
use Rattle.rb_world.specs.Turn.{Told}
use Rattle.rb_base.specs.declared.kept.Kept.{Kept}
use Rattle.rb_world.specs.Plain.{PlainEnd, Ended, StuckAt, insert_all, insert_kept, plain_on, plain_run, plain_told, plain_turn, survivors_from, survivors_of}
use Rattle.rb_world.specs.Standing.{Each}
use Rattle.rb_world.specs.Erased.{RisesFrom, Rises}
use Rattle.rb_world.proofs.Erasing.Showing.ErasureInvariant.{AreBefore}
use Rattle.rb_world.proofs.ListFacts.{Each-change_at, none_some, some_same}

-- the turns of a record are before turn t
abbrev pub IsBelow : ℕ → List Kept → Type 0
IsBelow t [] = Unit {0}
IsBelow t (one ∷ others) = (one.turn < t) × IsBelow t others

-- so are the kept turns of one process
abbrev pub IsEarlier : ℕ → List (ℕ × ℕ) → Type 0
IsEarlier t list = Each (λ i one. one.0 < t) list

-- a kept turn takes its place below turn t, if it is
insert_cond-below : (t : ℕ) (one other : Kept) (others : List Kept) (first : Bool) → one.turn < t → other.turn < t
    → IsBelow t others → IsBelow t (insert_kept one others)
    → IsBelow t (cond first (one ∷ other ∷ others) (other ∷ insert_kept one others))
insert_cond-below t one other others true a b rest more = (a, (b, rest))
insert_cond-below t one other others false a b rest more = (b, more)

insert_kept-below : (t : ℕ) (one : Kept) (others : List Kept) → one.turn < t → IsBelow t others → IsBelow t (insert_kept one others)
insert_kept-below t one [] a rest = (a, tt)
insert_kept-below t one (other ∷ others) a rest =
    insert_cond-below t one other others (nat_lt one.turn other.turn) a rest.0 rest.1 (insert_kept-below t one others a rest.1)

insert_all-below : (t p : ℕ) (list : List (ℕ × ℕ)) (others : List Kept) → IsEarlier t list → IsBelow t others → IsBelow t (insert_all p list others)
insert_all-below t p [] others list rest = rest
insert_all-below t p ((u, b) ∷ turns) others list rest =
    insert_kept-below t (record { turn = u; process = p; alternate = b }) (insert_all p turns others) (list zero (u, b) refl)
    (insert_all-below t p turns others (λ i. list (suc i)) rest)

survivors_from-below : (t p : ℕ) (turns : List (List (ℕ × ℕ))) → AreBefore t turns → IsBelow t (survivors_from p turns)
survivors_from-below t p [] before = tt
survivors_from-below t p (list ∷ turns) before =
    insert_all-below t p list (survivors_from (p + 1) turns) (before zero list refl) (survivors_from-below t (p + 1) turns (λ r. before (suc r)))

-- where all kept turns are before turn t, so are the survivors
pub survivors_below : (t : ℕ) (turns : List (List (ℕ × ℕ))) → AreBefore t turns → IsBelow t (survivors_of turns)
survivors_below t turns before = survivors_from-below t 0 turns before

-- the newest turn takes its place at the end
insert_newest : (one : Kept) (others : List Kept) → IsBelow one.turn others → insert_kept one others ≡ others ++ one ∷ []
insert_newest one [] below = refl
insert_newest one (other ∷ others) below =
    ap (λ (b : Bool). cond b (one ∷ other ∷ others) (other ∷ insert_kept one others)) (le-ltb one.turn other.turn (omega (arith, below.0)))
    ∙ ap (λ (rest : List Kept). other ∷ rest) (insert_newest one others below.1)

-- and stays there, whatever takes its place before it
insert_before_cond : (one other newest : Kept) (others : List Kept) (first : Bool)
    → insert_kept one (others ++ newest ∷ []) ≡ insert_kept one others ++ newest ∷ []
    → cond first (one ∷ other ∷ (others ++ newest ∷ [])) (other ∷ insert_kept one (others ++ newest ∷ []))
    ≡ cond first (one ∷ other ∷ others) (other ∷ insert_kept one others) ++ newest ∷ []
insert_before_cond one other newest others true e = refl
insert_before_cond one other newest others false e = ap (λ (rest : List Kept). other ∷ rest) e

insert_before_newest : (one newest : Kept) (others : List Kept) → one.turn < newest.turn
    → insert_kept one (others ++ newest ∷ []) ≡ insert_kept one others ++ newest ∷ []
insert_before_newest one newest [] later =
    ap (λ (b : Bool). cond b (one ∷ newest ∷ []) (newest ∷ one ∷ [])) (lt-ltb one.turn newest.turn later)
insert_before_newest one newest (other ∷ others) later =
    insert_before_cond one other newest others (nat_lt one.turn other.turn) (insert_before_newest one newest others later)

insert_all-before : (p : ℕ) (list : List (ℕ × ℕ)) (newest : Kept) (others : List Kept) → IsEarlier newest.turn list
    → insert_all p list (others ++ newest ∷ []) ≡ insert_all p list others ++ newest ∷ []
insert_all-before p [] newest others earlier = refl
insert_all-before p ((u, b) ∷ turns) newest others earlier =
    let one : Kept = record { turn = u; process = p; alternate = b } in
    ap (insert_kept one) (insert_all-before p turns newest others (λ i. earlier (suc i)))
    ∙ insert_before_newest one newest (insert_all p turns others) (earlier zero (u, b) refl)

insert_all-grows : (t p a : ℕ) (list : List (ℕ × ℕ)) (others : List Kept) → IsEarlier t list → IsBelow t others
    → insert_all p (list ++ (t, a) ∷ []) others ≡ insert_all p list others ++ record { turn = t; process = p; alternate = a } ∷ []
insert_all-grows t p a [] others earlier below = insert_newest (record { turn = t; process = p; alternate = a }) others below
insert_all-grows t p a ((u, b) ∷ turns) others earlier below =
    let one : Kept = record { turn = u; process = p; alternate = b } in
    let newest : Kept = record { turn = t; process = p; alternate = a } in
    ap (insert_kept one) (insert_all-grows t p a turns others (λ i. earlier (suc i)) below)
    ∙ insert_before_newest one newest (insert_all p turns others) (earlier zero (u, b) refl)

survivors_from-grow : (t p a n : ℕ) (turns : List (List (ℕ × ℕ))) → AreBefore t turns → suc p ≤ length turns
    → survivors_from n (change_at p (λ list. list ++ (t, a) ∷ []) turns)
    ≡ survivors_from n turns ++ record { turn = t; process = n + p; alternate = a } ∷ []
survivors_from-grow t p a n [] before here = absurd (omega (arith, here))
survivors_from-grow t zero a n (list ∷ turns) before here =
    insert_all-grows t n a list (survivors_from (n + 1) turns) (before zero list refl) (survivors_from-below t (n + 1) turns (λ r. before (suc r)))
    ∙ ap (λ (m : ℕ). insert_all n list (survivors_from (n + 1) turns) ++ record { turn = t; process = m; alternate = a } ∷ []) (omega arith)
survivors_from-grow t (suc p) a n (list ∷ turns) before here =
    ap (insert_all n list) (survivors_from-grow t p a (n + 1) turns (λ r. before (suc r)) (omega (arith, here)))
    ∙ insert_all-before n list (record { turn = t; process = n + 1 + p; alternate = a }) (survivors_from (n + 1) turns) (before zero list refl)
    ∙ ap (λ (m : ℕ). insert_all n list (survivors_from (n + 1) turns) ++ record { turn = t; process = m; alternate = a } ∷ []) (omega arith)

-- the newest kept turn is the last of the survivors
pub survivors_grow : (t p a : ℕ) (turns : List (List (ℕ × ℕ))) → AreBefore t turns → suc p ≤ length turns
    → survivors_of (change_at p (λ list. list ++ (t, a) ∷ []) turns) ≡ survivors_of turns ++ record { turn = t; process = p; alternate = a } ∷ []
survivors_grow t p a turns before here =
    survivors_from-grow t p a 0 turns before here
    ∙ ap (λ (m : ℕ). survivors_of turns ++ record { turn = t; process = m; alternate = a } ∷ []) (omega arith)

Each-more : {A : Type 0} (P : A → Type 0) (xs : List A) (y : A) → Each (λ _. P) xs → P y → Each (λ _. P) (xs ++ y ∷ [])
Each-more P [] y each new zero x e = subst P (some_same e) new
Each-more P [] y each new (suc i) x e = absurd (none_some e)
Each-more P (x ∷ xs) y each new zero z e = each zero z e
Each-more P (x ∷ xs) y each new (suc i) z e = Each-more P xs y (λ n. each (suc n)) new i z e

-- kept turns are before the next turn
pub before_next : (t : ℕ) (turns : List (List (ℕ × ℕ))) → AreBefore t turns → AreBefore (t + 1) turns
before_next t turns before r list e i one e' = omega (arith, before r list e i one e')

-- so are they with the newest one among them
pub before_grows : (t p a : ℕ) (turns : List (List (ℕ × ℕ))) → AreBefore t turns → AreBefore (t + 1) (change_at p (λ list. list ++ (t, a) ∷ []) turns)
before_grows t p a turns before =
    Each-change_at (λ r list. Each (λ i one. one.0 < t + 1) list) p (λ list. list ++ (t, a) ∷ []) turns (before_next t turns before)
    (λ list e. Each-more (λ (one : ℕ × ℕ). one.0 < t + 1) list (t, a) (before_next t turns before p list e) (omega arith))

-- and the turns of the record still rise
rises_from-more : (n : ℕ) (turns : List Kept) (one : Kept) → RisesFrom n turns → IsBelow one.turn turns → n < one.turn
    → RisesFrom n (turns ++ one ∷ [])
rises_from-more n [] one rises below later = (later, tt)
rises_from-more n (kept ∷ turns) one rises below later = (rises.0, rises_from-more kept.turn turns one rises.1 below.1 below.0)

pub rises_more : (turns : List Kept) (one : Kept) → Rises turns → IsBelow one.turn turns → 0 < one.turn → Rises (turns ++ one ∷ [])
rises_more turns one rises below later = rises_from-more 0 turns one rises below later

-- The plain run goes on by one turn.
module _ {S C M : Type 0} (k : Kind S C M) where
  -- an end is one of this world, with these lines
  end_world : {v w : World S C M} {lines others : List (ℕ × Told)} → Ended v lines ≡ Ended w others → v ≡ w
  end_world e = cc

  end_lines : {v w : World S C M} {lines others : List (ℕ × Told)} → Ended v lines ≡ Ended w others → lines ≡ others
  end_lines e = cc

  stuck_ended : {t : ℕ} {v : World S C M} {lines : List (ℕ × Told)} → StuckAt t ≡ Ended v lines → ⊥
  stuck_ended e = cc

  -- where one run ends in v, the other ends in v', with one line more
  abbrev GoesOn : World S C M → World S C M → ℕ × Told → PlainEnd S C M → PlainEnd S C M → Type 0
  GoesOn v v' line end end' = (lines : List (ℕ × Told)) → end ≡ Ended v lines → end' ≡ Ended v' (lines ++ line ∷ [])

  told-goes_on : (v v' : World S C M) (line : ℕ × Told) (t : ℕ) (first : Told) (end end' : PlainEnd S C M) → GoesOn v v' line end end'
      → GoesOn v v' line (plain_told t first end) (plain_told t first end')
  told-goes_on v v' line t first (Ended w all) end' on lines e =
      ap (plain_told t first) (on all (ap (λ (u : World S C M). Ended u all) (end_world e)))
      ∙ ap (λ (rest : List (ℕ × Told)). Ended v' (rest ++ line ∷ [])) (end_lines e)
  told-goes_on v v' line t first (StuckAt u) end' on lines e = absurd (stuck_ended e)

  on-goes_on : (v v' : World S C M) (line : ℕ × Told) (t : ℕ) (o : Option (World S C M × Told)) (rest rest' : World S C M → PlainEnd S C M)
      → ((w : World S C M) → GoesOn v v' line (rest w) (rest' w)) → GoesOn v v' line (plain_on t o rest) (plain_on t o rest')
  on-goes_on v v' line t None rest rest' on lines e = absurd (stuck_ended e)
  on-goes_on v v' line t (Some (w, first)) rest rest' on lines e = told-goes_on v v' line t first (rest w) (rest' w) (on w) lines e

  plain_run-goes_on : (turns : List Kept) (kept : Kept) (v v' : World S C M) (one : Told) → plain_turn k kept v ≡ Some (v', one)
      → (w : World S C M) → GoesOn v v' (kept.turn, one) (plain_run k turns w) (plain_run k (turns ++ kept ∷ []) w)
  plain_run-goes_on [] kept v v' one e w lines ended =
      ap (λ (u : World S C M). plain_on kept.turn (plain_turn k kept u) (plain_run k [])) (end_world ended)
      ∙ ap (λ (x : Option (World S C M × Told)). plain_on kept.turn x (plain_run k [])) e
      ∙ ap (λ (rest : List (ℕ × Told)). Ended v' (rest ++ (kept.turn, one) ∷ [])) (end_lines ended)
  plain_run-goes_on (first ∷ turns) kept v v' one e w lines ended =
      on-goes_on v v' (kept.turn, one) first.turn (plain_turn k first w) (plain_run k turns) (plain_run k (turns ++ kept ∷ []))
      (plain_run-goes_on turns kept v v' one e) lines ended

  -- one kept turn more, where the plain run so far ended in v
  pub plain_run_more : (turns : List Kept) (kept : Kept) (w v v' : World S C M) (lines : List (ℕ × Told)) (one : Told)
      → plain_run k turns w ≡ Ended v lines → plain_turn k kept v ≡ Some (v', one)
      → plain_run k (turns ++ kept ∷ []) w ≡ Ended v' (lines ++ (kept.turn, one) ∷ [])
  plain_run_more turns kept w v v' lines one ran turned = plain_run-goes_on turns kept v v' one turned w lines ran
