-- Kept turns as links: from the last kept turn of a process the links lead to all its kept turns, and a link of a later turn changes
-- that for the process of that turn alone.
use Rattle.std.proofs.Common.{◌≡◌, ◌≤◌, ◌<◌, ℕ, suc, cond, eq-eqb, List, [], ◌∷◌, ◌++◌, refl, sym, ap, ◌∙◌, subst, arith}
use Rattle.std.proofs.lemmas.Bool.{ne_eqb}
use Rattle.rb_world.specs.Standing.{Each}
use Rattle.rb_world.proofs.LevelFacts.{IsOldOrNew, IsOld, IsNew, get_more}
use Rattle.rb_code.specs.WordMachine.Turn.{Link, kept_from}

-- the number of the last of these turns, and 0 without one
abbrev pub last_turn : List (ℕ × ℕ) → ℕ
last_turn [] = 0
last_turn (one ∷ []) = one.0
last_turn (one ∷ other ∷ turns) = last_turn (other ∷ turns)

-- these turns are before turn t
abbrev pub AreBefore : ℕ → List (ℕ × ℕ) → Type 0
AreBefore t turns = Each (λ i one. one.0 < t) turns

-- the links lead from this turn to these, of which it is the last
pub record LeadTo (links : List Link) (last : ℕ) (turns : List (ℕ × ℕ)) : Type 0 where
  pub reach : kept_from links last ≡ turns
  pub last_is : last ≡ last_turn turns

pub last_turn-before : (t : ℕ) (turns : List (ℕ × ℕ)) → 1 ≤ t → AreBefore t turns → last_turn turns < t
last_turn-before t [] some before = omega (arith, some)
last_turn-before t (one ∷ []) some before = before 0 one refl
last_turn-before t (one ∷ other ∷ turns) some before = last_turn-before t (other ∷ turns) some (λ i. before (suc i))

pub last_turn-end : (turns : List (ℕ × ℕ)) (one : ℕ × ℕ) → last_turn (turns ++ one ∷ []) ≡ one.0
last_turn-end [] one = refl
last_turn-end (x ∷ []) one = refl
last_turn-end (x ∷ y ∷ turns) one = last_turn-end (y ∷ turns) one

-- turns before t are before a later turn, and turn t joins them
pub later-before : (t u : ℕ) (turns : List (ℕ × ℕ)) → t ≤ u → AreBefore t turns → AreBefore u turns
later-before t u turns le before i one e = omega (arith, before i one e)

pub joined-before : (t u : ℕ) (turns : List (ℕ × ℕ)) (alternate : ℕ) → t < u → AreBefore t turns → AreBefore u (turns ++ (t, alternate) ∷ [])
joined-before t u turns alternate less before i one e = by_place (get_more turns (t, alternate) i one e)
  where
    by_place : IsOldOrNew turns (t, alternate) i one → one.0 < u
    by_place (IsOld there) = omega (arith, before i one there)
    by_place (IsNew at same) = subst (λ (x : ℕ × ℕ). x.0 < u) same less

-- without a link nothing was kept
pub none_kept : LeadTo [] 0 []
none_kept = record { reach = refl; last_is = refl }

-- a link of a later turn changes nothing for the others
pub others_kept : (link : Link) (links : List Link) (last : ℕ) (turns : List (ℕ × ℕ)) → 1 ≤ link.turn
    → AreBefore link.turn turns → LeadTo links last turns
    → LeadTo (link ∷ links) last turns
others_kept link links last turns some before lead =
    let less : last < link.turn = omega (arith, lead.last_is, last_turn-before link.turn turns some before) in
    record {
      reach = ap (λ b. cond b (kept_from links link.before ++ (link.turn, link.alternate) ∷ []) (kept_from links last))
          (ne_eqb link.turn last (λ (same : link.turn ≡ last). omega (arith, same, less))) ∙ lead.reach;
      last_is = lead.last_is;
    }

-- and for the process of that turn it joins its turns
pub turn_kept : (link : Link) (links : List Link) (turns : List (ℕ × ℕ)) → LeadTo links link.before turns
    → LeadTo (link ∷ links) link.turn (turns ++ (link.turn, link.alternate) ∷ [])
turn_kept link links turns lead = record {
  reach = ap (λ b. cond b (kept_from links link.before ++ (link.turn, link.alternate) ∷ []) (kept_from links link.turn))
      (eq-eqb link.turn link.turn refl)
      ∙ ap (λ (list : List (ℕ × ℕ)). list ++ (link.turn, link.alternate) ∷ []) lead.reach;
  last_is = sym (last_turn-end turns (link.turn, link.alternate));
}
