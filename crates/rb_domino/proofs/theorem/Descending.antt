-- Lists of states, the latest first.
use Rattle.std.proofs.Common.{◌≡◌, ℕ, ◌≤◌, ◌<◌, Bool, true, false, nat_lt, cond, ◌⊎◌, inl, inr, List, [], ◌∷◌, ◌++◌, length, refl, ap, ◌∙◌, sym, subst, arith}
use Rattle.std.specs.List.{AllByRecursion}
use Rattle.std.proofs.lemmas.Bool.{lt-ltb, ltb-false, ltb-true}
use Rattle.rb_domino.specs.declared.state.State.{State}
use Rattle.rb_domino.specs.Recovery.{IsOneOf, latest, states_after, states_before}

-- each state is earlier than those before it
abbrev pub Descend : List State → Type 0
Descend [] = Unit {0}
Descend (s ∷ states) = AllByRecursion (λ t. t.place < s.place) states × Descend states

-- what holds of all holds of each
pub one_of_all : (P : State → Type 0) (s : State) (states : List State) → AllByRecursion P states → IsOneOf s states → P s
one_of_all P s [] all one = absurd one
one_of_all P s (t ∷ states) all (inl same) = subst P (sym same) all.0
one_of_all P s (t ∷ states) all (inr one) = one_of_all P s states all.1 one

-- and it stays one of more, or is one of either part
pub one_of_right : (s : State) (given states : List State) → IsOneOf s states → IsOneOf s (given ++ states)
one_of_right s [] states one = one
one_of_right s (t ∷ given) states one = inr (one_of_right s given states one)

pub one_of_split : (s : State) (given states : List State) → IsOneOf s (given ++ states) → IsOneOf s given ⊎ IsOneOf s states
one_of_split s [] states one = inr one
one_of_split s (t ∷ given) states (inl same) = inl (inl same)
one_of_split s (t ∷ given) states (inr one) = by (one_of_split s given states one)
  where
    by : IsOneOf s given ⊎ IsOneOf s states → IsOneOf s (t ∷ given) ⊎ IsOneOf s states
    by (inl here) = inl (inr here)
    by (inr there) = inr there

-- a tail of them descends
pub descend_right : (given states : List State) → Descend (given ++ states) → Descend states
descend_right [] states down = down
descend_right (t ∷ given) states down = descend_right given states down.1

-- no state is later than the latest
pub up_to_latest : (s : State) (states : List State) → Descend states → IsOneOf s states → s.place ≤ (latest states).place
up_to_latest s [] down one = absurd one
up_to_latest s (t ∷ states) down (inl same) = let e : s.place ≡ t.place = ap (λ (k : State). k.place) same in omega arith
up_to_latest s (t ∷ states) down (inr one) =
    let low : s.place < t.place = one_of_all (λ k. k.place < t.place) s states down.0 one in omega arith

-- of one process no two states have one place
pub same_place : (s t : State) (states : List State) → Descend states → IsOneOf s states → IsOneOf t states → s.place ≡ t.place → s ≡ t
same_place s t [] down one other e = absurd one
same_place s t (u ∷ states) down (inl a) (inl b) e = a ∙ sym b
same_place s t (u ∷ states) down (inl a) (inr b) e =
    let low : t.place < u.place = one_of_all (λ k. k.place < u.place) t states down.0 b in
    let at : s.place ≡ u.place = ap (λ (k : State). k.place) a in
    absurd (let never : ⊥ = omega arith in never)
same_place s t (u ∷ states) down (inr a) (inl b) e =
    let low : s.place < u.place = one_of_all (λ k. k.place < u.place) s states down.0 a in
    let at : t.place ≡ u.place = ap (λ (k : State). k.place) b in
    absurd (let never : ⊥ = omega arith in never)
same_place s t (u ∷ states) down (inr a) (inr b) e = same_place s t states down.1 a b e

-- what is not after a place is kept
pub kept_before : (place : ℕ) (s : State) (states : List State) → s.place ≤ place → IsOneOf s states → IsOneOf s (states_before place states)
kept_before place s [] low one = absurd one
kept_before place s (t ∷ states) low one = by (nat_lt place t.place) refl (kept_before place s states low) one
  where
    by : (b : Bool) → nat_lt place t.place ≡ b → (IsOneOf s states → IsOneOf s (states_before place states)) → IsOneOf s (t ∷ states)
        → IsOneOf s (cond b (states_before place states) (t ∷ states))
    by true late rest (inl same) =
        let high : place < t.place = ltb-true place t.place late in
        let e : s.place ≡ t.place = ap (λ (k : State). k.place) same in
        absurd (let never : ⊥ = omega arith in never)
    by true late rest (inr there) = rest there
    by false early rest here = here

-- what is left after a fall stands no later than it
pub before_up_to : (place : ℕ) (states : List State) → (latest (states_before place states)).place ≤ place
before_up_to place [] = omega arith
before_up_to place (t ∷ states) = by (nat_lt place t.place) refl (before_up_to place states)
  where
    by : (b : Bool) → nat_lt place t.place ≡ b → (latest (states_before place states)).place ≤ place
        → (latest (cond b (states_before place states) (t ∷ states))).place ≤ place
    by true late rest = rest
    by false early rest = let up : t.place ≤ place = ltb-false place t.place early in up

-- the states after a place and the others are all
pub after_before : (place : ℕ) (states : List State) → states_after place states ++ states_before place states ≡ states
after_before place [] = refl
after_before place (t ∷ states) = by (nat_lt place t.place) (after_before place states)
  where
    by : (b : Bool) → states_after place states ++ states_before place states ≡ states
        → cond b (t ∷ states_after place states) [] ++ cond b (states_before place states) (t ∷ states) ≡ t ∷ states
    by true rest = ap (λ (r : List State). t ∷ r) rest
    by false rest = refl

-- the states before one are those after its place
pub given_after : (given : List State) (s : State) (states : List State) → Descend (given ++ s ∷ states)
    → states_after s.place (given ++ s ∷ states) ≡ given
given_after [] s states down = by (nat_lt s.place s.place) refl
  where
    by : (b : Bool) → nat_lt s.place s.place ≡ b → cond b (s ∷ states_after s.place states) [] ≡ []
    by true late = let high : s.place < s.place = ltb-true s.place s.place late in absurd (let never : ⊥ = omega arith in never)
    by false early = refl
given_after (t ∷ given) s states down =
    let late : s.place < t.place = one_of_all (λ k. k.place < t.place) s (given ++ s ∷ states) down.0
    (one_of_right s given (s ∷ states) (inl refl)) in
    ap (λ b. cond b (t ∷ states_after s.place (given ++ s ∷ states)) []) (lt-ltb s.place t.place late)
    ∙ ap (λ (r : List State). t ∷ r) (given_after given s states down.1)

-- what stands further down is earlier
pub further_down : (s t : State) (given states : List State) → Descend (given ++ states) → IsOneOf s given → IsOneOf t states → t.place < s.place
further_down s t [] states down above below = absurd above
further_down s t (u ∷ given) states down (inl same) below =
    let low : t.place < u.place = one_of_all (λ k. k.place < u.place) t (given ++ states) down.0 (one_of_right t given states below) in
    let e : s.place ≡ u.place = ap (λ (k : State). k.place) same in omega arith
further_down s t (u ∷ given) states down (inr above) below = further_down s t given states down.1 above below

-- where there is one, they are not none
one_of_some : (s : State) (states : List State) → IsOneOf s states → 0 < length states
one_of_some s [] one = absurd one
one_of_some s (t ∷ states) one = omega arith

-- where one of all states is not after a place, one of those that are left is not
pub some_left : (place : ℕ) (s : State) (given states : List State) → Descend (given ++ states) → 0 < length states
    → IsOneOf s (given ++ states) → s.place ≤ place → 0 < length (states_before place states)
some_left place s given [] down some one low = absurd (let never : ⊥ = omega arith in never)
some_left place s given (t ∷ states) down some one low = by (one_of_split s given (t ∷ states) one)
  where
    by : IsOneOf s given ⊎ IsOneOf s (t ∷ states) → 0 < length (states_before place (t ∷ states))
    by (inl above) =
        let less : t.place < s.place = further_down s t given (t ∷ states) down above (inl refl) in
        one_of_some t (states_before place (t ∷ states)) (kept_before place t (t ∷ states) (omega arith) (inl refl))
    by (inr here) = one_of_some s (states_before place (t ∷ states)) (kept_before place s (t ∷ states) low here)

-- the latest is one of them
pub latest_one : (states : List State) → 0 < length states → IsOneOf (latest states) states
latest_one [] some = absurd (let never : ⊥ = omega arith in never)
latest_one (s ∷ states) some = inl refl
