-- The drops of a fall, one by one: each is forced, and all together they leave what the fall does.
use Rattle.std.proofs.Common.{◌≡◌, ◌≢◌, ℕ, ◌<◌, Bool, true, false, nat_lt, cond, List, [], ◌∷◌, ◌++◌, length, map, drop, slice_set, refl, ap, ◌∙◌, sym, subst, arith, length-set}
use Rattle.std.proofs.lemmas.Bool.{ltb-true}
use Rattle.std.proofs.lemmas.List.{set-get_or, set-set}
use Rattle.rb_domino.specs.declared.analysis.Dropped.{Dropped}
use Rattle.rb_domino.specs.declared.state.State.{State}
use Rattle.rb_domino.specs.declared.state.Fall.{Fall}
use Rattle.rb_domino.specs.History.{Story}
use Rattle.rb_domino.specs.Recovery.{drops_of, latest, left_after, left_to, stands, states_after, states_before}
use Rattle.rb_domino.specs.RecoveryLine.{AreForced, Forces, without_latest}
use Rattle.rb_domino.proofs.Falling.{list_same, stands_else}
use Rattle.rb_domino.proofs.GivenUp.{dropped_in}

-- what drops leave
abbrev pub given_up : List Dropped → List (List State) → List (List State)
given_up [] left = left
given_up (d ∷ drops) left = given_up drops (without_latest d.process left)

-- some drops and then others
pub given_both : (first then : List Dropped) (left : List (List State)) → given_up (first ++ then) left ≡ given_up then (given_up first left)
given_both [] then left = refl
given_both (d ∷ first) then left = given_both first then (without_latest d.process left)

pub forced_both : (story : Story) (first then : List Dropped) (left : List (List State)) → AreForced story left first
    → AreForced story (given_up first left) then → AreForced story left (first ++ then)
forced_both story [] then left a b = b
forced_both story (d ∷ first) then left a b = (a.0, a.1, forced_both story first then (without_latest d.process left) a.2 b)

-- what is left to a process that has given up its latest state
next_left : (left : List (List State)) (q : ℕ) (s : State) (states : List State) → q < length left → left_to left q ≡ s ∷ states
    → left_to (without_latest q left) q ≡ states
next_left left q s states known is = list_same left q (drop 1 (left_to left q)) known ∙ ap (drop 1) is

next_counted : (left : List (List State)) (q : ℕ) → length (without_latest q left) ≡ length left
next_counted left q = length-set left q (drop 1 (left_to left q))

-- the drops of a fall leave what it does
gives_fall : (fall : Fall) (states : List State) (left : List (List State)) → fall.process < length left → left_to left fall.process ≡ states
    → given_up (map (dropped_in fall) (states_after fall.after states)) left ≡ slice_set left fall.process (states_before fall.after states)
gives_fall fall [] left known is = sym (ap (slice_set left fall.process) (sym is) ∙ set-get_or left fall.process [])
gives_fall fall (s ∷ states) left known is =
    by (nat_lt fall.after s.place)
    (gives_fall fall states (without_latest fall.process left) (omega (arith, next_counted left fall.process))
    (next_left left fall.process s states known is))
  where
    by : (b : Bool)
        → given_up (map (dropped_in fall) (states_after fall.after states)) (without_latest fall.process left)
        ≡ slice_set (without_latest fall.process left) fall.process (states_before fall.after states)
        → given_up (map (dropped_in fall) (cond b (s ∷ states_after fall.after states) [])) left
        ≡ slice_set left fall.process (cond b (states_before fall.after states) (s ∷ states))
    by true rest = rest ∙ set-set left fall.process (drop 1 (left_to left fall.process)) (states_before fall.after states)
    by false rest = sym (ap (slice_set left fall.process) (sym is) ∙ set-get_or left fall.process [])

pub given_fall : (fall : Fall) (left : List (List State)) → fall.process < length left → given_up (drops_of fall left) left ≡ left_after fall left
given_fall fall left known = gives_fall fall (left_to left fall.process) left known refl

-- what forces a state after the fall's place, wherever the process stands and the others as they stood first
abbrev pub ForcesEach : Story → Fall → List (List State) → Type 0
ForcesEach story fall first =
    (left : List (List State)) (s : State) → ((p : ℕ) → p ≢ fall.process → stands left p ≡ stands first p)
    → fall.after < s.place → Forces story left fall.process s fall.message

forces_fall : (story : Story) (fall : Fall) (first : List (List State)) → ForcesEach story fall first
    → (states : List State) (left : List (List State)) → fall.process < length left → left_to left fall.process ≡ states
    → ((p : ℕ) → p ≢ fall.process → stands left p ≡ stands first p)
    → AreForced story left (map (dropped_in fall) (states_after fall.after states))
forces_fall story fall first forces [] left known is same = tt
forces_fall story fall first forces (s ∷ states) left known is same =
    by (nat_lt fall.after s.place) refl
    (forces_fall story fall first forces states (without_latest fall.process left) (omega (arith, next_counted left fall.process))
    (next_left left fall.process s states known is)
    (λ p apart. stands_else left fall.process p (drop 1 (left_to left fall.process)) apart ∙ same p apart))
  where
    by : (b : Bool) → nat_lt fall.after s.place ≡ b
        → AreForced story (without_latest fall.process left) (map (dropped_in fall) (states_after fall.after states))
        → AreForced story left (map (dropped_in fall) (cond b (s ∷ states_after fall.after states) []))
    by true late rest =
        let here : stands left fall.process ≡ s = ap latest is in (
          ap (λ (k : State). k.number) here,
          subst (λ (k : State). Forces story left fall.process k fall.message) (sym here) (forces left s same (ltb-true fall.after s.place late)),
          rest,
        )
    by false early rest = tt

pub forced_fall : (story : Story) (fall : Fall) (left : List (List State)) → fall.process < length left → ForcesEach story fall left
    → AreForced story left (drops_of fall left)
forced_fall story fall left known forces = forces_fall story fall left forces (left_to left fall.process) left known refl (λ p apart. refl)
