-- Conversations stay at an alternate that their blocks have where some of them return to the first.
use Rattle.std.proofs.Common.{◌≡◌, ◌≤◌, ◌+◌, ℕ, zero, suc, Bool, true, false, cond, List, [], ◌∷◌, length, slice_get, Some, subst, refl, arith}
use Rattle.rb_world.specs.Kind.{Membership}
use Rattle.rb_world.specs.World.{Talk, change_at}
use Rattle.rb_world.specs.Reject.{broken_talk, first_again, is_below, reset_below, reset_from}
use Rattle.rb_world.specs.Turn.{opening_talks}
use Rattle.rb_world.specs.Standing.{Each}
use Rattle.rb_world.proofs.ListFacts.{Each-change_at, none_some, some_same}
use Rattle.rb_recovery.specs.Known.{IsTalked}

-- one of those that may return to the first alternate
reset_one : (P : ℕ → Talk → Type 0) (n : ℕ) (talk : Talk) (below : Bool) → P n talk → P n (first_again talk)
    → P n (cond below (first_again talk) talk)
reset_one P n talk true holds again = again
reset_one P n talk false holds again = holds

-- what holds of each, and of each at the first alternate, holds once some have returned to it
Each-reset_from : (P : ℕ → Talk → Type 0) (below : ℕ → Bool) (d : ℕ) (talks : List Talk) → Each P talks
    → ((n : ℕ) (talk : Talk) → P n (first_again talk)) → Each P (reset_from below d talks)
Each-reset_from P below d [] each again r talk e = absurd (none_some e)
Each-reset_from P below d (one ∷ talks) each again zero talk e =
    subst (P zero) (some_same e) (reset_one P zero one (below d) (each zero one refl) (again zero one))
Each-reset_from P below d (one ∷ talks) each again (suc r) talk e =
    Each-reset_from (λ n. P (suc n)) below (d + 1) talks (λ n. each (suc n)) (λ n. again (suc n)) r talk e

-- each conversation at the opening
Each-opening : (P : ℕ → Talk → Type 0) (groups : List Membership) → ((n : ℕ) → P n (record { alternate = 1; is_broken = false }))
    → Each P (opening_talks groups)
Each-opening P [] first r talk e = absurd (none_some e)
Each-opening P (group ∷ groups) first zero talk e = subst (P zero) (some_same e) (first zero)
Each-opening P (group ∷ groups) first (suc r) talk e = Each-opening (λ n. P (suc n)) groups (λ n. first (suc n)) r talk e

-- of each conversation that is counted there is an alternate
module _ (counts : List ℕ) (some : (d n : ℕ) → slice_get counts d ≡ Some n → 1 ≤ n) where
  first_talked : (d : ℕ) (broken : Bool) → IsTalked counts d (record { alternate = 1; is_broken = broken })
  first_talked d broken n e = (omega arith, some d n e)

  pub again_talked : (c : ℕ) (talks : List Talk) → Each (IsTalked counts) talks → Each (IsTalked counts) (change_at c first_again talks)
  again_talked c talks talked = Each-change_at (IsTalked counts) c first_again talks talked (λ talk _. first_talked c talk.is_broken)

  pub broken_talked : (c : ℕ) (talks : List Talk) → Each (IsTalked counts) talks → Each (IsTalked counts) (change_at c broken_talk talks)
  broken_talked c talks talked = Each-change_at (IsTalked counts) c broken_talk talks talked (λ talk _. first_talked c true)

  pub reset_talked : (groups : List Membership) (c : ℕ) (talks : List Talk) → Each (IsTalked counts) talks
      → Each (IsTalked counts) (reset_below groups c talks)
  reset_talked groups c talks talked =
      Each-reset_from (IsTalked counts) (is_below groups (length groups) c) 0 talks talked (λ d talk. first_talked d talk.is_broken)

  pub opening_talked : (groups : List Membership) → Each (IsTalked counts) (opening_talks groups)
  opening_talked groups = Each-opening (IsTalked counts) groups (λ d. first_talked d false)
