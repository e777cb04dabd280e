-- What becomes of the levels of a conversation in a cascade of rejections: of all that are inside at once.
use Rattle.std.proofs.Common.{◌≡◌, ◌≢◌, ◌⊎◌, inl, inr, ◌<◌, ◌≤◌, ℕ, Bool, true, false, length, slice_get, Some, refl, sym, ap, ◌∙◌, subst, true≢false, arith}
use Rattle.std.specs.List.{list_any}
use Rattle.std.proofs.lemmas.Bool.{cases_lt}
use Rattle.std.proofs.lemmas.Option.{slice_get_within}
use Rattle.rb_world.specs.Kind.{Kind}
use Rattle.rb_world.specs.World.{Process, World, is_inside}
use Rattle.rb_world.specs.Nested.{IsLevelOf}
use Rattle.rb_world.specs.Together.{IsEmpty}
use Rattle.rb_world.proofs.ListFacts.{some_same, slice_get-there}
use Rattle.rb_world.proofs.Keeping.NestedSame.{same_number}
use Rattle.rb_world.proofs.LevelFacts.{any_level}
use Rattle.rb_world.proofs.Members.PlaceFacts.{PassesAt, any_found, any_none, inside_level, same_around}
use Rattle.rb_world.proofs.Members.Cascade.{AllNested, LeavesOthers}
use Rattle.rb_world.proofs.Members.Together.{Carries, Keeps}
use Rattle.rb_world.proofs.Members.CountedTurns.{carries_same}

-- Where the levels of conversation c stand, and the levels number j of conversation e: in each process with both, that of c is
-- further out; or one has both, and that of c is as far in.
pub data Where {S C M : Type 0} (c e j : ℕ) (v : World S C M) : Type 0 where
  Apart : ((r i : ℕ) (q : Process S C) → slice_get v.processes r ≡ Some q → IsLevelOf c q.levels i → IsLevelOf e q.levels j → i < j) → Where c e j v
  Within : (r i : ℕ) (q : Process S C) → slice_get v.processes r ≡ Some q → IsLevelOf c q.levels i → IsLevelOf e q.levels j → j ≤ i → Where c e j v

-- who is inside e keeps the levels further out
abbrev pub KeepOuter : {S C M : Type 0} → World S C M → ℕ → ℕ → World S C M → Type 0
KeepOuter {S} {C} {M} v e j later = (r : ℕ) (q : Process S C) → slice_get v.processes r ≡ Some q → IsLevelOf e q.levels j
    → (now : Process S C) × (slice_get later.processes r ≡ Some now) × ((i : ℕ) → i < j → slice_get now.levels i ≡ slice_get q.levels i)

-- who is inside e is not inside c any more
abbrev pub LeaveBoth : {S C M : Type 0} → World S C M → ℕ → ℕ → ℕ → World S C M → Type 0
LeaveBoth {S} {C} {M} v c e j later = (r : ℕ) (q : Process S C) → slice_get v.processes r ≡ Some q → IsLevelOf e q.levels j
    → (now : Process S C) × (slice_get later.processes r ≡ Some now) × (is_inside c now ≡ false)

module _ {S C M : Type 0} (k : Kind S C M) (p : ℕ) (u : Process S C) (v : World S C M)
    (there : slice_get v.processes p ≡ Some u) (nested : AllNested k v) where
  -- somebody is inside c, or nobody is
  where_one : (c e j r i : ℕ) (q : Process S C) → IsLevelOf e u.levels j → slice_get v.processes r ≡ Some q → IsLevelOf c q.levels i
      → (i < j) ⊎ (j ≤ i) → (inside : Bool) → is_inside e q ≡ inside → Where c e j v
  where_one c e j r i q at here own (inl below) inside is =
      Apart (λ s i' x e' own' at'. let same : i' ≡ i =
      same_number k.groups x.levels q.levels (nested s x e') (nested r q here) c i' i own' own in omega arith)
  where_one c e j r i q at here own (inr within) true is =
      let found : (n : ℕ) × IsLevelOf e q.levels n = inside_level e q.levels is in
      Within r i q here own
      (subst (IsLevelOf e q.levels)
      (same_number k.groups q.levels u.levels (nested r q here) (nested p u there) e found.0 j found.1 at) found.1) within
  where_one c e j r i q at here own (inr within) false is =
      Apart (λ s i' x e' own' at'.
      let same : i' ≡ i = same_number k.groups x.levels q.levels (nested s x e') (nested r q here) c i' i own' own in
      let around : IsLevelOf e q.levels j =
      same_around k.groups x.levels q.levels (nested s x e') (nested r q here) i j c e (subst (IsLevelOf c x.levels) same own') own at' within in
      absurd (true≢false (sym (any_level e j q.levels around) ∙ is)))

  where_any : (c e j : ℕ) → IsLevelOf e u.levels j → (any : Bool) → list_any (is_inside c) v.processes ≡ any → Where c e j v
  where_any c e j at true is =
      let one : PassesAt (is_inside c) v.processes = any_found (is_inside c) v.processes is in
      let own : (i : ℕ) × IsLevelOf c one.found.levels i = inside_level c one.found.levels one.passes in
      where_one c e j one.at own.0 one.found at one.there own.1 (cases_lt own.0 j) (is_inside e one.found) refl
  where_any c e j at false is =
      Apart (λ r i q here own at'. absurd (true≢false (sym (any_level c i q.levels own) ∙ any_none (is_inside c) v.processes r q is here)))

  -- one of the two holds
  pub where_is : (c e j : ℕ) → IsLevelOf e u.levels j → Where c e j v
  where_is c e j at = where_any c e j at (list_any (is_inside c) v.processes) refl

  -- p is inside the conversation of its level
  not_p : (e j r : ℕ) (q : Process S C) → IsLevelOf e u.levels j → slice_get v.processes r ≡ Some q → is_inside e q ≡ false → r ≢ p
  not_p e j r q at here outside same =
      let own : u ≡ q = some_same (sym there ∙ (ap (slice_get v.processes) (sym same) ∙ here)) in
      true≢false (sym (any_level e j u.levels at) ∙ (ap (is_inside e) own ∙ outside))

  -- the level of e that is at its place
  at_place_of : (e j r : ℕ) (q : Process S C) → IsLevelOf e u.levels j → slice_get v.processes r ≡ Some q
      → is_inside e q ≡ true → IsLevelOf e q.levels j
  at_place_of e j r q at here inside =
      let found : (n : ℕ) × IsLevelOf e q.levels n = inside_level e q.levels inside in
      subst (IsLevelOf e q.levels) (same_number k.groups q.levels u.levels (nested r q here) (nested p u there) e found.0 j found.1 at) found.1

  -- the levels of c are kept where none is as far in
  apart_stays_at : (c e j r : ℕ) (q : Process S C) (later : World S C M) → IsLevelOf e u.levels j
      → LeavesOthers p (Some e) v later → KeepOuter v e j later
      → ((r i : ℕ) (q : Process S C) → slice_get v.processes r ≡ Some q → IsLevelOf c q.levels i → IsLevelOf e q.levels j → i < j)
      → slice_get v.processes r ≡ Some q → (inside : Bool) → is_inside e q ≡ inside
      → (now : Process S C) × (slice_get later.processes r ≡ Some now) × Carries c q.levels now.levels
  apart_stays_at c e j r q later at others outer apart here true is =
      let own : IsLevelOf e q.levels j = at_place_of e j r q at here is in
      let kept : (now : Process S C) × (slice_get later.processes r ≡ Some now)
      × ((i : ℕ) → i < j → slice_get now.levels i ≡ slice_get q.levels i) =
      outer r q here own in
      (kept.0, kept.1, λ i one. (one.level, kept.2 i (apart r i q here one own) ∙ one.there, refl))
  apart_stays_at c e j r q later at others outer apart here false is =
      (q, others r q here (not_p e j r q at here is) is, carries_same c q.levels)

  -- so they are kept of all
  pub apart_stays : (c e j : ℕ) (later : World S C M) → IsLevelOf e u.levels j → LeavesOthers p (Some e) v later → KeepOuter v e j later
      → ((r i : ℕ) (q : Process S C) → slice_get v.processes r ≡ Some q → IsLevelOf c q.levels i → IsLevelOf e q.levels j → i < j) → Keeps c v later
  apart_stays c e j later at others outer apart r q here =
      apart_stays_at c e j r q later at others outer apart here (is_inside e q) refl

  -- who is outside e is outside c, where one is inside both
  outside_both : (c e j r i : ℕ) (q : Process S C) → slice_get v.processes r ≡ Some q → IsLevelOf c q.levels i → IsLevelOf e q.levels j → j ≤ i
      → (s : ℕ) (x : Process S C) → slice_get v.processes s ≡ Some x → is_inside e x ≡ false → (inside : Bool)
      → is_inside c x ≡ inside → is_inside c x ≡ false
  outside_both c e j r i q here own at within s x there' outside true is =
      let found : (n : ℕ) × IsLevelOf c x.levels n = inside_level c x.levels is in
      let same : found.0 ≡ i = same_number k.groups x.levels q.levels (nested s x there') (nested r q here) c found.0 i found.1 own in
      let around : IsLevelOf e x.levels j =
      same_around k.groups q.levels x.levels (nested r q here) (nested s x there') i j c e own
      (subst (IsLevelOf c x.levels) same found.1) at within in
      absurd (true≢false (sym (any_level e j x.levels around) ∙ outside))
  outside_both c e j r i q here own at within s x there' outside false is = is

  -- nobody is inside c any more, if nobody is who was inside e
  left_at : (c e j r i : ℕ) (q : Process S C) (later : World S C M) → IsLevelOf e u.levels j
      → LeavesOthers p (Some e) v later → LeaveBoth v c e j later
      → slice_get v.processes r ≡ Some q → IsLevelOf c q.levels i → IsLevelOf e q.levels j → j ≤ i
      → (s : ℕ) (x y : Process S C) → slice_get v.processes s ≡ Some x → slice_get later.processes s ≡ Some y
      → (inside : Bool) → is_inside e x ≡ inside
      → is_inside c y ≡ false
  left_at c e j r i q later at others leave here own own' within s x y before after true is =
      let left : (now : Process S C) × (slice_get later.processes s ≡ Some now) × (is_inside c now ≡ false) =
      leave s x before (at_place_of e j s x at before is) in
      ap (is_inside c) (some_same (sym after ∙ left.1)) ∙ left.2
  left_at c e j r i q later at others leave here own own' within s x y before after false is =
      ap (is_inside c) (some_same (sym after ∙ others s x before (not_p e j s x at before is) is))
      ∙ outside_both c e j r i q here own own' within s x before is (is_inside c x) refl

  -- the same of all that are in the world after it
  pub within_left : (c e j r i : ℕ) (q : Process S C) (later : World S C M) → IsLevelOf e u.levels j
      → LeavesOthers p (Some e) v later → LeaveBoth v c e j later
      → slice_get v.processes r ≡ Some q → IsLevelOf c q.levels i → IsLevelOf e q.levels j → j ≤ i
      → length later.processes ≡ length v.processes → IsEmpty c later
  within_left c e j r i q later at others leave here own own' within size s y after =
      let below : s < length later.processes = slice_get_within later.processes s y after in
      let before : (x : Process S C) × (slice_get v.processes s ≡ Some x) = slice_get-there v.processes s (omega arith) in
      left_at c e j r i q later at others leave here own own' within s before.0 y before.1 after (is_inside e before.0) refl
