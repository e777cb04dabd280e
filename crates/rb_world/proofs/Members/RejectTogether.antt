-- A turn that ends in a cascade of rejections: the levels of each conversation stay, or are put back together, or go together.
use Rattle.std.proofs.Common.{◌≡◌, ◌≢◌, ◌⊎◌, inl, inr, ◌<◌, ◌≤◌, ℕ, suc, Bool, true, false, [], length, slice_get, Some, None, refl, sym, ap, ◌∙◌, subst, arith}
use Rattle.std.specs.List.{list_any}
use Rattle.std.proofs.lemmas.Bool.{cases_eq, cases_lt}
use Rattle.std.proofs.lemmas.Option.{slice_get_within}
use Rattle.rb_world.specs.Kind.{Kind}
use Rattle.rb_world.specs.World.{Level, Process, World, is_inside, is_of}
use Rattle.rb_world.specs.Reject.{Happened, next_alternate}
use Rattle.rb_world.specs.Turn.{undone}
use Rattle.rb_world.specs.Nested.{IsLevelOf}
use Rattle.rb_world.proofs.ListFacts.{some_same}
use Rattle.rb_world.proofs.Keeping.NestedSame.{same_number}
use Rattle.rb_world.proofs.Members.PlaceFacts.{inside_level}
use Rattle.rb_world.proofs.Members.Cascade.{AllBack, AllFallen, AllNested, Alone, AreBackAt, EndsIn, Ends, HaveFallen, IsBackAt, KeepsTalks, LeavesOthers}
use Rattle.rb_world.proofs.Members.Together.{AllGoBack, AllGoOut, AllStay, AreBack, Carries, IsBack, Keeps, Together, unused}
use Rattle.rb_world.proofs.Members.CountedTurns.{carries_same, keeps_on}
use Rattle.rb_world.proofs.Members.CascadeTogether.{Apart, KeepOuter, LeaveBoth, Where, Within, apart_stays, where_is, within_left}

-- a process that was put back to a level is inside no other conversation that was as far in
not_inside_at : {S C M : Type 0} (k : Kind S C M) (c e i j n : ℕ) (q now : Process S C) (own : IsLevelOf e q.levels j)
    → IsBackAt k j q own.level now → c ≢ e
    → j ≤ i → ((m : ℕ) → IsLevelOf c q.levels m → m ≡ i) → IsLevelOf c now.levels n → (n < j) ⊎ (j ≤ n) → ⊥
not_inside_at k c e i j n q now own back other within only at (inl below) =
    let same : n ≡ i = only n (record { level = at.level; there = sym (back.outer n below) ∙ at.there; of_it = at.of_it }) in omega arith
not_inside_at {S} {C} k c e i j n q now own back other within only at (inr beyond) =
    let inside : n < length now.levels = slice_get_within now.levels n at.level at.there in
    let here : n ≡ j = omega (arith, back.innermost) in
    let level : next_alternate own.level ≡ at.level = some_same (sym back.next ∙ (ap (slice_get now.levels) (sym here) ∙ at.there)) in
    other (some_same (sym at.of_it ∙ (ap (λ (l : Level C). l.facts.conversation) (sym level) ∙ own.of_it)))

not_inside : {S C M : Type 0} (k : Kind S C M) (c e i j : ℕ) (q now : Process S C) (own : IsLevelOf e q.levels j)
    → IsBackAt k j q own.level now → c ≢ e
    → j ≤ i → ((m : ℕ) → IsLevelOf c q.levels m → m ≡ i) → (inside : Bool) → is_inside c now ≡ inside → is_inside c now ≡ false
not_inside k c e i j q now own back other within only true is =
    let found : (n : ℕ) × IsLevelOf c now.levels n = inside_level c now.levels is in
    absurd (not_inside_at k c e i j found.0 q now own back other within only found.1 (cases_lt found.0 j))
not_inside k c e i j q now own back other within only false is = is

module _ {S C M : Type 0} (k : Kind S C M) (p : ℕ) (u : Process S C) (v : World S C M)
    (there : slice_get v.processes p ≡ Some u) (nested : AllNested k v) where
  -- who was put back, or has failed, keeps the levels further out
  back_outer : (e j : ℕ) (later : World S C M) → AreBackAt k e j v later → KeepOuter v e j later
  back_outer e j later back r q here own =
      let one : (now : Process S C) × (slice_get later.processes r ≡ Some now) × IsBackAt k j q own.level now = back r q here own in
      (one.0, one.1, one.2.outer)

  fallen_outer : (e j : ℕ) (later : World S C M) → j ≡ 0 → HaveFallen e j v later → KeepOuter v e j later
  fallen_outer e j later outermost fell r q here own =
      let one : (now : Process S C) × (slice_get later.processes r ≡ Some now) × (now.levels ≡ []) = fell r q here own in
      (one.0, one.1, λ i below. absurd (omega arith))

  -- and is not inside a conversation that was as far in
  back_leave : (c e j s i : ℕ) (x : Process S C) (later : World S C M) → AreBackAt k e j v later → c ≢ e
      → slice_get v.processes s ≡ Some x → IsLevelOf c x.levels i → j ≤ i → LeaveBoth v c e j later
  back_leave c e j s i x later back other here within as_far r q here' own =
      let one : (now : Process S C) × (slice_get later.processes r ≡ Some now) × IsBackAt k j q own.level now = back r q here' own in (
        one.0,
        one.1,
        not_inside k c e i j q one.0 own one.2 other as_far
            (λ m at. same_number k.groups q.levels x.levels (nested r q here') (nested s x here) c m i at within) (is_inside c one.0) refl,
      )

  fallen_leave : (c e j : ℕ) (later : World S C M) → HaveFallen e j v later → LeaveBoth v c e j later
  fallen_leave c e j later fell r q here own =
      let one : (now : Process S C) × (slice_get later.processes r ≡ Some now) × (now.levels ≡ []) = fell r q here own in
      (one.0, one.1, ap (list_any (is_of c)) one.2)

  -- those of the conversation itself are back at their levels
  all_back_at : (c e j : ℕ) (later : World S C M) → IsLevelOf e u.levels j → c ≡ e → AreBackAt k e j v later → AreBack k c v later
  all_back_at c e j later at same back r i q here own =
      let place : i ≡ j =
      same_number k.groups q.levels u.levels (nested r q here) (nested p u there) c i j own
      (subst (λ (d : ℕ). IsLevelOf d u.levels j) (sym same) at) in
      let level : IsLevelOf e q.levels j =
      record { level = own.level; there = ap (slice_get q.levels) (sym place) ∙ own.there; of_it = own.of_it ∙ ap Some same } in
      let one : (now : Process S C) × (slice_get later.processes r ≡ Some now) × IsBackAt k j q own.level now = back r q here level in (
        one.0,
        one.1,
        record {
          innermost = one.2.innermost ∙ ap suc (sym place);
          next = ap (slice_get one.0.levels) place ∙ one.2.next;
          left = one.2.left;
          state = one.2.state;
          away = one.2.away;
        },
      )

-- p was u in the world v in which the cascade began, and every level of the world w before that is a level there
module _ {S C M : Type 0} (k : Kind S C M) (c p : ℕ) (u : Process S C) (v w : World S C M)
    (there : slice_get v.processes p ≡ Some u) (nested : AllNested k v) (kept : Keeps c w v) where
  -- who is back at a level of the one is back at its level of the other
  back_before : (later : World S C M) → AreBack k c v later → AreBack k c w later
  back_before later back r i x here at =
      let before : (now : Process S C) × (slice_get v.processes r ≡ Some now) × Carries c x.levels now.levels = kept r x here in
      let own : (level : Level C) × (slice_get before.0.levels i ≡ Some level) × (unused level ≡ unused at.level) = before.2 i at in
      let one : (now : Process S C) × (slice_get later.processes r ≡ Some now) × IsBack k i own.0 now =
      back r i before.0 before.1 (record { level = own.0; there = own.1; of_it = ap (λ (l : Level C). l.facts.conversation) own.2 ∙ at.of_it }) in (
        one.0,
        one.1,
        record {
          innermost = one.2.innermost;
          next = one.2.next ∙ ap (λ (l : Level C). Some (next_alternate l)) own.2;
          left = one.2.left;
          state = one.2.state ∙ ap (λ (l : Level C). k.restore one.2.left l.copy) own.2;
          away = one.2.away;
        },
      )

  -- p alone was rejected
  alone_stays_at : (later : World S C M) → LeavesOthers p None v later → KeepsTalks {M = M} u p later
      → (r : ℕ) (x : Process S C) → slice_get v.processes r ≡ Some x → (r ≡ p) ⊎ (r ≡ p → ⊥)
      → (now : Process S C) × (slice_get later.processes r ≡ Some now) × Carries c x.levels now.levels
  alone_stays_at later others keeps r x here (inl same) =
      let own : u ≡ x = some_same (sym there ∙ (ap (slice_get v.processes) (sym same) ∙ here)) in (
        keeps.0,
        ap (slice_get later.processes) same ∙ keeps.1,
        subst (λ (y : Process S C). Carries c y.levels keeps.0.levels) own (λ i at. (at.level, keeps.2 i c at, refl)),
      )
  alone_stays_at later others keeps r x here (inr other) = (x, others r x here other tt, carries_same c x.levels)

  -- a conversation was put back, or has failed
  back_within : (e j r i : ℕ) (x : Process S C) (h : Happened S C M) → EndsIn e p h.1 → IsLevelOf e u.levels j → LeavesOthers p (Some e) v h.0
      → AreBackAt k e j v h.0 → length h.0.processes ≡ length v.processes
      → slice_get v.processes r ≡ Some x → IsLevelOf c x.levels i → IsLevelOf e x.levels j → j ≤ i
      → (c ≡ e) ⊎ (c ≡ e → ⊥) → Together k c p w (undone h)
  back_within e j r i x h events at others back size here own own' within (inl same) =
      AllGoBack (subst (λ (d : ℕ). EndsIn d p h.1) (sym same) events)
      (back_before h.0
      (all_back_at k p u v there nested c e j h.0 at same back))
  back_within e j r i x h events at others back size here own own' within (inr other) =
      AllGoOut e events
      (within_left k p u v there nested c e j r i x h.0 at others
      (back_leave k p u v there nested c e j r i x h.0 back other here own within)
      here own own' within size)

  back_together : (e j : ℕ) (h : Happened S C M) → EndsIn e p h.1 → IsLevelOf e u.levels j → LeavesOthers p (Some e) v h.0
      → AreBackAt k e j v h.0 → length h.0.processes ≡ length v.processes → Where c e j v → Together k c p w (undone h)
  back_together e j h events at others back size (Apart apart) =
      AllStay (keeps_on c w v h.0 kept
      (apart_stays k p u v there nested c e j h.0 at others
      (back_outer k p u v there nested e j h.0 back) apart))
  back_together e j h events at others back size (Within r i x here own own' within) =
      back_within e j r i x h events at others back size here own own' within (cases_eq c e)

  fallen_together : (e j : ℕ) (h : Happened S C M) → EndsIn e p h.1 → IsLevelOf e u.levels j → j ≡ 0 → LeavesOthers p (Some e) v h.0
      → HaveFallen e j v h.0 → length h.0.processes ≡ length v.processes → Where c e j v → Together k c p w (undone h)
  fallen_together e j h events at outermost others fell size (Apart apart) =
      AllStay (keeps_on c w v h.0 kept
      (apart_stays k p u v there nested c e j h.0 at others
      (fallen_outer k p u v there nested e j h.0 outermost fell) apart))
  fallen_together e j h events at outermost others fell size (Within r i x here own own' within) =
      AllGoOut e events
      (within_left k p u v there nested c e j r i x h.0 at others
      (fallen_leave k p u v there nested c e j h.0 fell) here own own' within size)

  -- what a cascade comes to
  pub reject_together : (h : Happened S C M) → length h.0.processes ≡ length v.processes → Ends k p u v None h
      → Together k c p w (undone h)
  reject_together h size (Alone none private others keeps) =
      AllStay (keeps_on c w v h.0 kept (λ r x here. alone_stays_at h.0 others keeps r x here (cases_eq r p)))
  reject_together h size (AllBack e j events at others back) =
      back_together e j h events at others back size
      (where_is k p u v there nested c e j at)
  reject_together h size (AllFallen e j events at outermost others fell) =
      fallen_together e j h events at outermost others fell size
      (where_is k p u v there nested c e j at)
