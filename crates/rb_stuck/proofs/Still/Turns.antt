-- A turn that is idle or waits comes to a world that is alike, tells nothing, and is such a turn in every world that is alike.
use Rattle.std.proofs.Common.{◌≡◌, ℕ, zero, suc, ◌+◌, Bool, true, false, List, [], ◌∷◌, ◌++◌, length, map, position, replicate, Option, Some, None, slice_get, refl, sym, ap, ap₂, ◌∙◌, subst}
use Rattle.std.specs.Option.{option_map}
use Rattle.std.proofs.lemmas.Option.{slice_get-map}
use Rattle.std.proofs.lemmas.List.{length-map}
use Rattle.std.specs.List.{AllByRecursion}
use Rattle.rb_base.specs.declared.event.Event.{Event}
use Rattle.rb_base.specs.declared.event.TurnKind.{TurnKind}
use Rattle.rb_world.specs.Kind.{Kind}
use Rattle.rb_world.specs.Turn.{Moved, Told, bounded, by_status, compared, done_at, error_at, finishes, freed, idles, is_over, lines_freed, move, moves, one_used, runs, state_freed, turn, turn_used, undone}
use Rattle.rb_world.specs.World.{Level, Process, ProcessStatus, Running, Finished, FailedWith, World, change_at, with_process}
use Rattle.rb_base.specs.declared.event.Cause.TheVariants.{Overrun}
use Rattle.rb_world.specs.Reject.{Happened, reject}
use Rattle.rb_world.proofs.ListFacts.{none_some, slice_get-change_other, some_same}
use Rattle.rb_stuck.specs.Alike.{IsAlike, all_uncounted, uncounted, unused}
use Rattle.rb_stuck.specs.Stuck.{TellsNothing, is_still}
use Rattle.rb_stuck.proofs.Still.Moves.{Same, at_rest, both_bounded}

abbrev pub alike_self : {S C M : Type 0} (w : World S C M) → IsAlike w w
alike_self w = record { processes = refl; talks = refl; memory = refl }

abbrev pub alike_back : {S C M : Type 0} {w v : World S C M} → IsAlike w v → IsAlike v w
alike_back alike = record { processes = sym alike.processes; talks = sym alike.talks; memory = sym alike.memory }

abbrev pub alike_then : {S C M : Type 0} {w v u : World S C M} → IsAlike w v → IsAlike v u → IsAlike w u
alike_then one other = record {
  processes = one.processes ∙ other.processes;
  talks = one.talks ∙ other.talks;
  memory = one.memory ∙ other.memory;
}

-- a turn of process p came to a world that is alike, in which all others are as they were, and told nothing so far
pub record Rests {S C M : Type 0} (p : ℕ) (w : World S C M) (moved : Moved S C M) : Type 0 where
  pub at : World S C M
  pub alike : IsAlike at w
  pub others : (r : ℕ) → (r ≡ p → ⊥) → slice_get at.processes r ≡ slice_get w.processes r
  pub is : moved ≡ at_rest at moved.kind

-- in its next turn no level of a process that runs is beyond its bound
abbrev pub CountsWithin : {S C M : Type 0} → ℕ → World S C M → Type 0
CountsWithin {S} {C} p w =
    (q : Process S C) → slice_get w.processes p ≡ Some q → q.status ≡ Running → position is_over (turn_used q).levels ≡ None

used_unseen : {C : Type 0} (ls : List (Level C)) → map unused (map one_used ls) ≡ map unused ls
used_unseen [] = refl
used_unseen {C} (l ∷ ls) = ap (λ (ms : List (Level C)). unused l ∷ ms) (used_unseen ls)

counted_unseen : {S C : Type 0} (q : Process S C) → uncounted (turn_used q) ≡ uncounted q
counted_unseen {S} {C} q =
    ap (λ (ls : List (Level C)). record { state = q.state; levels = ls; at_line = q.at_line; status = q.status }) (used_unseen q.levels)

put_unseen : {A B : Type 0} (f : A → B) (p : ℕ) (x y : A) (xs : List A) → slice_get xs p ≡ Some y → f x ≡ f y
    → map f (change_at p (λ _. x) xs) ≡ map f xs
put_unseen f p x y [] here same = refl
put_unseen {A} {B} f zero x y (z ∷ zs) here same = ap (λ (b : B). b ∷ map f zs) (same ∙ ap f (sym (some_same here)))
put_unseen {A} {B} f (suc p) x y (z ∷ zs) here same = ap (λ (bs : List B). f z ∷ bs) (put_unseen f p x y zs here same)

module _ {S C M : Type 0} (k : Kind S C M) (n m p : ℕ) where
  counted_alike : (q : Process S C) (w : World S C M) → slice_get w.processes p ≡ Some q
      → IsAlike (with_process p (λ _. turn_used q) w) w
  counted_alike q w here = record {
    processes = put_unseen uncounted p (turn_used q) q w.processes here (counted_unseen q);
    talks = refl;
    memory = refl;
  }

  -- if the one is still, both came to worlds that are alike, in turns of one kind
  abbrev BothStay : World S C M → World S C M → Moved S C M → Moved S C M → Type 0
  BothStay w v one other = is_still one.kind ≡ true → Rests p w one × Rests p v other × (other.kind ≡ one.kind)

  both_idle : (w v : World S C M) → BothStay w v (idles w) (idles v)
  both_idle w v still = (
    record { at = w; alike = alike_self w; others = λ r not_p. refl; is = refl },
    record { at = v; alike = alike_self v; others = λ r not_p. refl; is = refl },
    refl,
  )

  both_run : (q r : Process S C) (w v : World S C M) → IsAlike w v → uncounted q ≡ uncounted r → slice_get w.processes p ≡ Some q
      → slice_get v.processes p ≡ Some r → position is_over (turn_used r).levels ≡ None
      → BothStay w v (runs k n p (turn_used q) w) (runs k m p (turn_used r) v)
  both_run q r w v alike one here there within still =
      let w1 : World S C M = with_process p (λ _. turn_used q) w in
      let v1 : World S C M = with_process p (λ _. turn_used r) v in
      let one_alike : IsAlike w1 w = counted_alike q w here in
      let other_alike : IsAlike v1 v = counted_alike r v there in
      let same : Same (turn_used q) (turn_used r) w1 v1 = record {
        states = ap (λ (x : Process S C). x.state) one;
        levels = used_unseen q.levels ∙ ap (λ (x : Process S C). x.levels) one ∙ sym (used_unseen r.levels);
        lines = ap (λ (x : Process S C). x.at_line) one;
        worlds = alike_then one_alike (alike_then alike (alike_back other_alike));
      } in
      let over : Option ℕ = position is_over (turn_used q).levels in
      let both = both_bounded k n m p over (turn_used q) (turn_used r) w1 v1 same still in
      let kind : TurnKind = (bounded k n p (turn_used q) w1 over).kind in
      let other = subst (λ (o : Option ℕ). bounded k m p (turn_used r) v1 o ≡ at_rest v1 kind) (sym within) both.1 in
      let other_kind : (runs k m p (turn_used r) v).kind ≡ kind = ap (λ (moved : Moved S C M). moved.kind) other in (
        record { at = w1; alike = one_alike; others = slice_get-change_other p (λ _. turn_used q) w.processes; is = both.0 },
        record {
          at = v1;
          alike = other_alike;
          others = slice_get-change_other p (λ _. turn_used r) v.processes;
          is = other ∙ ap (at_rest v1) (sym other_kind);
        },
        other_kind,
      )

  by_statuses : (status status' : ProcessStatus) (q r : Process S C) (w v : World S C M) → status ≡ status' → IsAlike w v
      → uncounted q ≡ uncounted r → slice_get w.processes p ≡ Some q → slice_get v.processes p ≡ Some r
      → (status' ≡ Running → position is_over (turn_used r).levels ≡ None)
      → BothStay w v (by_status k n p q w status) (by_status k m p r v status')
  by_statuses Running Running q r w v e alike one here there within = both_run q r w v alike one here there (within refl)
  by_statuses Running Finished q r w v e alike one here there within = absurd (cc)
  by_statuses Running (FailedWith d) q r w v e alike one here there within = absurd (cc)
  by_statuses Finished Running q r w v e alike one here there within = absurd (cc)
  by_statuses Finished Finished q r w v e alike one here there within = both_idle w v
  by_statuses Finished (FailedWith d) q r w v e alike one here there within = absurd (cc)
  by_statuses (FailedWith c) Running q r w v e alike one here there within = absurd (cc)
  by_statuses (FailedWith c) Finished q r w v e alike one here there within = absurd (cc)
  by_statuses (FailedWith c) (FailedWith d) q r w v e alike one here there within = both_idle w v

  both_move_there : (o o' : Option (Process S C)) (w v : World S C M) → IsAlike w v → option_map uncounted o ≡ option_map uncounted o'
      → slice_get w.processes p ≡ o → slice_get v.processes p ≡ o' → CountsWithin p v → BothStay w v (moves k n p w o) (moves k m p v o')
  both_move_there None None w v alike one here there within = both_idle w v
  both_move_there None (Some r) w v alike one here there within = absurd (none_some one)
  both_move_there (Some q) None w v alike one here there within = absurd (none_some (sym one))
  both_move_there (Some q) (Some r) w v alike one here there within =
      by_statuses q.status r.status q r w v (ap (λ (x : Process S C). x.status) (some_same one)) alike (some_same one) here there (within r there)

  pub both_move : (w v : World S C M) → IsAlike w v → CountsWithin p v → is_still (move k n p w).kind ≡ true
      → Rests p w (move k n p w) × Rests p v (move k m p v) × ((move k m p v).kind ≡ (move k n p w).kind)
  both_move w v alike within =
      both_move_there (slice_get w.processes p) (slice_get v.processes p) w v alike
      (sym (slice_get-map uncounted w.processes p) ∙ ap (λ (qs : List (Process S C)). slice_get qs p) alike.processes
      ∙ slice_get-map uncounted v.processes p) refl refl within

-- Who has no level holds no line.
abbrev pub HoldsNone : {S C M : Type 0} → Kind S C M → Process S C → Type 0
HoldsNone k q = (lines_freed k q.state q.levels ≡ []) × (state_freed k q.state q.levels ≡ q.state)

abbrev pub AllFreed : {S C M : Type 0} → Kind S C M → List (Process S C) → Type 0
AllFreed k processes = AllByRecursion (HoldsNone k) processes

module _ {S C M : Type 0} (k : Kind S C M) where
  none_uncounted : (s : S) (ls : List (Level C)) → lines_freed k s (map unused ls) ≡ lines_freed k s ls
  none_uncounted s [] = refl
  none_uncounted s (l ∷ ls) = refl

  state_uncounted : (s : S) (ls : List (Level C)) → state_freed k s (map unused ls) ≡ state_freed k s ls
  state_uncounted s [] = refl
  state_uncounted s (l ∷ ls) = refl

  freed_uncounted : (qs : List (Process S C)) → AllFreed k qs → AllFreed k (all_uncounted qs)
  freed_uncounted [] all = tt
  freed_uncounted (q ∷ qs) all = (
    (none_uncounted q.state q.levels ∙ all.0.0, state_uncounted q.state q.levels ∙ all.0.1),
    freed_uncounted qs all.1,
  )

  freed_counted : (qs : List (Process S C)) → AllFreed k (all_uncounted qs) → AllFreed k qs
  freed_counted [] all = tt
  freed_counted (q ∷ qs) all = (
    (sym (none_uncounted q.state q.levels) ∙ all.0.0, sym (state_uncounted q.state q.levels) ∙ all.0.1),
    freed_counted qs all.1,
  )

  -- so it is in each world that is alike
  pub freed_alike : (w v : World S C M) → IsAlike w v → AllFreed k v.processes → AllFreed k w.processes
  freed_alike w v alike all =
      freed_counted w.processes (subst (AllFreed k) (sym alike.processes) (freed_uncounted v.processes all))

  all_same : (qs : List (Process S C)) → AllFreed k qs → map (freed k) qs ≡ qs
  all_same [] all = refl
  all_same (q ∷ qs) all =
      ap₂ (λ (s : S) (rs : List (Process S C)).
      record { state = s; levels = q.levels; at_line = q.at_line; status = q.status } ∷ rs) all.0.1 (all_same qs all.1)

  none_released : (qs : List (Process S C)) → AllFreed k qs → map (λ (q : Process S C). lines_freed k q.state q.levels) qs ≡ replicate (length qs) []
  none_released [] all = refl
  none_released (q ∷ qs) all =
      ap₂ (λ (lines : List (List ℕ)) (others : List (List (List ℕ))). lines ∷ others) all.0.0 (none_released qs all.1)

-- nobody fails or ends where all stand as before
no_error : (p : ℕ) (status : ProcessStatus) → error_at p status status ≡ []
no_error p Running = refl
no_error p Finished = refl
no_error p (FailedWith cause) = refl

none_done : (p : ℕ) (status : ProcessStatus) → done_at p status status ≡ []
none_done p Running = refl
none_done p Finished = refl
none_done p (FailedWith cause) = refl

module _ {S C : Type 0} (f : ℕ → ProcessStatus → ProcessStatus → List Event) where
  told_uncounted : (p : ℕ) (qs rs : List (Process S C)) → compared f p (all_uncounted qs) (all_uncounted rs) ≡ compared f p qs rs
  told_uncounted p [] rs = refl
  told_uncounted p (q ∷ qs) [] = refl
  told_uncounted p (q ∷ qs) (r ∷ rs) =
      ap (λ (events : List Event). f p q.status r.status ++ events) (told_uncounted (p + 1) qs rs)

  none_told : ((p : ℕ) (status : ProcessStatus) → f p status status ≡ []) → (p : ℕ) (qs : List (Process S C)) → compared f p qs qs ≡ []
  none_told none p [] = refl
  none_told none p (q ∷ qs) =
      ap (λ (events : List Event). events ++ compared f (p + 1) qs qs) (none p q.status) ∙ none_told none (p + 1) qs

  none_told_alike : ((p : ℕ) (status : ProcessStatus) → f p status status ≡ []) → (p : ℕ) (qs rs : List (Process S C))
      → all_uncounted qs ≡ all_uncounted rs → compared f p qs rs ≡ []
  none_told_alike none p qs rs alike =
      sym (told_uncounted p qs rs) ∙ ap (λ (all : List (Process S C)). compared f p (all_uncounted qs) all) (sym alike)
      ∙ told_uncounted p qs qs ∙ none_told none p qs

module _ {S C M : Type 0} (k : Kind S C M) where
  -- the end of a turn that is still
  pub finishes_still : (p : ℕ) (w : World S C M) (moved : Moved S C M) → AllFreed k w.processes → (rests : Rests p w moved)
      → finishes k w moved ≡ (rests.at, record { kind = moved.kind; events = []; released = replicate (length w.processes) [] })
  finishes_still p w moved free rests =
      let at : World S C M = rests.at in
      let still_free : AllFreed k at.processes = freed_alike k at w rests.alike free in
      let errors : List Event = compared error_at 0 w.processes at.processes in
      let ends : List Event = compared done_at 0 w.processes at.processes in
      let lines : List (List (List ℕ)) = map (λ (q : Process S C). lines_freed k q.state q.levels) at.processes in
      let as_many : length at.processes ≡ length w.processes =
      sym (length-map at.processes uncounted) ∙ ap length rests.alike.processes ∙ length-map w.processes uncounted in
      let no_errors : errors ≡ [] = none_told_alike error_at no_error 0 w.processes at.processes (sym rests.alike.processes) in
      let no_ends : ends ≡ [] = none_told_alike done_at none_done 0 w.processes at.processes (sym rests.alike.processes) in
      let no_lines : lines ≡ replicate (length w.processes) [] =
      none_released k at.processes still_free ∙ ap (λ n. replicate n []) as_many in
      ap (finishes k w) rests.is
      ∙ (λ i. (
        record at { processes = all_same k at.processes still_free i },
        record { kind = moved.kind; events = ap₂ (λ (a b : List Event). a ++ b) no_errors no_ends i; released = no_lines i },
      ))

-- a turn that is still was not undone for a bound
still_over : {S C M : Type 0} (k : Kind S C M) (n p : ℕ) (q : Process S C) (w : World S C M) (over : Option ℕ)
    → is_still (bounded k n p q w over).kind ≡ true → over ≡ None
still_over k n p q w None still = refl
still_over k n p q w (Some j) still = absurd (undone_moves (reject k p (j + 1) Overrun w) still)
  where
    undone_moves : {S C M : Type 0} (happened : Happened S C M) → is_still (undone happened).kind ≡ true → ⊥
    undone_moves (after, events) e = cc

still_moves : {S C M : Type 0} (k : Kind S C M) (n p : ℕ) (q : Process S C) (w : World S C M) (status : ProcessStatus) → status ≡ Running
    → is_still (by_status k n p q w status).kind ≡ true → position is_over (turn_used q).levels ≡ None
still_moves {S} {C} {M} k n p q w Running e still =
    still_over k n p (turn_used q) (with_process p (λ _. turn_used q) w) (position is_over (turn_used q).levels) still
still_moves k n p q w Finished e still = absurd (cc)
still_moves k n p q w (FailedWith cause) e still = absurd (cc)

still_counts : {S C M : Type 0} (k : Kind S C M) (n p : ℕ) (w : World S C M) → is_still (move k n p w).kind ≡ true → CountsWithin p w
still_counts {S} {C} {M} k n p w still q here runs =
    still_moves k n p q w q.status runs
    (subst (λ (o : Option (Process S C)). is_still (moves k n p w o).kind ≡ true) here still)

-- a process that is the same in both worlds counts within its bounds in both
counts_same : {S C M : Type 0} (p : ℕ) (w v : World S C M) → slice_get w.processes p ≡ slice_get v.processes p → CountsWithin p w → CountsWithin p v
counts_same p w v same within q there = within q (same ∙ there)

-- so its turn is still in both or in neither
pub as_still : {S C M : Type 0} (k : Kind S C M) (n m p : ℕ) (w v : World S C M) → IsAlike w v → slice_get w.processes p ≡ slice_get v.processes p
    → is_still (turn k n p w).1.kind ≡ is_still (turn k m p v).1.kind
as_still k n m p w v alike same =
    by (is_still (move k n p w).kind) (is_still (move k m p v).kind)
    (λ still. ap is_still (both_move k n m p w v alike (counts_same p w v same (still_counts k n p w still)) still).2 ∙ still)
    (λ still. ap is_still (both_move k m n p v w (alike_back alike) (counts_same p v w (sym same) (still_counts k m p v still)) still).2 ∙ still)
  where
    by : (a b : Bool) → (a ≡ true → b ≡ true) → (b ≡ true → a ≡ true) → a ≡ b
    by true b forth back = sym (forth refl)
    by false true forth back = back refl
    by false false forth back = refl

-- A turn that is still: it is of the same kind in each world that is alike, if no level is beyond its bound there; it tells nothing, and
-- comes to a world that is alike, in which all others are as they were.
pub record StaysStill {S C M : Type 0} (k : Kind S C M) (n m p : ℕ) (w v : World S C M) : Type 0 where
  pub same_kind : (turn k m p v).1.kind ≡ (turn k n p w).1.kind
  pub tells : TellsNothing (length v.processes) (turn k m p v).1
  pub alike : IsAlike (turn k m p v).0 v
  pub others : (r : ℕ) → (r ≡ p → ⊥) → slice_get (turn k m p v).0.processes r ≡ slice_get v.processes r

pub stays_still : {S C M : Type 0} (k : Kind S C M) (n m p : ℕ) (w v : World S C M) → IsAlike w v → AllFreed k v.processes → CountsWithin p v
    → is_still (turn k n p w).1.kind ≡ true → StaysStill k n m p w v
stays_still {S} {C} {M} k n m p w v alike free within still =
    let both = both_move k n m p w v alike within still in
    let comes = finishes_still k p v (move k m p v) free both.1 in
    record {
      same_kind = both.2;
      tells = ap (λ (end : World S C M × Told). end.1) comes;
      alike = subst (λ (end : World S C M × Told). IsAlike end.0 v) (sym comes) both.1.alike;
      others = λ r not_p. ap (λ (end : World S C M × Told). slice_get end.0.processes r) comes ∙ both.1.others r not_p;
    }

-- a turn that is still, by itself
pub still_stays : {S C M : Type 0} (k : Kind S C M) (m p : ℕ) (v : World S C M) → AllFreed k v.processes → is_still (turn k m p v).1.kind ≡ true
    → StaysStill k m m p v v
still_stays k m p v free still = stays_still k m m p v v (alike_self v) free (still_counts k m p v still) still
