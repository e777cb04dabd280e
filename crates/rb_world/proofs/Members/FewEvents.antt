-- A turn makes at most 32 rejections, and tells at most one event more of each process: a cascade rejects each open level at most
-- once, a pass comes only without a rejection, and a process is told as failed or as done, but not as both.
use Rattle.std.proofs.Common.{◌≡◌, ◌≤◌, ℕ, ◌+◌, zero, suc, Bool, true, false, cond, List, [], ◌∷◌, ◌++◌, length, slice_get, Option, Some, None, refl, sym, ap, ◌∙◌, nat_lt, append-nil, arith, length-append}
use Rattle.std.specs.List.{filter}
use Rattle.std.proofs.lemmas.List.{length-map}
use Rattle.rb_base.specs.declared.event.Cause.{Cause}
use Rattle.rb_base.specs.declared.event.Cause.TheVariants.{Inner}
use Rattle.rb_base.specs.declared.event.Event.{Event}
use Rattle.rb_base.specs.declared.event.Event.TheVariants.{Error, Done}
use Rattle.rb_world.specs.Kind.{Kind}
use Rattle.rb_world.specs.World.{Level, ProcessStatus, Running, Finished, FailedWith, Process, World, process_levels}
use Rattle.rb_world.specs.Reject.{Happened, all_back, exhausted_next, parent_of, private_next, put_back, reject, reject_at, reject_either, together_next}
use Rattle.rb_world.specs.World.{with_process}
use Rattle.rb_world.specs.Turn.{Moved, compared, done_at, error_at, most_levels, move, one_used, told, turn, turn_used}
use Rattle.rb_world.specs.Standing.{Each, IsShallow}
use Rattle.rb_world.proofs.TurnFacts.{RunsAt}
use Rattle.rb_world.proofs.Members.Outcomes.{Outcomes, move-comes}

module _ {S C M : Type 0} (k : Kind S C M) where
  -- what follows a rejection tells at most so many events
  abbrev AtMost : ℕ → (World S C M → Happened S C M) → Type 0
  AtMost n outer = (w : World S C M) → length (outer w).1 ≤ n

  private_next-few : (p j n : ℕ) (w : World S C M) (outer : World S C M → Happened S C M) → AtMost n outer → (more : Bool)
      → length (private_next more p j w outer).1 ≤ n
  private_next-few p j n w outer few true = omega arith
  private_next-few p j n w outer few false = few w

  exhausted_next-few : (parent : Option ℕ) (c n : ℕ) (w : World S C M) (outer : World S C M → Happened S C M) → AtMost n outer
      → length (exhausted_next k parent c w outer).1 ≤ n
  exhausted_next-few None c n w outer few = omega arith
  exhausted_next-few (Some parent) c n w outer few = few _

  together_next-few : (c n : ℕ) (w : World S C M) (outer : World S C M → Happened S C M) → AtMost n outer → (more : Bool)
      → length (together_next k more c w outer).1 ≤ n
  together_next-few c n w outer few true = omega arith
  together_next-few c n w outer few false = exhausted_next-few (parent_of (slice_get k.groups c)) c n w outer few

  reject_either-few : (p j n : ℕ) (cause : Cause) (level : Level C) (w : World S C M) (outer : World S C M → Happened S C M) → AtMost n outer
      → (conversation : Option ℕ) → length (reject_either k p j cause level conversation w outer).1 ≤ suc n
  reject_either-few p j n cause level w outer few None =
      omega (arith, private_next-few p j n (with_process p (put_back k j) w) outer few (nat_lt level.alternate level.facts.alternates))
  reject_either-few p j n cause level w outer few (Some c) =
      omega (arith, together_next-few c n (all_back k c w) outer few (nat_lt level.alternate level.facts.alternates))

  reject_at-few : (p j n : ℕ) (cause : Cause) (w : World S C M) (outer : World S C M → Happened S C M) → AtMost n outer
      → (level : Option (Level C)) → length (reject_at k p j cause level w outer).1 ≤ suc n
  reject_at-few p j n cause w outer few None = omega arith
  reject_at-few p j n cause w outer few (Some level) = reject_either-few p j n cause level w outer few level.facts.conversation

  -- a cascade over n levels rejects at most n times
  pub reject-few : (p n : ℕ) (cause : Cause) (w : World S C M) → length (reject k p n cause w).1 ≤ n
  reject-few p zero cause w = omega arith
  reject-few p (suc j) cause w =
      reject_at-few p j j cause w (λ outer. reject k p j Inner outer) (λ v. reject-few p j Inner v) (slice_get (process_levels w p) j)

  -- what a turn came to tells at most so many rejections and passes
  abbrev pub IsFew : Moved S C M → Type 0
  IsFew moved = length moved.rejections + length moved.passes ≤ most_levels

  shallow_used : (p : ℕ) (q : Process S C) (w : World S C M) → Each IsShallow w.processes → RunsAt p q w → length (turn_used q).levels ≤ most_levels
  shallow_used p q w shallow runs = omega (arith, shallow p q runs.there, length-map q.levels one_used)

  few_outcomes : (p : ℕ) (w : World S C M) → Each IsShallow w.processes → Outcomes k p w IsFew
  few_outcomes p w shallow = record {
    idle = omega arith;
    rested = λ q runs. omega arith;
    waited = λ q runs. omega arith;
    went = λ q s m runs. omega arith;
    entered = λ q facts alternate s m runs. omega arith;
    accepts = λ q level s m runs last alone. omega arith;
    stands = λ q s m runs. omega arith;
    passes = λ q level c alternate s m runs last of_c all. omega arith;
    barred = λ q facts c talk runs away wants of_c at broken. omega arith;
    rejects = λ q n cause runs within none.
        omega (arith, reject-few p n cause (with_process p (λ _. turn_used q) w), shallow_used p q w shallow runs);
  }

  move-few : (t p : ℕ) (w : World S C M) → Each IsShallow w.processes → IsFew (move k t p w)
  move-few t p w shallow = move-comes (few_outcomes p w shallow) t

-- of one process an error is told, or that it is done, or nothing
one_told : (p : ℕ) (s t : ProcessStatus) → length (error_at p s t) + length (done_at p s t) ≤ 1
one_told p Running Running = omega arith
one_told p Running Finished = omega arith
one_told p Running (FailedWith cause) = omega arith
one_told p Finished t = omega arith
one_told p (FailedWith cause) t = omega arith

-- so of all processes no more are told than there are
each_told : {S C : Type 0} (p : ℕ) (before after : List (Process S C))
    → length (compared error_at p before after) + length (compared done_at p before after) ≤ length before
each_told p [] after = omega arith
each_told p (q ∷ qs) [] = omega arith
each_told p (q ∷ qs) (r ∷ rs) =
    omega (
      arith,
      one_told p q.status r.status,
      each_told (p + 1) qs rs,
      length-append (error_at p q.status r.status) (compared error_at (p + 1) qs rs),
      length-append (done_at p q.status r.status) (compared done_at (p + 1) qs rs),
    )

-- a test that fails for each event of a list finds none, also in front of others
abbrev Fails : (Event → Bool) → List Event → Type 0
Fails test [] = Unit {0}
Fails test (event ∷ events) = (test event ≡ false) × Fails test events

filter-none : (test : Event → Bool) (events others : List Event) → Fails test events → filter test (events ++ others) ≡ filter test others
filter-none test [] others fails = refl
filter-none test (event ∷ events) others (fails, rest) = rw fails (filter-none test events others rest)

one_more : (passes : Bool) (event : Event) (events : List Event) {n : ℕ} → length events ≤ n → length (cond passes (event ∷ events) events) ≤ suc n
one_more true event events few = omega arith
one_more false event events few = omega arith

filter-at_most : (test : Event → Bool) (events others : List Event)
    → length (filter test (events ++ others)) ≤ length events + length (filter test others)
filter-at_most test [] others = omega arith
filter-at_most test (event ∷ events) others =
    omega (arith, one_more (test event) event (filter test (events ++ others)) (filter-at_most test events others))

fails_append : (test : Event → Bool) (events others : List Event) → Fails test events → Fails test others → Fails test (events ++ others)
fails_append test [] others fails more = more
fails_append test (event ∷ events) others (fails, rest) more = (fails, fails_append test events others rest more)

-- a test of events that fails for errors and completions
pub record IsOfRejections (test : Event → Bool) : Type 0 where
  pub errors : (p : ℕ) (cause : Cause) → test (Error p cause) ≡ false
  pub completions : (p : ℕ) → test (Done p) ≡ false

module _ {test : Event → Bool} (is : IsOfRejections test) where
  error_fails : (p : ℕ) (s t : ProcessStatus) → Fails test (error_at p s t)
  error_fails p Running Running = tt
  error_fails p Running Finished = tt
  error_fails p Running (FailedWith cause) = (is.errors p cause, tt)
  error_fails p Finished t = tt
  error_fails p (FailedWith cause) t = tt

  done_fails : (p : ℕ) (s t : ProcessStatus) → Fails test (done_at p s t)
  done_fails p Running Running = tt
  done_fails p Running Finished = (is.completions p, tt)
  done_fails p Running (FailedWith cause) = tt
  done_fails p Finished t = tt
  done_fails p (FailedWith cause) t = tt

  compared_fails : {S C : Type 0} (f : ℕ → ProcessStatus → ProcessStatus → List Event) → ((p : ℕ) (s t : ProcessStatus) → Fails test (f p s t))
      → (p : ℕ) (before after : List (Process S C)) → Fails test (compared f p before after)
  compared_fails f one p [] after = tt
  compared_fails f one p (q ∷ qs) [] = tt
  compared_fails f one p (q ∷ qs) (r ∷ rs) = fails_append test _ _ (one p q.status r.status) (compared_fails f one (p + 1) qs rs)

  -- what is told of a turn
  module _ {S C M : Type 0} (k : Kind S C M) where
    few_rejections : (before : World S C M) (moved : Moved S C M) → IsFew k moved → length (filter test (told k before moved).events) ≤ most_levels
    few_rejections before moved few =
        let errors : List Event = compared error_at 0 before.processes moved.world.processes in
        let completions : List Event = compared done_at 0 before.processes moved.world.processes in
        let none : filter test completions ≡ [] =
        ap (filter test) (sym (append-nil completions))
        ∙ filter-none test completions [] (compared_fails done_at done_fails 0 before.processes moved.world.processes) in
        omega (
          arith,
          few,
          filter-at_most test moved.rejections (errors ++ (moved.passes ++ completions)),
          ap length (filter-none test errors (moved.passes ++ completions)
              (compared_fails error_at error_fails 0 before.processes moved.world.processes)),
          filter-at_most test moved.passes completions,
          ap length none,
        )

    -- a turn makes no more rejections than the most levels
    pub turn-few_rejections : (t p : ℕ) (w : World S C M) → Each IsShallow w.processes
        → length (filter test (turn k t p w).1.events) ≤ most_levels
    turn-few_rejections t p w shallow = few_rejections w (move k t p w) (move-few k t p w shallow)

module _ {S C M : Type 0} (k : Kind S C M) where
  few_told : (before : World S C M) (moved : Moved S C M) → IsFew k moved
      → length (told k before moved).events ≤ most_levels + length before.processes
  few_told before moved few =
      let errors : List Event = compared error_at 0 before.processes moved.world.processes in
      let completions : List Event = compared done_at 0 before.processes moved.world.processes in
      omega (
        arith,
        few,
        each_told 0 before.processes moved.world.processes,
        length-append moved.rejections (errors ++ (moved.passes ++ completions)),
        length-append errors (moved.passes ++ completions),
        length-append moved.passes completions,
      )

  -- beside them a turn tells at most one event of each process
  pub turn-few : (t p : ℕ) (w : World S C M) → Each IsShallow w.processes → length (turn k t p w).1.events ≤ most_levels + length w.processes
  turn-few t p w shallow = few_told w (move k t p w) (move-few k t p w shallow)
