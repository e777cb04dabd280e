-- What is told of who has ended, process by process.
use Rattle.std.proofs.Common.{◌≡◌, ◌+◌, ◌<◌, ◌≤◌, ◌++◌, ℕ, zero, suc, Bool, true, false, List, [], ◌∷◌, length, get_or, take, drop, replicate, refl, ap, sym, ◌∙◌, arith, add-one, not-suc-le-zero, le_of_suc-le-suc}
use Rattle.std.proofs.Math.Seq.{drop-cons}
use Rattle.std.proofs.lemmas.List.{append_assoc, length-append, length-map}
use Rattle.rb_base.specs.declared.event.Event.{Event}
use Rattle.rb_world.specs.Turn.{compared, done_at, error_at, finished_at}
use Rattle.rb_world.specs.World.{Process, ProcessStatus, Running, Finished, FailedWith}
use Rattle.rb_code.specs.WordMachine.Turn.{Copy, Standing}
use Rattle.rb_proc.specs.Process.{Seen}
use Rattle.rb_machine.specs.Telling.{ended_at, ended_by, ended_if, is_running, running_of}
use Rattle.rb_recovery.specs.Worlds.{processes_of}
use Rattle.rb_machine.specs.declared.telling.Ending.{Ending}
use Rattle.rb_machine.specs.declared.telling.Ending.TheVariants as ending

-- what is told from process number p on, by the one that stands there first
pub ended_more : (one : Ending) (p i : ℕ) (bs : List Bool) (qs : List Seen) (b : Bool) (q : Seen) → i < length bs → i < length qs
    → ended_by one p (drop i bs) (processes_of (drop i qs))
    ≡ ended_if one p (get_or bs i b) (get_or qs i q).process.status ++ ended_by one (p + 1) (drop (suc i) bs) (processes_of (drop (suc i) qs))
ended_more one p i bs qs b q h k =
    ap (λ (bs : List Bool). ended_by one p bs (processes_of (drop i qs))) (drop-cons bs i b h)
    ∙ ap (λ (qs : List Seen). ended_by one p (get_or bs i b ∷ drop (suc i) bs) (processes_of qs)) (drop-cons qs i q k)

-- the same of a process that was read in its turn
pub tells_next : (one : Ending) (i : ℕ) (bs : List Bool) (qs : List Seen) (q : Seen) (status : ProcessStatus) → i < length bs → i < length qs
    → q ≡ get_or qs i q → status ≡ q.process.status
    → ended_by one i (drop i bs) (processes_of (drop i qs))
    ≡ ended_if one i (get_or bs i false) status ++ ended_by one (i + 1) (drop (i + 1) bs) (processes_of (drop (i + 1) qs))
tells_next one i bs qs q status h k read is =
    let others : (n : ℕ) → List Event = λ n. ended_by one (i + 1) (drop n bs) (processes_of (drop n qs)) in
    ended_more one i i bs qs false q h k
    ∙ ap (λ (q : Seen). ended_if one i (get_or bs i false) q.process.status ++ others (suc i)) (sym read)
    ∙ ap (λ (status : ProcessStatus). ended_if one i (get_or bs i false) status ++ others (suc i)) (sym is)
    ∙ ap (λ (n : ℕ). ended_if one i (get_or bs i false) status ++ others n) (sym (add-one i))

-- Of a whole that is told process by process, what was told of the first ones and what is left of the others.
module _ (one : Ending) (bs : List Bool) (qs : List Seen) (start events : List Event) (i : ℕ) (q : Seen) (status : ProcessStatus) (told : List Event)
    (same : length bs ≡ length qs) (within : i < length qs) (read : q ≡ get_or qs i q) (is : status ≡ q.process.status)
    (next : told ≡ ended_if one i (get_or bs i false) status)
    (so_far : events ++ ended_by one i (drop i bs) (processes_of (drop i qs)) ≡ start ++ ended_by one 0 bs (processes_of qs)) where
  others : List Event
  others = ended_by one (i + 1) (drop (i + 1) bs) (processes_of (drop (i + 1) qs))

  splits : ended_by one i (drop i bs) (processes_of (drop i qs)) ≡ told ++ others
  unfolding others
  splits =
      let h : i < length bs = omega (arith, same, within) in
      tells_next one i bs qs q status h within read is ∙ ap (λ (events : List Event). events ++ others) (sym next)

  whole : events ++ (told ++ others) ≡ start ++ ended_by one 0 bs (processes_of qs)
  whole = ap (λ (rest : List Event). events ++ rest) (sym splits) ∙ so_far

  pub told_fits : (most : ℕ) → length start + length (ended_by one 0 bs (processes_of qs)) ≤ most → length events + length told ≤ most
  told_fits most h =
      let long : length events + (length told + length others) ≡ length start + length (ended_by one 0 bs (processes_of qs)) =
      simp length-append at (ap length whole) in
      omega (arith, long, h)

  pub told_more : (after : List Event) → after ≡ events ++ told
      → after ++ ended_by one (i + 1) (drop (i + 1) bs) (processes_of (drop (i + 1) qs)) ≡ start ++ ended_by one 0 bs (processes_of qs)
  unfolding others
  told_more after added = ap (λ (after : List Event). after ++ others) added ∙ append_assoc events told others ∙ whole

-- a process has one ending at most
one_ending : (p : ℕ) (ran : Bool) (after : ProcessStatus)
    → length (ended_if ending.Failed p ran after) + length (ended_if ending.Done p ran after) ≤ 1
one_ending p false after = omega arith
one_ending p true Running = omega arith
one_ending p true Finished = omega arith
one_ending p true (FailedWith cause) = omega arith

-- so both kinds of endings together are no more than the processes
pub few_endings : (p : ℕ) (bs : List Bool) (qs : List (Process Standing Copy))
    → length (ended_by ending.Failed p bs qs) + length (ended_by ending.Done p bs qs) ≤ length qs
few_endings p [] qs = omega arith
few_endings p (b ∷ bs) [] = omega arith
few_endings p (b ∷ bs) (q ∷ qs) =
    let first = one_ending p b q.status in
    let others = few_endings (p + 1) bs qs in
    simp length-append (omega arith)

-- of a process that did not run nothing is told
of_running : (one : Ending) (p : ℕ) (before after : ProcessStatus) → ended_at one p before after ≡ ended_if one p (is_running before) after
of_running one p Running after = refl
of_running ending.Failed p Finished after = refl
of_running ending.Done p Finished after = refl
of_running ending.Failed p (FailedWith cause) after = refl
of_running ending.Done p (FailedWith cause) after = refl

-- to compare with processes before a turn is to ask who ran
pub by_who_ran : (one : Ending) (p : ℕ) (before after : List (Process Standing Copy))
    → compared (ended_at one) p before after ≡ ended_by one p (running_of before) after
by_who_ran one p [] after = refl
by_who_ran one p (q ∷ qs) [] = refl
by_who_ran one p (q ∷ qs) (r ∷ rs) =
    ap (λ (events : List Event). events ++ compared (ended_at one) (p + 1) qs rs) (of_running one p q.status r.status)
    ∙ ap (λ (events : List Event). ended_if one p (is_running q.status) r.status ++ events) (by_who_ran one (p + 1) qs rs)

none_told : (one : Ending) (p : ℕ) (bs : List Bool) → ended_by one p bs [] ≡ []
none_told one p [] = refl
none_told one p (b ∷ bs) = refl

-- where all ran, it is told who is done
all_ran : (p n m : ℕ) (qs : List (Process Standing Copy)) → length qs ≤ n → n ≤ m
    → ended_by ending.Done p (take n (replicate m true)) qs ≡ finished_at p qs
all_ran p n m [] h k = none_told ending.Done p (take n (replicate m true))
all_ran p zero m (q ∷ qs) h k = absurd (not-suc-le-zero h)
all_ran p (suc n) zero (q ∷ qs) h k = absurd (not-suc-le-zero k)
all_ran p (suc n) (suc m) (q ∷ qs) h k =
    ap (λ (events : List Event). done_at p Running q.status ++ events) (all_ran (p + 1) n m qs (le_of_suc-le-suc h) (le_of_suc-le-suc k))

-- before the first turn all run, which are 64 at most
pub few_done : (events : List Event) (bs : List Bool) (qs : List Seen) → length events ≡ 0 → length qs ≤ 64
    → length events + length (ended_by ending.Done 0 bs (processes_of qs)) ≤ 96
few_done events bs qs none few =
    omega (arith, none, few, few_endings 0 bs (processes_of qs), length-map qs (λ (one : Seen). one.process))

nothing : (events : List Event) → length events ≡ 0 → events ≡ []
nothing [] h = refl
nothing (event ∷ events) h = absurd (omega (arith, h))

pub done_told : (events : List Event) (qs : List Seen) → length events ≡ 0 → length qs ≤ 64
    → events ++ ended_by ending.Done 0 (take (length qs) (replicate 64 true)) (processes_of qs) ≡ finished_at 0 (processes_of qs)
done_told events qs none few =
    let long : length (processes_of qs) ≤ length qs = omega (arith, length-map qs (λ (one : Seen). one.process)) in
    ap (λ (events : List Event). events ++ ended_by ending.Done 0 (take (length qs) (replicate 64 true)) (processes_of qs)) (nothing events none)
    ∙ all_ran 0 (length qs) 64 (processes_of qs) long few

-- What is told of a turn: errors, then its pass, then who is done. All of it fits.
module _ (running : List Bool) (qs : List Seen) (events passes : List Event) (room : length events + (length passes + length qs) ≤ 96) where
  abbrev failed : List Event
  failed = ended_by ending.Failed 0 running (processes_of qs)

  abbrev done : List Event
  done = ended_by ending.Done 0 running (processes_of qs)

  few : length failed + length done ≤ length qs
  few = omega (arith, few_endings 0 running (processes_of qs), length-map qs (λ (one : Seen). one.process))

  pub errors_fit : length events + length failed ≤ 96
  errors_fit = omega (arith, few, room)

  pub pass_fits : (after : List Event) → after ≡ events ++ failed → length after + length passes ≤ 96
  pass_fits after e =
      let long : length after ≡ length events + length failed = simp length-append at (ap length e) in
      omega (arith, long, few, room)

  pub done_fit : (after later : List Event) → after ≡ events ++ failed → later ≡ after ++ passes → length later + length done ≤ 96
  done_fit after later e f =
      let long : length after ≡ length events + length failed = simp length-append at (ap length e) in
      let longer : length later ≡ length after + length passes = simp length-append at (ap length f) in
      omega (arith, long, longer, few, room)

  pub all_told : (after later last : List Event) (before : List (Process Standing Copy)) → after ≡ events ++ failed → later ≡ after ++ passes
      → last ≡ later ++ done → running_of before ≡ running
      → last ≡ events ++ (compared error_at 0 before (processes_of qs) ++ (passes ++ compared done_at 0 before (processes_of qs)))
  all_told after later last before e f h ran =
      let told : (one : Ending) → ended_by one 0 running (processes_of qs) ≡ compared (ended_at one) 0 before (processes_of qs) =
      λ one. ap (λ (running : List Bool). ended_by one 0 running (processes_of qs)) (sym ran) ∙ sym (by_who_ran one 0 before (processes_of qs)) in
      h ∙ ap (λ (events : List Event). events ++ done) (f ∙ ap (λ (events : List Event). events ++ passes) e ∙ append_assoc events failed passes)
      ∙ append_assoc events (failed ++ passes) done
      ∙ ap (λ (others : List Event). events ++ others) (append_assoc failed passes done)
      ∙ ap (λ (errors : List Event). events ++ (errors ++ (passes ++ done))) (told ending.Failed)
      ∙ ap (λ (others : List Event). events ++ (compared error_at 0 before (processes_of qs) ++ (passes ++ others))) (told ending.Done)
