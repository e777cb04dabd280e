-- Where a turn touched one process alone, what is told of it, who runs, and what is released is all that there is.
use Rattle.std.proofs.Common.{◌≡◌, ℕ, zero, suc, ◌+◌, ◌<◌, ◌≤◌, ℤ, pos, Bool, true, false, List, [], ◌∷◌, ◌++◌, length, get_or, map, set, slice_set, Option, Some, option_map, slice_get, refl, ap, sym, ◌∙◌, subst, arith}
use Rattle.std.proofs.lemmas.List.{append-nil, length-map}
use Rattle.std.proofs.lemmas.Option.{slice_get-get_or, slice_get-map, slice_get_read}
use Rattle.rb_base.specs.declared.event.Event.{Event}
use Rattle.rb_world.specs.Kind.{Membership}
use Rattle.rb_world.specs.Turn.{compared, done_at, error_at, freed, lines_freed, state_freed}
use Rattle.rb_world.specs.World.{Level, Process, ProcessStatus, Running, Finished, FailedWith}
use Rattle.rb_world.proofs.ListFacts.{none_some, some_same}
use Rattle.rb_code.specs.WordMachine.Workspace.{held_place}
use Rattle.rb_code.specs.Instructions.Plain.{Code}
use Rattle.rb_code.specs.WordMachine.Turn.{Copy, Standing}
use Rattle.rb_code.specs.WordMachine.WordKind.{word_kind}
use Rattle.rb_proc.specs.Process.{Seen, kind_of}
use Rattle.rb_recovery.specs.TestLines.{passes_of}
use Rattle.rb_machine.specs.Telling.{AreFreed, GoesOnThere, HoldsNone, IsFreed, SameBut, WasAlone, ended_by, ended_if, ends_told, freed_one, is_running, running_of}
use Rattle.rb_recovery.specs.Worlds.{NoneWaits, processes_of}
use Rattle.rb_machine.specs.declared.telling.Ending.{Ending}
use Rattle.rb_machine.specs.declared.telling.Ending.TheVariants as ending
use Rattle.rb_machine.proofs.Releasing.EndsTold.{by_who_ran}

-- of who stands as before nothing is told
self_ended : (one : Ending) (n : ℕ) (status : ProcessStatus) → ended_if one n (is_running status) status ≡ []
self_ended ending.Failed n Running = refl
self_ended ending.Failed n Finished = refl
self_ended ending.Failed n (FailedWith cause) = refl
self_ended ending.Done n Running = refl
self_ended ending.Done n Finished = refl
self_ended ending.Done n (FailedWith cause) = refl

none_ended : (one : Ending) (n : ℕ) (qs : List (Process Standing Copy)) → ended_by one n (running_of qs) qs ≡ []
none_ended one n [] = refl
none_ended one n (q ∷ qs) =
    ap (λ (events : List Event). events ++ ended_by one (n + 1) (running_of qs) qs) (self_ended one n q.status) ∙ none_ended one (n + 1) qs

-- so all that is told is told of the one process
pub ended_one : (one : Ending) (n p m : ℕ) (before after : List (Process Standing Copy)) (q : Process Standing Copy) (ran : Bool) → m ≡ n + p
    → SameBut p before after → slice_get after p ≡ Some q → slice_get (running_of before) p ≡ Some ran
    → ended_by one n (running_of before) after ≡ ended_if one m ran q.status
ended_one one n p m [] [] q ran number same here noted = absurd (none_some here)
ended_one one n p m [] (y ∷ ys) q ran number same here noted = absurd same
ended_one one n p m (x ∷ xs) [] q ran number same here noted = absurd same
ended_one one n zero m (x ∷ xs) (y ∷ ys) q ran number same here noted =
    let own : n ≡ m = omega (arith, number) in
    let others : ended_by one (n + 1) (running_of xs) ys ≡ [] =
    ap (ended_by one (n + 1) (running_of xs)) (sym same) ∙ none_ended one (n + 1) xs in
    ap (λ (events : List Event). ended_if one n (is_running x.status) y.status ++ events) others
    ∙ (append-nil (ended_if one n (is_running x.status) y.status)
    ∙ (ap (λ (z : Process Standing Copy). ended_if one n (is_running x.status) z.status) (some_same here)
    ∙ (ap (λ (b : Bool). ended_if one n b q.status) (some_same noted) ∙ ap (λ k. ended_if one k ran q.status) own)))
ended_one one n (suc p) m (x ∷ xs) (y ∷ ys) q ran number same here noted =
    let next : m ≡ n + 1 + p = omega (arith, number) in
    let rest : List Event = ended_by one (n + 1) (running_of xs) ys in
    ap (λ (z : Process Standing Copy). ended_if one n (is_running x.status) z.status ++ rest) (sym same.0)
    ∙ (ap (λ (events : List Event). events ++ rest) (self_ended one n x.status)
    ∙ ended_one one (n + 1) p m xs ys q ran next same.1 here noted)

-- where there is no such process all are alike
pub same_beyond : {A : Type 0} (p : ℕ) (xs ys : List A) → SameBut p xs ys → length ys ≤ p → xs ≡ ys
same_beyond p [] [] same beyond = refl
same_beyond p [] (y ∷ ys) same beyond = absurd same
same_beyond p (x ∷ xs) [] same beyond = absurd same
same_beyond zero (x ∷ xs) (y ∷ ys) same beyond = absurd (omega (arith, beyond))
same_beyond {A} (suc p) (x ∷ xs) (y ∷ ys) same beyond =
    ap (λ (z : A). z ∷ xs) same.0 ∙ ap (λ (zs : List A). y ∷ zs) (same_beyond p xs ys same.1 (omega (arith, beyond)))

-- and nothing is told
pub none_told_beyond : (one : Ending) (p : ℕ) (before after : List (Process Standing Copy)) → SameBut p before after → length after ≤ p
    → ended_by one 0 (running_of before) after ≡ []
none_told_beyond one p before after same beyond =
    ap (ended_by one 0 (running_of before)) (sym (same_beyond p before after same beyond)) ∙ none_ended one 0 before

-- who runs is noted of the one process
pub running_one : (p : ℕ) (before after : List (Process Standing Copy)) (q : Process Standing Copy) → SameBut p before after
    → slice_get after p ≡ Some q → set (running_of before) p (is_running q.status) ≡ running_of after
running_one p [] [] q same here = absurd (none_some here)
running_one p [] (y ∷ ys) q same here = absurd same
running_one p (x ∷ xs) [] q same here = absurd same
running_one zero (x ∷ xs) (y ∷ ys) q same here =
    ap (λ (z : Process Standing Copy). is_running z.status ∷ running_of xs) (sym (some_same here))
    ∙ ap (λ (zs : List (Process Standing Copy)). is_running y.status ∷ running_of zs) same
running_one (suc p) (x ∷ xs) (y ∷ ys) q same here =
    ap (λ (z : Process Standing Copy). is_running z.status ∷ set (running_of xs) p (is_running q.status)) same.0
    ∙ ap (λ (bs : List Bool). is_running y.status ∷ bs) (running_one p xs ys q same.1 here)

-- who holds no line is as it is once lines were released, and tells none
pub state_same : (c : Code) (levels : List (Level Copy)) (s : Standing) → HoldsNone levels s → state_freed (kind_of c) s levels ≡ s
state_same c [] s none = none.0
state_same c (level ∷ levels) s none = refl

pub no_lines : (c : Code) (groups : List Membership) (levels : List (Level Copy)) (s : Standing) → HoldsNone levels s
    → lines_freed (word_kind c groups) s levels ≡ []
no_lines c groups [] s none = none.1
no_lines c groups (level ∷ levels) s none = refl

pub freed_same : (c : Code) (one : Seen) → IsFreed one.process → one.waiting ≡ [] → one ≡ freed_one c one
freed_same c one free none =
    let q = one.process in
    let state = state_same c q.levels q.state free in
    let lines = no_lines c [] q.levels q.state free in
    ap (λ (waiting : List (List ℕ)). record { process = q; waiting = waiting }) (none ∙ sym lines)
    ∙ ap (λ (s : Standing). record {
      process = record { state = s; levels = q.levels; at_line = q.at_line; status = q.status };
      waiting = lines_freed (kind_of c) q.state q.levels;
    }) (sym state)

all_freed_same : (c : Code) (qs : List Seen) → AreFreed (processes_of qs) → NoneWaits qs → qs ≡ map (freed_one c) qs
all_freed_same c [] free none = refl
all_freed_same c (q ∷ qs) free none =
    ap (λ (z : Seen). z ∷ qs) (freed_same c q free.0 none.0)
    ∙ ap (λ (zs : List Seen). freed_one c q ∷ zs) (all_freed_same c qs free.1 none.1)

-- so the release is that of the one process
pub freed_here : (c : Code) (p : ℕ) (before : List (Process Standing Copy)) (qs : List Seen) (q : Seen) → SameBut p before (processes_of qs)
    → AreFreed before → NoneWaits qs → slice_get qs p ≡ Some q → set qs p (freed_one c q) ≡ map (freed_one c) qs
freed_here c p [] [] q same free none here = absurd (none_some here)
freed_here c p [] (y ∷ ys) q same free none here = absurd same
freed_here c p (x ∷ xs) [] q same free none here = absurd same
freed_here c zero (x ∷ xs) (y ∷ ys) q same free none here =
    ap (λ (z : Seen). freed_one c z ∷ ys) (sym (some_same here))
    ∙ ap (λ (zs : List Seen). freed_one c y ∷ zs) (all_freed_same c ys (subst AreFreed same free.1) none.1)
freed_here c (suc p) (x ∷ xs) (y ∷ ys) q same free none here =
    ap (λ (z : Seen). z ∷ set ys p (freed_one c q)) (freed_same c y (subst IsFreed same.0 free.0) none.0)
    ∙ ap (λ (zs : List Seen). freed_one c y ∷ zs) (freed_here c p xs ys q same.1 free.1 none.1 here)

pub freed_beyond : (c : Code) (p : ℕ) (before : List (Process Standing Copy)) (qs : List Seen) → SameBut p before (processes_of qs)
    → AreFreed before → NoneWaits qs → length (processes_of qs) ≤ p → qs ≡ map (freed_one c) qs
freed_beyond c p before qs same free none beyond =
    all_freed_same c qs (subst AreFreed (same_beyond p before (processes_of qs) same beyond) free) none

-- of a process that runs no ending is told
runs_untold : (p : ℕ) (ran : Bool) (status : ProcessStatus) → status ≡ Running
    → [] ≡ ended_if ending.Failed p ran status ++ ended_if ending.Done p ran status
runs_untold p false status e = refl
runs_untold p true status e = ap (λ (s : ProcessStatus). ended_if ending.Failed p true s ++ ended_if ending.Done p true s) (sym e)

-- what stands at a number already
set_there : {A : Type 0} (xs : List A) (p : ℕ) (x : A) → slice_get xs p ≡ Some x → xs ≡ set xs p x
set_there [] p x e = refl
set_there (y ∷ ys) zero x e = ap (λ z. z ∷ ys) (some_same e)
set_there (y ∷ ys) (suc p) x e = ap (λ zs. y ∷ zs) (set_there ys p x e)

waits_there : (procs : List Seen) (p : ℕ) (one : Seen) → NoneWaits procs → slice_get procs p ≡ Some one → one.waiting ≡ []
waits_there [] p one none e = absurd (none_some e)
waits_there (q ∷ qs) zero one none e = subst (λ (x : Seen). x.waiting ≡ []) (some_same e) none.0
waits_there (q ∷ qs) (suc p) one none e = waits_there qs p one none.1 e

waits_for_none : (one : Seen) → one.waiting ≡ [] → record one { waiting = [] } ≡ one
waits_for_none one e = ap (λ (waiting : List (List ℕ)). record { process = one.process; waiting = waiting }) (sym e)

-- What is seen of process number p, which was read and alone was touched.
module _ (p : ℕ) (running : List Bool) (procs : List Seen) (alone : WasAlone p running (processes_of procs)) where
  module _ (read : Seen) (within : p < length procs) (is : read ≡ get_or procs p read) where
    here : slice_get procs p ≡ Some read
    here = slice_get_read procs (length procs) p read refl within is

    process_here : slice_get (processes_of procs) p ≡ Some read.process
    process_here =
        slice_get-map (λ (one : Seen). one.process) procs p ∙ ap (option_map (λ (one : Seen). one.process)) here

    -- what is told of it is all that is told
    pub told_here : length running ≡ length procs → (events event : List Event)
        → event ≡ ended_if ending.Failed p (get_or running p false) read.process.status
        ++ ended_if ending.Done p (get_or running p false) read.process.status
        → events ++ event ≡ events ++ (ended_by ending.Failed 0 running (processes_of procs) ++ ended_by ending.Done 0 running (processes_of procs))
    told_here as_many events event told =
        let ran : Bool = get_or running p false in
        let noted = slice_get-get_or running p false (omega (arith, within, as_many)) in
        let noted_so : slice_get (running_of alone.before) p ≡ Some ran = ap (λ (bs : List Bool). slice_get bs p) (sym alone.ran) ∙ noted in
        let number : p ≡ 0 + p = omega arith in
        let each : (one : Ending) → ended_by one 0 running (processes_of procs) ≡ ended_if one p ran read.process.status =
        λ one. ap (λ (bs : List Bool). ended_by one 0 bs (processes_of procs)) alone.ran
        ∙ ended_one one 0 p p alone.before (processes_of procs) read.process ran number alone.same process_here noted_so in
        ap (λ (more : List Event). events ++ more) (told
        ∙ sym (ap (λ (more : List Event). more ++ ended_by ending.Done 0 running (processes_of procs)) (each ending.Failed)
        ∙ ap (λ (more : List Event). ended_if ending.Failed p ran read.process.status ++ more) (each ending.Done)))

    -- and so is what is noted, and released
    pub noted_here : (runs : Bool) → runs ≡ is_running read.process.status → set running p runs ≡ running_of (processes_of procs)
    noted_here runs noted =
        ap (set running p) noted ∙ (ap (λ (bs : List Bool). set bs p (is_running read.process.status)) alone.ran
        ∙ running_one p alone.before (processes_of procs) read.process alone.same process_here)

    pub released_here : (c : Code) (after : Seen) → NoneWaits procs → after ≡ freed_one c read → set procs p after ≡ map (freed_one c) procs
    released_here c after none freed =
        ap (set procs p) freed ∙ freed_here c p alone.before procs read alone.same alone.freed none here

    -- where it ran and goes on there is nothing to tell, to note or to release
    module _ (goes : GoesOnThere running procs p) where
      status_is : read.process.status ≡ Running
      status_is = (goes.goes_on read here).running

      pub told_none : length running ≡ length procs → (events : List Event)
          → events ≡ events ++ (ended_by ending.Failed 0 running (processes_of procs) ++ ended_by ending.Done 0 running (processes_of procs))
      told_none as_many events =
          sym (append-nil events)
          ∙ told_here as_many events [] (runs_untold p (get_or running p false) read.process.status status_is)

      pub noted_same : running ≡ running_of (processes_of procs)
      noted_same = set_there running p true goes.ran ∙ noted_here true (sym (ap is_running status_is))

      pub released_same : (c : Code) → NoneWaits procs → procs ≡ map (freed_one c) procs
      released_same c none =
          set_there procs p read here
          ∙ released_here c read none (sym ((goes.goes_on read here).same c ∙ waits_for_none read (waits_there procs p read none here)))

  -- where there is no such process there is nothing to see
  module _ (beyond : length procs ≤ p) where
    beyond_all : length (processes_of procs) ≤ p
    beyond_all = omega (arith, beyond, length-map procs (λ (one : Seen). one.process))

    pub told_beyond : (events : List Event)
        → events ≡ events ++ (ended_by ending.Failed 0 running (processes_of procs) ++ ended_by ending.Done 0 running (processes_of procs))
    told_beyond events =
        let none : (one : Ending) → ended_by one 0 running (processes_of procs) ≡ [] =
        λ one. ap (λ (bs : List Bool). ended_by one 0 bs (processes_of procs)) alone.ran
        ∙ none_told_beyond one p alone.before (processes_of procs) alone.same beyond_all in
        sym (append-nil events)
        ∙ ap (λ (more : List Event). events ++ more) (sym (ap (λ (more : List Event). more ++ ended_by ending.Done 0 running (processes_of procs))
        (none ending.Failed) ∙ none ending.Done))

    pub noted_beyond : running ≡ running_of (processes_of procs)
    noted_beyond = alone.ran ∙ ap running_of (same_beyond p alone.before (processes_of procs) alone.same beyond_all)

    pub released_beyond : (c : Code) → NoneWaits procs → procs ≡ map (freed_one c) procs
    released_beyond c none = freed_beyond c p alone.before procs alone.same alone.freed none beyond_all

-- where the one process has no line to tell, none waits
pub none_after : (p : ℕ) (qs : List Seen) (q : Seen) → NoneWaits qs → q.waiting ≡ [] → NoneWaits (set qs p q)
none_after p [] q none own = tt
none_after zero (y ∷ ys) q none own = (own, none.1)
none_after (suc p) (y ∷ ys) q none own = (none.0, none_after p ys q none.1 own)

-- what is told so is all that is told of a turn with no pass
pub told_as : (running : List Bool) (before after : List (Process Standing Copy)) (pass : Option Event) → running_of before ≡ running
    → passes_of pass ≡ [] → ended_by ending.Failed 0 running after ++ ended_by ending.Done 0 running after ≡ ends_told before after pass
told_as running before after pass ran none =
    ap (λ (bs : List Bool). ended_by ending.Failed 0 bs after ++ ended_by ending.Done 0 bs after) (sym ran)
    ∙ (ap (λ (events : List Event). events ++ ended_by ending.Done 0 (running_of before) after) (sym (by_who_ran ending.Failed 0 before after))
    ∙ (ap (λ (events : List Event). compared error_at 0 before after ++ events) (sym (by_who_ran ending.Done 0 before after))
    ∙ ap (λ (passes : List Event). compared error_at 0 before after ++ (passes ++ compared done_at 0 before after)) (sym none)))

-- once lines were released who has no level holds none
twice_none : (words : List ℤ) → slice_set (slice_set words held_place (pos 0)) held_place (pos 0) ≡ slice_set words held_place (pos 0)
twice_none [] = refl
twice_none (word ∷ words) = refl

one_freed : (c : Code) (groups : List Membership) (levels : List (Level Copy)) (s : Standing)
    → HoldsNone levels (state_freed (word_kind c groups) s levels)
one_freed c groups [] s = (ap (λ (words : List ℤ). record s { held = []; words = words }) (twice_none s.words), refl)
one_freed c groups (level ∷ levels) s = tt

pub all_freed : (c : Code) (groups : List Membership) (qs : List (Process Standing Copy)) → AreFreed (map (freed (word_kind c groups)) qs)
all_freed c groups [] = tt
all_freed c groups (q ∷ qs) = (one_freed c groups q.levels q.state, all_freed c groups qs)
