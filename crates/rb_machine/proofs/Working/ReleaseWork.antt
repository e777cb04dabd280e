-- The ticks of a release: two at most for each process that releases lines, and none for any other.
use Rattle.std.proofs.Common.{◌≡◌, ◌+◌, ◌*◌, ◌<◌, ◌≤◌, ℕ, zero, suc, List, [], ◌∷◌, length, get_or, set, map, take, drop, sum_by, refl, ap, sym, ◌∙◌, subst, arith, not-suc-le-zero, le_of_suc-le-suc}
use Rattle.std.proofs.lemmas.List.{take_all}
use Rattle.std.proofs.lemmas.List.Sums.{sum_by-cons, sum_by_more}
use Rattle.rb_world.specs.Turn.{lines_freed}
use Rattle.rb_world.specs.World.{Level}
use Rattle.rb_code.specs.Instructions.Plain.{Code}
use Rattle.rb_code.specs.WordMachine.Turn.{Copy, Standing}
use Rattle.rb_proc.specs.Process.{Seen, kind_of}
use Rattle.rb_machine.specs.Telling.{freed_one}
use Rattle.rb_recovery.specs.Work.{releases_some, releasing}
use Rattle.rb_recovery.specs.Worlds.{lines_of}
use Rattle.rb_machine.proofs.Releasing.Dropped.{as_before}
use Rattle.rb_recovery.proofs.Beginning.SomeCode.{some_code}

-- A process releases lines only where it has no level and holds some.
module _ (c : Code) (ticks later : ℕ) (few : later ≤ ticks + 2) where
  freed_work : (levels : List (Level Copy)) (s : Standing) → (s.held ≡ [] → later ≡ ticks) → (0 < length levels → later ≡ ticks)
      → later ≤ ticks + 2 * releases_some (lines_freed (kind_of c) s levels)
  freed_work (level ∷ levels) s quiet within = omega (arith, within (omega arith))
  freed_work [] s quiet within = by s.held refl
    where
      by : (held : List (List ℕ)) → s.held ≡ held → later ≤ ticks + 2 * releases_some held
      by [] none = omega (arith, quiet none)
      by (line ∷ lines) some = omega (arith, few)

  pub one_release : (one after : Seen) → after ≡ freed_one c one → (one.process.state.held ≡ [] → later ≡ ticks)
      → (0 < length one.process.levels → later ≡ ticks) → later ≤ ticks + 2 * releases_some after.waiting
  one_release one after freed quiet within =
      subst (λ (x : Seen). later ≤ ticks + 2 * releases_some x.waiting) (sym freed)
      (freed_work one.process.levels one.process.state quiet within)

-- whether it does, by what it was before
abbrev pub releases : Seen → ℕ
releases one = releases_some (freed_one some_code one).waiting

-- one more of the processes, which is as it was
pub one_more_release : (old now : List Seen) (i : ℕ) (d after : Seen) → i < length old → length now ≡ length old → drop i now ≡ drop i old
    → (first ticks later : ℕ) → ticks ≤ first + 2 * sum_by releases (take i old) → later ≤ ticks + 2 → after ≡ freed_one some_code (get_or now i d)
    → ((get_or now i d).process.state.held ≡ [] → later ≡ ticks) → (0 < length (get_or now i d).process.levels → later ≡ ticks)
    → later ≤ first + 2 * sum_by releases (take (i + 1) old)
one_more_release old now i d after h long same first ticks later so_far few freed quiet within =
    let here = ap releases (as_before old now i d h long same) in
    let work = one_release some_code ticks later few (get_or now i d) after freed quiet within in
    let own = ap (λ (x : Seen). releases_some x.waiting) freed in
    omega (arith, so_far, work, own, here, sum_by_more releases old i d h)

-- the processes that release lines, counted by these lines
releases_sum : (procs : List Seen) → sum_by releases procs ≡ releasing (lines_of (map (freed_one some_code) procs))
releases_sum [] = refl
releases_sum (one ∷ procs) =
    omega (
      arith,
      sum_by-cons releases one procs,
      sum_by-cons releases_some (freed_one some_code one).waiting (lines_of (map (freed_one some_code) procs)),
      releases_sum procs,
    )

-- at last all of them
pub all_releases : (old after : List Seen) (i : ℕ) → length old ≤ i → after ≡ map (freed_one some_code) old → (first last : ℕ)
    → last ≤ first + 2 * sum_by releases (take i old) → last ≤ first + 2 * releasing (lines_of after)
all_releases old after i all freed first last so_far =
    let whole = ap (sum_by releases) (take_all i old all) ∙ releases_sum old in
    omega (arith, so_far, whole, ap (λ (procs : List Seen). releasing (lines_of procs)) freed)

-- what one process releases is among what all release
pub one_releases : (procs : List Seen) (p : ℕ) (after : Seen) → p < length procs
    → releases_some after.waiting ≤ releasing (lines_of (set procs p after))
one_releases [] p after h = absurd (not-suc-le-zero h)
one_releases (one ∷ procs) zero after h = omega (arith, sum_by-cons releases_some after.waiting (lines_of procs))
one_releases (one ∷ procs) (suc p) after h =
    omega (arith, sum_by-cons releases_some one.waiting (lines_of (set procs p after)), one_releases procs p after (le_of_suc-le-suc h))
