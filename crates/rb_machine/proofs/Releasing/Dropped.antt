-- Each process whose released lines were forgotten, one after the other.
use Rattle.std.proofs.Common.{◌≡◌, ◌+◌, ◌<◌, ◌≤◌, ◌++◌, ℕ, List, [], ◌∷◌, length, get_or, set, map, take, drop, replicate, sum_by, refl, ap, sym, ◌∙◌, arith}
use Rattle.std.proofs.Math.Seq.{drop-cons}
use Rattle.std.proofs.lemmas.List.{take_all}
use Rattle.std.proofs.lemmas.List.Edits.{map_over_more}
use Rattle.std.proofs.lemmas.List.Sums.{sum_by-cons, sum_by_more}
use Rattle.std.proofs.lemmas.Simd.{map-map}
use Rattle.rb_world.proofs.ListFacts.{heads_same}
use Rattle.rb_proc.specs.Process.{Seen}
use Rattle.rb_recovery.specs.Worlds.{lines_of, processes_of}
use Rattle.rb_machine.proofs.Written.{all_written}

-- a process whose released lines were forgotten, and how many they were
abbrev pub quiet : Seen → Seen
quiet one = record one { waiting = [] }

abbrev pub lines_in : Seen → ℕ
lines_in one = length one.waiting

-- one more of them
pub one_more_quiet : (old now : List Seen) (i : ℕ) (one after : Seen) → i < length old → now ≡ map quiet (take i old) ++ drop i old
    → one ≡ get_or now i one → after ≡ quiet (get_or now i one) → set now i after ≡ map quiet (take (i + 1) old) ++ drop (i + 1) old
one_more_quiet old now i one after h so_far read is =
    ap (set now i) (is ∙ ap quiet (sym read)) ∙ map_over_more quiet old now i one h so_far read

-- which is as it was before
pub as_before : (old now : List Seen) (i : ℕ) (d : Seen) → i < length old → length now ≡ length old → drop i now ≡ drop i old
    → get_or now i d ≡ get_or old i d
as_before old now i d h long same =
    let k : i < length now = omega (arith, h, long) in
    heads_same (sym (drop-cons now i d k) ∙ (same ∙ drop-cons old i d h))

-- so its lines are counted with those before
pub one_more_counted : (old now : List Seen) (i : ℕ) (d : Seen) → i < length old → length now ≡ length old → drop i now ≡ drop i old
    → (count n : ℕ) → count ≡ sum_by lines_in (take i old) → n ≡ lines_in (get_or now i d) → count + n ≡ sum_by lines_in (take (i + 1) old)
one_more_counted old now i d h long same count n so_far is =
    let here = ap lines_in (as_before old now i d h long same) in
    omega (arith, sum_by_more lines_in old i d h, here, so_far, is)

-- the lines of all processes together
sum_of_lines : (procs : List Seen) → sum_by lines_in procs ≡ sum_by length (lines_of procs)
sum_of_lines [] = refl
sum_of_lines (one ∷ procs) =
    omega (arith, sum_by-cons lines_in one procs, sum_by-cons (length {A = List ℕ}) one.waiting (lines_of procs), sum_of_lines procs)

quiet_lines : (procs : List Seen) → lines_of (map quiet procs) ≡ replicate (length procs) []
quiet_lines [] = refl
quiet_lines (one ∷ procs) = ap (λ (lines : List (List (List ℕ))). [] ∷ lines) (quiet_lines procs)

module _ (old now : List Seen) (i : ℕ) (all : length old ≤ i) (so_far : now ≡ map quiet (take i old) ++ drop i old) where
  whole : now ≡ map quiet old
  whole = all_written quiet old old now i all refl so_far

  pub processes_quiet : processes_of now ≡ processes_of old
  processes_quiet = ap processes_of whole ∙ map-map (λ (one : Seen). one.process) quiet old

  pub none_waits : lines_of now ≡ replicate (length old) []
  none_waits = ap lines_of whole ∙ quiet_lines old

  pub all_counted : (count : ℕ) → count ≡ sum_by lines_in (take i old) → count ≡ sum_by length (lines_of old)
  all_counted count is = is ∙ (ap (sum_by lines_in) (take_all i old all) ∙ sum_of_lines old)
