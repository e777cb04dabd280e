-- Each process whose held lines were released, one after the other.
use Rattle.std.proofs.Common.{◌≡◌, ◌+◌, ◌<◌, ◌≤◌, ◌++◌, ℕ, List, ◌∷◌, length, get_or, set, map, take, drop, refl, ap, sym, ◌∙◌, arith, add-one}
use Rattle.std.proofs.Math.Seq.{drop-cons}
use Rattle.std.proofs.lemmas.List.{drop-set-lt}
use Rattle.std.proofs.lemmas.List.Edits.{map_over_more}
use Rattle.std.proofs.lemmas.Simd.{map-map}
use Rattle.rb_world.specs.Kind.{Membership}
use Rattle.rb_world.specs.Turn.{freed, lines_freed}
use Rattle.rb_world.specs.World.{Process}
use Rattle.rb_code.specs.Instructions.Plain.{Code}
use Rattle.rb_code.specs.WordMachine.Turn.{Copy, Standing}
use Rattle.rb_code.specs.WordMachine.WordKind.{word_kind}
use Rattle.rb_proc.specs.Process.{Seen}
use Rattle.rb_machine.specs.Telling.{freed_one}
use Rattle.rb_recovery.specs.Worlds.{lines_of, processes_of}
use Rattle.rb_machine.proofs.Written.{all_written}

-- one more of them
pub one_more_freed : (c : Code) (old now : List Seen) (i : ℕ) (one after : Seen) → i < length old
    → now ≡ map (freed_one c) (take i old) ++ drop i old → one ≡ get_or now i one → after ≡ freed_one c (get_or now i one)
    → set now i after ≡ map (freed_one c) (take (i + 1) old) ++ drop (i + 1) old
one_more_freed c old now i one after h so_far read is =
    ap (set now i) (is ∙ ap (freed_one c) (sym read)) ∙ map_over_more (freed_one c) old now i one h so_far read

tail_of : {A : Type 0} (x y : A) (xs ys : List A) → x ∷ xs ≡ y ∷ ys → xs ≡ ys
tail_of x y xs ys e = cc

-- and those behind it are as they were
pub others_left : (old now : List Seen) (i : ℕ) (one after : Seen) → i < length old → length now ≡ length old → drop i now ≡ drop i old
    → drop (i + 1) (set now i after) ≡ drop (i + 1) old
others_left old now i one after h long same =
    let k : i < length now = omega (arith, h, long) in
    let here : i < i + 1 = omega arith in
    drop-set-lt (i + 1) now i after here
    ∙ ap (λ (n : ℕ). drop n now) (add-one i)
    ∙ tail_of _ _ _ _ (sym (drop-cons now i one k) ∙ same ∙ drop-cons old i one h)
    ∙ ap (λ (n : ℕ). drop n old) (sym (add-one i))

-- at last each of them
pub all_released : (c : Code) (old now : List Seen) (i : ℕ) → length old ≤ i → now ≡ map (freed_one c) (take i old) ++ drop i old
    → now ≡ map (freed_one c) old
all_released c old now i all so_far = all_written (freed_one c) old old now i all refl so_far

module _ (c : Code) (groups : List Membership) (old now : List Seen) (whole : now ≡ map (freed_one c) old) where
  pub processes_freed : processes_of now ≡ map (freed (word_kind c groups)) (processes_of old)
  processes_freed =
      ap (map (λ (one : Seen). one.process)) whole
      ∙ map-map (λ (one : Seen). one.process) (freed_one c) old
      ∙ sym (map-map (freed (word_kind c groups)) (λ (one : Seen). one.process) old)

  pub lines_of_freed : lines_of now ≡ map (λ (q : Process Standing Copy). lines_freed (word_kind c groups) q.state q.levels) (processes_of old)
  lines_of_freed =
      ap (map (λ (one : Seen). one.waiting)) whole
      ∙ map-map (λ (one : Seen). one.waiting) (freed_one c) old
      ∙ sym (map-map (λ (q : Process Standing Copy). lines_freed (word_kind c groups) q.state q.levels) (λ (one : Seen). one.process) old)
