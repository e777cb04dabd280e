-- The turns that are left of a machine that is over: they lead nowhere, have no text, and count nothing.
use Rattle.std.proofs.Common.{◌≡◌, ℕ, zero, suc, ◌+◌, ◌*◌, List, [], ◌∷◌, ◌++◌, length, replicate, sum_by, Option, Ok, refl, ap, sym, ◌∙◌, arith}
use Rattle.std.proofs.lemmas.List.Folds.{sum_by-replicate}
use Rattle.rb_base.specs.declared.event.TurnKind.{TurnKind}
use Rattle.rb_outside.specs.declared.Failed.{Failed}
use Rattle.rb_outside.specs.Outside.{Faults}
use Rattle.rb_outside.specs.Puts.{Puts}
use Rattle.rb_world.specs.Kind.{Kind}
use Rattle.rb_world.specs.Text.{Naming, all_told, told_text}
use Rattle.rb_world.specs.Turn.{Told, run}
use Rattle.rb_code.specs.WordMachine.Turn.{Common, Copy, Standing}
use Rattle.rb_code.specs.WordMachine.WordKind.{word_kind}
use Rattle.rb_code.specs.WordMachine.WordRun.{WordWorld}
use Rattle.rb_machine.specs.Machine.{IsOver, Seen}
use Rattle.rb_run.specs.Counting.{Counted, both_counted, counts, told_counts}
use Rattle.rb_run.specs.Running.{ran}
use Rattle.rb_run.specs.declared.counting.Counts.{Counts}
use Rattle.rb_run.proofs.Completes.{Remains, remains_none, remains_same}
use Rattle.rb_run.proofs.NoLines.{no_lines_told}
use Rattle.rb_run.proofs.TurnsTaken.{turns_left}
use Rattle.rb_run.proofs.TurnsUnseen.{counted_alone, counted_with, told_left}

module _ (m : Seen) (over : IsOver m) where
  abbrev Words : Kind Standing Copy Common
  Words = word_kind m.code m.groups

  -- what each of the turns tells
  abbrev nothing_told : ℕ → Told
  nothing_told p = record { kind = (over p).0; events = []; released = replicate (length m.world.processes) [] }

  still_world : (t : ℕ) (turns : List ℕ) → (run Words t turns m.world).0 ≡ m.world
  still_world t [] = refl
  still_world t (p ∷ turns) =
      ap (λ (pair : WordWorld × Told). (run Words (t + 1) turns pair.0).0) ((over p).1 t) ∙ still_world (t + 1) turns

  still_text : (names : Naming) (t : ℕ) (turns : List ℕ) → all_told names t (run Words t turns m.world).1 ≡ []
  still_text names t [] = refl
  still_text names t (p ∷ turns) =
      ap (λ (pair : WordWorld × Told). told_text names t pair.1 ++ all_told names (t + 1) (run Words (t + 1) turns pair.0).1) ((over p).1 t)
      ∙ (ap (λ (bytes : List ℕ). bytes ++ all_told names (t + 1) (run Words (t + 1) turns m.world).1)
      (no_lines_told names t (over p).0 (length m.world.processes))
      ∙ still_text names (t + 1) turns)

  -- nothing is released
  none_released : (n : ℕ) → 0 ≡ sum_by (length {A = List ℕ}) (replicate n [])
  none_released n = sym (sum_by-replicate (length {A = List ℕ}) n [] ∙ omega arith)

  still_counts : (t : ℕ) (turns : List ℕ) (c : Counts) → both_counted (counts c) (told_counts (run Words t turns m.world).1) ≡ counts c
  still_counts t [] c = counted_alone (counts c)
  still_counts t (p ∷ turns) c =
      let others : List Told = (run Words (t + 1) turns m.world).1 in
      ap (λ (pair : WordWorld × Told). both_counted (counts c) (told_counts (pair.1 ∷ (run Words (t + 1) turns pair.0).1))) ((over p).1 t)
      ∙ (sym (counted_with c c 0 (nothing_told p) others
      (record { out = omega arith; reject = omega arith; pass = omega arith; error = omega arith; done = omega arith })
      (none_released (length m.world.processes)))
      ∙ still_counts (t + 1) turns c)

  -- to take them at once leaves the machine that they leave
  pub rested_ran : (left : List ℕ) (turns : ℕ) → m.taken + length left ≡ turns → record m { taken = turns } ≡ ran m left
  rested_ran left turns last =
      ap (λ (w : WordWorld). record m { world = w; taken = turns }) (sym (still_world (m.taken + 1) left))
      ∙ ap (λ n. record (ran m left) { taken = n }) (sym last)

  -- all was written
  pub rested_written : (names : Naming) (left whole : List ℕ) (w0 w1 : Option (List ℕ)) (f0 f1 : Faults)
      → Remains (turns_left names m left) whole w0 w1 f0 f1 → Puts {T = Unit {0}} {E = Failed} whole w0 w1 f0 f1 (Ok tt)
  rested_written names left whole w0 w1 f0 f1 r =
      remains_none whole w0 w1 f0 f1 (remains_same (turns_left names m left) [] whole w0 w1 f0 f1 (still_text names (m.taken + 1) left) r)

  -- and all was counted
  pub rested_counted : (left : List ℕ) (c : Counts) (whole : Counted)
      → both_counted (counts c) (told_counts (told_left m left)) ≡ whole → counts c ≡ whole
  rested_counted left c whole so_far = sym (still_counts (m.taken + 1) left c) ∙ so_far
