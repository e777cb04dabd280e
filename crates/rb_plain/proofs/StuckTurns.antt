-- The turn at which a plain run is stuck is found among turns that rise.
use Rattle.std.proofs.Common.{◌≡◌, ◌<◌, ℕ, nat_eq, Bool, true, false, cond, List, [], ◌∷◌, Option, Some, None, refl, sym, ap, ◌∙◌, subst, arith}
use Rattle.std.proofs.lemmas.Bool.Decides.{nat_tests}
use Rattle.rb_base.specs.declared.kept.Kept.{Kept}
use Rattle.rb_syntax.specs.Tree.{Tree}
use Rattle.rb_world.specs.Turn.{Told}
use Rattle.rb_world.specs.Plain.{plain_on, plain_run, plain_turn}
use Rattle.rb_world.proofs.ListFacts.{none_some, some_same}
use Rattle.rb_meaning.specs.PlainRun.{PlainWorld}
use Rattle.rb_plain.specs.declared.stuck.StuckTurn.{StuckTurn}
use Rattle.rb_plain.specs.Played.{played, stuck_in, unkept_opening}
use Rattle.rb_record.specs.Recorded.{AreKept}
use Rattle.rb_plain.specs.Stuck.{behind, stuck_among, turn_cause, IsStuck, StuckTurnsAreFound}
use Rattle.rb_levels.specs.Worlds.{unkept_kind}
use Rattle.rb_plain.proofs.TurnsLeft.{stuck_told}

module _ (tree : Tree) (turn : ℕ) where
  -- where the run is stuck, by what comes of its first turn
  abbrev StuckBy : Kept → List Kept → Option (PlainWorld × Told) → Type 0
  StuckBy kept others next = stuck_in (plain_on kept.turn next (plain_run (unkept_kind tree) others)) ≡ Some turn

  -- the others are stuck there
  others_stuck : (kept : Kept) (others : List Kept) (v : PlainWorld) (one : Told) → StuckBy kept others (Some (v, one))
      → stuck_in (played tree others v) ≡ Some turn
  others_stuck kept others v one e = sym (stuck_told kept.turn one (played tree others v)) ∙ e

  -- turns above a number are stuck above it
  above_by : (kept : Kept) (others : List Kept) (before : ℕ) → before < kept.turn
      → ((v : PlainWorld) → stuck_in (played tree others v) ≡ Some turn → kept.turn < turn)
      → (next : Option (PlainWorld × Told)) → StuckBy kept others next → before < turn
  above_by kept others before first later None e = subst (λ n. before < n) (some_same e) first
  above_by kept others before first later (Some (v, one)) e =
      let above = later v (others_stuck kept others v one e) in
      omega arith

  stuck_above : (turns : List Kept) (processes before : ℕ) (w : PlainWorld) → AreKept processes before turns
      → stuck_in (played tree turns w) ≡ Some turn → before < turn
  stuck_above [] processes before w rise e = absurd (none_some e)
  stuck_above (kept ∷ others) processes before w rise e =
      above_by kept others before rise.0.rises (λ v stuck. stuck_above others processes kept.turn v rise.1 stuck) (plain_turn (unkept_kind tree) kept w) e

  -- what is found from a world
  abbrev Finds : List Kept → PlainWorld → Type 0
  Finds turns w = (found : StuckTurn) × (stuck_among tree turn turns w ≡ Some found) × IsStuck tree turn found

  -- the first turn has the number, and is the one that is stuck
  finds_first : (kept : Kept) (others : List Kept) (processes : ℕ) (w : PlainWorld) → AreKept processes kept.turn others → nat_eq kept.turn turn ≡ true
      → (next : Option (PlainWorld × Told)) → plain_turn (unkept_kind tree) kept w ≡ next → StuckBy kept others next → Finds (kept ∷ others) w
  finds_first kept others processes w rise same None stuck e = (
    record { kept = kept; cause = turn_cause tree kept w },
    ap (λ b. cond b (Some (record { kept = kept; cause = turn_cause tree kept w }))
        (behind (plain_turn (unkept_kind tree) kept w) (stuck_among tree turn others))) same,
    record { world = w; number = some_same e; stuck = stuck; cause = refl },
  )
  finds_first kept others processes w rise same (Some (v, one)) stuck e =
      let later = stuck_above others processes kept.turn v rise (others_stuck kept others v one e) in
      absurd (grind (arith, nat_tests))

  -- what is found behind a turn of another number
  finds_behind : (kept : Kept) (others : List Kept) (w v : PlainWorld) (one : Told) → nat_eq kept.turn turn ≡ false
      → plain_turn (unkept_kind tree) kept w ≡ Some (v, one) → Finds others v → Finds (kept ∷ others) w
  finds_behind kept others w v one other next (found, is, stuck) = (
    found,
    ap (λ b. cond b (Some (record { kept = kept; cause = turn_cause tree kept w }))
        (behind (plain_turn (unkept_kind tree) kept w) (stuck_among tree turn others))) other
        ∙ ap (λ o. behind o (stuck_among tree turn others)) next ∙ is,
    stuck,
  )

  other_number : (n : ℕ) → nat_eq n turn ≡ false → n ≡ turn → ⊥
  other_number n e same = grind (arith, nat_tests)

  found_by : (kept : Kept) (others : List Kept) (processes : ℕ) (w : PlainWorld) → AreKept processes kept.turn others
      → ((v : PlainWorld) → stuck_in (played tree others v) ≡ Some turn → Finds others v)
      → (b : Bool) → nat_eq kept.turn turn ≡ b
      → (next : Option (PlainWorld × Told)) → plain_turn (unkept_kind tree) kept w ≡ next → StuckBy kept others next → Finds (kept ∷ others) w
  found_by kept others processes w rise later true same next is e = finds_first kept others processes w rise same next is e
  found_by kept others processes w rise later false other None is e = absurd (other_number kept.turn other (some_same e))
  found_by kept others processes w rise later false other (Some (v, one)) is e =
      finds_behind kept others w v one other is (later v (others_stuck kept others v one e))

  found_from : (turns : List Kept) (processes before : ℕ) (w : PlainWorld) → AreKept processes before turns
      → stuck_in (played tree turns w) ≡ Some turn → Finds turns w
  found_from [] processes before w rise e = absurd (none_some e)
  found_from (kept ∷ others) processes before w rise e =
      found_by kept others processes w rise.1 (λ v stuck. found_from others processes kept.turn v rise.1 stuck)
      (nat_eq kept.turn turn) refl (plain_turn (unkept_kind tree) kept w) refl e

pub stuck_turns_are_found : StuckTurnsAreFound
stuck_turns_are_found tree turns processes turn rise e = found_from tree turn turns processes 0 (unkept_opening tree) rise e
