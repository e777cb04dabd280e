-- The survivors of a run of an accepted source are kept turns as a record may have them, so the record that they are written as is read back.
use Rattle.std.proofs.Common.{◌≡◌, ◌∙◌, ◌≤◌, ◌<◌, ◌+◌, ℕ, zero, suc, Bool, true, false, nat_lt, cond, List, [], ◌∷◌, length, map, Ok, refl, sym, ap, subst, arith}
use Rattle.std.specs.List.{All, AllByRecursion}
use Rattle.std.proofs.lemmas.List.{length-map}
use Rattle.std.proofs.lemmas.List.Elements.{All-head, All-tail}
use Rattle.std.proofs.lemmas.Simd.{map-map}
use Rattle.rb_base.specs.declared.edition.Edition.{Edition}
use Rattle.rb_base.specs.declared.limits.TheConstants.{MOST_TURNS}
use Rattle.rb_syntax.specs.Tree.{ProcessDeclaration, Tree}
use Rattle.rb_world.specs.Erased.{RisesFrom}
use Rattle.rb_base.specs.declared.kept.Kept.{Kept}
use Rattle.rb_world.specs.Plain.{insert_all, insert_kept, survivors_from}
use Rattle.rb_world.specs.Standing.{IsStanding}
use Rattle.rb_world.specs.World.{Process}
use Rattle.rb_world.proofs.Keeping.StandingFacts.{standing}
use Rattle.rb_meaning.specs.Laws.{IsAlwaysErased}
use Rattle.rb_meaning.specs.Meaning.{TreeWorld, naming_of, opening_states, process_named, run_of, survivors, tree_kind}
use Rattle.rb_meaning.specs.State.{State}
use Rattle.rb_meaning.proofs.Trees.TreeErasure.{erasure}
use Rattle.rb_scope.specs.Limits.{AreDistinct}
use Rattle.rb_scope.specs.Spelled.{ProcessSpelled}
use Rattle.rb_judge.specs.Verdict.{IsAccepted}
use Rattle.rb_judge.proofs.Accepted.{accepted_have_distinct_names, of_accepted}
use Rattle.rb_judge.proofs.Spelling.{accepted_are_spelled}
use Rattle.rb_record.specs.Record.{record_of}
use Rattle.rb_record.specs.Recorded.{AreKept}
use Rattle.rb_verdict.specs.Texts.{names_of, survivors_text}
use Rattle.rb_verdict.proofs.KeptTurns.{AreProcesses, AreTurns, run_before}
use Rattle.rb_verdict.proofs.RecordsReadBack.{AreNames, names_in, records_read_back}

-- ---- survivors

-- a survivor of so many turns of so many processes
pub record IsSurvivor (t n : ℕ) (kept : Kept) : Type 0 where
  pub turn : kept.turn < t
  pub process : kept.process < n
  pub alternate : kept.alternate ≤ kept.turn

module _ (t n : ℕ) where
  abbrev AreSurvivors : List Kept → Type 0
  AreSurvivors turns = AllByRecursion (IsSurvivor t n) turns

  -- one takes its place among others
  one_more : (one : Kept) (others : List Kept) → IsSurvivor t n one → AreSurvivors others → AreSurvivors (insert_kept one others)
  one_more one [] is all = (is, tt)
  one_more one (other ∷ others) is all = placed (one_more one others is all.1) (nat_lt one.turn other.turn)
    where
      placed : AreSurvivors (insert_kept one others) → (first : Bool)
          → AreSurvivors (cond first (one ∷ other ∷ others) (other ∷ insert_kept one others))
      placed later true = (is, all)
      placed later false = (all.0, later)

  -- and so do all of a process
  of_process : (p : ℕ) (kept : List (ℕ × ℕ)) (others : List Kept) → p < n → AreTurns t kept → AreSurvivors others
      → AreSurvivors (insert_all p kept others)
  of_process p [] others here before all = all
  of_process p ((turn, alternate) ∷ kept) others here before all =
      let first = before zero (turn, alternate) refl in
      one_more (record { turn = turn; process = p; alternate = alternate }) (insert_all p kept others)
      (record { turn = first.turn; process = here; alternate = first.alternate }) (of_process p kept others here (λ i. before (suc i)) all)

  of_processes : (p : ℕ) (processes : List (Process State State)) → p + length processes ≤ n → AreProcesses t processes
      → AreSurvivors (survivors_from p (map (λ s. s.kept) (map (λ q. q.state) processes)))
  of_processes p [] few before = tt
  of_processes p (q ∷ processes) few before =
      of_process p q.state.kept (survivors_from (p + 1) (map (λ s. s.kept) (map (λ r. r.state) processes)))
      (omega (arith, few)) (before zero q refl).kept
      (of_processes (p + 1) processes (omega (arith, few)) (λ i. before (suc i)))

  -- where they rise they are kept turns of a record
  are_kept : (before : ℕ) (turns : List Kept) → t ≤ MOST_TURNS + 1 → RisesFrom before turns → AreSurvivors turns → AreKept n before turns
  are_kept before [] few rises all = tt
  are_kept before (kept ∷ turns) few rises all =
      let one = all.0 in (
        record {
          rises = rises.0;
          few_turns = omega (arith, few, one.turn);
          known = one.process;
          few_alternates = omega (arith, few, one.turn, one.alternate);
        },
        are_kept kept.turn turns few rises.1 all.1,
      )

-- ---- names

names_again : (tree : Tree) → names_in (naming_of tree) ≡ names_of tree
names_again tree = map-map (λ process. process.name) process_named tree.processes

spelled_names : (edition : Edition) (processes : List ProcessDeclaration) → All (ProcessSpelled edition) processes
    → AreNames (map (λ process. process.name.text) processes)
spelled_names edition [] all = tt
spelled_names edition (process ∷ processes) all = (
  (All-head (ProcessSpelled edition) process processes all).name.0,
  spelled_names edition processes (All-tail (ProcessSpelled edition) process processes all),
)

-- ---- an accepted source

module _ (source : List ℕ) (tree : Tree) (accepted : IsAccepted source tree) (turns : List ℕ) (few : length turns ≤ MOST_TURNS) where
  abbrev last : TreeWorld
  last = (run_of tree turns).0

  length-opening : (p : ℕ) (processes : List ProcessDeclaration) → length (opening_states tree p processes) ≡ length processes
  length-opening p [] = refl
  length-opening p (process ∷ processes) = ap suc (length-opening (p + 1) processes)

  -- as many processes as it declares
  as_many : length last.processes ≡ length tree.processes
  as_many =
      let stands : IsStanding (tree_kind tree) (opening_states tree 0 tree.processes) last =
      standing (tree_kind tree) turns (opening_states tree 0 tree.processes) tt in
      stands.size.of_processes ∙ length-opening 0 tree.processes

  survivors_are_kept : AreKept (length tree.processes) 0 (survivors last)
  survivors_are_kept =
      are_kept (1 + length turns) (length tree.processes) 0 (survivors last) (omega (arith, few))
      (of_accepted IsAlwaysErased erasure source tree accepted turns).rises
      (of_processes (1 + length turns) (length tree.processes) 0 last.processes (omega (arith, as_many)) (run_before tree turns))

  -- so they are read back
  pub survivors_read_back : record_of (names_of tree) (survivors_text tree turns) ≡ Ok (survivors last)
  survivors_read_back =
      let many : length tree.processes ≡ length (names_in (naming_of tree)) =
      sym (ap (λ (names : List (List ℕ)). length names) (names_again tree) ∙ length-map tree.processes (λ process. process.name.text)) in
      ap (λ (names : List (List ℕ)). record_of names (survivors_text tree turns)) (sym (names_again tree))
      ∙ records_read_back (naming_of tree)
      (subst AreNames (sym (names_again tree)) (spelled_names tree.edition tree.processes (accepted_are_spelled source tree accepted).processes))
      (subst AreDistinct (sym (names_again tree)) (accepted_have_distinct_names source tree accepted).processes)
      (survivors last) (subst (λ (n : ℕ). AreKept n 0 (survivors last)) many survivors_are_kept)
