-- The names that fit a code fit the ending of each of its runs: every process has the words that its variables lie in.
use Rattle.std.proofs.Common.{◌≡◌, ℕ, suc, ◌+◌, ◌<◌, ◌≤◌, ◌^◌, List, [], ◌∷◌, length, map, slice_get, Option, Some, refl, sym, ap, ◌∙◌, arith, subst}
use Rattle.std.specs.List.{AllByRecursion, AllZip}
use Rattle.std.specs.Option.{unwrap_or}
use Rattle.rb_base.specs.Limits.{most_words}
use Rattle.rb_base.specs.declared.edition.Edition.{Edition}
use Rattle.rb_base.specs.declared.edition.Edition.TheVariants.{First, Second}
use Rattle.rb_base.specs.declared.names.Names.{Names}
use Rattle.rb_base.specs.declared.names.ProcessNames.{ProcessNames}
use Rattle.rb_trace.specs.Fitting.{Fits, LiesWithin, ProcessFits}
use Rattle.rb_world.specs.Kind.{Membership}
use Rattle.rb_world.specs.Standing.{Each}
use Rattle.rb_world.specs.World.{Process}
use Rattle.rb_code.specs.WordMachine.Workspace.{no_part, part_of}
use Rattle.rb_code.specs.Instructions.Plain.{Code, Part}
use Rattle.rb_code.specs.WordMachine.Turn.{Copy, Standing}
use Rattle.rb_code.specs.SoundCode.WellFormed.{IsPart, IsSound}
use Rattle.rb_code.specs.WordMachine.WordRun.{WordWorld, counts_sent, counts_taken, variable_words}
use Rattle.rb_code.proofs.WholeRuns.ProcessesBegin.{all_there}
use Rattle.rb_code.specs.Instructions.Variables.{VariablesLie}
use Rattle.rb_run.specs.Running.{NamesFit}
use Rattle.rb_machine.proofs.Releasing.LentAtWork.{sent_each, taken_each}
use Rattle.rb_run.proofs.OwnWords.{HasOwnWords, variables_long}

words_few : (edition : Edition) (n : ℕ) → n ≤ most_words edition → n < 2 ^ 32
words_few First n few = omega (arith, few)
words_few Second n few = omega (arith, few)

-- these parts are those of the processes from number p on
abbrev AreFrom : Code → ℕ → List Part → Type 0
AreFrom c p parts = (r : ℕ) (part : Part) → slice_get parts r ≡ Some part → slice_get c.processes (p + r) ≡ Some part

module _ (c : Code) (few : (p : ℕ) (part : Part) → slice_get c.processes p ≡ Some part → part.words < 2 ^ 32) where
  one_fits : (p : ℕ) (part : Part) (names : ProcessNames) (q : Process Standing Copy) → slice_get c.processes p ≡ Some part
      → VariablesLie names part → HasOwnWords c p q → ProcessFits names (variable_words c q.state)
  one_fits p part names q there lie h =
      let is : (part_of c q.state.process).words ≡ part.words =
      ap (λ (n : ℕ). (part_of c n).words) h.number ∙ ap (λ (o : Option Part). (unwrap_or o no_part).words) there in
      let long : part.words ≡ length (variable_words c q.state) = sym (variables_long c q.state h.own ∙ is) in (
        subst (λ (n : ℕ). AllByRecursion (LiesWithin n) names.variables.items) long lie,
        subst (λ (n : ℕ). n < 2 ^ 32) long (few p part there),
      )

  all_fit : (p : ℕ) (parts : List Part) (names : List ProcessNames) (qs : List (Process Standing Copy)) → AreFrom c p parts
      → AllZip VariablesLie names parts → length qs ≡ length parts → Each (λ r q. HasOwnWords c (p + r) q) qs
      → AllZip ProcessFits names (map (λ (q : Process Standing Copy). variable_words c q.state) qs)
  all_fit p [] [] [] from lie as_many own = tt
  all_fit p [] [] (q ∷ qs) from lie as_many own = absurd (omega (arith, as_many))
  all_fit p [] (one ∷ names) qs from lie as_many own = absurd lie
  all_fit p (part ∷ parts) [] qs from lie as_many own = absurd lie
  all_fit p (part ∷ parts) (one ∷ names) [] from lie as_many own = absurd (omega (arith, as_many))
  all_fit p (part ∷ parts) (one ∷ names) (q ∷ qs) from lie as_many own =
      let next : (r : ℕ) → p + suc r ≡ p + 1 + r = λ r. omega arith in (
        one_fits (p + 0) part one q (from 0 part refl) lie.0 (own 0 q refl),
        all_fit (p + 1) parts names qs
            (λ r x e. subst (λ (n : ℕ). slice_get c.processes n ≡ Some x) (next r) (from (suc r) x e)) lie.1 (omega (arith, as_many))
            (λ r x e. subst (λ (n : ℕ). HasOwnWords c n x) (next r) (own (suc r) x e)),
      )

pub ending_fits : (c : Code) (groups : List Membership) (counts : List ℕ) (names : Names) (w : WordWorld) → IsSound c groups counts
    → NamesFit c names
    → length w.processes ≡ length c.processes → Each (HasOwnWords c) w.processes
    → Fits names (map (λ (q : Process Standing Copy). variable_words c q.state) w.processes)
    (counts_sent c (map (λ (q : Process Standing Copy). q.state) w.processes) 0 c.channels)
    (counts_taken c (map (λ (q : Process Standing Copy). q.state) w.processes) 0 c.channels)
ending_fits c groups counts names w sound fit as_many own =
    let own_number : (r : ℕ) → r ≡ 0 + r = λ r. omega arith in
    record {
      processes = all_fit c
          (λ p part there. words_few c.edition part.words (all_there (IsPart c) c.processes p part sound.well.processes there).words)
          0 c.processes names.processes.items w.processes (λ r part e. subst (λ (n : ℕ). slice_get c.processes n ≡ Some part) (own_number r) e)
          fit.processes as_many (λ r q e. subst (λ (n : ℕ). HasOwnWords c n q) (own_number r) (own r q e));
      sent = sent_each c (map (λ (q : Process Standing Copy). q.state) w.processes) 0 c.channels ∙ sym fit.channels;
      taken = taken_each c (map (λ (q : Process Standing Copy). q.state) w.processes) 0 c.channels ∙ sym fit.channels;
    }
