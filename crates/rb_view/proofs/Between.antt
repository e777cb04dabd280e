-- What is known of a machine between two turns of its run.
use Rattle.std.proofs.Common.{◌≡◌, ℕ, suc, ◌+◌, ◌<◌, ◌≤◌, ◌^◌, Bool, List, [], ◌∷◌, ◌++◌, length, ap, sym, ◌∙◌, subst, arith}
use Rattle.std.proofs.lemmas.List.{length-append}
use Rattle.rb_base.specs.Limits.{most_processes, most_words}
use Rattle.rb_base.specs.declared.edition.Edition.{Edition}
use Rattle.rb_base.specs.declared.edition.Edition.TheVariants.{First, Second}
use Rattle.rb_world.specs.Kind.{Kind}
use Rattle.rb_world.specs.Slots.{zero_slots}
use Rattle.rb_world.specs.Standing.{Each, IsShallow}
use Rattle.rb_world.specs.Turn.{run, turn}
use Rattle.rb_world.specs.World.{World}
use Rattle.rb_world.proofs.Keeping.StandingFacts.{standing}
use Rattle.rb_code.specs.SoundCode.WellFormed.{IsPart, JoinsTwo}
use Rattle.rb_code.specs.WordMachine.Turn.{Common}
use Rattle.rb_code.specs.WordMachine.WordKind.{word_kind}
use Rattle.rb_code.specs.WordMachine.WordRun.{WordWorld, opening_of, opening_standings, variable_words, word_run}
use Rattle.rb_code.specs.WordMachine.Workspace.{part_of}
use Rattle.rb_code.proofs.WholeRuns.ProcessesBegin.{all_there}
use Rattle.rb_recovery.specs.Known.{IsSoundFor}
use Rattle.rb_machine.specs.Machine.{Seen, opening_seen, turned}
use Rattle.rb_machine.proofs.Knowing.Sizes.{length-opening}
use Rattle.rb_run.proofs.OwnWords.{runs_own, variables_long}
use Rattle.rb_view.specs.Steady.{IsOfRun, IsSteady}

-- a run of one turn more
run_last : {S C M : Type 0} (k : Kind S C M) (t p : ℕ) (turns : List ℕ) (w : World S C M)
    → (run k t (turns ++ p ∷ []) w).0 ≡ (turn k (t + length turns) p (run k t turns w).0).0
run_last k t p [] w = ap (λ n. (turn k n p w).0) {x = t} {y = t + 0} (omega arith)
run_last k t p (q ∷ turns) w =
    run_last k (t + 1) p turns (turn k t q w).0
    ∙ ap (λ n. (turn k n p (run k (t + 1) turns (turn k t q w).0).0).0) {x = t + 1 + length turns} {y = t + suc (length turns)} (omega arith)

-- so a machine after a turn is one of a run
pub of_run_next : (m now : Seen) (p : ℕ) → now.code ≡ m.code → now.groups ≡ m.groups → now.world ≡ (turned m p).0 → now.taken ≡ m.taken + 1
    → IsOfRun m → IsOfRun now
of_run_next m now p code groups world taken h = record {
  turns = h.turns ++ p ∷ [];
  world = world
      ∙ ap (λ (w : WordWorld). (turn (word_kind m.code m.groups) (m.taken + 1) p w).0) h.world
      ∙ ap (λ n. (turn (word_kind m.code m.groups) n p (word_run m.code m.groups h.turns).0).0) {x = m.taken + 1} {y = 1 + length h.turns} (omega (arith, h.taken))
      ∙ sym (run_last (word_kind m.code m.groups) 1 p h.turns (opening_of m.code m.groups))
      ∙ (λ j. (word_run (sym code j) (sym groups j) (h.turns ++ p ∷ [])).0);
  taken = omega (arith, taken, h.taken, length-append h.turns (p ∷ []));
}

-- and so is one that was just loaded
pub of_run_first : (m : Seen) (keeps : Bool) → m ≡ opening_seen m.code m.groups keeps m.most → IsOfRun m
of_run_first m keeps fresh = record {
  turns = [];
  world = ap (λ (x : Seen). x.world) fresh;
  taken = ap (λ (x : Seen). x.taken) fresh;
}

few_words : (edition : Edition) (n : ℕ) → n ≤ most_words edition → n < 2 ^ 32
few_words First n few = omega (arith, few)
few_words Second n few = omega (arith, few)

few_processes : (edition : Edition) (n : ℕ) → n ≤ most_processes edition → n < 2 ^ 32
few_processes First n few = omega (arith, few)
few_processes Second n few = omega (arith, few)

pub steady : (m : Seen) → IsSoundFor m.code m.groups → IsOfRun m → IsSteady m
steady m (counts, sound) h =
    let c = m.code in
    let at_first : Common = record { slots = zero_slots c.channels; links = [] } in
    let stands = standing (word_kind c m.groups) h.turns (opening_standings 0 c.processes) at_first in
    let own = runs_own c m.groups counts sound h.turns in
    record {
      processes = ap (λ (w : WordWorld). length w.processes) h.world ∙ stands.size.of_processes ∙ length-opening 0 c.processes;
      few = few_processes c.edition (length c.processes) sound.well.few_processes;
      talks = ap (λ (w : WordWorld). length w.talks) h.world ∙ stands.size.of_talks;
      shallow = subst (λ (w : WordWorld). Each IsShallow w.processes) (sym h.world) stands.shallow;
      words = subst (λ (w : WordWorld). Each (λ p q. length (variable_words c q.state) ≡ (part_of c p).words) w.processes) (sym h.world)
          (λ p q there. variables_long c q.state (own p q there).own ∙ ap (λ n. (part_of c n).words) (own p q there).number);
      short = λ p part there. few_words c.edition part.words (all_there (IsPart c) c.processes p part sound.well.processes there).words;
      channels = λ p ends there. all_there (JoinsTwo c) c.channels p ends sound.well.channels there;
      few_channels = omega (arith, sound.well.few_channels);
      few_talks = omega (arith, sound.well.few_conversations);
    }
