-- How a command over a schedule came to write a text: of an accepted source and of the turns of its schedule.
use Rattle.std.proofs.Common.{◌≡◌, ℕ, List, [], ◌∷◌, refl, subst}
use Rattle.rb_syntax.specs.Tree.{Tree}
use Rattle.rb_judge.specs.Verdict.{IsAccepted}
use Rattle.rb_hall.specs.Judgement.{Judgement, Writes}
use Rattle.rb_verdict.specs.Texts.{ScheduleRuns, names_of}
use Rattle.rb_verdict.specs.Judging.{JudgesSource, at_first, first_refused, first_accepted, OverSchedule, reads_schedule, schedule_refused, runs}

module _ (text_of : Tree → List ℕ → List ℕ) (written : List ℕ) where
  -- These texts are a source, which is accepted, and a schedule, and of its turns this was written.
  pub record Wrote (texts : List (List ℕ)) : Type 0 where
    pub source : List ℕ
    pub schedule : List ℕ
    pub tree : Tree
    pub both : texts ≡ source ∷ schedule ∷ []
    pub accepted : IsAccepted source tree
    pub ran : ScheduleRuns (names_of tree) (text_of tree) schedule written

  same_text : (text : List ℕ) → Writes text ≡ Writes written → text ≡ written
  same_text text e = cc

  over_wrote : (tree : Tree) (more : List (List ℕ)) (j : Judgement) (source : List ℕ) → OverSchedule text_of tree more j → j ≡ Writes written
      → IsAccepted source tree → Wrote (source ∷ more)
  over_wrote tree more j source reads_schedule e accepted = absurd (cc)
  over_wrote tree more j source (schedule_refused schedule fault refused) e accepted = absurd (cc)
  over_wrote tree more j source (runs schedule text ran) e accepted = record {
    source = source;
    schedule = schedule;
    tree = tree;
    both = refl;
    accepted = accepted;
    ran = subst (ScheduleRuns (names_of tree) (text_of tree) schedule) (same_text text e) ran;
  }

  source_wrote : (texts : List (List ℕ)) (j : Judgement) → JudgesSource (OverSchedule text_of) texts j → j ≡ Writes written → Wrote texts
  source_wrote texts j at_first e = absurd (cc)
  source_wrote texts j (first_refused source fault refused) e = absurd (cc)
  source_wrote texts j (first_accepted source tree more judgement accepted on) e = over_wrote tree more judgement source on e accepted

  pub wrote : (texts : List (List ℕ)) → JudgesSource (OverSchedule text_of) texts (Writes written) → Wrote texts
  wrote texts judged = source_wrote texts (Writes written) judged refl
