-- A trial ends as its two texts do, which are made and not read.
use Rattle.std.proofs.Common.{◌≡◌, ℕ, List, [], ◌∷◌, length, Ok, refl, sym, ap, subst}
use Rattle.rb_code.specs.Instructions.Plain.{code}
use Rattle.rb_conv.specs.Conversations.{memberships, opening}
use Rattle.rb_make.specs.Trial.{schedule_of as made_schedule, source_of}
use Rattle.rb_prepare.specs.Prepared.{IsPrepared}
use Rattle.rb_prepare.specs.declared.preparing.Prepared.{Prepared}
use Rattle.rb_syntax.specs.Tree.{Tree}
use Rattle.rb_judge.specs.Verdict.{IsAccepted}
use Rattle.rb_base.specs.Naming.{process_names}
use Rattle.rb_sched.specs.Schedule.{schedule_of}
use Rattle.rb_hall.specs.declared.fault.Fault.{Fault}
use Rattle.rb_hall.specs.Judgement.{EndsBy, Judgement, ReadsOn, RefusedWith, Writes, later, refused_here, written_here}
use Rattle.rb_verdict.specs.Words.{Trial}
use Rattle.rb_verdict.specs.Texts.{SourceRefused}
use Rattle.rb_verdict.specs.Judging.{Judges, JudgesSource, OverSchedule, at_first, first_accepted, first_refused, reads_schedule, runs, schedule_refused}
use Rattle.rb_verdict.specs.Summary.{summary_of, summary_text}
use Rattle.rb_commands.specs.Products.{word_counts}
use Rattle.rb_commands.proofs.Loaded.{counts_as_meant}
use Rattle.rb_commands.proofs.Scheduled.{turns_run}

-- with its schedule, a command reads no more
none_reads_on : (text_of : Tree → List ℕ → List ℕ) (tree : Tree) (texts : List (List ℕ)) (j : Judgement) (schedule : List ℕ)
    → OverSchedule text_of tree texts j → texts ≡ schedule ∷ [] → j ≡ ReadsOn → ⊥
none_reads_on text_of tree texts j schedule reads_schedule one e = cc
none_reads_on text_of tree texts j schedule (schedule_refused again fault r) one e = cc
none_reads_on text_of tree texts j schedule (runs again text r) one e = cc

module _ (n : ℕ) where
  abbrev Both : Judgement → Type 0
  Both judgement = EndsBy (JudgesSource (OverSchedule (summary_text n))) [] (source_of n ∷ made_schedule n ∷ []) judgement

  -- the source that is made is refused
  pub trial_refused : (fault : Fault) → SourceRefused (source_of n) fault → Judges (Trial n) [] (RefusedWith fault)
  trial_refused fault refused = (
    refl,
    later [] (source_of n) (made_schedule n ∷ []) (RefusedWith fault) at_first
        (refused_here (source_of n ∷ []) (made_schedule n ∷ []) fault (first_refused (source_of n) fault refused)),
  )

  -- or it is accepted
  module _ (tree : Tree) (accepted : IsAccepted (source_of n) tree) where
    schedule_read : (j : Judgement)
        → EndsBy (JudgesSource (OverSchedule (summary_text n))) (source_of n ∷ made_schedule n ∷ []) [] j → Both j
    schedule_read j ends =
        later [] (source_of n) (made_schedule n ∷ []) j at_first
        (later (source_of n ∷ []) (made_schedule n) [] j (first_accepted (source_of n) tree [] ReadsOn accepted reads_schedule) ends)

    -- and ends as its schedule says
    pub trial_ends : (j : Judgement) → OverSchedule (summary_text n) tree (made_schedule n ∷ []) j → Judges (Trial n) [] j
    trial_ends ReadsOn h = absurd (none_reads_on (summary_text n) tree (made_schedule n ∷ []) ReadsOn (made_schedule n) h refl refl)
    trial_ends (RefusedWith fault) h = (
      refl,
      schedule_read (RefusedWith fault) (refused_here (source_of n ∷ made_schedule n ∷ []) [] fault
          (first_accepted (source_of n) tree (made_schedule n ∷ []) (RefusedWith fault) accepted h)),
    )
    trial_ends (Writes text) h = (
      refl,
      schedule_read (Writes text) (written_here (source_of n ∷ made_schedule n ∷ []) [] text
          (first_accepted (source_of n) tree (made_schedule n ∷ []) (Writes text) accepted h)),
    )

-- the text of the word machine's counts is that of the meaning's
pub trial_writes : (n : ℕ) (source : List ℕ) (prepared : Prepared) (accepted : IsPrepared source prepared) (schedule turns all : List ℕ)
    → schedule_of (process_names prepared.code.names) schedule ≡ Ok turns → all ≡ turns
    → OverSchedule (summary_text n) accepted.tree (schedule ∷ [])
    (Writes (summary_of n (length all) (word_counts (code prepared.code) (memberships (opening prepared.nested)) all)))
trial_writes n source prepared accepted schedule turns all listed same =
    subst (λ (text : List ℕ). OverSchedule (summary_text n) accepted.tree (schedule ∷ []) (Writes text))
    (sym (ap (summary_of n (length all)) (counts_as_meant source prepared accepted all)))
    (turns_run source prepared accepted (summary_text n accepted.tree) schedule turns all listed same)
