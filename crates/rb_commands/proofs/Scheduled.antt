-- What `run`, `survive` and `stuck` make of a source and a schedule for it.
use Rattle.std.proofs.Common.{◌≡◌, ℕ, ◌≤◌, List, [], ◌∷◌, ◌++◌, length, map, Option, Bor, Result, Ok, Err, refl, sym, ap, subst, arith, ◌∙◌}
use Rattle.std.proofs.lemmas.Simd.{map-map}
use Rattle.rb_base.specs.Naming.{process_names}
use Rattle.rb_base.specs.declared.fault.TextFault.{TextFault}
use Rattle.rb_base.specs.declared.limits.TheConstants.{MOST_BYTES}
use Rattle.rb_base.specs.declared.names.Names.{Names}
use Rattle.rb_outside.specs.Outside.{Faults}
use Rattle.rb_syntax.specs.Tree.{Tree}
use Rattle.rb_meaning.specs.Meaning.{naming_of, process_named}
use Rattle.rb_trace.specs.Naming.{naming, process_naming}
use Rattle.rb_sched.specs.Schedule.{schedule_of}
use Rattle.rb_prepare.specs.Prepared.{IsPrepared}
use Rattle.rb_prepare.specs.declared.preparing.Prepared.{Prepared}
use Rattle.rb_hall.specs.declared.command.Stop.{Stop}
use Rattle.rb_hall.specs.declared.command.Unwritten.{Unwritten}
use Rattle.rb_hall.specs.declared.fault.Fault.{Fault}
use Rattle.rb_hall.specs.declared.fault.Fault.TheVariants as of
use Rattle.rb_hall.specs.Ends.{HoldsOn, IfRefused, Refuses, WriteEnds}
use Rattle.rb_hall.specs.Judgement.{Judgement, ReadsOn, RefusedWith, Wants, Writes}
use Rattle.rb_hall.proofs.Ends.{ends_as}
use Rattle.rb_verdict.specs.Judging.{Judges, JudgesSource, OverSchedule, OverTurns, at_first, first_accepted, first_refused, reads_schedule, runs, schedule_refused}
use Rattle.rb_verdict.specs.Texts.{SourceRefused, bad_schedule, names_of}
use Rattle.rb_verdict.specs.Words.{text_named}
use Rattle.rb_commands.specs.Explained.{ExplainsProgram, NamesOfSource, of_program, of_text}
use Rattle.rb_commands.specs.Held.{HoldsScheduled}
use Rattle.rb_commands.specs.Products.{command_for, text_for}
use Rattle.rb_commands.specs.Written.{EndsOverSchedule, KnowsNames}
use Rattle.rb_commands.specs.declared.over_schedule.Product.{Product}
use Rattle.rb_commands.specs.declared.over_schedule.Product.TheVariants.{Text, Survivors, Standing}
use Rattle.rb_commands.specs.declared.over_schedule.Scheduled.{Scheduled}
use Rattle.rb_commands.specs.declared.over_schedule.Scheduled.TheVariants as scheduled
use Rattle.rb_commands.specs.declared.why.Why.{Why}
use Rattle.rb_commands.specs.declared.why.Why.TheVariants as why
use Rattle.rb_commands.proofs.Taken.{refused_as}

-- the names that lines speak of tell those of the processes
pub scheduled_names : (names : Names) (t : Tree) → naming names ≡ naming_of t → process_names names ≡ names_of t
scheduled_names names t printed =
    sym (map-map (λ p. p.name) process_naming names.processes.items) ∙ ap (λ n. map (λ p. p.name) n.processes) printed
    ∙ map-map (λ p. p.name) process_named t.processes

module _ (source : List ℕ) (prepared : Prepared) (accepted : IsPrepared source prepared) where
  -- those of code that was made of a source are those of its tree
  pub names_are : process_names prepared.code.names ≡ names_of accepted.tree
  names_are = scheduled_names prepared.code.names accepted.tree accepted.is_code.stands.names_are

  pub its_names : NamesOfSource source prepared.code.names
  its_names = record { tree = accepted.tree; accepted = accepted.accepted; named = accepted.is_code.stands.names_are }

  -- so a schedule that was read with them was read with those of the tree
  pub listed_for : (schedule : List ℕ) (read : Result (List ℕ) TextFault) → schedule_of (process_names prepared.code.names) schedule ≡ read
      → schedule_of (names_of accepted.tree) schedule ≡ read
  listed_for schedule read e = ap (λ (names : List (List ℕ)). schedule_of names schedule) (sym names_are) ∙ e

  module _ (text_of : List ℕ → List ℕ) (schedule : List ℕ) where
    -- it has a fault
    pub turns_refused : (fault : TextFault) → schedule_of (process_names prepared.code.names) schedule ≡ Err fault
        → OverTurns (names_of accepted.tree) text_of (schedule ∷ []) (RefusedWith (of.Text fault))
    turns_refused fault bad = schedule_refused schedule (of.Text fault) (bad_schedule fault (listed_for schedule (Err fault) bad))

    -- or it lists turns
    pub turns_run : (turns all : List ℕ) → schedule_of (process_names prepared.code.names) schedule ≡ Ok turns → all ≡ turns
        → OverTurns (names_of accepted.tree) text_of (schedule ∷ []) (Writes (text_of all))
    turns_run turns all listed same =
        runs schedule (text_of all) (record { turns = turns; listed = listed_for schedule (Ok turns) listed; is = ap text_of same })

-- what a command over a schedule makes of texts
pub judges_for : (product : Product) (texts : List (List ℕ)) (j : Judgement)
    → JudgesSource (OverSchedule (text_for product)) texts j → Judges (command_for product) texts j
judges_for Text texts j h = h
judges_for Survivors texts j h = h
judges_for Standing texts j h = h

abbrev files : List ℕ → List ℕ → List Wants
files a b = text_named a ∷ text_named b ∷ []

module _ (product : Product) where
  pub nothing_taken : (a b : List ℕ) → HoldsOn (Judges (command_for product)) (files a b) HoldsScheduled [] scheduled.Nothing
  nothing_taken a b = (refl, λ more. judges_for product [] ReadsOn at_first)

  -- the source is the first text
  pub source_taken : (a b text : List ℕ) (prepared : Prepared) → IsPrepared text prepared → (texts : List (List ℕ))
      → HoldsScheduled texts scheduled.Nothing
      → HoldsOn (Judges (command_for product)) (files a b) HoldsScheduled (texts ++ text ∷ []) (scheduled.Program prepared)
  source_taken a b text prepared is texts none =
      subst (λ (ts : List (List ℕ)). HoldsOn (Judges (command_for product)) (files a b) HoldsScheduled (ts ++ text ∷ []) (scheduled.Program prepared))
      (sym none)
      ((text, refl, is), λ more. judges_for product (text ∷ []) ReadsOn (first_accepted text is.tree [] ReadsOn is.accepted reads_schedule))

  pub source_not_taken : (text : List ℕ) (stop : Stop Why)
      → IfRefused {T = Prepared} (Err stop) (λ fault known. SourceRefused text fault × (known ≡ why.Plain))
      → IfRefused {T = Scheduled} (Err stop) (λ fault known. (texts : List (List ℕ)) → HoldsScheduled texts scheduled.Nothing
      → Refuses (Judges (command_for product)) (ExplainsProgram NamesOfSource) (texts ++ text ∷ []) fault known)
  source_not_taken text stop refused =
      refused_as Prepared Scheduled (λ fault known. SourceRefused text fault × (known ≡ why.Plain))
      (λ fault known. (texts : List (List ℕ)) → HoldsScheduled texts scheduled.Nothing
      → Refuses (Judges (command_for product)) (ExplainsProgram NamesOfSource) (texts ++ text ∷ []) fault known)
      stop said refused
    where
      said : (fault : Fault) (known : Why) → SourceRefused text fault × (known ≡ why.Plain) → (texts : List (List ℕ))
          → HoldsScheduled texts scheduled.Nothing
          → Refuses (Judges (command_for product)) (ExplainsProgram NamesOfSource) (texts ++ text ∷ []) fault known
      said fault known (bad, plain) texts none =
          subst (λ (ts : List (List ℕ)). Refuses (Judges (command_for product)) (ExplainsProgram NamesOfSource) (ts ++ text ∷ []) fault known) (sym none) (
            judges_for product (text ∷ []) (RefusedWith fault) (first_refused text fault bad),
            subst (ExplainsProgram NamesOfSource (text ∷ []) fault) (sym plain) (of_program text fault),
          )

  -- the schedule is the second, and still to be judged
  pub schedule_taken : (a b : List ℕ) (text : Bor (List ℕ)) (prepared : Prepared) → length text.now ≤ MOST_BYTES → (texts : List (List ℕ))
      → HoldsScheduled texts (scheduled.Program prepared)
      → HoldsOn (Judges (command_for product)) (files a b) HoldsScheduled (texts ++ text.now ∷ []) (scheduled.Both prepared text)
  schedule_taken a b text prepared short texts (source, e, is) =
      subst (λ (ts : List (List ℕ)). HoldsOn (Judges (command_for product)) (files a b) HoldsScheduled (ts ++ text.now ∷ []) (scheduled.Both prepared text))
      (sym e) ((source, refl, is, short), λ more. absurd (omega (arith, more)))

  -- both were read
  pub both_end : (prepared : Prepared) (schedule : Bor (List ℕ)) (old new : Option (List ℕ)) (before after : Faults)
      (result : Result (Unit {0}) (Unwritten Why))
      → ((source : List ℕ) (accepted : IsPrepared source prepared) → EndsOverSchedule (text_for product accepted.tree) NamesOfSource source
      accepted.tree schedule.now old new before after result)
      → (texts : List (List ℕ)) → HoldsScheduled texts (scheduled.Both prepared schedule)
      → WriteEnds (Judges (command_for product) texts) (ExplainsProgram NamesOfSource texts) ⊥ old new before after result
  both_end prepared schedule old new before after result ends texts (source, e, is, short) =
      subst (λ (ts : List (List ℕ)). WriteEnds (Judges (command_for product) ts) (ExplainsProgram NamesOfSource ts) ⊥ old new before after result)
      (sym e)
      (ends_as (OverTurns (names_of is.tree) (text_for product is.tree) (schedule.now ∷ [])) (Judges (command_for product) (source ∷ schedule.now ∷ []))
      (KnowsNames (NamesOfSource source)) (ExplainsProgram NamesOfSource (source ∷ schedule.now ∷ [])) ⊥ ⊥ old new before after result
      (λ j h. judges_for product (source ∷ schedule.now ∷ []) j (first_accepted source is.tree (schedule.now ∷ []) j is.accepted h))
      known_of (λ never. never) (ends source is))
    where
      known_of : (fault : Fault) (known : Why) → KnowsNames (NamesOfSource source) fault known
          → ExplainsProgram NamesOfSource (source ∷ schedule.now ∷ []) fault known
      known_of fault known (names, is_names, so) =
          subst (ExplainsProgram NamesOfSource (source ∷ schedule.now ∷ []) fault) (sym is_names) (of_text source schedule.now [] fault names so)
