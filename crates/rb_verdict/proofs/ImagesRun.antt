-- What was compiled of an accepted source is an image that may be run, and its run is that of the source.
use Rattle.std.proofs.Common.{◌≡◌, ◌↔◌, ◌⊎◌, ℕ, ◌+◌, ◌<◌, ◌≤◌, List, [], ◌∷◌, ◌++◌, length, map, refl, sym, ap, subst, ◌∙◌, inl, inr, arith}
use Rattle.std.specs.List.{AllZip}
use Rattle.std.proofs.lemmas.Bool.{cases_lt}
use Rattle.std.proofs.lemmas.Simd.{map-map}
use Rattle.rb_base.specs.declared.limits.TheConstants.{MOST_BYTES}
use Rattle.rb_syntax.specs.Tree.{ProcessDeclaration, Tree}
use Rattle.rb_world.specs.Text.{Naming, ProcessNaming}
use Rattle.rb_world.proofs.ListFacts.{heads_same}
use Rattle.rb_meaning.specs.Groups.{groups_of}
use Rattle.rb_meaning.specs.Meaning.{process_named, run_text}
use Rattle.rb_meaning.proofs.NamedVariables.{named_within}
use Rattle.rb_scope.specs.declared.slot.Slot.{Slot}
use Rattle.rb_judge.specs.Verdict.{IsAccepted}
use Rattle.rb_code.specs.Instructions.Plain.{Code, Part}
use Rattle.rb_code.specs.Agreement.StandsFor.{ProcessesCode}
use Rattle.rb_code.specs.SoundCode.WellFormed.{IsSound}
use Rattle.rb_code.specs.WordMachine.WordRun.{word_text}
use Rattle.rb_prepare.proofs.AcceptedSources.{accepted_code_agrees}
use Rattle.rb_hall.specs.declared.fault.Fault.TheVariants as of
use Rattle.rb_hall.specs.Judgement.{Judgement, Judging, ReadsOn, RefusedWith, Writes, Wants, Limited, as_judged, too_long, none_yet, one_short, EndsBy, refused_here, later}
use Rattle.rb_hall.proofs.Limits.{AreWithin, short_ends, wrote_within}
use Rattle.rb_verdict.specs.Words.{Compile, Load, Run, compile_of, image_named, load_of, run_of as run_request, text_named}
use Rattle.rb_verdict.specs.Programs.{IsImageOf, Program, VariablesLie, counts_from, names_in}
use Rattle.rb_verdict.specs.Texts.{ImageHolds, ScheduleRefused, ScheduleRuns, names_of}
use Rattle.rb_verdict.proofs.InRanges.{image_short}
use Rattle.rb_verdict.specs.Judging.{JudgesSource, at_first, first_refused, first_accepted, CompileGoesOn, compiles, EndsWith, Judges, OverSchedule, reads_schedule, runs, schedule_refused}
use Rattle.rb_verdict.specs.Laws.{ImagesRunAsTheirSources}
use Rattle.rb_verdict.specs.declared.limits.TheConstants.{MOST_IMAGE}
use Rattle.rb_verdict.proofs.AllJudged.{LoadEnds, Turned, load_refuses, load_writes, turned}
use Rattle.rb_verdict.proofs.BothTexts.{BothEnd, second_refused, second_writes}
use Rattle.rb_verdict.proofs.Nests.{sound_with_counts}
use Rattle.rb_verdict.proofs.Once.{are_judged_once}

-- ---- what `compile` makes of a source

module _ (image : List ℕ) where
  -- The text that was read is a source, which is accepted, and this is its image.
  record Compiled (texts : List (List ℕ)) : Type 0 where
    source : List ℕ
    tree : Tree
    alone : texts ≡ source ∷ []
    accepted : IsAccepted source tree
    its_image : IsImageOf tree image

  same_image : (text : List ℕ) → Writes text ≡ Writes image → text ≡ image
  same_image text e = cc

  accepted_compiled : (source : List ℕ) (tree : Tree) (more : List (List ℕ)) (j : Judgement) → CompileGoesOn tree more j → j ≡ Writes image
      → IsAccepted source tree → Compiled (source ∷ more)
  accepted_compiled source tree more j (compiles text is) e accepted = record {
    source = source;
    tree = tree;
    alone = refl;
    accepted = accepted;
    its_image = subst (IsImageOf tree) (same_image text e) is;
  }

  source_compiled : (texts : List (List ℕ)) (j : Judgement) → JudgesSource CompileGoesOn texts j → j ≡ Writes image → Compiled texts
  source_compiled texts j at_first e = absurd (cc)
  source_compiled texts j (first_refused source fault refused) e = absurd (cc)
  source_compiled texts j (first_accepted source tree more judgement accepted on) e = accepted_compiled source tree more judgement on e accepted

-- ---- what `load` makes of its image

-- the variables of each process, as lines name them, lie within its words
module _ (tree : Tree) (slots : List Slot) (c : Code) where
  processes_lie : (p : ℕ) (processes : List ProcessDeclaration) (parts : List Part) (a b : ℕ)
      → ProcessesCode tree slots p processes parts c a b → AllZip VariablesLie (map process_named processes) parts
  processes_lie p [] parts a b (none, here) = subst (AllZip VariablesLie []) (sym none) tt
  processes_lie p (process ∷ processes) parts a b (part, more, is, (m, (tells, body), rest)) =
      subst (AllZip VariablesLie (process_named process ∷ map process_named processes)) (sym is) (
        named_within part.words 0 process.variables (omega (arith, tells.words_are)),
        processes_lie (p + 1) processes more m b rest,
      )

module _ (source image : List ℕ) (tree : Tree) (accepted : IsAccepted source tree) (its : IsImageOf tree image) where
  abbrev program : Program
  program = record { code = its.compiled; groups = groups_of tree; counts = counts_from tree 0 (groups_of tree) }

  sound : IsSound its.compiled (groups_of tree) (counts_from tree 0 (groups_of tree))
  sound = sound_with_counts source tree its.made.slots its.compiled accepted its.made.frames its.made.stands

  lie : AllZip VariablesLie its.compiled.names.processes its.compiled.processes
  lie =
      subst (λ (names : Naming). AllZip VariablesLie names.processes its.compiled.processes) (sym its.made.stands.names_are)
      (processes_lie tree its.made.slots its.compiled 0 tree.processes its.compiled.processes 0
      (length its.compiled.instrs) its.made.stands.instrs_are)

  -- it is accepted
  holds : ImageHolds image program
  holds = record { image = its.is_image; may_run = record { sound = sound; lie = lie } }

  -- its processes have the names of the tree's
  names_same : names_in program ≡ names_of tree
  names_same =
      ap (λ (names : Naming). map (λ (process : ProcessNaming). process.name) names.processes) its.made.stands.names_are
      ∙ map-map (λ (process : ProcessNaming). process.name) process_named tree.processes

  -- and its runs the texts of the tree's
  text_same : (turns : List ℕ) → word_text program.code program.groups turns ≡ run_text tree turns
  text_same turns =
      (accepted_code_agrees source tree its.made.slots its.compiled accepted its.made.frames its.made.stands turns).text

  module _ (schedule : List ℕ) where
    -- both commands end so
    record Both : Type 0 where
      judgement : Judgement
      loads : LoadEnds image schedule judgement
      ran : BothEnd (OverSchedule run_text) source schedule judgement

    both : Turned (names_of tree) (run_text tree) schedule → Both
    both (inl (fault, refused)) = record {
      judgement = RefusedWith fault;
      loads = load_refuses image schedule program holds fault
          (subst (λ (names : List (List ℕ)). ScheduleRefused names schedule fault) (sym names_same) refused);
      ran = second_refused (OverSchedule run_text) source schedule tree accepted reads_schedule fault (schedule_refused schedule fault refused);
    }
    both (inr (text, told)) = record {
      judgement = Writes text;
      loads = load_writes image schedule program holds text
          (subst (λ (names : List (List ℕ)). ScheduleRuns names (word_text program.code program.groups) schedule text) (sym names_same)
          (record { turns = told.turns; listed = told.listed; is = told.is ∙ sym (text_same told.turns) }));
      ran = second_writes (OverSchedule run_text) source schedule tree accepted reads_schedule text (runs schedule text told);
    }

    ends_both : Both
    ends_both = both (turned (names_of tree) (run_text tree) schedule)

    -- ---- with the limits of their files

    module _ (compiled plan program_name : List ℕ) (small : length source ≤ MOST_BYTES) (short : length image ≤ MOST_IMAGE) where
      record BothWithin : Type 0 where
        judgement : Judgement
        loads : EndsWith (load_of compiled plan) (image ∷ schedule ∷ []) judgement
        ran : EndsWith (run_request program_name plan) (source ∷ schedule ∷ []) judgement

      -- a second text that is too long
      long_second : (judges : Judging) (a b : Wants) (first : List ℕ) → judges [] ReadsOn → length first ≤ a.most → judges (first ∷ []) ReadsOn
          → b.most < length schedule → EndsBy (Limited judges (a ∷ b ∷ [])) [] (first ∷ schedule ∷ []) (RefusedWith of.Long)
      long_second judges a b first starts few goes long =
          later [] first (schedule ∷ []) (RefusedWith of.Long) (as_judged [] (a ∷ b ∷ []) ReadsOn none_yet starts)
          (later (first ∷ []) schedule [] (RefusedWith of.Long)
          (as_judged (first ∷ []) (b ∷ []) ReadsOn (one_short [] a (b ∷ []) first none_yet few) goes)
          (refused_here (first ∷ schedule ∷ []) [] of.Long
          (too_long (first ∷ []) b [] schedule (one_short [] a (b ∷ []) first none_yet few) goes long)))

      both_within : (MOST_BYTES < length schedule) ⊎ (length schedule ≤ MOST_BYTES) → BothWithin
      both_within (inl long) = record {
        judgement = RefusedWith of.Long;
        loads = long_second (Judges Load) (image_named compiled) (text_named plan) image at_first short
            (first_accepted image program [] ReadsOn holds reads_schedule) long;
        ran = long_second (Judges Run) (text_named program_name) (text_named plan) source at_first small
            (first_accepted source tree [] ReadsOn accepted reads_schedule) long;
      }
      both_within (inr few) = record {
        judgement = ends_both.judgement;
        loads = short_ends (Judges Load) (load_of compiled plan).files (image ∷ schedule ∷ []) ends_both.judgement (short, (few, tt)) ends_both.loads;
        ran = short_ends (Judges Run) (run_request program_name plan).files (source ∷ schedule ∷ []) ends_both.judgement (small, (few, tt)) ends_both.ran;
      }

      -- so each ends as the other does
      as_each_other : (judgement : Judgement)
          → EndsWith (load_of compiled plan) (image ∷ schedule ∷ []) judgement ↔ EndsWith (run_request program_name plan) (source ∷ schedule ∷ []) judgement
      as_each_other judgement =
          let ends = both_within (cases_lt MOST_BYTES (length schedule)) in (
            λ loaded. subst (EndsWith (run_request program_name plan) (source ∷ schedule ∷ []))
                (are_judged_once (load_of compiled plan) (image ∷ schedule ∷ []) ends.judgement judgement ends.loads loaded) ends.ran,
            λ ran. subst (EndsWith (load_of compiled plan) (image ∷ schedule ∷ []))
                (are_judged_once (run_request program_name plan) (source ∷ schedule ∷ []) ends.judgement judgement ends.ran ran) ends.loads,
          )

pub images_run_as_their_sources : ImagesRunAsTheirSources
images_run_as_their_sources program compiled plan source image ends schedule judgement =
    let request = compile_of program in
    let within = wrote_within (Judges Compile) request.files (source ∷ []) image ends in
    let found = source_compiled image within.read (Writes image) within.judged refl in
    let same : found.source ≡ source =
    heads_same (ap (λ (ts : List (List ℕ)). ts ++ within.left) (sym found.alone) ∙ within.parts) in
    let small = subst (AreWithin request.files) found.alone within.within in
    let accepted : IsAccepted source found.tree = subst (λ (s : List ℕ). IsAccepted s found.tree) same found.accepted in
    let few : length source ≤ MOST_BYTES = subst (λ (s : List ℕ). length s ≤ MOST_BYTES) same small.0 in
    as_each_other source image found.tree accepted found.its_image schedule compiled plan program few
    (image_short source image found.tree few accepted found.its_image) judgement
