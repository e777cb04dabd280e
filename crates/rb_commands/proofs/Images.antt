-- A compiled image: when its program may be run, and what `load` makes of it and of the schedule after it.
use Rattle.std.proofs.Common.{◌≡◌, ℕ, ◌+◌, ◌≤◌, List, [], ◌∷◌, ◌++◌, length, map, Option, Bor, Result, Ok, Err, refl, sym, ap, subst, ◌∙◌, arith}
use Rattle.std.specs.List.{AllByRecursion, AllZip}
use Rattle.std.proofs.lemmas.Simd.{map-map}
use Rattle.rb_base.specs.Naming.{process_names}
use Rattle.rb_base.specs.declared.fault.TextFault.{TextFault}
use Rattle.rb_base.specs.declared.limits.TheConstants.{MOST_BYTES}
use Rattle.rb_base.specs.declared.names.Nested.{Nested}
use Rattle.rb_base.specs.declared.names.ProcessNames.{ProcessNames}
use Rattle.rb_base.specs.declared.names.Variable.{Variable}
use Rattle.rb_outside.specs.Outside.{Faults}
use Rattle.rb_world.specs.Kind.{Membership}
use Rattle.rb_world.specs.Text.{ProcessNaming, VariableNaming, size_of}
use Rattle.rb_trace.specs.Fitting.{LiesWithin}
use Rattle.rb_trace.specs.Naming.{naming, process_naming, variable_naming}
use Rattle.rb_trace.proofs.Lying.{variables_within}
use Rattle.rb_sched.specs.Schedule.{schedule_of}
use Rattle.rb_nest.specs.Groups.{memberships as told_memberships}
use Rattle.rb_code.specs.declared.code.Code.{Code as Held}
use Rattle.rb_code.specs.Instructions.Plain.{Part, code}
use Rattle.rb_code.specs.SoundCode.WellFormed.{IsSound}
use Rattle.rb_code.specs.WordMachine.WordRun.{word_text}
use Rattle.rb_conv.specs.Conversations.{memberships, opening}
use Rattle.rb_recovery.specs.Worlds.{counts_of}
use Rattle.rb_lists.specs.Lists.{HasLists}
use Rattle.rb_lists.specs.Variables.{LieInParts}
use Rattle.rb_run.specs.Running.{NamesFit}
use Rattle.rb_image.specs.Laws.{IsImage}
use Rattle.rb_hall.specs.declared.command.Stop.{Stop}
use Rattle.rb_hall.specs.declared.command.Unwritten.{Unwritten}
use Rattle.rb_hall.specs.declared.fault.Fault.{Fault}
use Rattle.rb_hall.specs.declared.fault.Fault.TheVariants as of
use Rattle.rb_hall.specs.Ends.{HoldsOn, IfRefused, Refuses, WriteEnds}
use Rattle.rb_hall.specs.Judgement.{ReadsOn, RefusedWith, Wants, Writes}
use Rattle.rb_hall.proofs.Ends.{ends_as}
use Rattle.rb_verdict.specs.Judging.{Judges, OverTurns, first_accepted, first_refused, reads_schedule, runs, schedule_refused}
use Rattle.rb_verdict.specs.Programs.{MayRun, Program, VariablesLie, names_in, program_of}
use Rattle.rb_verdict.specs.Texts.{ImageHolds, ImageRefused, bad_schedule, unsound_image}
use Rattle.rb_verdict.specs.Words.{Load, image_named, text_named}
use Rattle.rb_verdict.specs.declared.limits.TheConstants.{MOST_IMAGE}
use Rattle.rb_commands.specs.Explained.{ExplainsProgram, NamesOfImage, of_program, of_text}
use Rattle.rb_commands.specs.Held.{HoldsLoaded, IsUnfit}
use Rattle.rb_commands.specs.Written.{EndsOverTurns, KnowsNames}
use Rattle.rb_commands.specs.declared.image.Unfit.TheVariants as unfit
use Rattle.rb_commands.specs.declared.load.Loaded.{Loaded}
use Rattle.rb_commands.specs.declared.load.Loaded.TheVariants as loaded
use Rattle.rb_commands.specs.declared.why.Why.{Why}
use Rattle.rb_commands.specs.declared.why.Why.TheVariants as why
use Rattle.rb_commands.proofs.Loaded.{opened_counts, opened_groups}
use Rattle.rb_commands.proofs.Taken.{IsNext, refused_as, short_text}

-- ---- when a program may be run

-- where variables lie within words, so do those that lines name
variables_told : (words : ℕ) (items : List Variable) → AllByRecursion (LiesWithin words) items
    → AllByRecursion (λ (named : VariableNaming). named.at + size_of named.size ≤ words) (map variable_naming items)
variables_told words [] lie = tt
variables_told words (one ∷ items) (here, others) = (here, variables_told words items others)

lie_told : (names : List ProcessNames) (parts : List Part) → LieInParts names parts → AllZip VariablesLie (map process_naming names) parts
lie_told [] [] lie = tt
lie_told [] (part ∷ parts) lie = lie
lie_told (one ∷ names) [] lie = lie
lie_told (one ∷ names) (part ∷ parts) (here, others) = (variables_told part.words one.variables.items here, lie_told names parts others)

lie_there : (names : List ProcessNames) (parts : List Part) → AllZip VariablesLie (map process_naming names) parts → LieInParts names parts
lie_there [] [] lie = tt
lie_there [] (part ∷ parts) lie = lie
lie_there (one ∷ names) [] lie = lie
lie_there (one ∷ names) (part ∷ parts) (here, others) = (variables_within part.words one.variables.items here, lie_there names parts others)

module _ (held : Held) (nested : Nested) where
  groups_told : memberships (opening nested) ≡ told_memberships nested
  groups_told = opened_groups nested.conversations.items

  -- its lists are well formed, and it is sound
  pub fit : HasLists held nested → IsSound (code held) (memberships (opening nested)) (counts_of (opening nested))
      → MayRun (program_of held nested)
  fit lists sound = record {
    sound = subst (IsSound (code held) (told_memberships nested)) (opened_counts nested)
        (subst (λ (groups : List Membership). IsSound (code held) groups (counts_of (opening nested))) groups_told sound);
    lie = lie_told held.names.processes.items (code held).processes lists.lie;
  }

  module _ (may : MayRun (program_of held nested)) where
    -- so the machine may be loaded with it
    pub sound_opened : IsSound (code held) (memberships (opening nested)) (counts_of (opening nested))
    sound_opened =
        subst (λ (groups : List Membership). IsSound (code held) groups (counts_of (opening nested))) (sym groups_told)
        (subst (IsSound (code held) (told_memberships nested)) (sym (opened_counts nested)) may.sound)

    pub lists_had : HasLists held nested
    lists_had = record {
      well = sound_opened.well;
      lie = lie_there held.names.processes.items (code held).processes may.lie;
    }

    pub names_fit_code : NamesFit (code held) held.names
    names_fit_code = record { processes = lists_had.lie; channels = may.sound.well.named.channels_each }

  -- its names are those that its schedule is read with
  its_names : process_names held.names ≡ names_in (program_of held nested)
  its_names = sym (map-map (λ (p : ProcessNaming). p.name) process_naming held.names.processes.items)

  -- so a schedule that was read with them was read with those of the program
  listed_for : (schedule : List ℕ) (read : Result (List ℕ) TextFault) → schedule_of (process_names held.names) schedule ≡ read
      → schedule_of (names_in (program_of held nested)) schedule ≡ read
  listed_for schedule read e = ap (λ (names : List (List ℕ)). schedule_of names schedule) (sym its_names) ∙ e

  -- the text of its run, however its conversations are kept
  pub run_told : (turns : List ℕ) → word_text (code held) (memberships (opening nested)) turns ≡ word_text (code held) (told_memberships nested) turns
  run_told turns = ap (λ (groups : List Membership). word_text (code held) groups turns) groups_told

  module _ (text_of : List ℕ → List ℕ) (schedule : List ℕ) where
    -- the schedule has a fault
    pub turns_refused : (fault : TextFault) → schedule_of (process_names held.names) schedule ≡ Err fault
        → OverTurns (names_in (program_of held nested)) text_of (schedule ∷ []) (RefusedWith (of.Text fault))
    turns_refused fault bad = schedule_refused schedule (of.Text fault) (bad_schedule fault (listed_for schedule (Err fault) bad))

    -- or it lists turns
    pub turns_run : (turns all : List ℕ) → schedule_of (process_names held.names) schedule ≡ Ok turns → all ≡ turns
        → OverTurns (names_in (program_of held nested)) text_of (schedule ∷ []) (Writes (text_of all))
    turns_run turns all listed same =
        runs schedule (text_of all) (record { turns = turns; listed = listed_for schedule (Ok turns) listed; is = ap text_of same })

-- ---- the image

-- bytes that are the image of a program which may not be run are refused
pub unsound_refused : (bytes : List ℕ) (program : Program) → IsImage bytes program.code program.groups program.counts → IsUnfit program unfit.Unsound
    → ImageRefused bytes of.Unsound
unsound_refused bytes program is bad = unsound_image program is bad

-- those of one that may be run hold it
pub image_held : (bytes : List ℕ) (program held : Program) → IsImage bytes program.code program.groups program.counts → held ≡ program
    → MayRun held → ImageHolds bytes held
image_held bytes program held is same may = record {
  image = subst (λ (one : Program). IsImage bytes one.code one.groups one.counts) (sym same) is;
  may_run = may;
}

-- ---- what `load` makes of its texts

abbrev pub files : List ℕ → List ℕ → List Wants
files image schedule = image_named image ∷ text_named schedule ∷ []

-- the image is the first
pub image_is_short : (a b text : List ℕ) → IsNext (files a b) text (λ texts. HoldsLoaded texts loaded.Nothing) → length text ≤ MOST_IMAGE
image_is_short a b text ([], file, is, fits, none) =
    let same : file ≡ image_named a = cc in
    subst (λ (f : Wants). length text ≤ f.most) same fits
image_is_short a b text (one ∷ more, file, is, fits, none) = absurd (cc)

pub image_taken : (a b text : List ℕ) (program : Program) → ImageHolds text program → (texts : List (List ℕ)) → HoldsLoaded texts loaded.Nothing
    → HoldsOn (Judges Load) (files a b) HoldsLoaded (texts ++ text ∷ []) (loaded.Program program)
image_taken a b text program holds texts none =
    subst (λ (ts : List (List ℕ)). HoldsOn (Judges Load) (files a b) HoldsLoaded (ts ++ text ∷ []) (loaded.Program program)) (sym none)
    ((text, refl, holds), λ more. first_accepted text program [] ReadsOn holds reads_schedule)

pub image_not_taken : (text : List ℕ) (stop : Stop Why)
    → IfRefused {T = Program} (Err stop) (λ fault known. ImageRefused text fault × (known ≡ why.Plain))
    → IfRefused {T = Loaded} (Err stop) (λ fault known. (texts : List (List ℕ)) → HoldsLoaded texts loaded.Nothing
    → Refuses (Judges Load) (ExplainsProgram NamesOfImage) (texts ++ text ∷ []) fault known)
image_not_taken text stop refused =
    refused_as Program Loaded (λ fault known. ImageRefused text fault × (known ≡ why.Plain))
    (λ fault known. (texts : List (List ℕ)) → HoldsLoaded texts loaded.Nothing
    → Refuses (Judges Load) (ExplainsProgram NamesOfImage) (texts ++ text ∷ []) fault known)
    stop said refused
  where
    said : (fault : Fault) (known : Why) → ImageRefused text fault × (known ≡ why.Plain) → (texts : List (List ℕ)) → HoldsLoaded texts loaded.Nothing
        → Refuses (Judges Load) (ExplainsProgram NamesOfImage) (texts ++ text ∷ []) fault known
    said fault known (bad, plain) texts none =
        subst (λ (ts : List (List ℕ)). Refuses (Judges Load) (ExplainsProgram NamesOfImage) (ts ++ text ∷ []) fault known) (sym none)
        (first_refused text fault bad, subst (ExplainsProgram NamesOfImage (text ∷ []) fault) (sym plain) (of_program text fault))

-- the schedule is the second, and still to be judged
pub schedule_is_short : (a b text : List ℕ) (program : Program) → IsNext (files a b) text (λ texts. HoldsLoaded texts (loaded.Program program))
    → length text ≤ MOST_BYTES
schedule_is_short a b text program ([], file, is, fits, (image, e, holds)) = absurd (cc)
schedule_is_short a b text program (one ∷ more, file, is, fits, held) = short_text (b ∷ []) (length more) file text is fits

pub schedule_taken : (a b : List ℕ) (text : Bor (List ℕ)) (program : Program) → length text.now ≤ MOST_BYTES → (texts : List (List ℕ))
    → HoldsLoaded texts (loaded.Program program)
    → HoldsOn (Judges Load) (files a b) HoldsLoaded (texts ++ text.now ∷ []) (loaded.Both program text)
schedule_taken a b text program short texts (image, e, holds) =
    subst (λ (ts : List (List ℕ)). HoldsOn (Judges Load) (files a b) HoldsLoaded (ts ++ text.now ∷ []) (loaded.Both program text)) (sym e)
    ((image, refl, holds, short), λ more. absurd (omega (arith, more)))

-- both were read
pub both_end : (program : Program) (schedule : Bor (List ℕ)) (old new : Option (List ℕ)) (before after : Faults)
    (result : Result (Unit {0}) (Unwritten Why))
    → EndsOverTurns (names_in program) (word_text program.code program.groups) (λ names. naming names ≡ program.code.names) schedule.now old new
    before after result
    → (texts : List (List ℕ)) → HoldsLoaded texts (loaded.Both program schedule)
    → WriteEnds (Judges Load texts) (ExplainsProgram NamesOfImage texts) ⊥ old new before after result
both_end program schedule old new before after result ends texts (image, e, holds, short) =
    subst (λ (ts : List (List ℕ)). WriteEnds (Judges Load ts) (ExplainsProgram NamesOfImage ts) ⊥ old new before after result) (sym e)
    (ends_as (OverTurns (names_in program) (word_text program.code program.groups) (schedule.now ∷ [])) (Judges Load (image ∷ schedule.now ∷ []))
    (KnowsNames (λ names. naming names ≡ program.code.names)) (ExplainsProgram NamesOfImage (image ∷ schedule.now ∷ [])) ⊥ ⊥ old new before after result
    (λ j h. first_accepted image program (schedule.now ∷ []) j holds h) known_of (λ never. never) ends)
  where
    known_of : (fault : Fault) (known : Why) → KnowsNames (λ names. naming names ≡ program.code.names) fault known
        → ExplainsProgram NamesOfImage (image ∷ schedule.now ∷ []) fault known
    known_of fault known (names, is_names, so) =
        subst (ExplainsProgram NamesOfImage (image ∷ schedule.now ∷ []) fault) (sym is_names)
        (of_text image schedule.now [] fault names (record { program = program; holds = holds.image; named = so }))
