-- Tables of procedures and of processes, from those of their statements.
use Rattle.std.proofs.Common.{◌≡◌, ℕ, ◌+◌, true, false, List, [], ◌∷◌, ◌++◌, length, Some, None, refl, sym, ◌∙◌, subst, true≢false, arith}
use Rattle.std.proofs.lemmas.List.Sums.{sum_by-cons}
use Rattle.std.proofs.lemmas.List.Elements.{All-head, All-tail}
use Rattle.std.specs.List.{All}
use Rattle.rb_syntax.specs.Tree.{Identifier, Body, Scope, ProcedureDeclaration, ProcessDeclaration, Tree}
use Rattle.rb_meaning.specs.Environment.{Frame, frame_of, frame_words}
use Rattle.rb_meaning.specs.Step.{bound_to, commands_of, variables_of}
use Rattle.rb_meaning.specs.Groups.{channels_of, groups_of}
use Rattle.rb_meaning.specs.Nesting.{Spot, outside, uses_in, uses_in_body, uses_in_procedures}
use Rattle.rb_scope.specs.Frames.{Sized, call_shape, main_frames, procedure_frames, shape_of, shape_words, shapes_words}
use Rattle.rb_scope.specs.InFrames.{ProcedureInFrames, ProcessInFrames}
use Rattle.rb_scope.specs.Limits.{ProcedureWithin, ProcessWithin}
use Rattle.rb_scope.specs.declared.slot.Slot.{Slot}
use Rattle.rb_scope.proofs.WithinLimits.{shape_words-frame}
use Rattle.rb_code.specs.Instructions.Plain.{Code, Part, Procedure}
use Rattle.rb_code.specs.WordMachine.Workspace.{part_of}
use Rattle.rb_code.specs.Agreement.RoomInTree.{CommandsHaveRoom, ProcessHasRoom}
use Rattle.rb_code.specs.SoundCode.Sound.{Changed, LeadsTo, Within}
use Rattle.rb_code.specs.Agreement.Forms.{Owner, ProceduresCode}
use Rattle.rb_code.specs.Agreement.StandsFor.{ProcessCode}
use Rattle.rb_code.specs.declared.instr.Instr.TheVariants.{Done, Return}
use Rattle.rb_code.proofs.Tables.Tabled.{Around}
use Rattle.rb_code.proofs.Tables.Stretches.{Stretch, begins_with, in_order, no_stretch, told_less}
use Rattle.rb_code.proofs.Tables.Resting.{resting}
use Rattle.rb_code.proofs.Tables.BranchTables.{Onward, Rests, Statements}
use Rattle.rb_code.proofs.Tables.StatementPlaces.{KeepRules, rules_first, rules_second}
use Rattle.rb_code.proofs.Tables.CommandTables.{Known, SimpleAreTabled, TakenIsTabled, TestsAreTabled, commands_tabled}

-- the words that a call of a procedure pushes
abbrev pub call_words : ProcedureDeclaration → ℕ
call_words procedure = length procedure.parameters + frame_words (frame_of (variables_of procedure.body))

bound_words : (parameters : List Identifier) (frame : Frame)
    → shape_words (shape_of (bound_to parameters [] ++ frame)) ≡ length parameters + frame_words frame
bound_words [] frame = omega (arith, shape_words-frame frame)
bound_words (x ∷ xs) frame =
    omega (
      arith,
      bound_words xs frame,
      sum_by-cons (λ (s : Sized). s.words) (record { name = x.text; words = 1 }) (shape_of (bound_to xs [] ++ frame)),
    )

called_words : (procedure : ProcedureDeclaration) → call_words procedure ≡ shapes_words (call_shape procedure ∷ [])
called_words procedure =
    omega (arith, bound_words procedure.parameters (frame_of (variables_of procedure.body)), sum_by-cons shape_words (call_shape procedure) [])

-- the main body of process number p, and its procedure at an address
abbrev pub in_main : ℕ → Within
in_main p = record { process = p; procedure = None }

abbrev pub in_procedure : ℕ → ℕ → Within
in_procedure p start = record { process = p; procedure = Some start }

abbrev pub owner_by : ℕ → ProcessDeclaration → Owner
owner_by p process = record { number = p; procedures = process.procedures }

abbrev pub RoomOf : ProcedureDeclaration → Type 0
RoomOf procedure = CommandsHaveRoom (commands_of procedure.body)

uses_of_body : (tree : Tree) (spot : Spot) (body : Body) → KeepRules tree (uses_in_body spot body) → KeepRules tree (uses_in spot (commands_of body))
uses_of_body tree spot (Scope variables commands) rules = rules

module _ (c : Code) (tree : Tree) where
  -- each of these procedures of process number p begins with the words of its call, and nothing else
  abbrev pub ProceduresBegin : ℕ → List ProcedureDeclaration → List Procedure → Around
  ProceduresBegin p [] entries t = Unit {0}
  ProceduresBegin p (procedure ∷ others) [] t = ⊥
  ProceduresBegin p (procedure ∷ others) (entry ∷ more) t =
      LeadsTo c (groups_of tree) t entry.start (resting (in_procedure p entry.start) (call_words procedure) [] Changed)
      × ProceduresBegin p others more t

  module _ (slots : List Slot) (P : Around) (p : ℕ) (process : ProcessDeclaration) (channels_are : c.channels ≡ channels_of tree)
      (words_are : (part_of c p).words ≡ frame_words (frame_of process.variables))
      (tests : (within : Within) → within.process ≡ p → TestsAreTabled tree slots c (owner_by p process) P within)
      (simple : (within : Within) → within.process ≡ p → SimpleAreTabled tree slots c (owner_by p process) P within)
      (taken : (within : Within) → within.process ≡ p → TakenIsTabled tree slots c (owner_by p process) P within) where
    known_called : (procedure : ProcedureDeclaration) (start : ℕ)
        → Known tree slots c (owner_by p process) P (in_procedure p start) (call_words procedure) []
        (procedure_frames process procedure) (outside p true)
    known_called procedure start = record {
      above = tt;
      running_are = called_words procedure;
      globals_are = words_are ∙ sym (shape_words-frame (frame_of process.variables));
      none_counted = refl;
      none_quantified = refl;
      stands = record { process = refl; main = λ e. absurd (true≢false (sym e)); opened = tt };
    }

    known_main : Known tree slots c (owner_by p process) P (in_main p) 0 [] (main_frames process) (outside p false)
    known_main = record {
      above = tt;
      running_are = refl;
      globals_are = words_are ∙ sym (shape_words-frame (frame_of process.variables));
      none_counted = refl;
      none_quantified = refl;
      stands = record { process = refl; main = λ e. refl; opened = tt };
    }

    abbrev nothing : Around
    nothing t = Unit {0}

    pub procedures_tabled : (procedures : List ProcedureDeclaration) (entries : List Procedure) (a b : ℕ)
        → All (ProcedureInFrames tree slots p process) procedures
        → All ProcedureWithin procedures → All RoomOf procedures
        → KeepRules tree (uses_in_procedures p procedures) → ProceduresCode tree slots (owner_by p process) procedures entries c a b
        → Stretch c (groups_of tree) P nothing (ProceduresBegin p procedures entries) a b
    procedures_tabled [] entries a b names limits room rules (none, here) =
        subst (λ x. Stretch c (groups_of tree) P nothing nothing a x) (sym here) (no_stretch c (groups_of tree) P nothing a)
    procedures_tabled (procedure ∷ others) entries a b names limits room rules (more, is, (m, code, (n, back, rest))) =
        let w = call_words procedure in
        let body : Statements c (groups_of tree) P (in_procedure p a) w [] a m =
        commands_tabled tree slots c (owner_by p process) P (in_procedure p a) channels_are (tests (in_procedure p a) refl)
        (simple (in_procedure p a) refl) (taken (in_procedure p a) refl)
        w [] (procedure_frames process procedure) (outside p true) (commands_of procedure.body) a m (known_called procedure a) refl
        (uses_of_body tree (outside p true) procedure.body
        (rules_first tree (uses_in_body (outside p true) procedure.body) (uses_in_procedures p others) rules))
        (All-head (ProcedureInFrames tree slots p process) procedure others names) (All-head ProcedureWithin procedure others limits).commands
        (All-head RoomOf procedure others room) code in
        let behind : Stretch c (groups_of tree) P nothing (ProceduresBegin p others more) n b =
        procedures_tabled others more n b (All-tail (ProcedureInFrames tree slots p process) procedure others names)
        (All-tail ProcedureWithin procedure others limits)
        (All-tail RoomOf procedure others room)
        (rules_second tree (uses_in_body (outside p true) procedure.body) (uses_in_procedures p others) rules) rest in
        let ends : Around = λ t. Rests c (groups_of tree) P (in_procedure p a) w [] Changed m t × ProceduresBegin p others more t in
        let returns : Stretch c (groups_of tree) P nothing ends m b =
        begins_with c (groups_of tree) P nothing (ProceduresBegin p others more) nothing Return m n b
        (resting (in_procedure p a) w [] Changed) back refl tt behind
        (λ t here asked. asked) (λ t all here known asked. (tt, refl, refl, refl)) in
        subst (λ es. Stretch c (groups_of tree) P nothing (ProceduresBegin p (procedure ∷ others) es) a b) (sym is)
        (told_less c (groups_of tree) P nothing nothing (λ t. Rests c (groups_of tree) P (in_procedure p a) w [] Changed a t × ends t)
        (ProceduresBegin p (procedure ∷ others) (record { name = procedure.name.text; start = a } ∷ more)) a b
        (in_order c (groups_of tree) P nothing (Onward c (groups_of tree) P (in_procedure p a) w [] m)
        (Rests c (groups_of tree) P (in_procedure p a) w [] Changed a) ends a m b body returns (λ t known asked. known.0))
        (λ t asked. asked) (λ t told asked. (told.0, told.1.1)))

    -- a process: its main body begins with nothing, and so do its procedures, but for their words
    abbrev pub ProcessBegins : Part → Around
    ProcessBegins part t =
        LeadsTo c (groups_of tree) t part.start (resting (in_main p) 0 [] Changed) × ProceduresBegin p process.procedures part.procedures t

    pub process_tabled : (part : Part) (a b : ℕ) → ProcessInFrames tree slots p process → ProcessWithin tree.edition process → ProcessHasRoom process
        → KeepRules tree (uses_in_procedures p process.procedures) → KeepRules tree (uses_in (outside p false) process.commands)
        → ProcessCode tree slots p process part c a b → Stretch c (groups_of tree) P nothing (ProcessBegins part) a b
    process_tabled part a b names limits room rules main_rules (tells, (m, code, (n, done, procedures))) =
        let body : Statements c (groups_of tree) P (in_main p) 0 [] a m =
        commands_tabled tree slots c (owner_by p process) P (in_main p) channels_are (tests (in_main p) refl)
        (simple (in_main p) refl) (taken (in_main p) refl)
        0 [] (main_frames process)
        (outside p false) process.commands a m known_main refl main_rules names.commands limits.commands room.commands code in
        let behind = procedures_tabled process.procedures part.procedures n b names.procedures limits.procedures room.procedures rules procedures in
        let ends : Around = λ t. Rests c (groups_of tree) P (in_main p) 0 [] Changed m t × ProceduresBegin p process.procedures part.procedures t in
        let stops : Stretch c (groups_of tree) P nothing ends m b =
        begins_with c (groups_of tree) P nothing (ProceduresBegin p process.procedures part.procedures) nothing Done m n b
        (resting (in_main p) 0 [] Changed)
        done refl tt behind (λ t here asked. asked) (λ t all here known asked. (refl, refl, refl, refl)) in
        told_less c (groups_of tree) P nothing nothing
        (λ t. Rests c (groups_of tree) P (in_main p) 0 [] Changed a t × ends t) (ProcessBegins part) a b
        (in_order c (groups_of tree) P nothing (Onward c (groups_of tree) P (in_main p) 0 [] m)
        (Rests c (groups_of tree) P (in_main p) 0 [] Changed a)
        ends a m b body stops (λ t known asked. known.0))
        (λ t asked. asked)
        (λ t told asked. (subst (λ x. LeadsTo c (groups_of tree) t x (resting (in_main p) 0 [] Changed)) (sym tells.start_is) told.0, told.1.1))
