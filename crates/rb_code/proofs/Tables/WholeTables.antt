-- The code of a whole tree has a table, by the tables of expressions and of simple statements.
use Rattle.std.proofs.Common.{◌≡◌, ℕ, zero, suc, ◌+◌, ◌<◌, ◌≤◌, nat_lt, Bool, true, false, List, [], ◌∷◌, ◌++◌, length, slice_get, Some, None, refl, ap, sym, ◌∙◌, subst, arith}
use Rattle.std.proofs.lemmas.List.Elements.{All-head, All-tail}
use Rattle.std.specs.List.{All}
use Rattle.std.specs.Option.{unwrap_or}
use Rattle.rb_syntax.specs.Tree.{ProcessDeclaration, Tree}
use Rattle.rb_world.proofs.ListFacts.{none_some, some_same}
use Rattle.rb_meaning.specs.Groups.{channels_of, groups_of}
use Rattle.rb_meaning.specs.Nesting.{IsNested, outside, uses_in, uses_in_procedures, uses_in_processes}
use Rattle.rb_meaning.proofs.Nesting.NestedProgram.{uses_kept}
use Rattle.rb_scope.specs.InFrames.{Resolved}
use Rattle.rb_scope.specs.Limits.{IsWithinLimits, ProcessWithin}
use Rattle.rb_scope.specs.declared.slot.Slot.{Slot}
use Rattle.rb_code.specs.Instructions.Plain.{Code, Part}
use Rattle.rb_code.specs.WordMachine.Workspace.{no_part, part_of}
use Rattle.rb_code.specs.Agreement.RoomInTree.{FewOperands, ProcessHasRoom}
use Rattle.rb_code.specs.SoundCode.Sound.{Changed, Entry, HasTable, IsSoundAt, LeadsTo, Table, Within}
use Rattle.rb_code.specs.Agreement.StandsFor.{ProcessesCode, StandsFor}
use Rattle.rb_code.proofs.Tables.Tabled.{AgreeBetween, Around}
use Rattle.rb_code.proofs.Tables.Stretches.{Stretch, cut_at, cut_before, cut_behind, in_order, no_stretch, told_less}
use Rattle.rb_code.proofs.Tables.Resting.{resting, rests_as}
use Rattle.rb_code.proofs.Tables.StatementPlaces.{KeepRules, rules_first, rules_second}
use Rattle.rb_code.proofs.Tables.CommandTables.{SimpleAreTabled, TakenIsTabled, TestsAreTabled}
use Rattle.rb_code.proofs.Tables.ProcessTables.{ProceduresBegin, in_main, owner_by, process_tabled}

module _ (c : Code) (tree : Tree) where
  -- a process begins with nothing, and its procedures with the words of their calls
  abbrev pub Begins : ℕ → ProcessDeclaration → Part → Around
  Begins p process part t =
      LeadsTo c (groups_of tree) t part.start (resting (in_main p) 0 [] Changed) × ProceduresBegin c tree p process.procedures part.procedures t

  -- and so do all processes from number p on
  abbrev pub AllBegin : ℕ → List ProcessDeclaration → List Part → Around
  AllBegin p [] parts t = parts ≡ []
  AllBegin p (process ∷ others) [] t = ⊥
  AllBegin p (process ∷ others) (part ∷ more) t = Begins p process part t × AllBegin (p + 1) others more t

  -- what calls ask of a whole table: the procedures of each process begin as they are called
  abbrev pub CallsFind : Around
  CallsFind t = (p : ℕ) (process : ProcessDeclaration) → slice_get tree.processes p ≡ Some process
      → ProceduresBegin c tree p process.procedures (part_of c p).procedures t

  -- process number n, by its text and by its part
  procedures_begin : (p i n : ℕ) (processes : List ProcessDeclaration) (parts : List Part) (t : Table) (process : ProcessDeclaration) → n ≡ p + i
      → AllBegin p processes parts t → slice_get processes i ≡ Some process
      → ProceduresBegin c tree n process.procedures (unwrap_or (slice_get parts i) no_part).procedures t
  procedures_begin p i n [] parts t process e all at = absurd (none_some at)
  procedures_begin p i n (one ∷ others) [] t process e all at = absurd all
  procedures_begin p zero n (one ∷ others) (part ∷ more) t process e all at =
      let same : p ≡ n = omega (arith, e) in
      subst (λ k. ProceduresBegin c tree k process.procedures part.procedures t) same
      (subst (λ x. ProceduresBegin c tree p x.procedures part.procedures t) (some_same at) all.0.1)
  procedures_begin p (suc i) n (one ∷ others) (part ∷ more) t process e all at =
      procedures_begin (p + 1) i n others more t process (omega (arith, e)) all.1 at

  main_begins : (p i n : ℕ) (processes : List ProcessDeclaration) (parts : List Part) (t : Table) (part : Part) → n ≡ p + i
      → AllBegin p processes parts t → slice_get parts i ≡ Some part
      → LeadsTo c (groups_of tree) t part.start (resting (in_main n) 0 [] Changed)
  main_begins p i n [] parts t part e all at = absurd (none_some (subst (λ ps. slice_get ps i ≡ Some part) all at))
  main_begins p i n (one ∷ others) [] t part e all at = absurd all
  main_begins p zero n (one ∷ others) (first ∷ more) t part e all at =
      let same : p ≡ n = omega (arith, e) in
      subst (λ k. LeadsTo c (groups_of tree) t part.start (resting (in_main k) 0 [] Changed)) same
      (subst (λ x. LeadsTo c (groups_of tree) t x.start (resting (in_main p) 0 [] Changed)) (some_same at) all.0.0)
  main_begins p (suc i) n (one ∷ others) (first ∷ more) t part e all at =
      main_begins (p + 1) i n others more t part (omega (arith, e)) all.1 at

  module _ (slots : List Slot) (channels_are : c.channels ≡ channels_of tree)
      (tests : (p : ℕ) (process : ProcessDeclaration) (within : Within) → slice_get tree.processes p ≡ Some process → within.process ≡ p
      → TestsAreTabled tree slots c (owner_by p process) CallsFind within)
      (simple : (p : ℕ) (process : ProcessDeclaration) (within : Within) → slice_get tree.processes p ≡ Some process → within.process ≡ p
      → SimpleAreTabled tree slots c (owner_by p process) CallsFind within)
      (taken : (p : ℕ) (process : ProcessDeclaration) (within : Within) → slice_get tree.processes p ≡ Some process → within.process ≡ p
      → TakenIsTabled tree slots c (owner_by p process) CallsFind within) where
    abbrev nothing : Around
    nothing t = Unit {0}

    -- the processes from number p on
    processes_tabled : (p : ℕ) (processes : List ProcessDeclaration) (parts : List Part) (a b : ℕ)
        → ((i n : ℕ) → n ≡ p + i → slice_get c.processes n ≡ slice_get parts i)
        → ((i n : ℕ) → n ≡ p + i → slice_get tree.processes n ≡ slice_get processes i)
        → Resolved tree slots → All (ProcessWithin tree.edition) processes → All ProcessHasRoom processes
        → KeepRules tree (uses_in_processes p processes) → ProcessesCode tree slots p processes parts c a b
        → Stretch c (groups_of tree) CallsFind nothing (AllBegin p processes parts) a b
    processes_tabled p [] parts a b listed texts resolved limits room rules (none, here) =
        subst (λ x. Stretch c (groups_of tree) CallsFind nothing (λ t. parts ≡ []) a x) (sym here)
        (told_less c (groups_of tree) CallsFind nothing nothing nothing (λ t. parts ≡ []) a a (no_stretch c (groups_of tree) CallsFind nothing a)
        (λ t asked. asked) (λ t told asked. none))
    processes_tabled p (process ∷ others) parts a b listed texts resolved limits room rules (part, more, is, (m, code, rest)) =
        let zeroth : p ≡ p + 0 = omega arith in
        let there : slice_get tree.processes p ≡ Some process = texts 0 p zeroth in
        let own : slice_get c.processes p ≡ Some part = listed 0 p zeroth ∙ ap (λ ps. slice_get ps 0) is in
        let mains = uses_in (outside p false) process.commands ++ uses_in_processes (p + 1) others in
        let behind = rules_second tree (uses_in_procedures p process.procedures) mains rules in
        let first : Stretch c (groups_of tree) CallsFind nothing (Begins p process part) a m =
        process_tabled c tree slots CallsFind p process channels_are (ap (λ o. (unwrap_or o no_part).words) own ∙ code.0.words_are)
        (λ within e. tests p process within there e) (λ within e. simple p process within there e) (λ within e. taken p process within there e)
        part a m (resolved.processes p process there) (All-head (ProcessWithin tree.edition) process others limits)
        (All-head ProcessHasRoom process others room)
        (rules_first tree (uses_in_procedures p process.procedures) mains rules)
        (rules_first tree (uses_in (outside p false) process.commands) (uses_in_processes (p + 1) others) behind) code in
        let next : Stretch c (groups_of tree) CallsFind nothing (AllBegin (p + 1) others more) m b =
        processes_tabled (p + 1) others more m b
        (λ i n e. listed (suc i) n (omega (arith, e)) ∙ ap (λ ps. slice_get ps (suc i)) is)
        (λ i n e. texts (suc i) n (omega (arith, e)))
        resolved (All-tail (ProcessWithin tree.edition) process others limits) (All-tail ProcessHasRoom process others room)
        (rules_second tree (uses_in (outside p false) process.commands) (uses_in_processes (p + 1) others) behind) rest in
        subst (λ ps. Stretch c (groups_of tree) CallsFind nothing (AllBegin p (process ∷ others) ps) a b) (sym is)
        (in_order c (groups_of tree) CallsFind nothing nothing (Begins p process part)
        (AllBegin (p + 1) others more) a m b first next (λ t known asked. tt))

    -- a stretch over the whole code is its table
    whole_table : (n : ℕ) → Stretch c (groups_of tree) CallsFind nothing (AllBegin 0 tree.processes c.processes) 0 n
        → (t : Table) × HasTable c (groups_of tree) t
    whole_table n whole = (
      final,
      record {
        mains = λ p part at. rests_as c (groups_of tree) final part.start (in_main p) 0 []
            (main_begins 0 p p tree.processes c.processes final part (omega arith) begun at);
        each = λ a e is. by a e is (nat_lt a n) refl;
      },
    )
      where
        final : Table
        final = cut_at n whole.table (λ x. None)

        agree : AgreeBetween 0 n final whole.table
        agree x low high = cut_before x n whole.table (λ y. None) high

        begun : AllBegin 0 tree.processes c.processes final
        begun = whole.told final agree tt

        calls : CallsFind final
        calls p process at = procedures_begin 0 p p tree.processes c.processes final process (omega arith) begun at

        by : (a : ℕ) (e : Entry) → final a ≡ Some e → (b : Bool) → nat_lt a n ≡ b → IsSoundAt c (groups_of tree) final a e
        by a e is true h =
            let low : 0 ≤ a = omega arith in
            let high : a < n = grind arith in
            whole.sound final agree calls tt a e low high is
        by a e is false h =
            let far : n ≤ a = grind arith in
            absurd (none_some (sym (cut_behind a n whole.table (λ x. None) far) ∙ is))

    -- The code of a tree that is resolved, within the limits and nested, whose expressions need few operands, has a table.
    pub tree_has_table : Resolved tree slots → IsWithinLimits tree → IsNested tree → FewOperands tree → StandsFor tree slots c
        → (t : Table) × HasTable c (groups_of tree) t
    tree_has_table resolved limits nested few stands =
        whole_table (length c.instrs)
        (processes_tabled 0 tree.processes c.processes 0 (length c.instrs)
        (λ i n e. let same : n ≡ i = omega (arith, e) in ap (slice_get c.processes) same)
        (λ i n e. let same : n ≡ i = omega (arith, e) in ap (slice_get tree.processes) same)
        resolved limits.processes few (record { kept = uses_kept tree nested; outside = nested.n8 }) stands.instrs_are)
