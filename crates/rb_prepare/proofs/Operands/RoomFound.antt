-- The expressions of an accepted source find room for their operands: each needs few, and a call has few arguments.
use Rattle.std.proofs.Common.{◌≤◌, ◌<◌, max, List, [], ◌∷◌, length, arith}
use Rattle.std.specs.List.{AllByRecursion, flat_map}
use Rattle.std.proofs.lemmas.List.Elements.{All-from_recursion, recursion_from_All}
use Rattle.rb_base.specs.declared.limits.TheConstants.{MOST_OPERANDS}
use Rattle.rb_base.specs.declared.edition.Edition.{Edition}
use Rattle.rb_syntax.specs.Tree.{Identifier, Expression, Reference, Refer, Scalar, Element, Printed, Words, Amount, PrintItem, Command, Assignment, Printing, Sending, Receiving, Conditional, Loop, Invocation, Failure, Recovering, Commands, NoCommand, Then, Body, Scope, Otherwise, NoElse, Else, RecoveryBlock, Recovers, Alternates, NoAlternate, Alternate, ProcedureDeclaration, ProcessDeclaration}
use Rattle.rb_grammar.specs.Depth.{deepest}
use Rattle.rb_meaning.specs.Step.{commands_of}
use Rattle.rb_scope.specs.Limits.{ProcedureWithin, ProcessWithin}
use Rattle.rb_scope.specs.Scopes.{variables_from, words_in}
use Rattle.rb_scope.specs.Sites.{Bounds, Spot, alternates_sites, body_sites, command_sites, commands_sites, expression_sites, in_program, otherwise_sites, procedure_sites, process_sites, recovery_sites, scope_sites, tested, within}
use Rattle.rb_scope.specs.declared.slot.Slot.TheVariants.{Local}
use Rattle.rb_scope.proofs.EachSite.{AreKept, IsKept, all_kept, all_split}
use Rattle.rb_scope.proofs.PartsOfTrees.{process_parts, procedure_parts, tree_parts, within_procedure, within_process}
use Rattle.rb_scope.proofs.WithinLimits.{within_limits}
use Rattle.rb_code.specs.Agreement.Operands.{HasRoom}
use Rattle.rb_code.specs.Agreement.RoomInTree.{AlternatesHaveRoom, BodyHasRoom, CommandHasRoom, CommandsHaveRoom, FewOperands, OtherwiseHasRoom, PrintedHasRoom, ProcessHasRoom, RecoveryHasRoom, StoreHasRoom}
use Rattle.rb_judge.specs.Laws.{OfEveryAccepted}
use Rattle.rb_prepare.proofs.Operands.FewArguments.{ScopesTakeFew, few_arguments, procedure_few, process_few, program_few, variables_few}
use Rattle.rb_prepare.proofs.Operands.InBrackets.{alternates_operands, body_operands, command_operands, commands_operands, item_operands, most_needed, otherwise_operands, printed_operands, procedure_operands, process_operands, recovery_operands, tree_needs_few}
use Rattle.rb_prepare.proofs.Operands.Pushed.{operands, reference_operands, arguments_have_room, has_room, neither_above}

-- an expression that needs few stands on nothing, or on an index
alone : (e : Expression) → operands e ≤ most_needed → HasRoom 0 e
alone e few = has_room 0 e (omega arith)

on_index : (e : Expression) → operands e ≤ most_needed → HasRoom 1 e
on_index e few = has_room 1 e (omega arith)

store_fits : (to : Reference) (value : Expression) → reference_operands to ≤ most_needed → operands value ≤ most_needed
    → StoreHasRoom to (λ n. HasRoom n value)
store_fits (Refer name Scalar) value there few = alone value few
store_fits (Refer name (Element index)) value there few = (alone index there, on_index value few)

receipt_fits : (to : Reference) → reference_operands to ≤ most_needed → StoreHasRoom to (λ n. n < MOST_OPERANDS)
receipt_fits (Refer name Scalar) there = omega arith
receipt_fits (Refer name (Element index)) there = (alone index there, omega arith)

printed_fits : (what : Printed) → printed_operands what ≤ most_needed → PrintedHasRoom what
printed_fits (Words text) few = tt
printed_fits (Amount value) few = alone value few

items_fit : (items : List PrintItem) → deepest item_operands items ≤ most_needed
    → AllByRecursion (λ item. PrintedHasRoom item.what) items
items_fit [] few = tt
items_fit (item ∷ items) few =
    let parts = neither_above (item_operands item) (deepest item_operands items) most_needed few in
    (printed_fits item.what parts.0, items_fit items parts.1)

mutual
  command_fits : (spot : Spot) (c : Command) → ScopesTakeFew spot.scopes → AreKept (command_sites spot c)
      → command_operands c ≤ most_needed → CommandHasRoom c
  command_fits spot (Assignment to value) scopes kept few =
      let parts = neither_above (reference_operands to) (operands value) most_needed few in store_fits to value parts.0 parts.1
  command_fits spot (Printing items) scopes kept few =
      All-from_recursion (λ (item : PrintItem). PrintedHasRoom item.what) items (items_fit items few)
  command_fits spot (Sending channel value) scopes kept few = alone value few
  command_fits spot (Receiving channel to otherwise) scopes kept few =
      let parts = neither_above (reference_operands to) (otherwise_operands otherwise) most_needed few in
      (receipt_fits to parts.0, otherwise_fits spot otherwise scopes (all_split IsKept _ _ kept.1).1 parts.1)
  command_fits spot (Conditional test body otherwise) scopes kept few =
      let parts = neither_above (operands test) (max (body_operands body) (otherwise_operands otherwise)) most_needed few in
      let rest = neither_above (body_operands body) (otherwise_operands otherwise) most_needed parts.1 in
      let sites = all_split IsKept _ _ kept in
      let later = all_split IsKept _ _ sites.1 in (
        alone test parts.0,
        body_fits spot body scopes later.0 rest.0,
        otherwise_fits spot otherwise scopes later.1 rest.1,
      )
  command_fits spot (Loop test body) scopes kept few =
      let parts = neither_above (operands test) (body_operands body) most_needed few in
      (alone test parts.0, body_fits spot body scopes (all_split IsKept _ _ kept).1 parts.1)
  command_fits spot (Invocation procedure arguments) scopes kept few =
      let short = few_arguments procedure (length arguments) spot.scopes scopes kept.0 kept.1.0 in
      arguments_have_room 0 most_needed arguments (omega arith) few
  command_fits spot Failure scopes kept few = tt
  command_fits spot (Recovering block) scopes kept few = recovery_fits spot block scopes kept few

  commands_fit : (spot : Spot) (cs : Commands) → ScopesTakeFew spot.scopes → AreKept (commands_sites spot cs)
      → commands_operands cs ≤ most_needed → CommandsHaveRoom cs
  commands_fit spot NoCommand scopes kept few = tt
  commands_fit spot (Then first rest) scopes kept few =
      let parts = neither_above (command_operands first) (commands_operands rest) most_needed few in
      let sites = all_split IsKept _ _ kept in
      (command_fits spot first scopes sites.0 parts.0, commands_fit spot rest scopes sites.1 parts.1)

  body_fits : (spot : Spot) (body : Body) → ScopesTakeFew spot.scopes → AreKept (body_sites spot body)
      → body_operands body ≤ most_needed → BodyHasRoom body
  body_fits spot (Scope variables commands) scopes kept few =
      let sites = all_split IsKept (scope_sites [] (variables_from Local spot.taken variables)) _ kept in
      let later = all_split IsKept _ _ sites.1 in
      commands_fit (within (variables_from Local spot.taken variables) (words_in variables) spot) commands
      (variables_few Local spot.taken variables, scopes) later.1 few

  otherwise_fits : (spot : Spot) (otherwise : Otherwise) → ScopesTakeFew spot.scopes → AreKept (otherwise_sites spot otherwise)
      → otherwise_operands otherwise ≤ most_needed → OtherwiseHasRoom otherwise
  otherwise_fits spot NoElse scopes kept few = tt
  otherwise_fits spot (Else body) scopes kept few = body_fits spot body scopes kept few

  recovery_fits : (spot : Spot) (block : RecoveryBlock) → ScopesTakeFew spot.scopes → AreKept (recovery_sites spot block)
      → recovery_operands block ≤ most_needed → RecoveryHasRoom block
  recovery_fits spot (Recovers number conversation place test bound alternates) scopes kept few =
      let parts = neither_above (operands test) (alternates_operands alternates) most_needed few in
      let sites = all_split IsKept _ _ kept in
      let later = all_split IsKept (expression_sites (tested spot) test) (Bounds bound ∷ alternates_sites spot alternates) sites.1 in
      (alone test parts.0, alternates_fit spot alternates scopes later.1.1 parts.1)

  alternates_fit : (spot : Spot) (alternates : Alternates) → ScopesTakeFew spot.scopes → AreKept (alternates_sites spot alternates)
      → alternates_operands alternates ≤ most_needed → AlternatesHaveRoom alternates
  alternates_fit spot NoAlternate scopes kept few = tt
  alternates_fit spot (Alternate body others) scopes kept few =
      let parts = neither_above (body_operands body) (alternates_operands others) most_needed few in
      let sites = all_split IsKept _ _ kept in
      (body_fits spot body scopes sites.0 parts.0, alternates_fit spot others scopes sites.1 parts.1)

procedure_fits : (spot : Spot) (name : Identifier) (parameters : List Identifier) (body : Body) → ScopesTakeFew spot.scopes
    → AreKept (procedure_sites spot (record { name = name; parameters = parameters; body = body })) → body_operands body ≤ most_needed
    → CommandsHaveRoom (commands_of body)
procedure_fits spot name parameters (Scope variables commands) scopes kept few =
    let procedure : ProcedureDeclaration = record { name = name; parameters = parameters; body = Scope variables commands } in
    let parts = procedure_parts IsKept spot procedure kept in
    commands_fit (within_procedure procedure spot) commands (procedure_few procedure, scopes) parts.commands few

procedures_fit : (spot : Spot) (procedures : List ProcedureDeclaration) → ScopesTakeFew spot.scopes
    → AreKept (flat_map (procedure_sites spot) procedures) → deepest procedure_operands procedures ≤ most_needed
    → AllByRecursion (λ procedure. CommandsHaveRoom (commands_of procedure.body)) procedures
procedures_fit spot [] scopes kept few = tt
procedures_fit spot (one ∷ others) scopes kept few =
    let parts = neither_above (procedure_operands one) (deepest procedure_operands others) most_needed few in
    let sites = all_split IsKept (procedure_sites spot one) _ kept in
    (procedure_fits spot one.name one.parameters one.body scopes sites.0 parts.0, procedures_fit spot others scopes sites.1 parts.1)

process_fits : (edition : Edition) (spot : Spot) (process : ProcessDeclaration) → ScopesTakeFew spot.scopes
    → AreKept (process_sites edition spot process) → ProcessWithin edition process → process_operands process ≤ most_needed
    → ProcessHasRoom process
process_fits edition spot process scopes kept limits few =
    let parts = neither_above (deepest procedure_operands process.procedures) (commands_operands process.commands) most_needed few in
    let sites = process_parts IsKept edition spot process kept in
    let inside = within_process process spot in
    let around : ScopesTakeFew inside.scopes =
    (process_few process (recursion_from_All ProcedureWithin process.procedures limits.procedures), scopes) in
    record {
      procedures =
          All-from_recursion (λ (procedure : ProcedureDeclaration). CommandsHaveRoom (commands_of procedure.body)) process.procedures
          (procedures_fit inside process.procedures around sites.procedures parts.0);
      commands = commands_fit inside process.commands around sites.commands parts.1;
    }

processes_fit : (edition : Edition) (spot : Spot) (processes : List ProcessDeclaration) → ScopesTakeFew spot.scopes
    → AreKept (flat_map (process_sites edition spot) processes) → AllByRecursion (ProcessWithin edition) processes
    → deepest process_operands processes ≤ most_needed → AllByRecursion ProcessHasRoom processes
processes_fit edition spot [] scopes kept limits few = tt
processes_fit edition spot (one ∷ others) scopes kept limits few =
    let parts = neither_above (process_operands one) (deepest process_operands others) most_needed few in
    let sites = all_split IsKept (process_sites edition spot one) _ kept in (
      process_fits edition spot one scopes sites.0 limits.0 parts.0,
      processes_fit edition spot others scopes sites.1 limits.1 parts.1,
    )

pub accepted_find_room : OfEveryAccepted FewOperands
accepted_find_room source tree a =
    let limits = within_limits tree a.scoped in
    let sites = tree_parts IsKept tree (all_kept tree a.scoped) in
    All-from_recursion ProcessHasRoom tree.processes
    (processes_fit tree.edition (in_program tree) tree.processes (program_few tree, tt) sites.processes
    (recursion_from_All (ProcessWithin tree.edition) tree.processes limits.processes) (tree_needs_few source tree a.derived))
