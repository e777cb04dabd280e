-- A conversation has fewer alternates than its tree weighs.
use Rattle.std.proofs.Common.{◌≡◌, ℕ, ◌+◌, ◌<◌, ◌≤◌, ◌^◌, nat_eq, Bool, true, false, List, [], ◌∷◌, ◌++◌, Option, Some, None, unwrap_or, refl, subst, arith}
use Rattle.std.specs.List.{AllByRecursion}
use Rattle.rb_syntax.specs.Tree.{Identifier, Command, Assignment, Printing, Sending, Receiving, Conditional, Loop, Invocation, Failure, Recovering, Commands, NoCommand, Then, Body, Scope, Otherwise, NoElse, Else, Recovers, Alternates, NoAlternate, Alternate, ProcedureDeclaration, ProcessDeclaration, Tree}
use Rattle.rb_world.proofs.ListFacts.{none_some, some_same}
use Rattle.rb_meaning.specs.Environment.{or_else}
use Rattle.rb_meaning.specs.Groups.{conversation_number, count_alternates}
use Rattle.rb_meaning.specs.Nesting.{Deed, Joins, Receives, Sends, Spot, Use, alternates_of, first_joined, inside, joined, joined_with, outside, uses_in, uses_in_alternates, uses_in_body, uses_in_command, uses_in_otherwise, uses_in_procedures, uses_in_processes, uses_of}
use Rattle.rb_scope.proofs.EachSite.{all_append}
use Rattle.rb_sizes.proofs.Weighing.Weights.{alternates_weight, body_weight, command_weight, commands_weight, otherwise_weight, procedures_weight, processes_weight, weight}

-- few alternates are joined
abbrev DeedFits : Deed → Type 0
DeedFits (Joins alternates) = alternates < 2 ^ 32
DeedFits Sends = Unit {0}
DeedFits Receives = Unit {0}

abbrev UseFits : Use → Type 0
UseFits one = DeedFits one.deed

counted_few : (alternates : Alternates) → count_alternates alternates ≤ alternates_weight alternates
counted_few NoAlternate = omega arith
counted_few (Alternate body others) = let rest = counted_few others in omega arith

joined_fit : (conversation : Option Identifier) (alternates : Alternates) (spot : Spot) → alternates_weight alternates ≤ 2 ^ 20
    → AllByRecursion UseFits (joined conversation alternates spot)
joined_fit None alternates spot light = tt
joined_fit (Some name) alternates spot light = (let few = counted_few alternates in omega arith, tt)

mutual
  command_fits : (spot : Spot) (command : Command) → command_weight command ≤ 2 ^ 20 → AllByRecursion UseFits (uses_in_command spot command)
  command_fits spot (Assignment to value) light = tt
  command_fits spot (Printing items) light = tt
  command_fits spot (Sending channel value) light = (tt, tt)
  command_fits spot (Receiving channel to otherwise) light = (tt, otherwise_fits spot otherwise (omega arith))
  command_fits spot (Conditional test body otherwise) light =
      all_append UseFits (uses_in_body spot body) (uses_in_otherwise spot otherwise) (body_fits spot body (omega arith))
      (otherwise_fits spot otherwise (omega arith))
  command_fits spot (Loop test body) light = body_fits spot body (omega arith)
  command_fits spot (Invocation procedure arguments) light = tt
  command_fits spot Failure light = tt
  command_fits spot (Recovering (Recovers number conversation place test bound alternates)) light =
      all_append UseFits (joined conversation alternates spot) (uses_in_alternates (inside conversation spot) alternates)
      (joined_fit conversation alternates spot (omega arith)) (alternates_fit (inside conversation spot) alternates (omega arith))

  commands_fit : (spot : Spot) (commands : Commands) → commands_weight commands ≤ 2 ^ 20 → AllByRecursion UseFits (uses_in spot commands)
  commands_fit spot NoCommand light = tt
  commands_fit spot (Then first rest) light =
      all_append UseFits (uses_in_command spot first) (uses_in spot rest) (command_fits spot first (omega arith))
      (commands_fit spot rest (omega arith))

  body_fits : (spot : Spot) (body : Body) → body_weight body ≤ 2 ^ 20 → AllByRecursion UseFits (uses_in_body spot body)
  body_fits spot (Scope variables commands) light = commands_fit spot commands (omega arith)

  otherwise_fits : (spot : Spot) (otherwise : Otherwise) → otherwise_weight otherwise ≤ 2 ^ 20
      → AllByRecursion UseFits (uses_in_otherwise spot otherwise)
  otherwise_fits spot NoElse light = tt
  otherwise_fits spot (Else body) light = body_fits spot body (omega arith)

  alternates_fit : (spot : Spot) (alternates : Alternates) → alternates_weight alternates ≤ 2 ^ 20
      → AllByRecursion UseFits (uses_in_alternates spot alternates)
  alternates_fit spot NoAlternate light = tt
  alternates_fit spot (Alternate body others) light =
      all_append UseFits (uses_in_body spot body) (uses_in_alternates spot others) (body_fits spot body (omega arith))
      (alternates_fit spot others (omega arith))

procedures_uses : (p : ℕ) (procedures : List ProcedureDeclaration) → procedures_weight procedures ≤ 2 ^ 20
    → AllByRecursion UseFits (uses_in_procedures p procedures)
procedures_uses p [] light = tt
procedures_uses p (procedure ∷ others) light =
    all_append UseFits (uses_in_body (outside p true) procedure.body) (uses_in_procedures p others)
    (body_fits (outside p true) procedure.body (omega arith)) (procedures_uses p others (omega arith))

processes_uses : (p : ℕ) (processes : List ProcessDeclaration) → processes_weight processes ≤ 2 ^ 20
    → AllByRecursion UseFits (uses_in_processes p processes)
processes_uses p [] light = tt
processes_uses p (process ∷ others) light =
    let later = uses_in (outside p false) process.commands ++ uses_in_processes (p + 1) others in
    all_append UseFits (uses_in_procedures p process.procedures) later (procedures_uses p process.procedures (omega arith))
    (all_append UseFits (uses_in (outside p false) process.commands) (uses_in_processes (p + 1) others)
    (commands_fit (outside p false) process.commands (omega arith)) (processes_uses (p + 1) others (omega arith)))

-- so the first of them does
one_fits : (deed : Deed) (of_it : Bool) (n : ℕ) → DeedFits deed → joined_with deed of_it ≡ Some n → n < 2 ^ 32
one_fits (Joins alternates) true n h e = subst (λ k. k < 2 ^ 32) (some_same e) h
one_fits (Joins alternates) false n h e = absurd (none_some e)
one_fits Sends of_it n h e = absurd (none_some e)
one_fits Receives of_it n h e = absurd (none_some e)

first_fits : (tree : Tree) (d : ℕ) (uses : List Use) (n : ℕ) → AllByRecursion UseFits uses → first_joined tree d uses ≡ Some n → n < 2 ^ 32
first_fits tree d [] n all e = absurd (none_some e)
first_fits tree d (one ∷ others) n all e =
    by (joined_with one.deed (nat_eq (conversation_number tree one.name.text) d))
    (λ k h. one_fits one.deed (nat_eq (conversation_number tree one.name.text) d) k all.0 h) (λ h. first_fits tree d others n all.1 h) e
  where
    by : (o : Option ℕ) → ((k : ℕ) → o ≡ Some k → k < 2 ^ 32) → (first_joined tree d others ≡ Some n → n < 2 ^ 32)
        → or_else o (first_joined tree d others) ≡ Some n → n < 2 ^ 32
    by None here rest h = rest h
    by (Some k) here rest h = here n h

pub alternates_few : (tree : Tree) (d : ℕ) → weight tree ≤ 2 ^ 20 → unwrap_or (alternates_of tree d) 0 < 2 ^ 32
alternates_few tree d light = by (alternates_of tree d) (λ n e. first_fits tree d (uses_of tree) n (processes_uses 0 tree.processes (omega arith)) e)
  where
    by : (o : Option ℕ) → ((n : ℕ) → o ≡ Some n → n < 2 ^ 32) → unwrap_or o 0 < 2 ^ 32
    by None h = omega arith
    by (Some n) h = h n refl
