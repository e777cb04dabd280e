-- The names that are told of a part of a tree are those at its sites: each number stands as often among the ones as among the
-- others. This file counts expressions and statements.
use Rattle.std.proofs.Common.{◌≡◌, ℕ, ◌+◌, List, [], ◌∷◌, ◌++◌, Option, Some, None, arith}
use Rattle.std.specs.List.{flat_map}
use Rattle.rb_base.specs.declared.limits.TheConstants.{MOST_ITEMS}
use Rattle.rb_base.specs.declared.place.Place.{Place}
use Rattle.rb_grammar.specs.Order.{alternates_told, body_told, command_told, commands_told, declaration_told, each, expression_told, if_named, item_told, links_told, names_alone, otherwise_told, printed_told, recovery_told, reference_told}
use Rattle.rb_syntax.specs.declared.expression.Number.{Number}
use Rattle.rb_syntax.specs.Tree.{Identifier, Expression, Literal, Variable, Former, Minus, Negation, Chained, Quantification, Reference, Refer, Scalar, Element, Links, NoLink, Linked, Declaration, Printed, Words, Amount, PrintItem, Command, Assignment, Printing, Sending, Receiving, Conditional, Loop, Invocation, Failure, Recovering, Commands, NoCommand, Then, Body, Scope, Otherwise, NoElse, Else, RecoveryBlock, Recovers, Alternates, NoAlternate, Alternate}
use Rattle.rb_scope.specs.Scopes.{Declared, variables_from, words_in, words_of}
use Rattle.rb_scope.specs.Sites.{Site, Declares, Uses, Spot, alternates_sites, body_sites, command_sites, commands_sites, counter, expression_sites, joined_sites, links_sites, list_sites, otherwise_sites, printed_sites, quantified, recovery_sites, reference_sites, scope_sites, size_sites, tested, within}
use Rattle.rb_scope.specs.Slots.{number_at}
use Rattle.rb_scope.specs.declared.slot.Slot.{Slot}
use Rattle.rb_scope.specs.declared.slot.Slot.TheVariants.{Local}
use Rattle.rb_scope.specs.declared.want.Want.{Want}
use Rattle.rb_scope.specs.declared.want.Want.TheVariants.{AScalar, AValue}
use Rattle.rb_judge.proofs.Hits.{hits, hits-append, named}

-- how often a number is that of the name at one of these sites
abbrev pub at_sites : ℕ → List Site → ℕ
at_sites n sites = hits n (flat_map number_at sites)

pub at_sites-append : (n : ℕ) (xs ys : List Site) → at_sites n (xs ++ ys) ≡ at_sites n xs + at_sites n ys
at_sites-append n [] ys = omega arith
at_sites-append n (x ∷ xs) ys =
    let here = hits-append n (number_at x) (flat_map number_at (xs ++ ys)) in
    let first = hits-append n (number_at x) (flat_map number_at xs) in
    let later = at_sites-append n xs ys in
    omega arith

-- these names are told of a part with these sites, and then the rest
pub record IsTold (n : ℕ) (told : List Identifier) (sites : List Site) (rest : List Identifier) : Type 0 where
  pub as_often : named n told ≡ at_sites n sites + named n rest

-- a part with no name
pub nothing : (n : ℕ) (rest : List Identifier) → IsTold n rest [] rest
nothing n rest = record { as_often = omega arith }

-- two parts
pub both : {n : ℕ} {told middle rest : List Identifier} {xs ys : List Site} → IsTold n told xs middle
    → IsTold n middle ys rest → IsTold n told (xs ++ ys) rest
both {n = n} {xs = xs} {ys = ys} s t = record {
  as_often = let all = at_sites-append n xs ys in let first = s.as_often in let second = t.as_often in omega arith;
}

-- a name that is used or declared, and then a part
pub using : {n : ℕ} {told rest : List Identifier} {sites : List Site} (want : Want) (name : Identifier) (scopes : List (List Declared))
    → IsTold n told sites rest
    → IsTold n (name ∷ told) (Uses want name scopes ∷ sites) rest
using {n = n} want name scopes s = record { as_often = let later = s.as_often in omega arith }

pub declaring : {n : ℕ} {told rest : List Identifier} {sites : List Site} (earlier : List Declared) (one : Declared) → IsTold n told sites rest
    → IsTold n (one.name ∷ told) (Declares earlier one ∷ sites) rest
declaring {n = n} earlier one s = record { as_often = let later = s.as_often in omega arith }

-- lists and sizes have no names
pub no_list : {A : Type 0} (n : ℕ) (place : A → Place) (most before : ℕ) (items : List A) (rest : List Identifier)
    → IsTold n rest (list_sites place most before items) rest
no_list n place most before [] rest = nothing n rest
no_list n place most before (item ∷ items) rest = record { as_often = (no_list n place most (before + 1) items rest).as_often }

no_size : (n : ℕ) (size : Option Number) (rest : List Identifier) → IsTold n rest (size_sites size) rest
no_size n None rest = nothing n rest
no_size n (Some size) rest = record { as_often = (nothing n rest).as_often }

pub no_sizes : (n : ℕ) (variables : List Declaration) (rest : List Identifier)
    → IsTold n rest (flat_map (λ one. size_sites one.size) variables) rest
no_sizes n [] rest = nothing n rest
no_sizes n (one ∷ others) rest = both (no_size n one.size rest) (no_sizes n others rest)

mutual
  pub expression_names : (n : ℕ) (spot : Spot) (e : Expression) (rest : List Identifier)
      → IsTold n (expression_told names_alone e rest) (expression_sites spot e) rest
  expression_names n spot (Literal number) rest = nothing n rest
  expression_names n spot (Variable reference) rest = reference_names n spot AValue reference rest
  expression_names n spot (Former place reference) rest = record { as_often = (reference_names n spot AScalar reference rest).as_often }
  expression_names n spot (Minus operand) rest = expression_names n spot operand rest
  expression_names n spot (Negation operand) rest = expression_names n spot operand rest
  expression_names n spot (Chained first links) rest =
      both (expression_names n spot first (links_told names_alone links rest)) (links_names n spot links rest)
  expression_names n spot (Quantification kind place name low high body) rest =
      let inside : Spot = quantified spot in
      let third : List Identifier = expression_told names_alone body rest in
      let second : List Identifier = expression_told names_alone high third in
      record {
        as_often = (declaring [] (counter name spot)
            (both (expression_names n inside low second)
            (both (expression_names n inside high third)
            (expression_names n (within (counter name spot ∷ []) 0 inside) body rest)))).as_often;
      }

  pub reference_names : (n : ℕ) (spot : Spot) (want : Want) (r : Reference) (rest : List Identifier)
      → IsTold n (reference_told names_alone r rest) (reference_sites spot want r) rest
  reference_names n spot want (Refer name Scalar) rest = using want name spot.scopes (nothing n rest)
  reference_names n spot want (Refer name (Element index)) rest = using _ name spot.scopes (expression_names n spot index rest)

  pub links_names : (n : ℕ) (spot : Spot) (links : Links) (rest : List Identifier)
      → IsTold n (links_told names_alone links rest) (links_sites spot links) rest
  links_names n spot NoLink rest = nothing n rest
  links_names n spot (Linked op right links) rest =
      both (expression_names n spot right (links_told names_alone links rest)) (links_names n spot links rest)

arguments_names : (n : ℕ) (spot : Spot) (arguments : List Expression) (rest : List Identifier)
    → IsTold n (each (expression_told names_alone) arguments rest) (flat_map (expression_sites spot) arguments) rest
arguments_names n spot [] rest = nothing n rest
arguments_names n spot (argument ∷ arguments) rest =
    both (expression_names n spot argument (each (expression_told names_alone) arguments rest)) (arguments_names n spot arguments rest)

printed_names : (n : ℕ) (spot : Spot) (what : Printed) (rest : List Identifier)
    → IsTold n (printed_told names_alone what rest) (printed_sites spot what) rest
printed_names n spot (Words text) rest = nothing n rest
printed_names n spot (Amount value) rest = expression_names n spot value rest

items_names : (n : ℕ) (spot : Spot) (items : List PrintItem) (rest : List Identifier)
    → IsTold n (each (item_told names_alone) items rest) (flat_map (λ item. printed_sites spot item.what) items) rest
items_names n spot [] rest = nothing n rest
items_names n spot (item ∷ items) rest =
    both (printed_names n spot item.what (each (item_told names_alone) items rest)) (items_names n spot items rest)

joined_names : (n : ℕ) (spot : Spot) (conversation : Option Identifier) (rest : List Identifier)
    → IsTold n (if_named names_alone conversation rest) (joined_sites spot conversation) rest
joined_names n spot None rest = nothing n rest
joined_names n spot (Some name) rest = using _ name spot.scopes (nothing n rest)

-- variables are told as they are declared in a scope
pub variables_names : (n : ℕ) (slot : ℕ → Option ℕ
    → Slot) (at : ℕ) (earlier : List Declared) (variables : List Declaration) (rest : List Identifier)
    → IsTold n (each (declaration_told names_alone) variables rest) (scope_sites earlier (variables_from slot at variables)) rest
variables_names n slot at earlier [] rest = nothing n rest
variables_names n slot at earlier (one ∷ others) rest =
    declaring earlier _ (variables_names n slot (at + words_of one.size) (earlier ++ _ ∷ []) others rest)

mutual
  pub command_names : (n : ℕ) (spot : Spot) (command : Command) (rest : List Identifier)
      → IsTold n (command_told names_alone command rest) (command_sites spot command) rest
  command_names n spot (Assignment to value) rest =
      both (reference_names n spot AScalar to (expression_told names_alone value rest)) (expression_names n spot value rest)
  command_names n spot (Printing items) rest =
      both (no_list n (λ item. item.place) MOST_ITEMS 0 items (each (item_told names_alone) items rest)) (items_names n spot items rest)
  command_names n spot (Sending channel value) rest = using _ channel spot.scopes (expression_names n spot value rest)
  command_names n spot (Receiving channel to otherwise) rest =
      using _ channel spot.scopes
      (both (reference_names n spot AScalar to (otherwise_told names_alone otherwise rest)) (otherwise_names n spot otherwise rest))
  command_names n spot (Conditional test body otherwise) rest =
      both (expression_names n spot test (body_told names_alone body (otherwise_told names_alone otherwise rest)))
      (both (body_names n spot body (otherwise_told names_alone otherwise rest)) (otherwise_names n spot otherwise rest))
  command_names n spot (Loop test body) rest =
      both (expression_names n spot test (body_told names_alone body rest)) (body_names n spot body rest)
  command_names n spot (Invocation procedure arguments) rest =
      using _ procedure spot.scopes (record { as_often = (arguments_names n spot arguments rest).as_often })
  command_names n spot Failure rest = nothing n rest
  command_names n spot (Recovering block) rest = recovery_names n spot block rest

  pub commands_names : (n : ℕ) (spot : Spot) (commands : Commands) (rest : List Identifier)
      → IsTold n (commands_told names_alone commands rest) (commands_sites spot commands) rest
  commands_names n spot NoCommand rest = nothing n rest
  commands_names n spot (Then first others) rest =
      both (command_names n spot first (commands_told names_alone others rest)) (commands_names n spot others rest)

  pub body_names : (n : ℕ) (spot : Spot) (body : Body) (rest : List Identifier)
      → IsTold n (body_told names_alone body rest) (body_sites spot body) rest
  body_names n spot (Scope variables commands) rest =
      let told : List Identifier = commands_told names_alone commands rest in
      both (variables_names n Local spot.taken [] variables told)
      (both (no_sizes n variables told)
      (commands_names n (within (variables_from Local spot.taken variables) (words_in variables) spot) commands rest))

  pub otherwise_names : (n : ℕ) (spot : Spot) (otherwise : Otherwise) (rest : List Identifier)
      → IsTold n (otherwise_told names_alone otherwise rest) (otherwise_sites spot otherwise) rest
  otherwise_names n spot NoElse rest = nothing n rest
  otherwise_names n spot (Else body) rest = body_names n spot body rest

  pub recovery_names : (n : ℕ) (spot : Spot) (block : RecoveryBlock) (rest : List Identifier)
      → IsTold n (recovery_told names_alone block rest) (recovery_sites spot block) rest
  recovery_names n spot (Recovers number conversation place test bound alternates) rest =
      let told : List Identifier = alternates_told names_alone alternates rest in
      both (joined_names n spot conversation (expression_told names_alone test told))
      (both (expression_names n (tested spot) test told) (record { as_often = (alternates_names n spot alternates rest).as_often }))

  pub alternates_names : (n : ℕ) (spot : Spot) (alternates : Alternates) (rest : List Identifier)
      → IsTold n (alternates_told names_alone alternates rest) (alternates_sites spot alternates) rest
  alternates_names n spot NoAlternate rest = nothing n rest
  alternates_names n spot (Alternate body others) rest =
      both (body_names n spot body (alternates_told names_alone others rest)) (alternates_names n spot others rest)
