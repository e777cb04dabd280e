-- A call of a tree without a fault of scopes has few arguments: no procedure that is declared around it has many parameters.
use Rattle.std.proofs.Common.{◌≡◌, ℕ, ◌+◌, ◌≤◌, nat_eq, Bool, true, false, not, ◌&&◌, cond, List, [], ◌∷◌, length, Option, Some, None, refl, arith}
use Rattle.std.specs.List.{AllByRecursion}
use Rattle.std.proofs.lemmas.Bool.{eqb-true}
use Rattle.rb_base.specs.declared.limits.TheConstants.{MOST_PARAMETERS}
use Rattle.rb_base.specs.declared.fault.FaultName.TheVariants.{S3, S4}
use Rattle.rb_syntax.specs.Tree.{ChannelDeclaration, ConversationDeclaration, Declaration, Identifier, ProcedureDeclaration, ProcessDeclaration, Tree}
use Rattle.rb_meaning.specs.Environment.{or_else, same_name}
use Rattle.rb_scope.specs.FirstFault.{is_before}
use Rattle.rb_scope.specs.Limits.{ProcedureWithin}
use Rattle.rb_scope.specs.Rules.{fits, is_miscalled, misused}
use Rattle.rb_scope.specs.Scopes.{Declared, channels_from, conversations_from, declared_in, in_text_order, meaning_of, parameters_from, procedure_scope, procedures_from, process_scope, processes_from, program_scope, take_place, variables_from, variables_in, words_of}
use Rattle.rb_scope.specs.Sites.{Calls, Uses}
use Rattle.rb_scope.specs.declared.slot.Slot.{Slot}
use Rattle.rb_scope.specs.declared.slot.Slot.TheVariants.{Global, Local}
use Rattle.rb_scope.specs.declared.want.Want.TheVariants.{AProcedure}
use Rattle.rb_scope.proofs.EachSite.{IsKept, all_append, unbroken}

-- a declaration of few parameters, and scopes of such alone
abbrev pub TakesFew : Declared → Type 0
TakesFew one = one.parameters ≤ MOST_PARAMETERS

abbrev pub TakeFew : List Declared → Type 0
TakeFew scope = AllByRecursion TakesFew scope

abbrev pub ScopesTakeFew : List (List Declared) → Type 0
ScopesTakeFew scopes = AllByRecursion TakeFew scopes

-- what a name stands for, if anything
abbrev MeansFew : Option Declared → Type 0
MeansFew None = Unit {0}
MeansFew (Some one) = TakesFew one

declared_few : (x : List ℕ) (scope : List Declared) → TakeFew scope → MeansFew (declared_in x scope)
declared_few x [] few = tt
declared_few x (one ∷ others) few =
    let later = declared_few x others few.1 in
    elim (same_name one.name.text x) as (λ same. MeansFew (cond same (Some one) (declared_in x others))) [ true ↦ few.0 | false ↦ later ]

first_few : (inner outer : Option Declared) → MeansFew inner → MeansFew outer → MeansFew (or_else inner outer)
first_few None outer few h = h
first_few (Some one) outer few h = few

meaning_few : (x : List ℕ) (scopes : List (List Declared)) → ScopesTakeFew scopes → MeansFew (meaning_of x scopes)
meaning_few x [] few = tt
meaning_few x (scope ∷ around) few =
    first_few (declared_in x scope) (meaning_of x around) (declared_few x scope few.0) (meaning_few x around few.1)

-- a call keeps its rule if the number is that of the parameters
counted : (fitting same : Bool) → not fitting ≡ false → fitting && not same ≡ false → same ≡ true
counted true true e h = refl
counted true false e h = absurd cc
counted false same e h = absurd cc

few_called : (n : ℕ) (name : Identifier) (meaning : Option Declared) → MeansFew meaning → misused AProcedure name meaning ≡ []
    → is_miscalled n meaning ≡ false → n ≤ MOST_PARAMETERS
few_called n name None few used called = absurd cc
few_called n name (Some one) few used called =
    let fitting = unbroken (not (fits AProcedure one.slot)) S3 name.place used in
    let same : one.parameters ≡ n =
    eqb-true one.parameters n (counted (fits AProcedure one.slot) (nat_eq one.parameters n) fitting called) in
    omega arith

pub few_arguments : (name : Identifier) (n : ℕ) (scopes : List (List Declared)) → ScopesTakeFew scopes
    → IsKept (Uses AProcedure name scopes) → IsKept (Calls name n scopes) → n ≤ MOST_PARAMETERS
few_arguments name n scopes few used called =
    let meaning = meaning_of name.text scopes in
    few_called n name meaning (meaning_few name.text scopes few) used (unbroken (is_miscalled n meaning) S4 name.place called)

-- nothing but procedures has parameters
pub variables_few : (slot : ℕ → Option ℕ → Slot) (at : ℕ) (variables : List Declaration) → TakeFew (variables_from slot at variables)
variables_few slot at [] = tt
variables_few slot at (one ∷ others) = (omega arith, variables_few slot (at + words_of one.size) others)

parameters_few : (at : ℕ) (names : List Identifier) → TakeFew (parameters_from at names)
parameters_few at [] = tt
parameters_few at (name ∷ names) = (omega arith, parameters_few (at + 1) names)

channels_few : (k : ℕ) (channels : List ChannelDeclaration) → TakeFew (channels_from k channels)
channels_few k [] = tt
channels_few k (one ∷ others) = (omega arith, channels_few (k + 1) others)

conversations_few : (k : ℕ) (conversations : List ConversationDeclaration) → TakeFew (conversations_from k conversations)
conversations_few k [] = tt
conversations_few k (one ∷ others) = (omega arith, conversations_few (k + 1) others)

processes_few : (k : ℕ) (processes : List ProcessDeclaration) → TakeFew (processes_from k processes)
processes_few k [] = tt
processes_few k (one ∷ others) = (omega arith, processes_few (k + 1) others)

-- and these have few
procedures_few : (k : ℕ) (procedures : List ProcedureDeclaration) → AllByRecursion ProcedureWithin procedures
    → TakeFew (procedures_from k procedures)
procedures_few k [] within = tt
procedures_few k (one ∷ others) within = (within.0.parameters, procedures_few (k + 1) others within.1)

-- declarations in the order of the text
placed_few : (one : Declared) (others : List Declared) → TakesFew one → TakeFew others → TakeFew (take_place one others)
placed_few one [] here few = (here, tt)
placed_few one (other ∷ others) here few =
    let later = placed_few one others here few.1 in
    elim (is_before one.name.place other.name.place)
    as (λ before. TakeFew (cond before (one ∷ other ∷ others) (other ∷ take_place one others)))
    [ true ↦ (here, few) | false ↦ (few.0, later) ]

ordered_few : (ones others : List Declared) → TakeFew ones → TakeFew others → TakeFew (in_text_order ones others)
ordered_few [] others few rest = rest
ordered_few (one ∷ more) others few rest =
    ordered_few more (take_place one others) few.1 (placed_few one others few.0 rest)

-- the scopes of a program, of a process and of a procedure
pub program_few : (tree : Tree) → TakeFew (program_scope tree)
program_few tree =
    let connections = in_text_order (conversations_from 0 tree.conversations) (channels_from 0 tree.channels) in
    all_append TakesFew connections (processes_from 0 tree.processes)
    (ordered_few (conversations_from 0 tree.conversations) (channels_from 0 tree.channels) (conversations_few 0 tree.conversations)
    (channels_few 0 tree.channels)) (processes_few 0 tree.processes)

pub process_few : (process : ProcessDeclaration) → AllByRecursion ProcedureWithin process.procedures → TakeFew (process_scope process)
process_few process within =
    all_append TakesFew (variables_from Global 0 process.variables) (procedures_from 0 process.procedures)
    (variables_few Global 0 process.variables) (procedures_few 0 process.procedures within)

pub procedure_few : (procedure : ProcedureDeclaration) → TakeFew (procedure_scope procedure)
procedure_few procedure =
    let variables = variables_in procedure.body in
    all_append TakesFew (parameters_from 0 procedure.parameters) (variables_from Local (length procedure.parameters) variables)
    (parameters_few 0 procedure.parameters) (variables_few Local (length procedure.parameters) variables)
