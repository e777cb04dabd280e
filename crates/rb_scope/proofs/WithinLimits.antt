-- A tree without a fault is within the limits.
use Rattle.std.proofs.Common.{◌≡◌, ℕ, ◌+◌, ◌≤◌, false, ◌&&◌, nat_eq, nat_le, nat_lt, List, [], ◌∷◌, length, refl, sym, ap, ◌∙◌, arith}
use Rattle.std.proofs.lemmas.Bool.{and_parts, eqb-false, leb-true, not-false}
use Rattle.std.proofs.lemmas.Bool.Decides.{nat_tests}
use Rattle.std.proofs.lemmas.List.Sums.{sum_by-cons}
use Rattle.rb_base.specs.declared.edition.Edition.{Edition}
use Rattle.rb_base.specs.declared.limits.TheConstants.{MOST_CHANNEL_SIZE, MOST_CONNECTIONS, MOST_ITEMS, MOST_PARAMETERS, MOST_TURNS}
use Rattle.rb_base.specs.declared.place.Place.{Place}
use Rattle.rb_base.specs.Limits.{most_processes, most_words}
use Rattle.rb_syntax.specs.declared.expression.Number.{Number}
use Rattle.rb_syntax.specs.Tree.{Body, ChannelDeclaration, Command, Assignment, Printing, Sending, Receiving, Conditional, Loop, Invocation, Failure, Recovering, Commands, ConversationDeclaration, Declaration, Identifier, NoCommand, PrintItem, Then, Scope, Otherwise, NoElse, Else, RecoveryBlock, Recovers, Alternates, NoAlternate, Alternate, ProcedureDeclaration, ProcessDeclaration, Tree}
use Rattle.rb_meaning.specs.Environment.{Frame, Stored, frame_of, frame_words, natural}
use Rattle.rb_scope.specs.Frames.{Sized, shape_of, shape_words}
use Rattle.rb_scope.specs.Limits.{AlternatesWithin, BodyWithin, CommandWithin, CommandsWithin, IsFrom1To, IsWithinLimits, OtherwiseWithin, ProcedureWithin, ProcessWithin, RecoveryWithin}
use Rattle.rb_scope.specs.Rules.{faults_of, is_outside}
use Rattle.rb_scope.specs.Scopes.{variables_from, words_in, words_of}
use Rattle.rb_scope.specs.Sites.{Bounds, Spot, alternates_sites, body_sites, channel_sites, command_sites, commands_sites, expression_sites, in_program, list_sites, otherwise_sites, procedure_sites, process_sites, recovery_sites, scope_sites, tested, within, words_sites}
use Rattle.rb_scope.specs.declared.slot.Slot.TheVariants.{Local}
use Rattle.rb_scope.proofs.EachSite.{AreKept, IsKept, all_kept, all_split, of_parts, unbroken}
use Rattle.rb_scope.proofs.PartsOfTrees.{process_parts, procedure_parts, tree_parts, within_procedure, within_process}
use Rattle.rb_scope.proofs.Uses.{all_sized}
use Rattle.rb_scope.proofs.Rows.{variables_words}

-- the words of a frame are those of its shape
pub shape_words-frame : (frame : Frame) → shape_words (shape_of frame) ≡ frame_words frame
shape_words-frame [] = refl
shape_words-frame (stored ∷ frame) =
    let first : Sized = record { name = stored.name; words = length stored.values } in
    sum_by-cons (λ (s : Sized). s.words) first (shape_of frame) ∙ ap (λ n. length stored.values + n) (shape_words-frame frame)
    ∙ sym (sum_by-cons (λ (s : Stored). length s.values) stored frame)

-- a list of which none is too many
few-next : (before most : ℕ) → before ≤ most → nat_eq before most ≡ false → before + 1 ≤ most
few-next before most h e =
    let differ = eqb-false before most e in omega arith

few_in : {A : Type 0} (place : A → Place) (most before : ℕ) (all : List A) → before ≤ most
    → AreKept (list_sites place most before all) → before + length all ≤ most
few_in place most before [] h kept = omega arith
few_in place most before (one ∷ others) h kept =
    let next = few-next before most h (unbroken (nat_eq before most) _ (place one) kept.0) in
    let rest = few_in place most (before + 1) others next kept.1 in
    omega arith

few : {A : Type 0} (place : A → Place) (most : ℕ) (all : List A) → AreKept (list_sites place most 0 all) → length all ≤ most
few place most all kept = let h = few_in place most 0 all (omega arith) kept in omega arith

-- a number that is not outside
from_1 : (most : ℕ) (number : Number) → is_outside most number ≡ false → IsFrom1To most number
from_1 most number e =
    let n = natural number.value in
    let both = and_parts (nat_le 1 n) (nat_le n most) (not-false (nat_le 1 n && nat_le n most) e) in
    record { some = leb-true 1 n both.0; few = leb-true n most both.1 }

-- words of which none are too many
words-next : (before most words : ℕ) → before ≤ most → nat_le before most && nat_lt most (before + words) ≡ false → before + words ≤ most
words-next before most words h e = grind (arith, nat_tests)

words_few : (most before : ℕ) (variables : List Declaration) → before ≤ most → AreKept (words_sites most before variables)
    → before + words_in variables ≤ most
words_few most before [] h kept = omega arith
words_few most before (one ∷ others) h kept =
    let words = words_of one.size in
    let next = words-next before most words h (unbroken (nat_le before most && nat_lt most (before + words)) _ one.name.place kept.0) in
    let rest = words_few most (before + words_of one.size) others next kept.1 in
    omega arith

mutual
  command_within : (spot : Spot) (c : Command) → AreKept (command_sites spot c) → CommandWithin c
  command_within spot (Assignment to value) all = tt
  command_within spot (Printing items) all =
      few (λ (item : PrintItem). item.place) MOST_ITEMS items
      (all_split IsKept (list_sites (λ (item : PrintItem). item.place) MOST_ITEMS 0 items) _ all).0
  command_within spot (Sending channel value) all = tt
  command_within spot (Receiving channel to otherwise) all = otherwise_within spot otherwise (all_split IsKept _ _ all.1).1
  command_within spot (Conditional test body otherwise) all =
      let parts = all_split IsKept _ _ all in
      let rest = all_split IsKept _ _ parts.1 in (body_within spot body rest.0, otherwise_within spot otherwise rest.1)
  command_within spot (Loop test body) all = body_within spot body (all_split IsKept _ _ all).1
  command_within spot (Invocation procedure arguments) all = tt
  command_within spot Failure all = tt
  command_within spot (Recovering block) all = recovery_within spot block all

  commands_within : (spot : Spot) (cs : Commands) → AreKept (commands_sites spot cs) → CommandsWithin cs
  commands_within spot NoCommand all = tt
  commands_within spot (Then first rest) all =
      let parts = all_split IsKept _ _ all in (command_within spot first parts.0, commands_within spot rest parts.1)

  body_within : (spot : Spot) (body : Body) → AreKept (body_sites spot body) → BodyWithin body
  body_within spot (Scope variables commands) all =
      let parts = all_split IsKept (scope_sites [] (variables_from Local spot.taken variables)) _ all in
      let rest = all_split IsKept _ _ parts.1 in
      commands_within (within (variables_from Local spot.taken variables) (words_in variables) spot) commands rest.1

  otherwise_within : (spot : Spot) (otherwise : Otherwise) → AreKept (otherwise_sites spot otherwise) → OtherwiseWithin otherwise
  otherwise_within spot NoElse all = tt
  otherwise_within spot (Else body) all = body_within spot body all

  recovery_within : (spot : Spot) (block : RecoveryBlock) → AreKept (recovery_sites spot block) → RecoveryWithin block
  recovery_within spot (Recovers number conversation place test bound alternates) all =
      let parts = all_split IsKept _ _ all in
      let rest = all_split IsKept (expression_sites (tested spot) test) (Bounds bound ∷ alternates_sites spot alternates) parts.1 in
      let inside = from_1 MOST_TURNS bound (unbroken (is_outside MOST_TURNS bound) _ bound.place rest.1.0) in
      (inside, alternates_within spot alternates rest.1.1)

  alternates_within : (spot : Spot) (alternates : Alternates) → AreKept (alternates_sites spot alternates) → AlternatesWithin alternates
  alternates_within spot NoAlternate all = tt
  alternates_within spot (Alternate body others) all =
      let parts = all_split IsKept _ _ all in (body_within spot body parts.0, alternates_within spot others parts.1)

procedure_within : (spot : Spot) (name : Identifier) (parameters : List Identifier) (body : Body)
    → AreKept (procedure_sites spot (record { name = name; parameters = parameters; body = body }))
    → ProcedureWithin (record { name = name; parameters = parameters; body = body })
procedure_within spot name parameters (Scope variables commands) all =
    let procedure : ProcedureDeclaration = record { name = name; parameters = parameters; body = Scope variables commands } in
    let parts = procedure_parts IsKept spot procedure all in record {
      parameters = few (λ (one : Identifier). one.place) MOST_PARAMETERS parameters parts.parameters;
      commands = commands_within (within_procedure procedure spot) commands parts.commands;
    }

process_within : (edition : Edition) (spot : Spot) (process : ProcessDeclaration) → AreKept (process_sites edition spot process)
    → ProcessWithin edition process
process_within edition spot process all =
    let parts = process_parts IsKept edition spot process all in
    let frame = frame_of process.variables in
    let words : words_in process.variables ≡ frame_words frame =
    sym (variables_words process.variables (all_sized process.variables parts.sizes)) ∙ shape_words-frame frame in
    let most = words_few (most_words edition) 0 process.variables (omega arith) parts.words in record {
      words = omega (arith, words, most);
      procedures =
          of_parts IsKept (procedure_sites (within_process process spot)) ProcedureWithin process.procedures
          (λ one. procedure_within (within_process process spot) one.name one.parameters one.body) parts.procedures;
      commands = commands_within (within_process process spot) process.commands parts.commands;
    }

channel_within : (spot : Spot) (channel : ChannelDeclaration) → AreKept (channel_sites spot channel)
    → IsFrom1To MOST_CHANNEL_SIZE channel.size
channel_within spot channel all =
    from_1 MOST_CHANNEL_SIZE channel.size (unbroken (is_outside MOST_CHANNEL_SIZE channel.size) _ channel.size.place all.1.1.0)

pub within_limits : (tree : Tree) → faults_of tree ≡ [] → IsWithinLimits tree
within_limits tree e =
    let parts = tree_parts IsKept tree (all_kept tree e) in
    let spot = in_program tree in
    let Sized : ChannelDeclaration → Type 0 = λ channel. IsFrom1To MOST_CHANNEL_SIZE channel.size in record {
      few_processes = few (λ (one : ProcessDeclaration). one.name.place) (most_processes tree.edition) tree.processes parts.few_processes;
      few_channels = few (λ (one : ChannelDeclaration). one.name.place) MOST_CONNECTIONS tree.channels parts.few_channels;
      few_conversations =
          few (λ (one : ConversationDeclaration). one.name.place) MOST_CONNECTIONS tree.conversations parts.few_conversations;
      channel_sizes = of_parts IsKept (channel_sites spot) Sized tree.channels (channel_within spot) parts.channels;
      processes =
          of_parts IsKept (process_sites tree.edition spot) (ProcessWithin tree.edition) tree.processes (process_within tree.edition spot)
          parts.processes;
    }
