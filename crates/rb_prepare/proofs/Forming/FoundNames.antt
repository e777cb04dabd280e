-- In a tree without a fault of scopes the name of each `converse` is that of a conversation, and that of each member one of a process.
use Rattle.std.proofs.Common.{◌≡◌, ℕ, zero, suc, ◌+◌, Bool, true, false, cond, not, List, [], ◌∷◌, ◌++◌, length, slice_get, Option, Some, None, refl, sym, ◌∙◌, subst, true≢false}
use Rattle.std.specs.List.{AllByRecursion, flat_map}
use Rattle.std.proofs.lemmas.Bool.{not-false}
use Rattle.rb_syntax.specs.Tree.{Identifier, Command, Assignment, Printing, Sending, Receiving, Conditional, Loop, Invocation, Failure, Recovering, Commands, NoCommand, Then, Body, Scope, Otherwise, NoElse, Else, RecoveryBlock, Recovers, Alternates, NoAlternate, Alternate, ChannelDeclaration, ConversationDeclaration, Declaration, ProcedureDeclaration, ProcessDeclaration, Tree}
use Rattle.rb_world.proofs.ListFacts.{none_some, some_same}
use Rattle.rb_meaning.specs.Environment.{or_else, same_name}
use Rattle.rb_meaning.specs.Nesting.{Deed, Joins, Sends, Receives, Spot as UseSpot, Use, inside, joined, outside, uses_in, uses_in_alternates, uses_in_block, uses_in_body, uses_in_command, uses_in_otherwise, uses_in_procedures, uses_in_processes, uses_of}
use Rattle.rb_scope.specs.FirstFault.{is_before}
use Rattle.rb_scope.specs.Rules.{faults_of, fits, misused}
use Rattle.rb_scope.specs.Scopes.{Declared, channels_from, conversations_from, declared_in, in_text_order, meaning_of, parameters_from, procedures_from, processes_from, program_scope, take_place, variables_from, words_in, words_of}
use Rattle.rb_scope.specs.Sites.{Bounds, Spot, Uses, alternates_sites, body_sites, command_sites, commands_sites, conversation_sites, expression_sites, in_program, joined_sites, member_sites, otherwise_sites, procedure_sites, process_sites, recovery_sites, scope_sites, tested, within}
use Rattle.rb_scope.specs.declared.slot.Slot.{Slot}
use Rattle.rb_scope.specs.declared.slot.Slot.TheVariants.{Process, Conversation, Global, Local}
use Rattle.rb_scope.specs.declared.want.Want.{Want}
use Rattle.rb_scope.specs.declared.want.Want.TheVariants.{AConversation, AProcess}
use Rattle.rb_scope.proofs.DistinctNames.{same_text}
use Rattle.rb_scope.proofs.EachSite.{AreKept, IsKept, all_append, all_kept, all_parts, all_split, unbroken}
use Rattle.rb_scope.proofs.PartsOfTrees.{process_parts, procedure_parts, tree_parts, within_process, within_procedure}

-- a conversation of the tree has this name, and a process has it
abbrev pub NamesConversation : Tree → List ℕ → Type 0
NamesConversation tree x = (i : ℕ) × (one : ConversationDeclaration) × (slice_get tree.conversations i ≡ Some one) × (one.name.text ≡ x)

abbrev pub NamesProcess : Tree → List ℕ → Type 0
NamesProcess tree x = (i : ℕ) × (one : ProcessDeclaration) × (slice_get tree.processes i ≡ Some one) × (one.name.text ≡ x)

-- so a use that joins tells
abbrev pub JoinsNamed : Tree → Deed → List ℕ → Type 0
JoinsNamed tree (Joins n) x = NamesConversation tree x
JoinsNamed tree Sends x = Unit {0}
JoinsNamed tree Receives x = Unit {0}

module _ (tree : Tree) where
  -- what has this slot has the name of what is declared
  abbrev Fits : Slot → List ℕ → Type 0
  Fits (Process k) x = NamesProcess tree x
  Fits (Conversation k) x = NamesConversation tree x
  Fits other x = Unit {0}

  abbrev IsTold : Declared → Type 0
  IsTold one = Fits one.slot one.name.text

  abbrev AreTold : List Declared → Type 0
  AreTold all = AllByRecursion IsTold all

  abbrev AllTold : List (List Declared) → Type 0
  AllTold scopes = AllByRecursion AreTold scopes

  conversations_told : (k : ℕ) (all : List ConversationDeclaration) → ((i : ℕ) (one : ConversationDeclaration) → slice_get all i ≡ Some one
      → NamesConversation tree one.name.text) → AreTold (conversations_from k all)
  conversations_told k [] h = tt
  conversations_told k (one ∷ others) h = (h zero one refl, conversations_told (k + 1) others (λ i other at. h (suc i) other at))

  processes_told : (k : ℕ) (all : List ProcessDeclaration) → ((i : ℕ) (one : ProcessDeclaration) → slice_get all i ≡ Some one
      → NamesProcess tree one.name.text) → AreTold (processes_from k all)
  processes_told k [] h = tt
  processes_told k (one ∷ others) h = (h zero one refl, processes_told (k + 1) others (λ i other at. h (suc i) other at))

  channels_told : (k : ℕ) (all : List ChannelDeclaration) → AreTold (channels_from k all)
  channels_told k [] = tt
  channels_told k (one ∷ others) = (tt, channels_told (k + 1) others)

  procedures_told : (k : ℕ) (all : List ProcedureDeclaration) → AreTold (procedures_from k all)
  procedures_told k [] = tt
  procedures_told k (one ∷ others) = (tt, procedures_told (k + 1) others)

  parameters_told : (k : ℕ) (all : List Identifier) → AreTold (parameters_from k all)
  parameters_told k [] = tt
  parameters_told k (one ∷ others) = (tt, parameters_told (k + 1) others)

  globals_told : (at : ℕ) (all : List Declaration) → AreTold (variables_from Global at all)
  globals_told at [] = tt
  globals_told at (one ∷ others) = (tt, globals_told (at + words_of one.size) others)

  locals_told : (at : ℕ) (all : List Declaration) → AreTold (variables_from Local at all)
  locals_told at [] = tt
  locals_told at (one ∷ others) = (tt, locals_told (at + words_of one.size) others)

  placed_told : (one : Declared) (others : List Declared) → IsTold one → AreTold others → AreTold (take_place one others)
  placed_told one [] h all = (h, tt)
  placed_told one (other ∷ others) h all = placed (is_before one.name.place other.name.place) (placed_told one others h all.1)
    where
      placed : (before : Bool) → AreTold (take_place one others) → AreTold (cond before (one ∷ other ∷ others) (other ∷ take_place one others))
      placed true rest = (h, (all.0, all.1))
      placed false rest = (all.0, rest)

  ordered_told : (more others : List Declared) → AreTold more → AreTold others → AreTold (in_text_order more others)
  ordered_told [] others p q = q
  ordered_told (one ∷ more) others p q = ordered_told more (take_place one others) p.1 (placed_told one others p.0 q)

  program_told : AreTold (program_scope tree)
  program_told =
      all_append IsTold (in_text_order (conversations_from 0 tree.conversations) (channels_from 0 tree.channels)) (processes_from 0 tree.processes)
      (ordered_told (conversations_from 0 tree.conversations) (channels_from 0 tree.channels)
      (conversations_told 0 tree.conversations (λ i one at. (i, one, at, refl))) (channels_told 0 tree.channels))
      (processes_told 0 tree.processes (λ i one at. (i, one, at, refl)))

  -- what a name means is told, and has the name
  declared_there : (x : List ℕ) (all : List Declared) (one : Declared) → AreTold all → declared_in x all ≡ Some one → IsTold one × (one.name.text ≡ x)
  declared_there x [] one told e = absurd (none_some e)
  declared_there x (first ∷ others) one told e = there (same_name first.name.text x) refl (declared_there x others one told.1) e
    where
      there : (same : Bool) → same_name first.name.text x ≡ same → (declared_in x others ≡ Some one → IsTold one × (one.name.text ≡ x))
          → cond same (Some first) (declared_in x others) ≡ Some one → IsTold one × (one.name.text ≡ x)
      there true named later e = subst (λ (d : Declared). IsTold d × (d.name.text ≡ x)) (some_same e) (told.0, same_text first.name.text x named)
      there false named later e = later e

  means_it : (x : List ℕ) (scopes : List (List Declared)) (one : Declared) → AllTold scopes → meaning_of x scopes ≡ Some one
      → IsTold one × (one.name.text ≡ x)
  means_it x [] one told e = absurd (none_some e)
  means_it x (scope ∷ around) one told e = by (declared_in x scope) refl (means_it x around one told.1) e
    where
      by : (inner : Option Declared) → declared_in x scope ≡ inner → (meaning_of x around ≡ Some one → IsTold one × (one.name.text ≡ x))
          → or_else inner (meaning_of x around) ≡ Some one → IsTold one × (one.name.text ≡ x)
      by None at later e = later e
      by (Some first) at later e = declared_there x scope one told.0 (at ∙ e)

  fitting : (want : Want) (name : Identifier) (meaning : Option Declared) → misused want name meaning ≡ []
      → (one : Declared) × (meaning ≡ Some one) × (fits want one.slot ≡ true)
  fitting want name None kept = absurd (cc)
  fitting want name (Some one) kept = (one, refl, not-false (fits want one.slot) (unbroken (not (fits want one.slot)) _ name.place kept))

  conversation_by : (slot : Slot) (x : List ℕ) → fits AConversation slot ≡ true → Fits slot x → NamesConversation tree x
  conversation_by (Conversation k) x fitted told = told
  conversation_by other x fitted told = absurd (true≢false (sym fitted))

  process_by : (slot : Slot) (x : List ℕ) → fits AProcess slot ≡ true → Fits slot x → NamesProcess tree x
  process_by (Process k) x fitted told = told
  process_by other x fitted told = absurd (true≢false (sym fitted))

  conversation_found : (name : Identifier) (scopes : List (List Declared)) → AllTold scopes → IsKept (Uses AConversation name scopes)
      → NamesConversation tree name.text
  conversation_found name scopes told kept =
      let f = fitting AConversation name (meaning_of name.text scopes) kept in
      let m = means_it name.text scopes f.0 told f.1 in
      subst (NamesConversation tree) m.1 (conversation_by f.0.slot f.0.name.text f.2 m.0)

  pub process_found : (name : Identifier) (scopes : List (List Declared)) → AllTold scopes → IsKept (Uses AProcess name scopes)
      → NamesProcess tree name.text
  process_found name scopes told kept =
      let f = fitting AProcess name (meaning_of name.text scopes) kept in
      let m = means_it name.text scopes f.0 told f.1 in
      subst (NamesProcess tree) m.1 (process_by f.0.slot f.0.name.text f.2 m.0)

  abbrev IsNamedUse : Use → Type 0
  IsNamedUse one = JoinsNamed tree one.deed one.name.text

  abbrev pub AreNamedUses : List Use → Type 0
  AreNamedUses uses = AllByRecursion IsNamedUse uses

  -- one scope more
  more_told : (scope : List Declared) (words : ℕ) (spot : Spot) → AreTold scope → AllTold spot.scopes → AllTold (within scope words spot).scopes
  more_told scope words spot first rest = (first, rest)

  joined_named : (spot : Spot) (at : UseSpot) (conversation : Option Identifier) (alternates : Alternates) → AllTold spot.scopes
      → AreKept (joined_sites spot conversation) → AreNamedUses (joined conversation alternates at)
  joined_named spot at None alternates told kept = tt
  joined_named spot at (Some name) alternates told kept = (conversation_found name spot.scopes told kept.0, tt)

  mutual
    command_named : (spot : Spot) (at : UseSpot) (command : Command) → AllTold spot.scopes → AreKept (command_sites spot command)
        → AreNamedUses (uses_in_command at command)
    command_named spot at (Assignment to value) told kept = tt
    command_named spot at (Printing items) told kept = tt
    command_named spot at (Sending channel value) told kept = (tt, tt)
    command_named spot at (Receiving channel to otherwise) told kept =
        (tt, otherwise_named spot at otherwise told (all_split IsKept _ _ kept.1).1)
    command_named spot at (Conditional test body otherwise) told kept =
        let parts = all_split IsKept (expression_sites spot test) _ kept in
        let rest = all_split IsKept _ _ parts.1 in
        all_append IsNamedUse (uses_in_body at body) (uses_in_otherwise at otherwise) (body_named spot at body told rest.0)
        (otherwise_named spot at otherwise told rest.1)
    command_named spot at (Loop test body) told kept = body_named spot at body told (all_split IsKept (expression_sites spot test) _ kept).1
    command_named spot at (Invocation procedure arguments) told kept = tt
    command_named spot at Failure told kept = tt
    command_named spot at (Recovering block) told kept = block_named spot at block told kept

    commands_named : (spot : Spot) (at : UseSpot) (commands : Commands) → AllTold spot.scopes → AreKept (commands_sites spot commands)
        → AreNamedUses (uses_in at commands)
    commands_named spot at NoCommand told kept = tt
    commands_named spot at (Then first rest) told kept =
        let parts = all_split IsKept _ _ kept in
        all_append IsNamedUse (uses_in_command at first) (uses_in at rest) (command_named spot at first told parts.0)
        (commands_named spot at rest told parts.1)

    body_named : (spot : Spot) (at : UseSpot) (body : Body) → AllTold spot.scopes → AreKept (body_sites spot body)
        → AreNamedUses (uses_in_body at body)
    body_named spot at (Scope variables commands) told kept =
        let parts = all_split IsKept (scope_sites [] (variables_from Local spot.taken variables)) _ kept in
        let rest = all_split IsKept _ _ parts.1 in
        commands_named (within (variables_from Local spot.taken variables) (words_in variables) spot) at commands
        (locals_told spot.taken variables, told) rest.1

    otherwise_named : (spot : Spot) (at : UseSpot) (otherwise : Otherwise) → AllTold spot.scopes → AreKept (otherwise_sites spot otherwise)
        → AreNamedUses (uses_in_otherwise at otherwise)
    otherwise_named spot at NoElse told kept = tt
    otherwise_named spot at (Else body) told kept = body_named spot at body told kept

    block_named : (spot : Spot) (at : UseSpot) (block : RecoveryBlock) → AllTold spot.scopes → AreKept (recovery_sites spot block)
        → AreNamedUses (uses_in_block at block)
    block_named spot at (Recovers number conversation place test bound alternates) told kept =
        let parts = all_split IsKept (joined_sites spot conversation) _ kept in
        let rest = all_split IsKept (expression_sites (tested spot) test) (Bounds bound ∷ alternates_sites spot alternates) parts.1 in
        all_append IsNamedUse (joined conversation alternates at) (uses_in_alternates (inside conversation at) alternates)
        (joined_named spot at conversation alternates told parts.0) (alternates_named spot (inside conversation at) alternates told rest.1.1)

    alternates_named : (spot : Spot) (at : UseSpot) (alternates : Alternates) → AllTold spot.scopes → AreKept (alternates_sites spot alternates)
        → AreNamedUses (uses_in_alternates at alternates)
    alternates_named spot at NoAlternate told kept = tt
    alternates_named spot at (Alternate body others) told kept =
        let parts = all_split IsKept _ _ kept in
        all_append IsNamedUse (uses_in_body at body) (uses_in_alternates at others) (body_named spot at body told parts.0)
        (alternates_named spot at others told parts.1)

  procedure_named : (spot : Spot) (at : UseSpot) (name : Identifier) (parameters : List Identifier) (body : Body) → AllTold spot.scopes
      → AreKept (procedure_sites spot (record { name = name; parameters = parameters; body = body })) → AreNamedUses (uses_in_body at body)
  procedure_named spot at name parameters (Scope variables commands) told kept =
      let one : ProcedureDeclaration = record { name = name; parameters = parameters; body = Scope variables commands } in
      let parts = procedure_parts IsKept spot one kept in
      commands_named (within_procedure one spot) at commands (
        all_append IsTold (parameters_from 0 parameters) (variables_from Local (length parameters) variables) (parameters_told 0 parameters)
            (locals_told (length parameters) variables),
        told,
      ) parts.commands

  procedures_named : (spot : Spot) (q : ℕ) (procedures : List ProcedureDeclaration) → AllTold spot.scopes
      → AreKept (flat_map (procedure_sites spot) procedures) → AreNamedUses (uses_in_procedures q procedures)
  procedures_named spot q [] told kept = tt
  procedures_named spot q (one ∷ others) told kept =
      let parts = all_split IsKept (procedure_sites spot one) (flat_map (procedure_sites spot) others) kept in
      all_append IsNamedUse (uses_in_body (outside q true) one.body) (uses_in_procedures q others)
      (procedure_named spot (outside q true) one.name one.parameters one.body told parts.0) (procedures_named spot q others told parts.1)

  processes_named : (q : ℕ) (processes : List ProcessDeclaration) → AreKept (flat_map (process_sites tree.edition (in_program tree)) processes)
      → AreNamedUses (uses_in_processes q processes)
  processes_named q [] kept = tt
  processes_named q (one ∷ others) kept =
      let all = all_split IsKept (process_sites tree.edition (in_program tree) one)
      (flat_map (process_sites tree.edition (in_program tree)) others) kept in
      let parts = process_parts IsKept tree.edition (in_program tree) one all.0 in
      let spot = within_process one (in_program tree) in
      let told : AllTold spot.scopes = (
        all_append IsTold (variables_from Global 0 one.variables) (procedures_from 0 one.procedures)
            (globals_told 0 one.variables) (procedures_told 0 one.procedures),
        (program_told, tt),
      ) in
      all_append IsNamedUse (uses_in_procedures q one.procedures) (uses_in (outside q false) one.commands ++ uses_in_processes (q + 1) others)
      (procedures_named spot q one.procedures told parts.procedures)
      (all_append IsNamedUse (uses_in (outside q false) one.commands) (uses_in_processes (q + 1) others)
      (commands_named spot (outside q false) one.commands told parts.commands) (processes_named (q + 1) others all.1))

  members_named : (names : List Identifier) → AreKept (member_sites (in_program tree) names)
      → AllByRecursion (λ (name : Identifier). NamesProcess tree name.text) names
  members_named [] kept = tt
  members_named (name ∷ names) kept = (process_found name (program_scope tree ∷ []) (program_told, tt) kept.0, members_named names kept.1)

  abbrev pub MembersNamed : ConversationDeclaration → Type 0
  MembersNamed conversation = AllByRecursion (λ (name : Identifier). NamesProcess tree name.text) conversation.members

  -- the names of a tree without a fault
  pub uses_named : faults_of tree ≡ [] → AreNamedUses (uses_of tree)
  uses_named e = processes_named 0 tree.processes (tree_parts IsKept tree (all_kept tree e)).processes

  pub all_members_named : faults_of tree ≡ [] → AllByRecursion MembersNamed tree.conversations
  all_members_named e =
      all_parts IsKept (conversation_sites (in_program tree)) MembersNamed tree.conversations (λ one kept. members_named one.members kept)
      (tree_parts IsKept tree (all_kept tree e)).conversations
