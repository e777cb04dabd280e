-- The names of code that stands for an accepted tree are as they should be.
use Rattle.std.proofs.Common.{◌≡◌, ℕ, ◌+◌, ◌≤◌, nat_le, List, [], ◌∷◌, ◌++◌, length, map, option_map, Option, Some, None, refl, ap, sym, ◌∙◌, subst}
use Rattle.std.proofs.lemmas.Bool.{and_parts, leb-true}
use Rattle.std.proofs.lemmas.List.{length-map}
use Rattle.std.proofs.lemmas.List.Elements.{All-from_recursion, recursion_from_All}
use Rattle.std.specs.List.{All, AllByRecursion}
use Rattle.rb_base.specs.declared.edition.Edition.{Edition}
use Rattle.rb_base.specs.declared.limits.TheConstants.{MOST_ELEMENTS}
use Rattle.rb_syntax.specs.declared.expression.Number.{Number}
use Rattle.rb_syntax.specs.Tree.{ChannelDeclaration, ConversationDeclaration, Declaration, ProcedureDeclaration, ProcessDeclaration, Tree}
use Rattle.rb_world.proofs.ListFacts.{none_some, some_same}
use Rattle.rb_world.specs.Text.{Naming, ProcessNaming}
use Rattle.rb_meaning.specs.Environment.{natural, size_of}
use Rattle.rb_meaning.specs.Groups.{groups_of, membership_of}
use Rattle.rb_meaning.specs.Meaning.{naming_of, process_named, variables_named}
use Rattle.rb_scope.specs.Limits.{AreDistinct}
use Rattle.rb_scope.specs.Rules.{faults_of}
use Rattle.rb_scope.specs.Sites.{in_program, process_sites}
use Rattle.rb_scope.specs.Spelled.{IsNaming, ProcedureSpelled, ProcessSpelled}
use Rattle.rb_scope.specs.declared.slot.Slot.{Slot}
use Rattle.rb_scope.proofs.EachSite.{IsKept, all_kept, all_parts}
use Rattle.rb_scope.proofs.PartsOfTrees.{process_parts, tree_parts}
use Rattle.rb_scope.proofs.Uses.{HasArraySize, HaveArraySizes, all_sized}
use Rattle.rb_code.specs.Instructions.Plain.{Code, Part, Procedure}
use Rattle.rb_code.specs.Agreement.Forms.{Owner, ProceduresCode}
use Rattle.rb_code.specs.Agreement.StandsFor.{ProcessesCode}
use Rattle.rb_code.specs.SoundCode.WellFormed.{IsNamed, NamesProcess, NamesVariable, outer_names}
use Rattle.rb_code.proofs.Tables.ProcessTables.{owner_by}
use Rattle.rb_prepare.proofs.AcceptedCode.{IsCodeOf, as_many_channels, distinct, plain_spread, places, nothing, weightless}
use Rattle.rb_prepare.proofs.Walking.WholeWalk.{spread_long}

-- arrays of a tree have sizes that they may have
processes_sized : (tree : Tree) → faults_of tree ≡ []
    → AllByRecursion (λ (process : ProcessDeclaration). HaveArraySizes process.variables) tree.processes
processes_sized tree e =
    all_parts IsKept (process_sites tree.edition (in_program tree))
    (λ (process : ProcessDeclaration). HaveArraySizes process.variables) tree.processes
    (λ process kept. all_sized process.variables (process_parts IsKept tree.edition (in_program tree) process kept).sizes)
    (tree_parts IsKept tree (all_kept tree e)).processes

size_few : (size : Option Number) (n : ℕ) → HasArraySize size → option_map (λ number. size_of (Some number)) size ≡ Some n → n ≤ MOST_ELEMENTS
size_few None n h e = absurd (none_some e)
size_few (Some number) n h e =
    let parts = and_parts (nat_le 1 (natural number.value)) (nat_le (natural number.value) MOST_ELEMENTS) h in
    subst (λ k. k ≤ MOST_ELEMENTS) (some_same e) (leb-true (natural number.value) MOST_ELEMENTS parts.1)

module _ (edition : Edition) where
  variables_spelled : (at : ℕ) (variables : List Declaration)
      → AllByRecursion (λ (variable : Declaration). IsNaming edition variable.name.text) variables → HaveArraySizes variables
      → AllByRecursion (NamesVariable edition) (variables_named at variables)
  variables_spelled at [] names sizes = tt
  variables_spelled at (one ∷ others) names sizes =
      (record { name = names.0; size = λ n e. size_few one.size n sizes.0 e }, variables_spelled (at + size_of one.size) others names.1 sizes.1)

  processes_spelled : (processes : List ProcessDeclaration) → AllByRecursion (ProcessSpelled edition) processes
      → AllByRecursion (λ (process : ProcessDeclaration). HaveArraySizes process.variables) processes
      → AllByRecursion (NamesProcess edition) (map process_named processes)
  processes_spelled [] names sizes = tt
  processes_spelled (one ∷ others) names sizes = (
    record {
      name = names.0.name;
      variables =
          All-from_recursion (NamesVariable edition) (variables_named 0 one.variables)
          (variables_spelled 0 one.variables
          (recursion_from_All (λ (variable : Declaration). IsNaming edition variable.name.text) one.variables names.0.variables) sizes.0);
    },
    processes_spelled others names.1 sizes.1,
  )

  -- texts of names
  texts_spelled : {A : Type 0} (text : A → List ℕ) (all : List A) → AllByRecursion (λ a. IsNaming edition (text a)) all
      → AllByRecursion (IsNaming edition) (map text all)
  texts_spelled text [] names = tt
  texts_spelled text (a ∷ all) names = (names.0, texts_spelled text all names.1)

names_again : (processes : List ProcessDeclaration)
    → map (λ (process : ProcessNaming). process.name) (map process_named processes)
    ≡ map (λ (process : ProcessDeclaration). process.name.text) processes
names_again [] = refl
names_again (one ∷ others) = ap (λ names. one.name.text ∷ names) (names_again others)

-- procedures are listed under their names
module _ (c : Code) (tree : Tree) (slots : List Slot) where
  entries_named : (owner : Owner) (procedures : List ProcedureDeclaration) (entries : List Procedure) (p q : ℕ)
      → AllByRecursion (ProcedureSpelled tree.edition) procedures → ProceduresCode tree slots owner procedures entries c p q
      → AllByRecursion (λ (one : Procedure). IsNaming tree.edition one.name) entries
  entries_named owner [] entries p q names (none, here) =
      subst (AllByRecursion (λ (one : Procedure). IsNaming tree.edition one.name)) (sym none) tt
  entries_named owner (one ∷ others) entries p q names (more, is, (m, body, (r, back, rest))) =
      subst (AllByRecursion (λ (entry : Procedure). IsNaming tree.edition entry.name)) (sym is)
      (names.0.name, entries_named owner others more r q names.1 rest)

  abbrev ListsNames : Part → Type 0
  ListsNames part = All (λ (one : Procedure). IsNaming tree.edition one.name) part.procedures

  parts_named : (p : ℕ) (processes : List ProcessDeclaration) (parts : List Part) (a b : ℕ)
      → AllByRecursion (ProcessSpelled tree.edition) processes → ProcessesCode tree slots p processes parts c a b
      → AllByRecursion ListsNames parts
  parts_named p [] parts a b names (none, here) = subst (AllByRecursion ListsNames) (sym none) tt
  parts_named p (one ∷ others) parts a b names (part, more, is, (m, (tells, (r, body, (q, done, code))), rest)) =
      subst (AllByRecursion ListsNames) (sym is) (
        All-from_recursion (λ (entry : Procedure). IsNaming tree.edition entry.name) part.procedures
            (entries_named (owner_by p one) one.procedures part.procedures q m
            (recursion_from_All (ProcedureSpelled tree.edition) one.procedures names.0.procedures) code),
        parts_named (p + 1) others more m b names.1 rest,
      )

pub code_is_named : (tree : Tree) (slots : List Slot) (c : Code) → IsCodeOf tree slots c → IsNamed c (groups_of tree)
code_is_named tree slots c code = record {
  processes_each = ap (λ (n : Naming). length n.processes) names ∙ length-map tree.processes process_named ∙ sym long;
  channels_each =
      ap (λ (n : Naming). length n.channels) names ∙ length-map tree.channels (λ (one : ChannelDeclaration). one.name.text) ∙ sym channels;
  conversations_each =
      ap (λ (n : Naming). length n.conversations) names ∙ length-map tree.conversations (λ (one : ConversationDeclaration). one.name.text)
      ∙ sym (length-map tree.conversations (membership_of tree));
  processes =
      named (λ edition n. All (NamesProcess edition) n.processes)
      (All-from_recursion (NamesProcess tree.edition) (map process_named tree.processes)
      (processes_spelled tree.edition tree.processes (recursion_from_All (ProcessSpelled tree.edition) tree.processes code.spelled.processes)
      (processes_sized tree code.scoped)));
  channels =
      named (λ edition n. All (IsNaming edition) n.channels)
      (All-from_recursion (IsNaming tree.edition) (map (λ (one : ChannelDeclaration). one.name.text) tree.channels)
      (texts_spelled tree.edition (λ (one : ChannelDeclaration). one.name.text) tree.channels
      (recursion_from_All (λ (one : ChannelDeclaration). IsNaming tree.edition one.name.text) tree.channels code.spelled.channels)));
  conversations =
      named (λ edition n. All (IsNaming edition) n.conversations)
      (All-from_recursion (IsNaming tree.edition) (map (λ (one : ConversationDeclaration). one.name.text) tree.conversations)
      (texts_spelled tree.edition (λ (one : ConversationDeclaration). one.name.text) tree.conversations
      (recursion_from_All (λ (one : ConversationDeclaration). IsNaming tree.edition one.name.text) tree.conversations
      code.spelled.conversations)));
  procedures =
      subst (λ (edition : Edition). All (λ (part : Part). All (λ (one : Procedure). IsNaming edition one.name) part.procedures) c.processes)
      (sym code.stands.edition_is)
      (All-from_recursion (ListsNames c tree slots) c.processes
      (parts_named c tree slots 0 tree.processes c.processes 0 (length c.instrs)
      (recursion_from_All (ProcessSpelled tree.edition) tree.processes code.spelled.processes) code.stands.instrs_are));
  differ =
      named (λ edition n. AreDistinct (outer_names n))
      (subst (λ (processes : List (List ℕ)). AreDistinct (processes ++ map (λ (one : ChannelDeclaration). one.name.text) tree.channels
      ++ map (λ (one : ConversationDeclaration). one.name.text) tree.conversations)) (sym (names_again tree.processes))
      (distinct tree slots c code).all);
}
  where
    names : c.names ≡ naming_of tree
    names = code.stands.names_are

    -- what holds of the names of the tree in its edition holds of those of the code in its own
    named : (P : Edition → Naming → Type 0) → P tree.edition (naming_of tree) → P c.edition c.names
    named P h = subst (λ (edition : Edition). P edition c.names) (sym code.stands.edition_is) (subst (P tree.edition) (sym names) h)

    long : length c.processes ≡ length tree.processes
    long =
        spread_long c tree (nothing tree slots c code) (weightless tree slots c code) 0 tree.processes c.processes
        (places tree slots c code) 0 (length c.instrs) (plain_spread tree slots c code)

    channels : length c.channels ≡ length tree.channels
    channels = as_many_channels tree slots c code
