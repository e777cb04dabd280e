-- The names of a source fit the code that stands for it: each variable that is printed lies within the words of its process, and each
-- channel has a name.
use Rattle.std.proofs.Common.{◌≡◌, ℕ, ◌+◌, List, [], ◌∷◌, length, map, sym, ap, ◌∙◌, arith, subst}
use Rattle.std.specs.List.{AllZip}
use Rattle.std.proofs.lemmas.List.{length-map}
use Rattle.rb_base.specs.declared.names.Names.{Names}
use Rattle.rb_base.specs.declared.names.ProcessNames.{ProcessNames}
use Rattle.rb_syntax.specs.Tree.{ProcessDeclaration, Tree}
use Rattle.rb_world.specs.Text.{Naming, ProcessNaming}
use Rattle.rb_world.proofs.ListFacts.{heads_same, tails_same}
use Rattle.rb_meaning.specs.Groups.{ends_of}
use Rattle.rb_meaning.specs.Meaning.{naming_of, process_named, variables_named}
use Rattle.rb_meaning.proofs.NamedVariables.{named_within}
use Rattle.rb_trace.specs.Naming.{naming, process_naming, variable_naming}
use Rattle.rb_trace.proofs.Lying.{variables_within}
use Rattle.rb_scope.specs.declared.slot.Slot.{Slot}
use Rattle.rb_code.specs.Instructions.Plain.{Code, Part}
use Rattle.rb_code.specs.Agreement.StandsFor.{ProcessesCode, StandsFor}
use Rattle.rb_code.specs.Instructions.Variables.{VariablesLie}
use Rattle.rb_run.specs.Running.{NamesFit}

module _ (tree : Tree) (slots : List Slot) (c : Code) where
  processes_lie : (p : ℕ) (processes : List ProcessDeclaration) (parts : List Part) (names : List ProcessNames) (a b : ℕ)
      → ProcessesCode tree slots p processes parts c a b → map process_naming names ≡ map process_named processes
      → AllZip VariablesLie names parts
  processes_lie p [] parts [] a b (none, here) e = subst (AllZip VariablesLie []) (sym none) tt
  processes_lie p [] parts (one ∷ names) a b code e = absurd (cc)
  processes_lie p (process ∷ processes) parts [] a b code e = absurd (cc)
  processes_lie p (process ∷ processes) parts (one ∷ names) a b (part, more, is, (m, (tells, body), rest)) e =
      let own : map variable_naming one.variables.items ≡ variables_named 0 process.variables =
      ap (λ (named : ProcessNaming). named.variables) (heads_same e) in
      subst (AllZip VariablesLie (one ∷ names)) (sym is) (
        variables_within part.words one.variables.items (rw own (named_within part.words 0 process.variables (omega (arith, tells.words_are)))),
        processes_lie (p + 1) processes more names m b rest (tails_same e),
      )

pub names_fit : (tree : Tree) (slots : List Slot) (c : Code) (names : Names) → StandsFor tree slots c → naming names ≡ c.names
    → NamesFit c names
names_fit tree slots c names stands named =
    let same : naming names ≡ naming_of tree = named ∙ stands.names_are in
    record {
      processes = processes_lie tree slots c 0 tree.processes c.processes names.processes.items 0 (length c.instrs) stands.instrs_are
          (ap (λ (n : Naming). n.processes) same);
      channels = ap (λ (n : Naming). length n.channels) same
          ∙ (length-map tree.channels _ ∙ (sym (length-map tree.channels (ends_of tree)) ∙ ap length (sym stands.channels_are)));
    }
