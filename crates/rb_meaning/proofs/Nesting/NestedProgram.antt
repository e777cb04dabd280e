-- What the rules of nesting say of a whole program, said of each of its processes: its own statements keep them, and so do
-- its procedures. So what is known of a process holds at the opening.
use Rattle.std.proofs.Common.{◌≡◌, ℕ, ◌+◌, zero, suc, Bool, true, false, cond, ◌&&◌, List, [], ◌∷◌, ◌++◌, map, slice_get, Option, Some, None, refl, sym, ap, ◌∙◌, subst, arith}
use Rattle.std.proofs.lemmas.List.{length-replicate}
use Rattle.std.specs.List.{list_all}
use Rattle.rb_syntax.specs.Tree.{ProcedureDeclaration, ProcessDeclaration, Tree}
use Rattle.rb_world.specs.World.{settled}
use Rattle.rb_world.proofs.ListFacts.{first_holds, none_some, second_holds, some_same}
use Rattle.rb_meaning.specs.Environment.{same_name}
use Rattle.rb_meaning.specs.State.{State}
use Rattle.rb_meaning.specs.Groups.{facts_of, procedure_among, procedures_of}
use Rattle.rb_meaning.specs.Meaning.{opening_state, opening_states, tree_kind}
use Rattle.rb_meaning.specs.Nesting.{IsNested, keeps_n1, keeps_n2, keeps_n4, keeps_n5, keeps_n9, outside, uses_in, uses_in_body, uses_in_procedures, uses_in_processes, uses_of}
use Rattle.rb_meaning.proofs.Nesting.RulesLeft.{AreKept, blocks_performed, clear_performed, kept_first, kept_second}
use Rattle.rb_meaning.proofs.Nesting.StepsKeepRules.{HasClearProcedures}
use Rattle.rb_meaning.proofs.Knowing.KnownOfProcess.{Known}
use Rattle.rb_meaning.proofs.Knowing.KnownFacts.{known_settled}

-- two tests at once
pub both_hold : (a b : Bool) → a ≡ true → b ≡ true → (a && b) ≡ true
both_hold true b e e' = e'
both_hold false b e e' = e

both_of_all : {A : Type 0} (f g : A → Bool) (xs : List A) → list_all f xs ≡ true → list_all g xs ≡ true → list_all (λ x. f x && g x) xs ≡ true
both_of_all f g [] e e' = refl
both_of_all f g (x ∷ xs) e e' =
    both_hold (f x && g x) (list_all (λ y. f y && g y) xs)
    (both_hold (f x) (g x) (first_holds (f x) (list_all f xs) e) (first_holds (g x) (list_all g xs) e'))
    (both_of_all f g xs (second_holds (f x) (list_all f xs) e) (second_holds (g x) (list_all g xs) e'))

-- all uses of a nested program keep the rules
pub uses_kept : (tree : Tree) → IsNested tree → AreKept tree (uses_of tree)
uses_kept tree nested =
    both_of_all (keeps_n1 tree) (λ one. keeps_n2 tree one && (keeps_n4 tree one && (keeps_n5 tree one && keeps_n9 tree one))) (uses_of tree) nested.n1
    (both_of_all (keeps_n2 tree) (λ one. keeps_n4 tree one && (keeps_n5 tree one && keeps_n9 tree one)) (uses_of tree) nested.n2
    (both_of_all (keeps_n4 tree) (λ one. keeps_n5 tree one && keeps_n9 tree one) (uses_of tree) nested.n4
    (both_of_all (keeps_n5 tree) (keeps_n9 tree) (uses_of tree) nested.n5 nested.n9)))

-- of one process, number n: its procedures and its own statements
pub record IsProcessKept (tree : Tree) (n : ℕ) (process : ProcessDeclaration) : Type 0 where
  pub procedures : AreKept tree (uses_in_procedures n process.procedures)
  pub commands : AreKept tree (uses_in (outside n false) process.commands)

first_kept : (tree : Tree) (p n : ℕ) (process : ProcessDeclaration) (processes : List ProcessDeclaration) → n ≡ p
    → AreKept tree (uses_in_processes p (process ∷ processes)) → IsProcessKept tree n process
first_kept tree p n process processes e kept =
    subst (λ (m : ℕ). IsProcessKept tree m process) (sym e) (record {
      procedures =
          kept_first tree (uses_in_procedures p process.procedures)
          (uses_in (outside p false) process.commands ++ uses_in_processes (p + 1) processes) kept;
      commands = kept_first tree (uses_in (outside p false) process.commands) (uses_in_processes (p + 1) processes)
          (kept_second tree (uses_in_procedures p process.procedures)
          (uses_in (outside p false) process.commands ++ uses_in_processes (p + 1) processes) kept);
    })

processes_kept : (tree : Tree) (p r n : ℕ) (processes : List ProcessDeclaration) (process : ProcessDeclaration) → n ≡ p + r
    → AreKept tree (uses_in_processes p processes) → slice_get processes r ≡ Some process → IsProcessKept tree n process
processes_kept tree p r n [] process e kept at = absurd (none_some at)
processes_kept tree p zero n (one ∷ processes) process e kept at =
    subst (λ (x : ProcessDeclaration). IsProcessKept tree n x) (some_same at) (first_kept tree p n one processes (omega (arith, e)) kept)
processes_kept tree p (suc r) n (one ∷ processes) process e kept at =
    processes_kept tree (p + 1) r n processes process (omega (arith, e))
    (kept_second tree (uses_in (outside p false) one.commands) (uses_in_processes (p + 1) processes)
    (kept_second tree (uses_in_procedures p one.procedures) (uses_in (outside p false) one.commands ++ uses_in_processes (p + 1) processes) kept)) at

-- each process of a nested program
pub process_kept : (tree : Tree) → IsNested tree → (n : ℕ) (process : ProcessDeclaration)
    → slice_get tree.processes n ≡ Some process → IsProcessKept tree n process
process_kept tree nested n process at = processes_kept tree 0 n n tree.processes process (omega arith) (uses_kept tree nested) at

-- a procedure that is found by its name
either_kept : (tree : Tree) (n : ℕ) (test : Bool) (first procedure : ProcedureDeclaration) (other : Option ProcedureDeclaration)
    → AreKept tree (uses_in_body (outside n true) first.body) → (other ≡ Some procedure → AreKept tree (uses_in_body (outside n true) procedure.body))
    → cond test (Some first) other ≡ Some procedure → AreKept tree (uses_in_body (outside n true) procedure.body)
either_kept tree n true first procedure other kept others e =
    subst (λ (x : ProcedureDeclaration). AreKept tree (uses_in_body (outside n true) x.body)) (some_same e) kept
either_kept tree n false first procedure other kept others e = others e

among_kept : (tree : Tree) (n : ℕ) (x : List ℕ) (procedures : List ProcedureDeclaration) (procedure : ProcedureDeclaration)
    → AreKept tree (uses_in_procedures n procedures) → procedure_among x procedures ≡ Some procedure
    → AreKept tree (uses_in_body (outside n true) procedure.body)
among_kept tree n x [] procedure kept e = absurd (none_some e)
among_kept tree n x (first ∷ procedures) procedure kept e =
    either_kept tree n (same_name first.name.text x) first procedure (procedure_among x procedures)
    (kept_first tree (uses_in_body (outside n true) first.body) (uses_in_procedures n procedures) kept)
    (among_kept tree n x procedures procedure (kept_second tree (uses_in_body (outside n true) first.body) (uses_in_procedures n procedures) kept)) e

found_kept : (tree : Tree) → IsNested tree → (n : ℕ) (x : List ℕ) (procedure : ProcedureDeclaration) (o : Option ProcessDeclaration)
    → slice_get tree.processes n ≡ o → procedure_among x (procedures_of o) ≡ Some procedure
    → AreKept tree (uses_in_body (outside n true) procedure.body)
found_kept tree nested n x procedure None at e = absurd (none_some e)
found_kept tree nested n x procedure (Some process) at e =
    among_kept tree n x process.procedures procedure (process_kept tree nested n process at).procedures e

-- the procedures of each process of a nested program
pub procedures_kept : (tree : Tree) → IsNested tree → (p : ℕ) → HasClearProcedures tree p
procedures_kept tree nested p x procedure e = found_kept tree nested p x procedure (slice_get tree.processes p) refl e

-- at the opening
opened_known : (tree : Tree) (n : ℕ) (process : ProcessDeclaration) → IsProcessKept tree n process
    → Known tree n (settled (tree_kind tree) (opening_state tree n process) [])
opened_known tree n process kept =
    known_settled tree n (opening_state tree n process) []
    (record {
      process = refl;
      clear = clear_performed tree n process.commands [] kept.commands tt;
      sent = length-replicate _ _;
      taken = length-replicate _ _;
    })
    tt (ap (map (facts_of tree)) (blocks_performed process.commands []))

openings_known : (tree : Tree) (p r n : ℕ) (processes : List ProcessDeclaration) (s : State) → n ≡ p + r
    → ((process : ProcessDeclaration) → slice_get processes r ≡ Some process → IsProcessKept tree n process)
    → slice_get (opening_states tree p processes) r ≡ Some s → Known tree n (settled (tree_kind tree) s [])
openings_known tree p r n [] s e each at = absurd (none_some at)
openings_known tree p zero n (process ∷ processes) s e each at =
    let own : p ≡ n = omega (arith, e) in
    subst (λ (x : State). Known tree n (settled (tree_kind tree) x [])) (ap (λ m. opening_state tree m process) (sym own) ∙ some_same at)
    (opened_known tree n process (each process refl))
openings_known tree p (suc r) n (process ∷ processes) s e each at =
    openings_known tree (p + 1) r n processes s (omega (arith, e)) each at

-- what is known of a process holds in the opening state
pub known_opening : (tree : Tree) → IsNested tree → (r : ℕ) (s : State) → slice_get (opening_states tree 0 tree.processes) r ≡ Some s
    → Known tree r (settled (tree_kind tree) s [])
known_opening tree nested r s at =
    openings_known tree 0 r r tree.processes s (omega arith) (process_kept tree nested r) at
