-- What is looked up in a vector of the tree, as the definitions over the plain tree look it up.
use Rattle.std.proofs.Common.{◌≡◌, ◌-◌, ◌<◌, ◌≤◌, ℕ, zero, suc, Bool, true, false, cond, List, [], ◌∷◌, length, map, get_or, Option, Some, None, option_map, Bor, refl, sym, ap, ◌∙◌, arith}
use Rattle.std.specs.Option.{MatchOption}
use Rattle.std.specs.List.{HoldsAt, slice_get, find}
use Rattle.std.proofs.lemmas.Option.{slice_get-get_or, slice_get-map, slice_get_past, slice_get_read}
use Rattle.rb_syntax.specs.declared.statement.Block.{Block}
use Rattle.rb_syntax.specs.declared.statement.Recovery.{Recovery, out-Recovery}
use Rattle.rb_syntax.specs.declared.program.Procedure.{Procedure}
use Rattle.rb_syntax.specs.declared.program.Process.{Process}
use Rattle.rb_syntax.specs.declared.program.Program.{Program}
use Rattle.rb_syntax.specs.Tree.{Alternates, NoAlternate, Alternate}
use Rattle.rb_syntax.specs.Plain.{alternates_of, body, expression, procedure_declaration, process_declaration, recovery_block, tree}
use Rattle.rb_syntax.proofs.Bridge.{recovery_out}
use Rattle.rb_meaning.specs.Environment.{same_name}
use Rattle.rb_meaning.specs.Groups.{procedure_among, procedure_named, procedures_of}
use Rattle.rb_meaning.specs.Step.{alternate_number, alternates_in, test_in}

-- the element that a look-up in a slice lends
pub looked_up : {A : Type 0} (xs : List A) (k : ℕ) (r : Option (Bor A))
    → MatchOption r (length xs ≤ k) (λ x. (k < length xs) × HoldsAt (λ y. x.now ≡ y) xs k)
    → option_map (λ x. x.now) r ≡ slice_get xs k
looked_up xs k None e = sym (slice_get_past xs k e)
looked_up xs k (Some x) e = sym (slice_get_read xs (length xs) k x.now refl e.0 (e.1 x.now))

-- one view after another
viewed : {A B C : Type 0} (f : A → B) (g : B → C) (r : Option A) → option_map g (option_map f r) ≡ option_map (λ x. g (f x)) r
viewed f g None = refl
viewed f g (Some x) = refl

-- no alternate has the number 0
none_first : (alternates : Alternates) → alternate_number 0 alternates ≡ None
none_first NoAlternate = refl
none_first (Alternate first others) = refl

-- the alternate of a number is the block at the place before it
at_place : (k : ℕ) (blocks : List Block) → option_map body (slice_get blocks k) ≡ alternate_number (suc k) (alternates_of blocks)
at_place k [] = refl
at_place zero (block ∷ blocks) = refl
at_place (suc k) (block ∷ blocks) = at_place k blocks

-- where the number is below 1, there is no alternate
pub alternate_before : (b : Recovery) (n : ℕ) → (1 ≤ n → ⊥) → alternate_number n (alternates_in (recovery_block b)) ≡ None
alternate_before b zero below = none_first (alternates_in (recovery_block b))
alternate_before b (suc n) below = absurd (below (omega arith))

-- the block that is lent is the alternate of the number
pub alternate_found : (b : Recovery) (n k : ℕ) (xs : List Block) (r : Option (Bor Block)) → 1 ≤ n
    → k ≡ n - 1 → xs ≡ (out-Recovery b).alternates.items → MatchOption r (length xs ≤ k) (λ x. (k < length xs) × HoldsAt (λ y. x.now ≡ y) xs k)
    → option_map (λ block. body block.now) r ≡ alternate_number n (alternates_in (recovery_block b))
alternate_found b n k xs r some place blocks there =
    let number : n ≡ suc k = omega (arith, some, place) in
    sym (viewed (λ x. x.now) body r) ∙ ap (option_map body) (looked_up xs k r there) ∙ at_place k xs
    ∙ ap (λ m. alternate_number m (alternates_of xs)) (sym number)
    ∙ ap (λ ys. alternate_number n (alternates_of ys)) blocks
    ∙ ap (λ block. alternate_number n (alternates_in block)) (sym (recovery_out b))

-- a choice of what is found, and its view
chosen : {A B : Type 0} (f : A → B) (here : Bool) (a : A) (rest : Option A) (other : Option B)
    → option_map f rest ≡ other → option_map f (cond here (Some a) rest) ≡ cond here (Some (f a)) other
chosen f true a rest other e = refl
chosen f false a rest other e = e

-- the first procedure of a name, before and after the map to the plain tree
procedure_found : (x : List ℕ) (procedures : List Procedure)
    → option_map procedure_declaration (find (λ one. same_name one.name.text.now x) procedures)
    ≡ procedure_among x (map procedure_declaration procedures)
procedure_found x [] = refl
procedure_found x (procedure ∷ procedures) =
    chosen procedure_declaration (same_name procedure.name.text.now x) procedure
    (find (λ one. same_name one.name.text.now x) procedures) (procedure_among x (map procedure_declaration procedures)) (procedure_found x procedures)

-- the procedure that is lent, of a process that is there
pub procedure_there : (program : Program) (k : ℕ) (x : List ℕ) (process : Process) → k < length program.processes.items
    → process ≡ get_or program.processes.items k process
    → (procedures : List Procedure) (r : Option (Bor Procedure)) → procedures ≡ process.procedures.items
    → option_map (λ procedure. procedure.now) r ≡ find (λ one. same_name one.name.text.now x) procedures
    → option_map (λ procedure. procedure_declaration procedure.now) r ≡ procedure_named (tree program) k x
procedure_there program k x process within is procedures r own found =
    let there = slice_get-get_or program.processes.items k process within ∙ ap (λ one. Some one) (sym is) in
    sym (viewed (λ procedure. procedure.now) procedure_declaration r) ∙ ap (option_map procedure_declaration) found ∙ procedure_found x procedures
    ∙ ap (λ ps. procedure_among x (map procedure_declaration ps)) own
    ∙ ap (λ one. procedure_among x (procedures_of one))
    (sym (slice_get-map process_declaration program.processes.items k ∙ ap (option_map process_declaration) there))

-- and of one that is not there
pub procedure_missing : (program : Program) (k : ℕ) (x : List ℕ) → length program.processes.items ≤ k → None ≡ procedure_named (tree program) k x
procedure_missing program k x past =
    ap (λ one. procedure_among x (procedures_of one))
    (sym (slice_get-map process_declaration program.processes.items k
    ∙ ap (option_map process_declaration) (slice_get_past program.processes.items k past)))

-- the acceptance test of a recovery block
pub test_of : (block : Recovery) → expression (out-Recovery block).test ≡ test_in (recovery_block block)
test_of block = ap test_in (sym (recovery_out block))
