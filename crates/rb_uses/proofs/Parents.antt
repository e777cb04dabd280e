-- The first `converse` for a conversation in the tree is the first among all uses.
use Rattle.std.proofs.Common.{◌≡◌, ℕ, ◌+◌, nat_eq, Bool, true, false, cond, ◌&&◌, List, [], ◌∷◌, ◌++◌, Option, Some, None, unwrap_or, map, refl, sym, ap, ◌∙◌}
use Rattle.std.specs.List.{list_any}
use Rattle.rb_syntax.specs.Tree.{Identifier, Command, Assignment, Printing, Sending, Receiving, Conditional, Loop, Invocation, Failure, Recovering}
use Rattle.rb_syntax.specs.Tree.{Commands, NoCommand, Then, Body, Scope, Otherwise, NoElse, Else, RecoveryBlock, Recovers, Alternates, NoAlternate, Alternate}
use Rattle.rb_syntax.specs.Tree.{ProcedureDeclaration, ProcessDeclaration, Tree}
use Rattle.rb_world.specs.Plain.{when}
use Rattle.rb_meaning.specs.Environment.{or_else, same_name}
use Rattle.rb_meaning.specs.Groups.{Around, conversation_number, conversation_of, first_in, first_in_alternates, first_in_block, first_in_body, first_in_command, first_in_otherwise, first_in_procedures, first_in_processes, parent_named}
use Rattle.rb_meaning.specs.Nesting.{Deed, Joins, Sends, Receives, Spot, Use, alternates_of, first_joined, innermost, inside, joined_with, outside, uses_in, uses_in_alternates, uses_in_block, uses_in_body, uses_in_command, uses_in_otherwise, uses_in_procedures, uses_in_processes, uses_of}
use Rattle.rb_nest.specs.Rules.{joins_in}
use Rattle.rb_nest.specs.Answers.{first_answer}
use Rattle.rb_uses.specs.Summary.{Summary, alternates_for, is_join, joins_among, joins_at, summaries, summary, within_for}
use Rattle.rb_uses.proofs.FirstAnswers.{answer-append, answer-joins, answer-map, any-joins, any-map, or_assoc}

-- what lies around a use that joins the conversation of this name
abbrev pub around_for : List ℕ → Use → Option Around
around_for x one = when (is_join one.deed && same_name one.name.text x) (Some (innermost one.spot.around))

-- a list of uses, and then another
both : (x : List ℕ) (a b : Option Around) (us vs : List Use)
    → a ≡ first_answer (around_for x) us → b ≡ first_answer (around_for x) vs → or_else a b ≡ first_answer (around_for x) (us ++ vs)
both x a b us vs e f =
    ap (λ c. or_else c b) e ∙ ap (or_else (first_answer (around_for x) us)) f ∙ sym (answer-append (around_for x) us vs)

chosen : (b : Bool) (around : Around) (a rest : Option Around) → a ≡ rest → cond b (Some around) a ≡ or_else (when b (Some around)) rest
chosen true around a rest e = refl
chosen false around a rest e = e

mutual
  in_command : (x : List ℕ) (spot : Spot) (c : Command)
      → first_in_command x (innermost spot.around) c ≡ first_answer (around_for x) (uses_in_command spot c)
  in_command x spot (Assignment to e) = refl
  in_command x spot (Printing items) = refl
  in_command x spot (Sending channel e) = refl
  in_command x spot (Receiving channel to otherwise) = in_otherwise x spot otherwise
  in_command x spot (Conditional test body otherwise) =
      both x _ _ (uses_in_body spot body) (uses_in_otherwise spot otherwise) (in_body x spot body) (in_otherwise x spot otherwise)
  in_command x spot (Loop test body) = in_body x spot body
  in_command x spot (Invocation procedure arguments) = refl
  in_command x spot Failure = refl
  in_command x spot (Recovering block) = in_block x spot block

  in_commands : (x : List ℕ) (spot : Spot) (cs : Commands)
      → first_in x (innermost spot.around) cs ≡ first_answer (around_for x) (uses_in spot cs)
  in_commands x spot NoCommand = refl
  in_commands x spot (Then first rest) =
      both x _ _ (uses_in_command spot first) (uses_in spot rest) (in_command x spot first) (in_commands x spot rest)

  in_body : (x : List ℕ) (spot : Spot) (b : Body)
      → first_in_body x (innermost spot.around) b ≡ first_answer (around_for x) (uses_in_body spot b)
  in_body x spot (Scope variables commands) = in_commands x spot commands

  in_otherwise : (x : List ℕ) (spot : Spot) (o : Otherwise)
      → first_in_otherwise x (innermost spot.around) o ≡ first_answer (around_for x) (uses_in_otherwise spot o)
  in_otherwise x spot NoElse = refl
  in_otherwise x spot (Else body) = in_body x spot body

  in_block : (x : List ℕ) (spot : Spot) (r : RecoveryBlock)
      → first_in_block x (innermost spot.around) r ≡ first_answer (around_for x) (uses_in_block spot r)
  in_block x spot (Recovers number None place test bound alternates) = in_alternates x (inside None spot) alternates
  in_block x spot (Recovers number (Some name) place test bound alternates) =
      chosen (same_name name.text x) (innermost spot.around) _ _ (in_alternates x (inside (Some name) spot) alternates)

  in_alternates : (x : List ℕ) (spot : Spot) (a : Alternates)
      → first_in_alternates x (innermost spot.around) a ≡ first_answer (around_for x) (uses_in_alternates spot a)
  in_alternates x spot NoAlternate = refl
  in_alternates x spot (Alternate body others) =
      both x _ _ (uses_in_body spot body) (uses_in_alternates spot others) (in_body x spot body) (in_alternates x spot others)

in_procedures : (x : List ℕ) (p : ℕ) (procedures : List ProcedureDeclaration)
    → first_in_procedures x procedures ≡ first_answer (around_for x) (uses_in_procedures p procedures)
in_procedures x p [] = refl
in_procedures x p (procedure ∷ procedures) =
    both x _ _ (uses_in_body (outside p true) procedure.body) (uses_in_procedures p procedures)
    (in_body x (outside p true) procedure.body) (in_procedures x p procedures)

in_processes : (x : List ℕ) (p : ℕ) (processes : List ProcessDeclaration)
    → first_in_processes x processes ≡ first_answer (around_for x) (uses_in_processes p processes)
in_processes x p [] = refl
in_processes x p (process ∷ processes) =
    or_assoc (first_in_procedures x process.procedures) (first_in x None process.commands) (first_in_processes x processes)
    ∙ both x _ _ (uses_in_procedures p process.procedures) (uses_in (outside p false) process.commands ++ uses_in_processes (p + 1) processes)
    (in_procedures x p process.procedures)
    (both x _ _ (uses_in (outside p false) process.commands) (uses_in_processes (p + 1) processes)
    (in_commands x (outside p false) process.commands) (in_processes x (p + 1) processes))

-- the conversation around the first `converse`, by its number
choice : (tree : Tree) (b : Bool) (around : Around) (found : Option (Option ℕ)) (first : Option Around)
    → unwrap_or found None ≡ parent_named tree first
    → unwrap_or (or_else (when b (Some (conversation_of tree around))) found) None ≡ parent_named tree (or_else (when b (Some around)) first)
choice tree true None found first h = refl
choice tree true (Some name) found first h = refl
choice tree false around found first h = h

use-before : (tree : Tree) (x : List ℕ) (name : Identifier) (d : Deed) (spot : Spot) (found : Option (Option ℕ)) (first : Option Around)
    → unwrap_or found None ≡ parent_named tree first
    → unwrap_or (or_else (within_for x (summary tree (record { name = name; deed = d; spot = spot }))) found) None
    ≡ parent_named tree (or_else (around_for x (record { name = name; deed = d; spot = spot })) first)
use-before tree x name (Joins n) spot found first h = choice tree (same_name name.text x) (innermost spot.around) found first h
use-before tree x name Sends spot found first h = h
use-before tree x name Receives spot found first h = h

of_uses : (tree : Tree) (x : List ℕ) (us : List Use)
    → unwrap_or (first_answer (within_for x) (map (summary tree) us)) None ≡ parent_named tree (first_answer (around_for x) us)
of_uses tree x [] = refl
of_uses tree x (one ∷ us) =
    use-before tree x one.name one.deed one.spot (first_answer (within_for x) (map (summary tree) us))
    (first_answer (around_for x) us) (of_uses tree x us)

none-within : (x : List ℕ) (one : Summary) → is_join one.deed ≡ false → within_for x one ≡ None
none-within x one e = ap (λ b. when (b && same_name one.name.text x) (Some one.within)) e

pub parent_found : (tree : Tree) (x : List ℕ)
    → unwrap_or (first_answer (within_for x) (joins_among (summaries tree))) None ≡ parent_named tree (first_in_processes x tree.processes)
parent_found tree x =
    ap (λ a. unwrap_or a None) (answer-joins (within_for x) (none-within x) (summaries tree))
    ∙ of_uses tree x (uses_of tree)
    ∙ ap (parent_named tree) (sym (in_processes x 0 tree.processes))

-- the number of alternates of the first `converse`
abbrev pub alternates_there : Tree → ℕ → Use → Option ℕ
alternates_there tree c one = joined_with one.deed (nat_eq (conversation_number tree one.name.text) c)

alternates-told : (tree : Tree) (c : ℕ) (name : Identifier) (d : Deed) (spot : Spot)
    → alternates_for c (summary tree (record { name = name; deed = d; spot = spot }))
    ≡ alternates_there tree c (record { name = name; deed = d; spot = spot })
alternates-told tree c name (Joins n) spot = refl
alternates-told tree c name Sends spot = refl
alternates-told tree c name Receives spot = refl

first-joined : (tree : Tree) (c : ℕ) (us : List Use) → first_answer (alternates_there tree c) us ≡ first_joined tree c us
first-joined tree c [] = refl
first-joined tree c (one ∷ us) = ap (or_else (alternates_there tree c one)) (first-joined tree c us)

none-joined : (c : ℕ) (one : Summary) (d : Deed) → is_join d ≡ false → joined_with d (nat_eq one.number c) ≡ None
none-joined c one (Joins n) e = absurd (cc)
none-joined c one Sends e = refl
none-joined c one Receives e = refl

pub alternates_found : (tree : Tree) (c : ℕ) → first_answer (alternates_for c) (joins_among (summaries tree)) ≡ alternates_of tree c
alternates_found tree c =
    answer-joins (alternates_for c) (λ one e. none-joined c one one.deed e) (summaries tree)
    ∙ answer-map (alternates_for c) (alternates_there tree c) (summary tree) (λ one. alternates-told tree c one.name one.deed one.spot) (uses_of tree)
    ∙ first-joined tree c (uses_of tree)

-- whether a process joins a conversation
joins-told : (tree : Tree) (p : ℕ) (x : List ℕ) (name : Identifier) (d : Deed) (spot : Spot)
    → joins_at p x (summary tree (record { name = name; deed = d; spot = spot })) ≡ joins_in p x (record { name = name; deed = d; spot = spot })
joins-told tree p x name (Joins n) spot = refl
joins-told tree p x name Sends spot = refl
joins-told tree p x name Receives spot = refl

none-joins : (p : ℕ) (x : List ℕ) (one : Summary) → is_join one.deed ≡ false → joins_at p x one ≡ false
none-joins p x one e = ap (λ b. b && (nat_eq one.process p && same_name one.name.text x)) e

pub join_found : (tree : Tree) (p : ℕ) (x : List ℕ) → list_any (joins_at p x) (joins_among (summaries tree)) ≡ list_any (joins_in p x) (uses_of tree)
join_found tree p x =
    any-joins (joins_at p x) (none-joins p x) (summaries tree)
    ∙ any-map (joins_at p x) (joins_in p x) (summary tree) (λ one. joins-told tree p x one.name one.deed one.spot) (uses_of tree)
