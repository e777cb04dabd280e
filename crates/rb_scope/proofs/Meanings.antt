-- What scopes say of a name against what the meaning finds under it: with one scope more around a place, and one frame more, they
-- still agree.
use Rattle.std.proofs.Common.{◌≡◌, ℕ, zero, suc, ◌+◌, ◌<◌, Bool, true, false, cond, List, [], ◌∷◌, length, option_map, Option, Some, None, refl, sym, ap, subst, ◌∙◌, add-zero, arith}
use Rattle.std.specs.List.{slice_get}
use Rattle.rb_syntax.specs.Tree.{Identifier, ProcedureDeclaration, ProcessDeclaration, Tree}
use Rattle.rb_meaning.specs.Environment.{or_else, same_name}
use Rattle.rb_meaning.specs.Groups.{channel_number, conversation_number, process_number, procedure_among, procedure_named, procedures_of}
use Rattle.rb_scope.specs.Frames.{Lying, OfCall, OfProcess, moved}
use Rattle.rb_scope.specs.InFrames.{most_quantifications}
use Rattle.rb_scope.specs.Scopes.{Declared, declared, declared_in, procedures_from}
use Rattle.rb_scope.specs.declared.slot.Slot.{Slot}
use Rattle.rb_scope.specs.declared.slot.Slot.TheVariants.{ProgramName, Process, Channel, Conversation, Procedure, Global, Local, Counter}
use Rattle.rb_scope.proofs.Rows.{HasWords, LiesThere}

-- a procedure of process number p, of this number and with so many parameters, is the one that a call by this name finds
pub record IsProcedureNamed (tree : Tree) (p : ℕ) (x : List ℕ) (number parameters : ℕ) : Type 0 where
  pub procedure : ProcedureDeclaration
  pub found : procedure_named tree p x ≡ Some procedure
  pub there : slice_get (procedures_of (slice_get tree.processes p)) number ≡ Some procedure
  pub as_many : length procedure.parameters ≡ parameters

-- The meaning finds under a name what its slot says, in process number p. The name lies there, if it is a variable, and has this
-- counter, if it is that of a quantified expression.
abbrev pub IsMeant : Tree → ℕ → List ℕ → Option Lying → Option ℕ → Slot → ℕ → Type 0
IsMeant tree p x lies counts ProgramName n = Unit {0}
IsMeant tree p x lies counts (Process k) n = (process_number tree x ≡ k) × (k < length tree.processes)
IsMeant tree p x lies counts (Channel k) n = (channel_number tree x ≡ k) × (k < length tree.channels)
IsMeant tree p x lies counts (Conversation k) n = (conversation_number tree x ≡ k) × (k < length tree.conversations)
IsMeant tree p x lies counts (Procedure k) n = IsProcedureNamed tree p x k n
IsMeant tree p x lies counts (Global at size) n =
    (words : ℕ) × (lies ≡ Some (OfProcess at words)) × (counts ≡ None) × HasWords size words
IsMeant tree p x lies counts (Local at size) n =
    (words : ℕ) × (lies ≡ Some (OfCall at words)) × (counts ≡ None) × HasWords size words
IsMeant tree p x lies counts (Counter k) n = (counts ≡ Some k) × (k < most_quantifications)

-- the same of a declaration, if there is one
abbrev pub MeansIt : Tree → ℕ → List ℕ → Option Lying → Option ℕ → Option Declared → Type 0
MeansIt tree p x lies counts None = Unit {0}
MeansIt tree p x lies counts (Some one) = IsMeant tree p x lies counts one.slot one.parameters

-- the words that lie there among those of the call, and of the process
abbrev pub of_call : ℕ × ℕ → Lying
of_call words = OfCall words.0 words.1

abbrev pub of_process : ℕ × ℕ → Lying
of_process words = OfProcess words.0 words.1

-- a procedure that is declared in a row from this number on is the first of its name, and has the number of its place
abbrev pub IsInRow : List ℕ → ℕ → List ProcedureDeclaration → Option Declared → Type 0
IsInRow x k procedures None = Unit {0}
IsInRow x k procedures (Some one) =
    (procedure : ProcedureDeclaration) × (i : ℕ) × (one.slot ≡ Procedure (k + i)) × (procedure_among x procedures ≡ Some procedure)
    × (slice_get procedures i ≡ Some procedure) × (length procedure.parameters ≡ one.parameters)

later-in_row : (x : List ℕ) (k : ℕ) (first : ProcedureDeclaration) (procedures : List ProcedureDeclaration) (one : Option Declared)
    → same_name first.name.text x ≡ false → IsInRow x (k + 1) procedures one → IsInRow x k (first ∷ procedures) one
later-in_row x k first procedures None other there = tt
later-in_row x k first procedures (Some one) other there =
    let number : k + 1 + there.1 ≡ k + suc there.1 = omega arith in
    let found = ap (λ b. cond b (Some first) (procedure_among x procedures)) other ∙ there.3 in
    (there.0, suc there.1, there.2 ∙ ap Procedure number, found, there.4, there.5)

pub procedures_lie : (x : List ℕ) (k : ℕ) (procedures : List ProcedureDeclaration)
    → IsInRow x k procedures (declared_in x (procedures_from k procedures))
procedures_lie x k [] = tt
procedures_lie x k (first ∷ procedures) = in_row (same_name first.name.text x) refl (procedures_lie x (k + 1) procedures)
  where
    one : Declared
    one = record { name = first.name; slot = Procedure k; parameters = length first.parameters }

    in_row : (named : Bool) → same_name first.name.text x ≡ named
        → IsInRow x (k + 1) procedures (declared_in x (procedures_from (k + 1) procedures))
        → IsInRow x k (first ∷ procedures) (cond named (Some one) (declared_in x (procedures_from (k + 1) procedures)))
    in_row true e there =
        (first, zero, ap Procedure (sym (add-zero k)), ap (λ b. cond b (Some first) (procedure_among x procedures)) e, refl, refl)
    in_row false e there = later-in_row x k first procedures (declared_in x (procedures_from (k + 1) procedures)) e there

module _ (tree : Tree) (p : ℕ) (x : List ℕ) where
  -- one frame of the call more, above so many words of the frames around it
  pub frame_more : (taken below : ℕ) (inner : Option Declared) (lies : Option (ℕ × ℕ)) (outer : Option Declared)
      (around : Option (ℕ × ℕ)) (rest : Option Lying) → taken ≡ below → LiesThere Local taken inner lies
      → MeansIt tree p x (or_else (option_map of_call around) rest) None outer
      → MeansIt tree p x (or_else (option_map of_call (or_else (option_map (moved below) lies) around)) rest) None (or_else inner outer)
  frame_more taken below None None outer around rest e there means = means
  frame_more taken below (Some one) (Some words) outer around rest e there means =
      let lies : Option Lying = Some (OfCall (below + words.0) words.1) in
      let same : lies ≡ Some (OfCall (taken + words.0) words.1) = ap (λ n. Some (OfCall (n + words.0) words.1)) (sym e) in
      subst (λ slot. IsMeant tree p x lies None slot one.parameters) (sym there.1) (words.1, same, refl, there.2)
  frame_more taken below None (Some words) outer around rest e there means = absurd there
  frame_more taken below (Some one) None outer around rest e there means = absurd there

  -- a procedure of the process
  procedure_means : (process : ProcessDeclaration) (one : Declared) → slice_get tree.processes p ≡ Some process
      → IsInRow x 0 process.procedures (Some one) → IsMeant tree p x None None one.slot one.parameters
  procedure_means process one e there =
      let same : procedures_of (slice_get tree.processes p) ≡ process.procedures = ap procedures_of e in
      subst (λ slot. IsMeant tree p x None None slot one.parameters) (sym there.2) record {
        procedure = there.0;
        found = ap (procedure_among x) same ∙ there.3;
        there = ap (λ ps. slice_get ps (0 + there.1)) same ∙ ap (slice_get process.procedures) (omega arith) ∙ there.4;
        as_many = there.5;
      }

  -- the variables and procedures of a process, around which the program stands
  pub process_means : (process : ProcessDeclaration) (variable : Option Declared) (lies : Option (ℕ × ℕ))
      (procedure outer : Option Declared) → slice_get tree.processes p ≡ Some process → LiesThere Global 0 variable lies
      → IsInRow x 0 process.procedures procedure
      → MeansIt tree p x None None outer → MeansIt tree p x (option_map of_process lies) None (or_else (or_else variable procedure) outer)
  process_means process None None None outer e there row means = means
  process_means process None None (Some one) outer e there row means = procedure_means process one e row
  process_means process (Some one) (Some words) procedure outer e there row means =
      let same : Some (of_process words) ≡ Some (OfProcess (0 + words.0) words.1) = ap (λ n. Some (OfProcess n words.1)) (omega arith) in
      subst (λ slot. IsMeant tree p x (Some (of_process words)) None slot one.parameters) (sym there.1) (words.1, same, refl, there.2)
  process_means process None (Some words) procedure outer e there row means = absurd there
  process_means process (Some one) None procedure outer e there row means = absurd there

  -- a quantified name more
  pub counter_more : (name : Identifier) (k : ℕ) (named : Bool) (lies : Option Lying) (counts : Option ℕ) (outer : Option Declared)
      → k < most_quantifications → MeansIt tree p x lies counts outer
      → MeansIt tree p x lies (cond named (Some k) counts) (or_else (cond named (Some (declared name (Counter k))) None) outer)
  counter_more name k true lies counts outer few means = (refl, few)
  counter_more name k false lies counts outer few means = means
