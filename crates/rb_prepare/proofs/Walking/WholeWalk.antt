-- The code of a whole tree, walked: its processes lie one after another, and each address is one of a process.
use Rattle.std.proofs.Common.{◌≡◌, ℕ, zero, suc, ◌+◌, ◌<◌, ◌≤◌, nat_lt, Bool, true, false, cond, List, [], ◌∷◌, ◌++◌, length, slice_get, unwrap_or, Option, Some, None, refl, ap, sym, ◌∙◌, subst, arith}
use Rattle.std.proofs.lemmas.Bool.{le-ltb, lt-ltb, ltb-false, ltb-true}
use Rattle.std.proofs.lemmas.List.Elements.{All-head, All-tail}
use Rattle.std.specs.List.{All}
use Rattle.rb_syntax.specs.Tree.{Identifier, ProcedureDeclaration, ProcessDeclaration, Tree}
use Rattle.rb_world.proofs.ListFacts.{none_some, some_same}
use Rattle.rb_meaning.specs.Groups.{conversation_of, procedures_of}
use Rattle.rb_meaning.specs.Nesting.{outside, uses_in, uses_in_procedures, uses_in_processes}
use Rattle.rb_scope.specs.InFrames.{Resolved}
use Rattle.rb_scope.specs.Limits.{ProcessWithin}
use Rattle.rb_scope.specs.Spelled.{ProcessSpelled}
use Rattle.rb_scope.specs.declared.slot.Slot.{Slot}
use Rattle.rb_code.specs.Instructions.Plain.{Block, Code, Part}
use Rattle.rb_code.specs.WordMachine.Workspace.{no_part, part_of}
use Rattle.rb_code.specs.SoundCode.Sound.{IsProcedureAt}
use Rattle.rb_code.specs.Agreement.Forms.{procedure_start}
use Rattle.rb_code.specs.Agreement.StandsFor.{ProcessesCode}
use Rattle.rb_code.specs.declared.instr.Instr.{Instr}
use Rattle.rb_code.specs.declared.instr.Instr.TheVariants.{Enter, Start, Test}
use Rattle.rb_code.proofs.Tables.ProcessTables.{owner_by}
use Rattle.rb_judge.specs.HasAlternates.{ProcessHasAlternates}
use Rattle.rb_prepare.proofs.Walking.Laid.{count_to, one_if}
use Rattle.rb_prepare.proofs.Walking.Walked.{IsPlain}
use Rattle.rb_prepare.proofs.Walking.StatementWalks.{AsMany, many_first, many_second}
use Rattle.rb_prepare.proofs.Walking.ProcessWalks.{ProcessRows, procedures_forward, process_rows, start_in}
use Rattle.rb_prepare.proofs.Joining.Weights.{Weight, weight_in_processes}

-- where each process ends
pub ends_of : (c : Code) (tree : Tree) (slots : List Slot) (p : ℕ) (processes : List ProcessDeclaration) (parts : List Part) (a b : ℕ)
    → ProcessesCode tree slots p processes parts c a b → List ℕ
ends_of c tree slots p [] parts a b code = []
ends_of c tree slots p (process ∷ others) parts a b (part, more, is, (m, code, rest)) = m ∷ ends_of c tree slots (p + 1) others more m b rest

-- the process of an address, by the ends of those from number p on
abbrev pub owner : ℕ → List ℕ → ℕ → ℕ
owner p [] x = p
owner p (m ∷ ends) x = cond (nat_lt x m) p (owner (p + 1) ends x)

-- where process number i of those that begin at a begins and ends
abbrev pub begin_at : ℕ → List ℕ → ℕ → ℕ
begin_at a ends zero = a
begin_at a [] (suc i) = a
begin_at a (m ∷ ends) (suc i) = begin_at m ends i

abbrev pub end_at : ℕ → List ℕ → ℕ → ℕ
end_at a [] i = a
end_at a (m ∷ ends) zero = m
end_at a (m ∷ ends) (suc i) = end_at m ends i

module _ (c : Code) (tree : Tree) (f : Instr → Bool) (w : Weight) where
  -- the processes from number p on, one after another
  abbrev pub Spread : ℕ → List ProcessDeclaration → List Part → List ℕ → ℕ → ℕ → Type 0
  Spread p [] parts ends a b = (parts ≡ []) × (b ≡ a)
  Spread p (process ∷ others) parts [] a b = ⊥
  Spread p (process ∷ others) parts (m ∷ ends) a b =
      (part : Part) × (more : List Part) × (parts ≡ part ∷ more) × ProcessRows c tree f w p process part a m
      × Spread (p + 1) others more ends m b

  pub spread_up : (p : ℕ) (processes : List ProcessDeclaration) (parts : List Part) (ends : List ℕ) (a b : ℕ)
      → Spread p processes parts ends a b → a ≤ b
  spread_up p [] parts ends a b s = let e = s.1 in omega arith
  spread_up p (process ∷ others) parts [] a b s = absurd s
  spread_up p (process ∷ others) parts (m ∷ ends) a b (part, more, is, rows, rest) =
      let first = rows.rows.ordered in let later = spread_up (p + 1) others more ends m b rest in omega arith

  pub spread_counted : (p : ℕ) (processes : List ProcessDeclaration) (parts : List Part) (ends : List ℕ) (a b : ℕ) → Spread p processes parts ends a b
      → count_to f b c.instrs ≡ count_to f a c.instrs + weight_in_processes w processes
  spread_counted p [] parts ends a b s = ap (λ k. count_to f k c.instrs) s.1 ∙ omega arith
  spread_counted p (process ∷ others) parts [] a b s = absurd s
  spread_counted p (process ∷ others) parts (m ∷ ends) a b (part, more, is, rows, rest) =
      omega (arith, rows.rows.counted, spread_counted (p + 1) others more ends m b rest)

  pub spread_long : (p : ℕ) (processes : List ProcessDeclaration) (parts : List Part) (ends : List ℕ) (a b : ℕ) → Spread p processes parts ends a b
      → length parts ≡ length processes
  spread_long p [] parts ends a b s = ap length s.0
  spread_long p (process ∷ others) parts [] a b s = absurd s
  spread_long p (process ∷ others) parts (m ∷ ends) a b (part, more, is, rows, rest) =
      let e = ap length is in let h = spread_long (p + 1) others more ends m b rest in omega arith

  -- process number n, which is number i of those that begin at a
  pub record Place (parts : List Part) (ends : List ℕ) (p i n : ℕ) (process : ProcessDeclaration) (a b : ℕ) : Type 0 where
    pub part : Part
    pub listed : slice_get parts i ≡ Some part
    pub low : a ≤ begin_at a ends i
    pub high : end_at a ends i ≤ b
    pub rows : ProcessRows c tree f w n process part (begin_at a ends i) (end_at a ends i)
    pub owned : (x : ℕ) → begin_at a ends i ≤ x → x < end_at a ends i → owner p ends x ≡ n

  owned_later : (p m n x : ℕ) (ends : List ℕ) → m ≤ x → owner (p + 1) ends x ≡ n → owner p (m ∷ ends) x ≡ n
  owned_later p m n x ends far e = ap (λ b. cond b p (owner (p + 1) ends x)) (le-ltb x m far) ∙ e

  pub place_of : (p : ℕ) (processes : List ProcessDeclaration) (parts : List Part) (ends : List ℕ) (a b : ℕ) → Spread p processes parts ends a b
      → (i n : ℕ) (process : ProcessDeclaration) → n ≡ p + i → slice_get processes i ≡ Some process → Place parts ends p i n process a b
  place_of p [] parts ends a b s i n process e at = absurd (none_some at)
  place_of p (one ∷ others) parts [] a b s i n process e at = absurd s
  place_of p (one ∷ others) parts (m ∷ ends) a b (part, more, is, rows, rest) zero n process e at =
      let same : p ≡ n = omega arith in
      subst (λ x. Place parts (m ∷ ends) p zero n x a b) (some_same at)
      (subst (λ k. Place parts (m ∷ ends) p zero k one a b) same record {
        part = part;
        listed = ap (λ ps. slice_get ps zero) is;
        low = omega arith;
        high = spread_up (p + 1) others more ends m b rest;
        rows = rows;
        owned = λ x low high. ap (λ t. cond t p (owner (p + 1) ends x)) (lt-ltb x m high);
      })
  place_of p (one ∷ others) parts (m ∷ ends) a b (part, more, is, rows, rest) (suc i) n process e at =
      let place = place_of (p + 1) others more ends m b rest i n process (omega arith) at in
      let up = rows.rows.ordered in record {
        part = place.part;
        listed = ap (λ ps. slice_get ps (suc i)) is ∙ place.listed;
        low = omega (arith, place.low);
        high = place.high;
        rows = place.rows;
        owned = λ x low high. owned_later p m n x ends (omega (arith, place.low)) (place.owned x low high);
      }

  -- a process that an address is of
  pub record Found (processes : List ProcessDeclaration) (ends : List ℕ) (p a x : ℕ) : Type 0 where
    pub index : ℕ
    pub process : ProcessDeclaration
    pub there : slice_get processes index ≡ Some process
    pub low : begin_at a ends index ≤ x
    pub high : x < end_at a ends index
    pub owned : owner p ends x ≡ p + index

  pub found_at : (p : ℕ) (processes : List ProcessDeclaration) (parts : List Part) (ends : List ℕ) (a b : ℕ) → Spread p processes parts ends a b
      → (x : ℕ) → a ≤ x → x < b → Found processes ends p a x
  found_at p [] parts ends a b s x low high = let e = s.1 in absurd (omega arith)
  found_at p (one ∷ others) parts [] a b s x low high = absurd s
  found_at p (one ∷ others) parts (m ∷ ends) a b (part, more, is, rows, rest) x low high =
      by (λ far. found_at (p + 1) others more ends m b rest x far high) (nat_lt x m) refl
    where
      later : m ≤ x → Found others ends (p + 1) m x → Found (one ∷ others) (m ∷ ends) p a x
      later far found = record {
        index = suc found.index;
        process = found.process;
        there = found.there;
        low = found.low;
        high = found.high;
        owned = owned_later p m (p + suc found.index) x ends far (let e = found.owned in omega arith);
      }

      by : (m ≤ x → Found others ends (p + 1) m x) → (t : Bool) → nat_lt x m ≡ t → Found (one ∷ others) (m ∷ ends) p a x
      by next true e = record {
        index = zero;
        process = one;
        there = refl;
        low = low;
        high = ltb-true x m e;
        owned = ap (λ t. cond t p (owner (p + 1) ends x)) e ∙ omega arith;
      }
      by next false e = later (ltb-false x m e) (next (ltb-false x m e))

-- the procedures of a process begin where its list says
entrances_of : (c : Code) (tree : Tree) (slots : List Slot) (p : ℕ) (processes : List ProcessDeclaration) (parts : List Part) (a b : ℕ)
    → ProcessesCode tree slots p processes parts c a b → (i number : ℕ) (process : ProcessDeclaration) (procedure : ProcedureDeclaration)
    → slice_get processes i ≡ Some process → slice_get process.procedures number ≡ Some procedure
    → IsProcedureAt (unwrap_or (slice_get parts i) no_part).procedures (start_in (unwrap_or (slice_get parts i) no_part).procedures number)
entrances_of c tree slots p [] parts a b code i number process procedure at there = absurd (none_some at)
entrances_of c tree slots p (one ∷ others) parts a b
    (part, more, is, (m, (tells, (r, body, (q, done, code))), rest)) zero number process procedure at there =
    subst
    (λ ps. IsProcedureAt (unwrap_or (slice_get ps zero) no_part).procedures
    (start_in (unwrap_or (slice_get ps zero) no_part).procedures number))
    (sym is)
    (procedures_forward c tree slots (owner_by p one) one.procedures part.procedures q m code number procedure
    (subst (λ (x : ProcessDeclaration). slice_get x.procedures number ≡ Some procedure) (sym (some_same at)) there))
entrances_of c tree slots p (one ∷ others) parts a b (part, more, is, (m, code, rest)) (suc i) number process procedure at there =
    subst
    (λ ps. IsProcedureAt (unwrap_or (slice_get ps (suc i)) no_part).procedures
    (start_in (unwrap_or (slice_get ps (suc i)) no_part).procedures number))
    (sym is)
    (entrances_of c tree slots (p + 1) others more m b rest i number process procedure at there)

pub whole_entrances : (c : Code) (tree : Tree) (slots : List Slot) → ProcessesCode tree slots 0 tree.processes c.processes c 0 (length c.instrs)
    → (p number : ℕ) (procedure : ProcedureDeclaration) → slice_get (procedures_of (slice_get tree.processes p)) number ≡ Some procedure
    → IsProcedureAt (part_of c p).procedures (procedure_start c p number)
whole_entrances c tree slots code p number procedure there = by (slice_get tree.processes p) refl there
  where
    by : (o : Option ProcessDeclaration) → slice_get tree.processes p ≡ o → slice_get (procedures_of o) number ≡ Some procedure
        → IsProcedureAt (part_of c p).procedures (procedure_start c p number)
    by None at there = absurd (none_some there)
    by (Some process) at there =
        entrances_of c tree slots 0 tree.processes c.processes 0 (length c.instrs) code p number process procedure at there

module _ (c : Code) (tree : Tree) (slots : List Slot) (f : Instr → Bool) (w : Weight)
    (plain : (instr : Instr) → IsPlain instr → f instr ≡ false)
    (channels : length c.channels ≡ length tree.channels)
    (weighs : (number : ℕ) (conversation : Option Identifier) (block : Block) → slice_get c.blocks number ≡ Some block
    → block.conversation ≡ conversation_of tree conversation
    → one_if (f (Enter number)) + (one_if (f (Start number)) + one_if (f (Test number))) ≡ w number conversation)
    (entrances : (p number : ℕ) (procedure : ProcedureDeclaration) → slice_get (procedures_of (slice_get tree.processes p)) number ≡ Some procedure
    → IsProcedureAt (part_of c p).procedures (procedure_start c p number)) where
  pub spread : (p : ℕ) (processes : List ProcessDeclaration) (parts : List Part) (a b : ℕ)
      → ((i n : ℕ) → n ≡ p + i → slice_get tree.processes n ≡ slice_get processes i)
      → Resolved tree slots → All (ProcessWithin tree.edition) processes → All (ProcessSpelled tree.edition) processes → All ProcessHasAlternates processes
      → AsMany tree (uses_in_processes p processes) → (code : ProcessesCode tree slots p processes parts c a b)
      → Spread c tree f w p processes parts (ends_of c tree slots p processes parts a b code) a b
  unfolding ends_of
  spread p [] parts a b texts resolved limits spelled some many code = code
  spread p (process ∷ others) parts a b texts resolved limits spelled some many (part, more, is, (m, code, rest)) =
      let there = texts 0 p (omega arith) in
      let procedures = uses_in_procedures p process.procedures in
      let main = uses_in (outside p false) process.commands in
      let later = uses_in_processes (p + 1) others in
      let behind = many_second tree procedures (main ++ later) many in (
        part,
        more,
        is,
        process_rows c tree slots p process f w plain channels weighs (entrances p) part a m (resolved.processes p process there)
            (All-head (ProcessWithin tree.edition) process others limits) (All-head (ProcessSpelled tree.edition) process others spelled)
            (All-head ProcessHasAlternates process others some) (many_first tree procedures (main ++ later) many)
            (many_first tree main later behind) code,
        spread (p + 1) others more m b (λ i n e. texts (suc i) n (omega arith)) resolved (All-tail (ProcessWithin tree.edition) process others limits)
            (All-tail (ProcessSpelled tree.edition) process others spelled) (All-tail ProcessHasAlternates process others some)
            (many_second tree main later behind) rest,
      )
