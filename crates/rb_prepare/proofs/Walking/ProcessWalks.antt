-- The code of processes, walked: each instruction stays among the addresses of its process, its start comes to each address of a main body,
-- and the instructions of a kind are counted.
use Rattle.std.proofs.Common.{◌≡◌, ◌⊎◌, inl, inr, ℕ, zero, suc, ◌+◌, ◌-◌, ◌<◌, ◌≤◌, nat_lt, Bool, true, false, List, [], ◌∷◌, length, option_map, slice_get, unwrap_or, Option, Some, refl, ap, sym, ◌∙◌, subst, arith}
use Rattle.std.proofs.lemmas.Bool.{ltb-false, ltb-true}
use Rattle.std.proofs.lemmas.List.Elements.{All-head, All-tail}
use Rattle.std.specs.List.{All}
use Rattle.rb_syntax.specs.Tree.{Body, Identifier, ProcedureDeclaration, ProcessDeclaration, Scope, Tree}
use Rattle.rb_world.proofs.ListFacts.{none_some}
use Rattle.rb_meaning.specs.Environment.{frame_of, frame_words}
use Rattle.rb_meaning.specs.Groups.{channels_of, conversation_of, procedures_of}
use Rattle.rb_meaning.specs.Nesting.{Spot, outside, uses_in, uses_in_body, uses_in_procedures}
use Rattle.rb_meaning.specs.Step.{commands_of}
use Rattle.rb_scope.specs.Frames.{main_frames, procedure_frames}
use Rattle.rb_scope.specs.InFrames.{ProcedureInFrames, ProcessInFrames}
use Rattle.rb_scope.specs.Limits.{ProcedureWithin, ProcessWithin}
use Rattle.rb_scope.specs.Spelled.{ProcedureSpelled, ProcessSpelled}
use Rattle.rb_scope.specs.declared.slot.Slot.{Slot}
use Rattle.rb_code.specs.Instructions.Plain.{Block, Code, Part, Procedure}
use Rattle.rb_code.specs.WordMachine.Workspace.{part_of}
use Rattle.rb_code.specs.SoundCode.Sound.{IsProcedureAt}
use Rattle.rb_code.specs.Agreement.Template.{One}
use Rattle.rb_code.specs.Agreement.Forms.{Owner, ProceduresCode, procedure_start}
use Rattle.rb_code.specs.Agreement.StandsFor.{ProcessCode, channels_from}
use Rattle.rb_code.specs.declared.instr.Instr.{Instr}
use Rattle.rb_code.specs.declared.instr.Instr.TheVariants.{Done, Return, Enter, Start, Test}
use Rattle.rb_code.proofs.Tables.ProcessTables.{owner_by}
use Rattle.rb_judge.specs.HasAlternates.{BodyHasAlternates, CommandsHaveAlternates, ProcessHasAlternates}
use Rattle.rb_prepare.proofs.Walking.Laid.{Laid, Right, count_to, laid_one, one_if, right_wider}
use Rattle.rb_prepare.proofs.Onward.{AllOnward, itself}
use Rattle.rb_prepare.proofs.Walking.Walked.{IsPlain, Scene}
use Rattle.rb_prepare.proofs.Walking.StatementWalks.{AsMany, commands_walked, many_first, many_second}
use Rattle.rb_prepare.proofs.Joining.Weights.{Weight, weight_in, weight_in_process, weight_in_procedures}

-- an instruction behind which nothing goes on
abbrev pub Ends : Instr → Type 0
Ends Done = Unit {0}
Ends Return = Unit {0}
Ends other = ⊥

abbrev pub start_in : List Procedure → ℕ → ℕ
start_in entries number = unwrap_or (option_map (λ one. one.start) (slice_get entries number)) 0

abbrev HasAlternatesIn : ProcedureDeclaration → Type 0
HasAlternatesIn procedure = BodyHasAlternates procedure.body

many_of_body : (tree : Tree) (spot : Spot) (body : Body) → AsMany tree (uses_in_body spot body) → AsMany tree (uses_in spot (commands_of body))
many_of_body tree spot (Scope variables commands) many = many

some_of_body : (body : Body) → BodyHasAlternates body → CommandsHaveAlternates (commands_of body)
some_of_body (Scope variables commands) some = some

module _ (c : Code) (tree : Tree) (process : ℕ) (f : Instr → Bool) where
  -- an instruction of a process from a up to b: it leads nowhere else, and ends, or does not stand last
  abbrev pub IsRow : ℕ → ℕ → ℕ → Type 0
  IsRow a b x = (instr : Instr) × (slice_get c.instrs x ≡ Some instr) × Right c tree process a (b - 1) x instr × (Ends instr ⊎ (x + 1 < b))

  -- From p up to q each is one of a process from a up to b, and n pass a test.
  pub record Rows (a b n p q : ℕ) : Type 0 where
    pub ordered : p ≤ q
    pub each : (x : ℕ) → p ≤ x → x < q → IsRow a b x
    pub counted : count_to f q c.instrs ≡ count_to f p c.instrs + n

  rows_then : (a b n k p m q : ℕ) → Rows a b n p m → Rows a b k m q → Rows a b (n + k) p q
  rows_then a b n k p m q first next = record {
    ordered = omega (arith, first.ordered, next.ordered);
    each = λ x up below. by x up below (nat_lt x m) refl;
    counted = omega (arith, first.counted, next.counted);
  }
    where
      by : (x : ℕ) → p ≤ x → x < q → (t : Bool) → nat_lt x m ≡ t → IsRow a b x
      by x up below true e = first.each x up (ltb-true x m e)
      by x up below false e = next.each x (ltb-false x m e) below

  rows_before : (a b k p m q : ℕ) → Rows a b 0 p m → Rows a b k m q → Rows a b k p q
  rows_before a b k p m q first next =
      let e : 0 + k ≡ k = omega arith in subst (λ n. Rows a b n p q) e (rows_then a b 0 k p m q first next)

  -- statements, behind which more stands
  rows_laid : (a b n p q : ℕ) → a ≤ p → q < b → Laid c tree process f p q n p q → Rows a b n p q
  rows_laid a b n p q low high laid = record {
    ordered = laid.ordered;
    each = λ x up below.
        let h = laid.each x up below in
        (h.0, h.1, right_wider c tree process p q a (b - 1) low (omega arith) x h.0 h.2, inr (omega arith));
    counted = laid.counted;
  }

  -- one instruction that ends
  rows_end : (a b p q : ℕ) (instr : Instr) → One instr c p q → Ends instr → Right c tree process a (b - 1) p instr → f instr ≡ false → Rows a b 0 p q
  rows_end a b p q instr one ends right none =
      let laid = laid_one c tree process f a (b - 1) 0 p q instr one right (ap one_if none) in record {
        ordered = laid.ordered;
        each = λ x up below.
            let i = one.1 in let at : p ≡ x = omega arith in (
              instr,
              ap (slice_get c.instrs) (sym at) ∙ one.0,
              subst (λ z. Right c tree process a (b - 1) z instr) at right,
              inl ends,
            );
        counted = laid.counted;
      }

  rows_none : (a b p q : ℕ) → q ≡ p → Rows a b 0 p q
  rows_none a b p q e = record {
    ordered = omega arith;
    each = λ x up below. absurd (omega arith);
    counted = ap (λ k. count_to f k c.instrs) e ∙ omega arith;
  }

-- an address that is the first one, or lies behind
first_or : {P : Type 0} (x r y to : ℕ) → x < r → r ≤ y → (P → (r ≤ to) × (to < y)) → (x ≡ to) ⊎ P → (x ≤ to) × (to < y)
first_or x r y to low high later (inl e) = (omega arith, omega arith)
first_or x r y to low high later (inr h) = let k = later h in (omega (arith, k.0), k.1)

-- where procedures begin
pub procedures_forward : (c : Code) (tree : Tree) (slots : List Slot) (owner : Owner)
    → ((procedures : List ProcedureDeclaration) (entries : List Procedure) (p q : ℕ)
    → ProceduresCode tree slots owner procedures entries c p q → (number : ℕ) (procedure : ProcedureDeclaration)
    → slice_get procedures number ≡ Some procedure → IsProcedureAt entries (start_in entries number))
procedures_forward c tree slots owner [] entries p q code number procedure at = absurd (none_some at)
procedures_forward c tree slots owner (one ∷ others) entries p q (more, is, (m, body, (r, back, rest))) zero procedure at =
    subst (λ es. IsProcedureAt es (start_in es zero)) (sym is) (inl refl)
procedures_forward c tree slots owner (one ∷ others) entries p q (more, is, (m, body, (r, back, rest))) (suc number) procedure at =
    subst (λ es. IsProcedureAt es (start_in es (suc number))) (sym is)
    (inr (procedures_forward c tree slots owner others more r q rest number procedure at))

-- A process from a up to b: its main body ends at some address, up to which its start comes to each one; its procedures begin there; and
-- each instruction is one of the process.
pub record ProcessRows (c : Code) (tree : Tree) (f : Instr → Bool) (w : Weight) (p : ℕ)
    (process : ProcessDeclaration) (part : Part) (a b : ℕ) : Type 0 where
  pub start : part.start ≡ a
  pub words : part.words ≡ frame_words (frame_of process.variables)
  pub channels : part.channels ≡ channels_from p 0 (channels_of tree)
  pub last : ℕ
  pub upward : a ≤ last
  pub below : last < b
  pub counted : count_to f last c.instrs ≡ count_to f a c.instrs + weight_in w process.commands
  pub done : slice_get c.instrs last ≡ Some Done
  pub reached : AllOnward c a a last
  pub inside : (to : ℕ) → IsProcedureAt part.procedures to → (a ≤ to) × (to < b)
  pub rows : Rows c tree p f a b (weight_in_process w process) a b

module _ (c : Code) (tree : Tree) (slots : List Slot) (p : ℕ) (process : ProcessDeclaration) (f : Instr → Bool) (w : Weight)
    (plain : (instr : Instr) → IsPlain instr → f instr ≡ false)
    (channels : length c.channels ≡ length tree.channels)
    (weighs : (number : ℕ) (conversation : Option Identifier) (block : Block) → slice_get c.blocks number ≡ Some block
    → block.conversation ≡ conversation_of tree conversation
    → one_if (f (Enter number)) + (one_if (f (Start number)) + one_if (f (Test number))) ≡ w number conversation)
    (entrances : (number : ℕ) (procedure : ProcedureDeclaration) → slice_get (procedures_of (slice_get tree.processes p)) number ≡ Some procedure
    → IsProcedureAt (part_of c p).procedures (procedure_start c p number)) where
  -- the walk of the process
  abbrev pub scene : Scene
  scene = record { counts = f; process = p }

  procedures_rows : (a b : ℕ) (procedures : List ProcedureDeclaration) (entries : List Procedure) (x y : ℕ) → a ≤ x → y ≤ b
      → All (ProcedureInFrames tree slots p process) procedures → All ProcedureWithin procedures → All (ProcedureSpelled tree.edition) procedures
      → All HasAlternatesIn procedures → AsMany tree (uses_in_procedures p procedures)
      → ProceduresCode tree slots (owner_by p process) procedures entries c x y
      → Rows c tree p f a b (weight_in_procedures w procedures) x y × ((to : ℕ) → IsProcedureAt entries to → (x ≤ to) × (to < y))
  procedures_rows a b [] entries x y low high names limits spelled some many (none, here) =
      (rows_none c tree p f a b x y here, λ to at. absurd (subst (λ es. IsProcedureAt es to) none at))
  procedures_rows a b (one ∷ others) entries x y low high names limits spelled some many (more, is, (m, code, (r, back, rest))) =
      let uses = uses_in_body (outside p true) one.body in
      let body = commands_walked c tree scene plain slots p
      (owner_by p process) w channels entrances weighs (procedure_frames process one)
      (outside p true) (commands_of one.body) (All-head (ProcedureInFrames tree slots p process) one others names)
      (All-head ProcedureWithin one others limits).commands (All-head (ProcedureSpelled tree.edition) one others spelled).commands
      (some_of_body one.body (All-head HasAlternatesIn one others some))
      (many_of_body tree (outside p true) one.body (many_first tree uses (uses_in_procedures p others) many)) x m code in
      let o = body.laid.ordered in let e = back.1 in
      let next = procedures_rows a b others more r y (omega arith) high (All-tail (ProcedureInFrames tree slots p process) one others names)
      (All-tail ProcedureWithin one others limits) (All-tail (ProcedureSpelled tree.edition) one others spelled) (All-tail HasAlternatesIn one others some)
      (many_second tree uses (uses_in_procedures p others) many) rest in
      let up = next.0.ordered in
      let first = weight_in w (commands_of one.body) in let later = weight_in_procedures w others in (
        rows_then c tree p f a b first later x m y (rows_laid c tree p f a b first x m low (omega arith) body.laid)
            (rows_before c tree p f a b later m r y (rows_end c tree p f a b m r Return back tt tt (plain Return tt)) next.0),
        λ to at. first_or x r y to (let o = body.laid.ordered in let e = back.1 in omega arith) (omega arith) (next.1 to)
            (subst (λ es. IsProcedureAt es to) is at),
      )

  pub process_rows : (part : Part) (a b : ℕ) → ProcessInFrames tree slots p process → ProcessWithin tree.edition process → ProcessSpelled tree.edition process
      → ProcessHasAlternates process → AsMany tree (uses_in_procedures p process.procedures)
      → AsMany tree (uses_in (outside p false) process.commands)
      → ProcessCode tree slots p process part c a b → ProcessRows c tree f w p process part a b
  process_rows part a b names limits spelled some many mains (tells, (m, code, (r, done, rest))) =
      let main = commands_walked c tree scene plain slots p (owner_by p process) w channels entrances weighs (main_frames process)
      (outside p false) process.commands names.commands limits.commands spelled.commands some.commands mains a m code in
      let o = main.laid.ordered in let e = done.1 in
      let procedures =
      procedures_rows a b process.procedures part.procedures r b (omega arith)
      (omega arith) names.procedures limits.procedures spelled.procedures
      some.procedures many rest in
      let up = procedures.0.ordered in
      let first = weight_in w process.commands in let later = weight_in_procedures w process.procedures in
      record {
        start = tells.start_is;
        words = tells.words_are;
        channels = tells.channels_are;
        last = m;
        upward = o;
        below = omega arith;
        counted = main.laid.counted;
        done = done.0;
        reached = main.reached a itself;
        inside = λ to at. let h = procedures.1 to at in (omega (arith, h.0), h.1);
        rows =
            rows_then c tree p f a b first later a m b (rows_laid c tree p f a b first a m (omega arith) (omega arith) main.laid)
            (rows_before c tree p f a b later m r b (rows_end c tree p f a b m r Done done tt tt (plain Done tt)) procedures.0);
      }
