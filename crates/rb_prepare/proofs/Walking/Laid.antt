-- Code from one address up to another, told address by address: each instruction names what is there, and leads nowhere else; and how
-- many instructions of a kind there are.
use Rattle.std.proofs.Common.{◌≡◌, ℕ, zero, suc, ◌+◌, ◌<◌, ◌≤◌, nat_lt, Bool, true, false, cond, List, [], ◌∷◌, length, slice_get, Some, refl, ap, sym, ◌∙◌, subst, arith}
use Rattle.std.proofs.lemmas.Bool.{ltb-false, ltb-true}
use Rattle.std.proofs.lemmas.List.Sums.{sum_by-cons}
use Rattle.std.specs.List.{count_by}
use Rattle.rb_base.specs.declared.limits.TheConstants.{MOST_TURNS}
use Rattle.rb_syntax.specs.Tree.{Tree}
use Rattle.rb_world.proofs.ListFacts.{none_some, some_same}
use Rattle.rb_meaning.specs.Nesting.{alternates_of}
use Rattle.rb_scope.specs.Spelled.{IsQuotable}
use Rattle.rb_code.specs.Instructions.Plain.{Block, Code}
use Rattle.rb_code.specs.WordMachine.Workspace.{part_of}
use Rattle.rb_code.specs.SoundCode.Sound.{Each, IsProcedureAt, end_of_loop, goes_back}
use Rattle.rb_code.specs.Agreement.Template.{One}
use Rattle.rb_code.specs.SoundCode.WellFormed.{IsWithin}
use Rattle.rb_code.specs.declared.instr.Instr.{Instr}
use Rattle.rb_code.specs.declared.instr.Instr.TheVariants.{Text, Jump, JumpZero, Room, Put, There, Take, Call, Enter, Start, Test, Range, Again, Counter, Absent}
use Rattle.rb_code.proofs.Looping.LoopEnds.{back_is, loop_ends_at}
use Rattle.rb_prepare.proofs.Onward.{AllOnward}

-- an address lies between two others
abbrev pub Inside : ℕ → ℕ → ℕ → Type 0
Inside a b x = (a ≤ x) × (x ≤ b)

-- a recovery block of which the instructions stand from a up to b
pub record BlockLies (tree : Tree) (a b : ℕ) (block : Block) : Type 0 where
  pub bound : IsWithin MOST_TURNS block.bound
  pub some : 1 ≤ length block.alternates
  pub conversation : (d : ℕ) → block.conversation ≡ Some d
      → (d < length tree.conversations) × (alternates_of tree d ≡ Some (length block.alternates))
  pub restart : Inside a b block.restart
  pub test : Inside a b block.test
  pub alternates : Each block.alternates (Inside a b)

pub each_weaker : (P Q : ℕ → Type 0) → ((x : ℕ) → P x → Q x) → (xs : List ℕ) → Each xs P → Each xs Q
each_weaker P Q h [] all = tt
each_weaker P Q h (x ∷ xs) all = (h x all.0, each_weaker P Q h xs all.1)

pub inside_more : (a b x y : ℕ) → x ≤ a → b ≤ y → (n : ℕ) → Inside a b n → Inside x y n
inside_more a b x y low high n h = (omega (arith, h.0), omega (arith, h.1))

-- one more, if a test says so
abbrev pub one_if : Bool → ℕ
one_if b = cond b 1 0

-- how many of the first n instructions pass a test
abbrev pub count_to : (Instr → Bool) → ℕ → List Instr → ℕ
count_to f zero instrs = 0
count_to f (suc n) [] = 0
count_to f (suc n) (instr ∷ instrs) = one_if (f instr) + count_to f n instrs

pub count_all : (f : Instr → Bool) (instrs : List Instr) → count_to f (length instrs) instrs ≡ count_by f instrs
count_all f [] = refl
count_all f (instr ∷ instrs) = omega (arith, count_all f instrs, sum_by-cons (λ (i : Instr). cond (f i) 1 0) instr instrs)

pub count_one : (f : Instr → Bool) (instrs : List Instr) (n : ℕ) (instr : Instr) → slice_get instrs n ≡ Some instr
    → count_to f (suc n) instrs ≡ count_to f n instrs + one_if (f instr)
count_one f [] n instr at = absurd (none_some at)
count_one f (first ∷ instrs) zero instr at = ap (λ i. one_if (f i) + 0) (some_same at) ∙ omega arith
count_one f (first ∷ instrs) (suc n) instr at = omega (arith, count_one f instrs n instr at)

-- A loop over a counter that begins at an address has an end, and goes on from its first address to each one up to its end.
pub record LoopStays (c : Code) (k first : ℕ) : Type 0 where
  pub last : ℕ
  pub end : end_of_loop c k first ≡ Some last
  pub all : AllOnward c first first last

module _ (c : Code) (tree : Tree) (process : ℕ) where
  -- An instruction that may stand at an address x from a up to b: its jumps lead there, a call to a procedure of the process, its numbers
  -- name what is there, and behind a `range` its loop stays.
  abbrev pub Right : ℕ → ℕ → ℕ → Instr → Type 0
  Right a b x (Jump to) = Inside a b to
  Right a b x (JumpZero to) = Inside a b to
  Right a b x (Text k) = (text : List ℕ) × (slice_get c.texts k ≡ Some text) × IsQuotable text
  Right a b x (Room channel) = channel < length c.channels
  Right a b x (Put channel) = channel < length c.channels
  Right a b x (There channel) = channel < length c.channels
  Right a b x (Take channel) = channel < length c.channels
  Right a b x (Absent channel to) = (channel < length c.channels) × Inside a b to
  Right a b x (Call to p n) = IsProcedureAt (part_of c process).procedures to
  Right a b x (Enter number) = (block : Block) × (slice_get c.blocks number ≡ Some block) × BlockLies tree a b block
  Right a b x (Start number) = (block : Block) × (slice_get c.blocks number ≡ Some block) × BlockLies tree a b block
  Right a b x (Test number) = (block : Block) × (slice_get c.blocks number ≡ Some block) × BlockLies tree a b block
  Right a b x (Range k to) = (k < 2) × Inside a b to × LoopStays c k (x + 1)
  Right a b x (Again k to) = (k < 2) × Inside (a + 1) b to
  Right a b x (Counter k) = k < 2
  Right a b x _ = Unit {0}

  module _ (a b x y : ℕ) (lower : x ≤ a) (higher : b ≤ y) where
    block_wider : (block : Block) → BlockLies tree a b block → BlockLies tree x y block
    block_wider block lies = record {
      bound = lies.bound;
      some = lies.some;
      conversation = lies.conversation;
      restart = inside_more a b x y lower higher block.restart lies.restart;
      test = inside_more a b x y lower higher block.test lies.test;
      alternates = each_weaker (Inside a b) (Inside x y) (inside_more a b x y lower higher) block.alternates lies.alternates;
    }

    pub right_wider : (z : ℕ) (instr : Instr) → Right a b z instr → Right x y z instr
    right_wider z (Jump to) h = inside_more a b x y lower higher to h
    right_wider z (JumpZero to) h = inside_more a b x y lower higher to h
    right_wider z (Absent channel to) h = (h.0, inside_more a b x y lower higher to h.1)
    right_wider z (Enter number) h = (h.0, h.1, block_wider h.0 h.2)
    right_wider z (Start number) h = (h.0, h.1, block_wider h.0 h.2)
    right_wider z (Test number) h = (h.0, h.1, block_wider h.0 h.2)
    right_wider z (Range k to) h = (h.0, inside_more a b x y lower higher to h.1, h.2)
    right_wider z (Again k to) h = (h.0, inside_more (a + 1) b (x + 1) y (omega arith) higher to h.1)
    right_wider z other h = h

  -- at an address an instruction stands that may stand from a up to b
  abbrev pub IsRight : ℕ → ℕ → ℕ → Type 0
  IsRight a b x = (instr : Instr) × (slice_get c.instrs x ≡ Some instr) × Right a b x instr

  module _ (f : Instr → Bool) where
    -- From p up to q each instruction may stand from a up to b, and n of them pass a test.
    pub record Laid (a b n p q : ℕ) : Type 0 where
      pub ordered : p ≤ q
      pub each : (x : ℕ) → p ≤ x → x < q → IsRight a b x
      pub counted : count_to f q c.instrs ≡ count_to f p c.instrs + n

    pub laid_one : (a b n p q : ℕ) (instr : Instr) → One instr c p q → Right a b p instr → one_if (f instr) ≡ n → Laid a b n p q
    laid_one a b n p q instr one right e = record {
      ordered = let i = one.1 in omega arith;
      each = λ x up below.
          let i = one.1 in let at : p ≡ x = omega arith in
          (instr, ap (slice_get c.instrs) (sym at) ∙ one.0, subst (λ z. Right a b z instr) at right);
      counted =
          let i = one.1 in let next : q ≡ suc p = omega arith in
          ap (λ k. count_to f k c.instrs) next ∙ count_one f c.instrs p instr one.0 ∙ ap (λ k. count_to f p c.instrs + k) e;
    }

    pub laid_none : (a b p q : ℕ) → q ≡ p → Laid a b 0 p q
    laid_none a b p q e = record {
      ordered = omega arith;
      each = λ x up below. absurd (omega arith);
      counted = ap (λ k. count_to f k c.instrs) e ∙ omega arith;
    }

    pub laid_then : (a b n k p m q : ℕ) → Laid a b n p m → Laid a b k m q → Laid a b (n + k) p q
    laid_then a b n k p m q first next = record {
      ordered = omega (arith, first.ordered, next.ordered);
      each = λ x up below. by x up below (nat_lt x m) refl;
      counted = omega (arith, first.counted, next.counted);
    }
      where
        by : (x : ℕ) → p ≤ x → x < q → (t : Bool) → nat_lt x m ≡ t → IsRight a b x
        by x up below true e = first.each x up (ltb-true x m e)
        by x up below false e = next.each x (ltb-false x m e) below

    pub laid_wider : (a b x y n p q : ℕ) → x ≤ a → b ≤ y → Laid a b n p q → Laid x y n p q
    laid_wider a b x y n p q lower higher laid = record {
      ordered = laid.ordered;
      each = λ z up below. let h = laid.each z up below in (h.0, h.1, right_wider a b x y lower higher z h.0 h.2);
      counted = laid.counted;
    }

    pub laid_as : (a b n k p q : ℕ) → n ≡ k → Laid a b n p q → Laid a b k p q
    laid_as a b n k p q e laid = subst (λ i. Laid a b i p q) e laid

  -- where a loop goes on up to its way back, before which none to its beginning stands, it stays
  pub loop_stays : (f : Instr → Bool) (k r loop first last b : ℕ) → first ≡ r + 1 → loop ≡ first
      → slice_get c.instrs last ≡ Some (Again k loop) → Laid f first b 0 first last → AllOnward c first first last
      → LoopStays c k (r + 1)
  loop_stays f k r loop first last b is same again laid all =
      subst (LoopStays c k) is record {
        last = last;
        end = loop_ends_at c k first last laid.ordered (again ∙ ap (λ a. Some (Again k a)) same) none;
        all = all;
      }
    where
      none : (x : ℕ) (instr : Instr) → first ≤ x → x < last → slice_get c.instrs x ≡ Some instr → goes_back k first instr ≡ true → ⊥
      none x instr low below at back =
          let row = laid.each x low below in
          let is_back : row.0 ≡ Again k first = some_same (sym row.1 ∙ at) ∙ back_is k first instr back in
          let right = subst (Right first b x) is_back row.2 in
          let up = right.1.0 in absurd (omega arith)
