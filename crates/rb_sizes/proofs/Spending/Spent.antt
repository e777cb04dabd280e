-- How many bytes an image has for the instructions of a code up to an address, each text with the instruction that names it, and for its
-- recovery blocks up to a number; and how many more there are at most behind a template.
use Rattle.std.proofs.Common.{◌≡◌, ℕ, ◌+◌, ◌*◌, ◌≤◌, List, [], ◌∷◌, length, take, slice_get, Option, Some, None, unwrap_or, sum_by, refl, ap, ◌∙◌, arith}
use Rattle.std.proofs.Math.Seq.{take-length}
use Rattle.std.proofs.lemmas.List.Sums.{sum_by_more}
use Rattle.std.proofs.lemmas.Option.{get_or_from_slice_get, slice_get_within}
use Rattle.rb_code.specs.Instructions.Plain.{Block, Code, Part, Procedure}
use Rattle.rb_code.specs.Agreement.Template.{Template, One, ◌⨾◌, Empty, Only, At, Label, Quoted}
use Rattle.rb_code.specs.declared.instr.Instr.{Instr}
use Rattle.rb_code.specs.declared.instr.Instr.TheVariants.{Push, Load, Prior, Bound, LoadAt, PriorAt, Store, StoreAt, Jump, JumpZero, Frame, Drop, Text, Room, Put, There, Take, Call, Enter, Start, Test, Range, Again, Counter, Absent}
use Rattle.rb_sizes.proofs.Weighing.Sizes.{line_extra}

-- a text of the list of texts takes its length and its bytes
abbrev pub text_cost : Code → ℕ → ℕ
text_cost c k = 8 + length (unwrap_or (slice_get c.texts k) [])

-- an instruction: one byte, and eight for each number that it has
abbrev pub cost : Code → Instr → ℕ
cost c (Push n) = 9
cost c (Load v) = 17
cost c (Prior v) = 17
cost c (Bound n) = 9
cost c (LoadAt v) = 17
cost c (PriorAt v) = 17
cost c (Store v) = 17
cost c (StoreAt v) = 17
cost c (Jump a) = 9
cost c (JumpZero a) = 9
cost c (Frame n) = 9
cost c (Drop n) = 9
cost c (Text k) = 9 + text_cost c k
cost c (Room k) = 9
cost c (Put k) = 9
cost c (There k) = 9
cost c (Take k) = 9
cost c (Call a p n) = 25
cost c (Enter b) = 9
cost c (Start b) = 9
cost c (Test b) = 9
cost c (Range k a) = 17
cost c (Again k a) = 17
cost c (Counter k) = 9
cost c (Absent k a) = 17
cost c other = 1

-- a recovery block; a line beyond all counts more
abbrev pub joined_cost : Option ℕ → ℕ
joined_cost None = 0
joined_cost (Some d) = 8

abbrev pub block_cost : Block → ℕ
block_cost block = 48 + line_extra block.line + joined_cost block.conversation + 8 * length block.alternates

-- procedures, each with its name and its address
abbrev pub procedures_cost : List Procedure → ℕ
procedures_cost [] = 0
procedures_cost (one ∷ others) = 16 + length one.name + procedures_cost others

-- a process, with its channels and its procedures, and processes
abbrev pub part_cost : Part → ℕ
part_cost part = 32 + 8 * length part.channels + procedures_cost part.procedures

abbrev pub parts_cost : List Part → ℕ
parts_cost [] = 0
parts_cost (part ∷ others) = part_cost part + parts_cost others

-- all in front of one that is there, and it
one_more : {X : Type 0} (f : X → ℕ) (xs : List X) (i : ℕ) (x : X) → slice_get xs i ≡ Some x
    → sum_by f (take (i + 1) xs) ≡ sum_by f (take i xs) + f x
one_more f xs i x e =
    sum_by_more f xs i x (slice_get_within xs i x e) ∙ ap (λ y. sum_by f (take i xs) + f y) (get_or_from_slice_get xs i x x e)

-- the instructions up to an address, and the recovery blocks up to a number
pub spent : Code → ℕ → ℕ
spent c a = sum_by (cost c) (take a c.instrs)

pub listed : Code → ℕ → ℕ
listed c n = sum_by block_cost (take n c.blocks)

pub spent_none : (c : Code) → spent c 0 ≡ 0
unfolding spent
spent_none c = refl

pub spent_all : (c : Code) → spent c (length c.instrs) ≡ sum_by (cost c) c.instrs
unfolding spent
spent_all c = ap (sum_by (cost c)) (take-length c.instrs)

pub listed_none : (c : Code) → listed c 0 ≡ 0
unfolding listed
listed_none c = refl

pub listed_all : (c : Code) → listed c (length c.blocks) ≡ sum_by block_cost c.blocks
unfolding listed
listed_all c = ap (sum_by block_cost) (take-length c.blocks)

pub spent_one : (c : Code) (a b : ℕ) (instr : Instr) → One instr c a b → spent c b ≡ spent c a + cost c instr
unfolding spent
spent_one c a b instr one = ap (λ i. sum_by (cost c) (take i c.instrs)) one.1 ∙ one_more (cost c) c.instrs a instr one.0

pub listed_one : (c : Code) (n : ℕ) (block : Block) → slice_get c.blocks n ≡ Some block → listed c (n + 1) ≡ listed c n + block_cost block
unfolding listed
listed_one c n block there = one_more block_cost c.blocks n block there

-- A template takes k bytes at most.
pub record Takes (c : Code) (k : ℕ) (P : Template) : Type 0 where
  pub fits : (a b : ℕ) → P c a b → spent c b ≤ spent c a + k

pub less : {c : Code} {k l : ℕ} {P : Template} → Takes c k P → k ≤ l → Takes c l P
less t h = record { fits = λ a b p. (let f = t.fits a b p in omega arith) }

pub one : {c : Code} (instr : Instr) → Takes c (cost c instr) (One instr)
one {c = c} instr = record { fits = λ a b p. (let e = spent_one c a b instr p in omega arith) }

infixr 5 ◌then◌
pub ◌then◌ : {c : Code} {k l : ℕ} {P Q : Template} → Takes c k P → Takes c l Q → Takes c (k + l) (P ⨾ Q)
(s then t) = record { fits = λ a b (m, p, q). (let f = s.fits a m p in let g = t.fits m b q in omega arith) }

pub nothing : {c : Code} → Takes c 0 Empty
nothing {c = c} = record { fits = λ a b e. (let same = ap (spent c) e in omega arith) }

pub at : {c : Code} (label : ℕ) → Takes c 0 (At label)
at {c = c} label = record { fits = λ a b p. (let same = ap (spent c) p.1 in omega arith) }

pub only : {c : Code} (X : Type 0) → Takes c 0 (Only X)
only {c = c} X = record { fits = λ a b p. (let same = ap (spent c) p.1 in omega arith) }

pub labelled : {c : Code} {k : ℕ} {P : ℕ → Template} → ((label : ℕ) → Takes c k (P label)) → Takes c k (Label P)
labelled t = record { fits = λ a b (label, p). (t label).fits a b p }

-- a text that is quoted is that of its number
pub quoted : {c : Code} (text : List ℕ) → Takes c (17 + length text) (Quoted text)
quoted {c = c} text = record {
  fits = λ a b (k, there, p).
      let e = spent_one c a b (Text k) p in
      let same = ap (λ (o : Option (List ℕ)). length (unwrap_or o [])) there in
      omega arith;
}
