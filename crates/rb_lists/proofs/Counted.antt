-- How often a block is marked.
use Rattle.std.proofs.Common.{◌≡◌, ◌↔◌, ◌<◌, ◌≤◌, ◌+◌, ℕ, Bool, true, false, cond, IsTrue, List, length, get_or, take, refl, sym, ap, subst, ◌∙◌, arith}
use Rattle.std.specs.List.{All, count_by}
use Rattle.std.proofs.lemmas.List.{get_or_default, take_all}
use Rattle.std.proofs.lemmas.List.Sums.{sum_by_more_le}
use mathlib.Core.Path.{fun_ext}
use Rattle.rb_code.specs.Instructions.Plain.{Code}
use Rattle.rb_code.specs.SoundCode.WellFormed.{HasOneEach, is_entry, is_start, is_test}
use Rattle.rb_code.specs.declared.instr.Instr.{Instr}
use Rattle.rb_code.specs.declared.instr.Instr.TheVariants.{Enter, Start, Test}
use Rattle.rb_lists.specs.Marks.{is_marked}
use Rattle.rb_lists.specs.declared.once.Mark.{Mark}
use Rattle.rb_lists.specs.declared.once.Mark.TheVariants.{Entry, Begin, Judge}

-- what a test adds to a count
abbrev added : Bool → ℕ
added b = cond b 1 0

-- one more behind one
pub twice : (p : Instr → Bool) (instrs : List Instr) (i : ℕ) (d : Instr) → i < length instrs → count_by p (take i instrs) ≡ 1
    → p (get_or instrs i d) ≡ true → count_by p instrs ≡ 1 → ⊥
twice p instrs i d within one more all =
    let last : added (p (get_or instrs i d)) ≡ 1 = ap added more in
    let few : count_by p (take i instrs) + added (p (get_or instrs i d)) ≤ count_by p instrs = sum_by_more_le (λ x. cond (p x) 1 0) instrs i d within in
    omega arith

was_seen : (one : Bool) → added one ≡ 1 → one ≡ true
was_seen true e = refl
was_seen false e = absurd (omega arith)

pub tells_seen : (p : ℕ → Instr → Bool) (instrs : List Instr) (i n : ℕ) (seen : List Bool) (told : Bool) → length seen ≡ n → length instrs ≤ i
    → ((b : ℕ) → b < length seen → count_by (p b) (take i instrs) ≡ added (get_or seen b false))
    → (IsTrue told ↔ All (λ (one : Bool). IsTrue one) seen)
    → IsTrue told ↔ ((b : ℕ) → b < n → count_by (p b) instrs ≡ 1)
tells_seen p instrs i n seen told size whole counts tells =
    let at : (b : ℕ) → b < length seen → count_by (p b) instrs ≡ added (get_or seen b false) =
    λ b within. ap (count_by (p b)) (sym (take_all i instrs whole)) ∙ counts b within in (
      (λ t b within.
          let inside : b < length seen = omega arith in
          at b inside ∙ ap added (tells.0 t b false inside)),
      (λ each. tells.1 (λ b d within.
          was_seen (get_or seen b d) (ap added (get_or_default seen b d false within) ∙ sym (at b within) ∙ each b (omega arith)))),
    )

-- each of so many blocks is marked once
abbrev pub HasOne : Mark → ℕ → List Instr → Type 0
HasOne mark blocks instrs = (b : ℕ) → b < blocks → count_by (is_marked mark b) instrs ≡ 1

pub tells_one : (mark : Mark) (m n : ℕ) (xs ys : List Instr) (told : Bool) → m ≡ n → xs ≡ ys → (IsTrue told ↔ HasOne mark m xs)
    → IsTrue told ↔ HasOne mark n ys
tells_one mark m n xs ys told sizes same tells =
    subst (λ zs. IsTrue told ↔ HasOne mark n zs) same (subst (λ k. IsTrue told ↔ HasOne mark k xs) sizes tells)

entries : (b : ℕ) (instr : Instr) → is_marked Entry b instr ≡ is_entry b instr
entries b (Enter d) = refl
entries b other = refl

starts : (b : ℕ) (instr : Instr) → is_marked Begin b instr ≡ is_start b instr
starts b (Start d) = refl
starts b other = refl

tests : (b : ℕ) (instr : Instr) → is_marked Judge b instr ≡ is_test b instr
tests b (Test d) = refl
tests b other = refl

same_count : (p q : Instr → Bool) (instrs : List Instr) → ((instr : Instr) → p instr ≡ q instr) → count_by p instrs ≡ count_by q instrs
same_count p q instrs same = ap (λ (test : Instr → Bool). count_by test instrs) (fun_ext same)

-- one of each
pub each_has : (c : Code) → HasOneEach c
    → HasOne Entry (length c.blocks) c.instrs × HasOne Begin (length c.blocks) c.instrs × HasOne Judge (length c.blocks) c.instrs
each_has c each = (
  (λ b within. same_count (is_marked Entry b) (is_entry b) c.instrs (entries b) ∙ (each b within).0),
  (λ b within. same_count (is_marked Begin b) (is_start b) c.instrs (starts b) ∙ (each b within).1),
  (λ b within. same_count (is_marked Judge b) (is_test b) c.instrs (tests b) ∙ (each b within).2),
)

pub has_each : (c : Code) → HasOne Entry (length c.blocks) c.instrs → HasOne Begin (length c.blocks) c.instrs
    → HasOne Judge (length c.blocks) c.instrs → HasOneEach c
has_each c entry start test b within = (
  sym (same_count (is_marked Entry b) (is_entry b) c.instrs (entries b)) ∙ entry b within,
  sym (same_count (is_marked Begin b) (is_start b) c.instrs (starts b)) ∙ start b within,
  sym (same_count (is_marked Judge b) (is_test b) c.instrs (tests b)) ∙ test b within,
)
