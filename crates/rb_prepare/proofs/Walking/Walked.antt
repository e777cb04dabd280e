-- Code from one address up to another that is walked: what `Laid` tells of it, and that what comes to its first address comes to each one
-- up to the last.
use Rattle.std.proofs.Common.{◌≡◌, ℕ, ◌+◌, ◌≤◌, Bool, false, ap, subst, arith}
use Rattle.rb_syntax.specs.Tree.{Tree}
use Rattle.rb_code.specs.Instructions.Plain.{Code}
use Rattle.rb_code.specs.Agreement.Template.{One}
use Rattle.rb_code.specs.declared.instr.Instr.{Instr}
use Rattle.rb_code.specs.declared.instr.Instr.TheVariants.{Enter, Start, Test}
use Rattle.rb_prepare.proofs.Walking.Laid.{Laid, Right, laid_none, laid_one, laid_then, laid_as, laid_wider, one_if}
use Rattle.rb_prepare.proofs.Onward.{AllOnward, GoesOn, Onward, and_on, at_last, goes_on, only, up_to}

-- What a walk knows: a test of instructions that is counted, and the process.
pub record Scene : Type 0 where
  pub counts : Instr → Bool
  pub process : ℕ

-- an instruction of no recovery block
abbrev pub IsPlain : Instr → Type 0
IsPlain (Enter b) = ⊥
IsPlain (Start b) = ⊥
IsPlain (Test b) = ⊥
IsPlain other = Unit {0}

module _ (c : Code) (tree : Tree) (s : Scene) where
  -- Code of this scene from a up to b, which counts n.
  pub record Walked (n a b : ℕ) : Type 0 where
    pub laid : Laid c tree s.process s.counts a b n a b
    pub reached : (from : ℕ) → Onward c from a → AllOnward c from a b

  -- a part of it from p up to q
  abbrev pub Part : ℕ → ℕ → ℕ → ℕ → ℕ → Type 0
  Part a b n p q = Laid c tree s.process s.counts a b n p q

  pub ordered : (n a b : ℕ) → Walked n a b → a ≤ b
  ordered n a b w = w.laid.ordered

  pub part : (a b n p q : ℕ) → a ≤ p → q ≤ b → Walked n p q → Part a b n p q
  part a b n p q low high w = laid_wider c tree s.process s.counts p q a b n p q low high w.laid

  pub wider : (a b x y n p q : ℕ) → x ≤ a → b ≤ y → Part a b n p q → Part x y n p q
  wider a b x y n p q lower higher w = laid_wider c tree s.process s.counts a b x y n p q lower higher w

  pub part_then : (a b n k p m q : ℕ) → Part a b n p m → Part a b k m q → Part a b (n + k) p q
  part_then a b n k p m q first next = laid_then c tree s.process s.counts a b n k p m q first next

  pub part_as : (a b n k p q : ℕ) → n ≡ k → Part a b n p q → Part a b k p q
  part_as a b n k p q e w = laid_as c tree s.process s.counts a b n k p q e w

  pub walked_none : (a b : ℕ) → b ≡ a → Walked 0 a b
  walked_none a b e = record {
    laid = laid_none c tree s.process s.counts a b a b e;
    reached = λ from r. at_last c from a b e r;
  }

  pub walked_then : (n k a m b : ℕ) → Walked n a m → Walked k m b → Walked (n + k) a b
  walked_then n k a m b first next =
      let o = first.laid.ordered in let p = next.laid.ordered in record {
        laid = part_then a b n k a m b (part a b n a m (omega arith) p first) (part a b k m b o (omega arith) next);
        reached = λ from r. let all = first.reached from r in up_to c from a m m b (omega arith) all (next.reached from (all m o (omega arith)));
      }

  pub walked_as : (n k a b : ℕ) → n ≡ k → Walked n a b → Walked k a b
  walked_as n k a b e w = subst (λ i. Walked i a b) e w

  module _ (plain : (instr : Instr) → IsPlain instr → s.counts instr ≡ false) where
    -- one plain instruction
    pub part_one : (a b p q : ℕ) (instr : Instr) → One instr c p q → Right c tree s.process a b p instr → IsPlain instr → Part a b 0 p q
    part_one a b p q instr one right is = laid_one c tree s.process s.counts a b 0 p q instr one right (ap one_if (plain instr is))

    pub walked_one : (a b : ℕ) (instr : Instr) → One instr c a b → Right c tree s.process a b a instr → IsPlain instr
        → GoesOn instr → Walked 0 a b
    walked_one a b instr one right is goes = record {
      laid = part_one a b a b instr one right is;
      reached = λ from r. and_on c from a b b (let i = one.1 in omega arith) r (only c from b (goes_on c from a b instr one goes r));
    }

    -- code that counts nothing, and more of it
    pub flat_then : (a m b : ℕ) → Walked 0 a m → Walked 0 m b → Walked 0 a b
    flat_then a m b first next = walked_as (0 + 0) 0 a b (omega arith) (walked_then 0 0 a m b first next)

    pub then_one : (a m b : ℕ) (instr : Instr) → Walked 0 a m → One instr c m b → Right c tree s.process m b m instr
        → IsPlain instr → GoesOn instr
        → Walked 0 a b
    then_one a m b instr first one right is goes = flat_then a m b first (walked_one m b instr one right is goes)

    pub part_flat : (a b p m q : ℕ) → Part a b 0 p m → Part a b 0 m q → Part a b 0 p q
    part_flat a b p m q first next = part_as a b (0 + 0) 0 p q (omega arith) (part_then a b 0 0 p m q first next)
