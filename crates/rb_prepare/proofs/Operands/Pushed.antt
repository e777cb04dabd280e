-- How many operands the code of an expression has on the stack at once, above those on which the expression stands; and that there is
-- room for them where these are few.
use Rattle.std.proofs.Common.{◌≡◌, ℕ, suc, ◌+◌, ◌≤◌, max, List, [], ◌∷◌, length, refl, arith}
use Rattle.std.proofs.Math.Nat.{le-max_left, le-max_right}
use Rattle.rb_base.specs.declared.limits.TheConstants.{MOST_OPERANDS}
use Rattle.rb_syntax.specs.declared.expression.Op.{Op}
use Rattle.rb_syntax.specs.declared.expression.Op.TheVariants as op
use Rattle.rb_syntax.specs.declared.expression.Quantifier.{Quantifier}
use Rattle.rb_syntax.specs.declared.expression.Quantifier.TheVariants.{Every, Any, Total}
use Rattle.rb_syntax.specs.Tree.{Expression, Literal, Variable, Former, Minus, Negation, Chained, Quantification, Reference, Refer, Subscript, Scalar, Element, Links, NoLink, Linked}
use Rattle.rb_grammar.specs.Depth.{deepest}
use Rattle.rb_code.specs.Agreement.Operands.{HasRoom, LinksHaveRoom, ReferenceHasRoom, beside, summed}
use Rattle.rb_code.specs.Agreement.RoomInTree.{ArgumentsHaveRoom}

abbrev mutual
  -- a sum keeps one operand while the rest of it is found, and the upper limit stands on the lower one
  pub operands : Expression → ℕ
  operands (Literal number) = 1
  operands (Variable reference) = reference_operands reference
  operands (Former place reference) = reference_operands reference
  operands (Minus operand) = operands operand
  operands (Negation operand) = operands operand
  operands (Chained first links) = max (operands first) (links_operands links)
  operands (Quantification kind place name low high body) = max (operands low + 1) (max (operands high + 2) (operands body + 1))

  pub reference_operands : Reference → ℕ
  reference_operands (Refer name subscript) = subscript_operands subscript

  pub subscript_operands : Subscript → ℕ
  subscript_operands Scalar = 1
  subscript_operands (Element index) = operands index

  -- the value of what stands on the left, and right operands
  pub links_operands : Links → ℕ
  links_operands NoLink = 0
  links_operands (Linked op right links) = max 1 (max (beside op (operands right)) (links_operands links))

-- neither of two is above what the greater is not above
pub neither_above : (a b m : ℕ) → max a b ≤ m → (a ≤ m) × (b ≤ m)
neither_above a b m h =
    let left = le-max_left a b in
    let right = le-max_right a b in
    (omega arith, omega arith)

-- the same above other operands
neither_above_on : (n a b m : ℕ) → n + max a b ≤ m → (n + a ≤ m) × (n + b ≤ m)
neither_above_on n a b m h =
    let left = le-max_left a b in
    let right = le-max_right a b in
    (omega arith, omega arith)

-- a right operand stands on at most one operand more
beside_adds : (op : Op) (n r : ℕ) → beside op n + r ≡ n + beside op r
beside_adds op.Or n r = refl
beside_adds op.And n r = refl
beside_adds _ n r = omega arith

pub beside_most : (op : Op) (r : ℕ) → beside op r ≤ r + 1
beside_most op.Or r = omega arith
beside_most op.And r = omega arith
beside_most _ r = omega arith

-- and so do the limits of a quantified expression
summed_most : (kind : Quantifier) (n : ℕ) → summed kind n ≤ n + 1
summed_most Every n = omega arith
summed_most Any n = omega arith
summed_most Total n = omega arith

mutual
  pub has_room : (n : ℕ) (e : Expression) → n + operands e ≤ MOST_OPERANDS → HasRoom n e
  has_room n (Literal number) h = omega arith
  has_room n (Variable reference) h = reference_has_room n reference h
  has_room n (Former place reference) h = reference_has_room n reference h
  has_room n (Minus operand) h = has_room n operand h
  has_room n (Negation operand) h = has_room n operand h
  has_room n (Chained first links) h =
      let both = neither_above_on n (operands first) (links_operands links) MOST_OPERANDS h in
      (has_room n first both.0, links_have_room n links both.1)
  has_room n (Quantification kind place name low high body) h =
      let first = neither_above_on n (operands low + 1) (max (operands high + 2) (operands body + 1)) MOST_OPERANDS h in
      let others = neither_above_on n (operands high + 2) (operands body + 1) MOST_OPERANDS first.1 in
      let most = summed_most kind n in (
        (let one = first.0 in omega arith),
        has_room (summed kind n) low (let one = first.0 in omega arith),
        has_room (suc (summed kind n)) high (let two = others.0 in omega arith),
        has_room (summed kind n) body (let three = others.1 in omega arith),
      )

  pub reference_has_room : (n : ℕ) (reference : Reference) → n + reference_operands reference ≤ MOST_OPERANDS
      → ReferenceHasRoom n reference
  reference_has_room n (Refer name Scalar) h = omega arith
  reference_has_room n (Refer name (Element index)) h = has_room n index h

  links_have_room : (n : ℕ) (links : Links) → n + links_operands links ≤ MOST_OPERANDS → LinksHaveRoom n links
  links_have_room n NoLink h = tt
  links_have_room n (Linked op right links) h =
      let value = neither_above_on n 1 (max (beside op (operands right)) (links_operands links)) MOST_OPERANDS h in
      let both = neither_above_on n (beside op (operands right)) (links_operands links) MOST_OPERANDS value.1 in
      let same = beside_adds op n (operands right) in (
        (let one = value.0 in omega arith),
        has_room (beside op n) right (let right_one = both.0 in omega arith),
        links_have_room n links both.1,
      )

-- each argument stands on those before it
pub arguments_have_room : (n most : ℕ) (arguments : List Expression) → n + length arguments + most ≤ MOST_OPERANDS
    → deepest operands arguments ≤ most → ArgumentsHaveRoom n arguments
arguments_have_room n most [] few h = tt
arguments_have_room n most (argument ∷ arguments) few h =
    let both = neither_above (operands argument) (deepest operands arguments) most h in (
      has_room n argument (let here = both.0 in omega arith),
      arguments_have_room (suc n) most arguments (omega arith) both.1,
    )
