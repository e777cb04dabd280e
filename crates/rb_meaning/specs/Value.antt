-- The value of an expression, or the trap that its evaluation meets first. `prior` gives a value just before the block
-- was entered (Randell 1975). Numbers have 64 bits, with traps, and there are quantified expressions.
use Rattle.std.specs.Prelude.{ℕ, zero, suc, ℤ, pos, negsuc, ◌+◌, ◌-◌, ◌^◌, ◌+ℤ◌, ◌-ℤ◌, ◌*ℤ◌, neg_ℤ, int_lt, int_le, int_div, int_rem, nat_lt, Bool, true, false, not, cond, ◌&&◌, List, [], ◌∷◌, length, slice_get, Option, Some, None, Result, Ok, Err}
use Rattle.std.specs.Ordering.{int_eq}
use Rattle.std.specs.Option.{unwrap_or}
use Rattle.rb_base.specs.declared.limits.TheConstants.{MOST_QUANTIFIED}
use Rattle.rb_base.specs.declared.event.Cause.{Cause}
use Rattle.rb_base.specs.declared.event.Cause.TheVariants.{Zero, Overflow, Index, Range}
use Rattle.rb_syntax.specs.declared.expression.Op.{Op}
use Rattle.rb_syntax.specs.declared.expression.Op.TheVariants.{Or, And, Eq, Ne, Lt, Le, Gt, Ge, Add, Sub, Mul, Div, Rem}
use Rattle.rb_syntax.specs.declared.expression.Quantifier.{Quantifier}
use Rattle.rb_syntax.specs.declared.expression.Quantifier.TheVariants.{Every, Any, Total}
use Rattle.rb_syntax.specs.Tree.{Expression, Literal, Variable, Former, Minus, Negation, Chained, Quantification, Reference, Refer, Scalar, Element, Links, NoLink, Linked}
use Rattle.rb_meaning.specs.Environment.{Environment, same_name, values_of, natural}

-- a number, or the trap that is met in its place
abbrev pub Outcome : Type 0
Outcome = Result ℤ Cause

-- goes on with a value, or traps
abbrev pub and_then : {A B : Type 0} → Result A Cause → (A → Result B Cause) → Result B Cause
and_then (Ok a) f = f a
and_then (Err cause) f = Err cause

-- a number of 64 bits
abbrev pub fits : ℤ → Bool
fits z = int_le (negsuc (2 ^ 63 - 1)) z && int_le z (pos (2 ^ 63 - 1))

-- a result, or the trap `overflow` where it is no number of 64 bits
abbrev pub fitting : ℤ → Outcome
fitting z = cond (fits z) (Ok z) (Err Overflow)

-- a number is 0, which counts as false
abbrev pub is_zero : ℤ → Bool
is_zero z = int_eq z (pos 0)

-- 1 if it is so, else 0
abbrev pub truth : Bool → ℤ
truth true = pos 1
truth false = pos 0

-- a divisor of 0 traps; quotients are truncated towards zero
abbrev pub divided : ℤ → ℤ → Outcome
divided a b = cond (is_zero b) (Err Zero) (fitting (int_div a b))

-- what a quotient that is truncated towards zero leaves over; a divisor of 0 traps
abbrev pub remainder : ℤ → ℤ → Outcome
remainder a b = cond (is_zero b) (Err Zero) (Ok (int_rem a b))

-- an operator on two values
abbrev pub applied : Op → ℤ → ℤ → Outcome
applied Or a b = Ok (truth (not (is_zero b)))
applied And a b = Ok (truth (not (is_zero b)))
applied Eq a b = Ok (truth (int_eq a b))
applied Ne a b = Ok (truth (not (int_eq a b)))
applied Lt a b = Ok (truth (int_lt a b))
applied Le a b = Ok (truth (int_le a b))
applied Gt a b = Ok (truth (int_lt b a))
applied Ge a b = Ok (truth (int_le b a))
applied Add a b = fitting (a +ℤ b)
applied Sub a b = fitting (a -ℤ b)
applied Mul a b = fitting (a *ℤ b)
applied Div a b = divided a b
applied Rem a b = remainder a b

-- The left value alone decides where `and` meets 0 and `or` meets another number.
abbrev pub decided : Op → ℤ → Option ℤ
decided Or a = cond (is_zero a) None (Some (pos 1))
decided And a = cond (is_zero a) (Some (pos 0)) None
decided Eq a = None
decided Ne a = None
decided Lt a = None
decided Le a = None
decided Gt a = None
decided Ge a = None
decided Add a = None
decided Sub a = None
decided Mul a = None
decided Div a = None
decided Rem a = None

-- the right value counts only where the left one alone has not decided
abbrev pub unless_decided : Option ℤ → Op → ℤ → Outcome → Outcome
unless_decided (Some v) op a right = Ok v
unless_decided None op a right = and_then right (applied op a)

-- an operator on two operands, the left one first
abbrev pub operated : Op → Outcome → Outcome → Outcome
operated op left right = and_then left (λ a. unless_decided (decided op a) op a right)

-- an element is there from 0 to the array's size less one
abbrev pub index_in : List ℤ → ℤ → Result ℕ Cause
index_in values (pos n) = cond (nat_lt n (length values)) (Ok n) (Err Index)
index_in values (negsuc n) = Err Index

-- what values lie at a place; a name that no accepted program leaves unknown counts as 0
abbrev pub number_at : List ℤ → ℕ → ℤ
number_at values n = unwrap_or (slice_get values n) (pos 0)

-- the element of an array at an index, or the trap of the index
abbrev pub element_at : List ℤ → Outcome → Outcome
element_at values index = and_then index (λ i. and_then (index_in values i) (λ n. Ok (number_at values n)))

-- the numbers that quantified names stand for, the innermost first
abbrev pub Counters : Type 0
Counters = List (List ℕ × ℤ)

-- the number that a quantified name stands for, if it is such a name
abbrev pub counter_of : Counters → List ℕ → Option ℤ
counter_of [] x = None
counter_of ((y, v) ∷ counters) x = cond (same_name y x) (Some v) (counter_of counters x)

-- that number, or else the number of a variable
abbrev pub counter_or : Option ℤ → ℤ → ℤ
counter_or None v = v
counter_or (Some n) v = n

-- so many numbers, or the trap `range` where a quantified expression may not go over so many
abbrev pub few_numbers : ℕ → Result ℕ Cause
few_numbers n = cond (nat_lt MOST_QUANTIFIED n) (Err Range) (Ok n)

-- how many numbers lie from a to b
abbrev pub span : ℤ → ℤ → Result ℕ Cause
span a b = cond (int_lt b a) (Ok 0) (few_numbers (natural (b -ℤ a) + 1))

-- 1 if all of them hold, else 0; the first that does not hold decides.
abbrev pub every_from : ℕ → ℤ → (ℤ → Outcome) → Outcome
every_from zero a f = Ok (pos 1)
every_from (suc n) a f = and_then (f a) (λ v. cond (is_zero v) (Ok (pos 0)) (every_from n (a +ℤ pos 1) f))

-- 1 if some of so many numbers from a on holds, else 0; the first that holds decides
abbrev pub some_from : ℕ → ℤ → (ℤ → Outcome) → Outcome
some_from zero a f = Ok (pos 0)
some_from (suc n) a f = and_then (f a) (λ v. cond (is_zero v) (some_from n (a +ℤ pos 1) f) (Ok (pos 1)))

-- a total and the sum over so many numbers from a on, each step of which must fit into 64 bits
abbrev pub sum_from : ℕ → ℤ → (ℤ → Outcome) → ℤ → Outcome
sum_from zero a f total = Ok total
sum_from (suc n) a f total = and_then (f a) (λ v. and_then (fitting (total +ℤ v)) (sum_from n (a +ℤ pos 1) f))

-- a quantified expression over so many numbers from a on
abbrev pub quantified : Quantifier → ℕ → ℤ → (ℤ → Outcome) → Outcome
quantified Every n a f = every_from n a f
quantified Any n a f = some_from n a f
quantified Total n a f = sum_from n a f (pos 0)

-- a quantified expression over all numbers from a low value to a high one
abbrev pub over_span : Quantifier → Outcome → Outcome → (ℤ → Outcome) → Outcome
over_span kind low high f = and_then low (λ a. and_then high (λ b. and_then (span a b) (λ n. quantified kind n a f)))

-- The value of an expression in an environment, with the environment that `prior` reads and the counters.
abbrev mutual
  -- the value of an expression, where `prior` reads the variables just before the block was entered (Randell 1975)
  pub value : Environment → Environment → Counters → Expression → Outcome
  value env prior counters (Literal number) = Ok number.value
  value env prior counters (Variable reference) = read env prior counters env counters reference
  value env prior counters (Former place reference) = read env prior counters prior [] reference
  value env prior counters (Minus operand) = and_then (value env prior counters operand) (λ a. fitting (neg_ℤ a))
  value env prior counters (Negation operand) = and_then (value env prior counters operand) (λ a. Ok (truth (is_zero a)))
  value env prior counters (Chained first links) = chained env prior counters (value env prior counters first) links
  value env prior counters (Quantification kind place name low high body) =
      over_span kind (value env prior counters low) (value env prior counters high) (λ n. value env prior ((name.text, n) ∷ counters) body)

  -- A reference is looked up in one environment, with the counters that count there; its index has its present value.
  pub read : Environment → Environment → Counters → Environment → Counters → Reference → Outcome
  read env prior counters there names (Refer x Scalar) =
      Ok (counter_or (counter_of names x.text) (number_at (values_of there x.text) 0))
  read env prior counters there names (Refer x (Element index)) =
      element_at (values_of there x.text) (value env prior counters index)

  -- operators of one level, from left to right
  pub chained : Environment → Environment → Counters → Outcome → Links → Outcome
  chained env prior counters left NoLink = left
  chained env prior counters left (Linked op right links) =
      chained env prior counters (operated op left (value env prior counters right)) links
