-- How many operands the parts of a text still need, by how many brackets may still be opened: four for each, and some more.
use Rattle.std.proofs.Common.{◌≡◌, ℕ, zero, ◌+◌, ◌-◌, ◌*◌, ◌≤◌, max, Some, ap, arith}
use Rattle.std.proofs.Math.Nat.{max-le}
use Rattle.rb_grammar.specs.declared.level.Level.{Level}
use Rattle.rb_grammar.specs.declared.level.Level.TheVariants as levels
use Rattle.rb_grammar.specs.declared.terminal.Terminal.{Terminal}
use Rattle.rb_grammar.specs.declared.terminal.Terminal.TheVariants as terminals
use Rattle.rb_grammar.specs.Grammar.{Point, chain}
use Rattle.rb_grammar.specs.Operators.{operator}
use Rattle.rb_grammar.proofs.Depth.Room as room
use Rattle.rb_grammar.proofs.Depth.Room.{Keeps, Opens, Closes, around, none, then}
use Rattle.rb_syntax.specs.declared.expression.Op.{Op}
use Rattle.rb_syntax.specs.declared.expression.Op.TheVariants as ops
use Rattle.rb_syntax.specs.Tree.{Expression, Links, NoLink, Linked}
use Rattle.rb_code.specs.Agreement.Operands.{beside}
use Rattle.rb_prepare.proofs.Operands.Pushed.{operands, links_operands, beside_most}

-- what stands between two points needs so many at most: 4 for each bracket that may still be opened, and so many more
pub record Needs (d extra : ℕ) (a b : Point) : Type 0 where
  pub bound : (n o : ℕ) → room.HasRoom n o a → d ≤ 4 * (n - o) + extra
  pub keeps : Keeps a b

-- what needs none, and what needs one
pub flat : {extra : ℕ} {a b : Point} → Keeps a b → Needs 0 extra a b
flat t = record { bound = λ n o free. omega arith; keeps = t }

pub nothing : {extra : ℕ} {a : Point} → Needs 0 extra a a
nothing = flat none

pub one : {a b : Point} → Keeps a b → Needs 1 1 a b
one t = record { bound = λ n o free. omega arith; keeps = t }

-- behind tokens, and before them
pub behind : {d extra : ℕ} {a b c : Point} → Keeps a b → Needs d extra b c → Needs d extra a c
behind s t = record { bound = λ n o free. t.bound n o (s.is n o free); keeps = then s t.keeps }

pub before : {d extra : ℕ} {a b c : Point} → Needs d extra a b → Keeps b c → Needs d extra a c
before s t = record { bound = s.bound; keeps = then s.keeps t }

-- one part after the other
pub both : {d f extra : ℕ} {a b c : Point} → Needs d extra a b → Needs f extra b c → Needs (max d f) extra a c
both s t = record {
  bound = λ n o free. max-le (s.bound n o free) (t.bound n o (s.keeps.is n o free));
  keeps = then s.keeps t.keeps;
}

-- with more left over
pub wider : {d less extra : ℕ} {a b : Point} → Needs d less a b → less ≤ extra → Needs d extra a b
wider s h = record { bound = λ n o free. omega (arith, s.bound n o free, h); keeps = s.keeps }

-- upon others
pub upon : (k : ℕ) {d less extra : ℕ} {a b : Point} → Needs d less a b → less + k ≤ extra → Needs (d + k) extra a b
upon k s h = record { bound = λ n o free. omega (arith, s.bound n o free, h); keeps = s.keeps }

-- inside brackets
pub inside : {d less extra : ℕ} {a b c e : Point} → Opens a b → Needs d less b c → Closes c e → less ≤ extra + 4 → Needs d extra a e
inside {d} {less} {extra} s t u h = record {
  bound = λ n o free.
      let free_left : o + 1 ≤ n = s.is n o free zero in
      let bound : d ≤ 4 * (n - (o + 1)) + less = t.bound n (o + 1) (s.is n o free) in
      omega (arith, free_left, bound, h);
  keeps = around s t.keeps u;
}

-- how many the operands of a level need outside of brackets, and a chain of them
abbrev pub operand_extra : Level → ℕ
operand_extra levels.Disjunction = 4
operand_extra levels.Conjunction = 4
operand_extra levels.Sum = 2
operand_extra levels.Product = 1

abbrev pub chain_extra : Level → ℕ
chain_extra levels.Disjunction = 4
chain_extra levels.Conjunction = 4
chain_extra levels.Sum = 3
chain_extra levels.Product = 2

pub operand_first : (level : Level) → operand_extra level ≤ chain_extra level
operand_first levels.Disjunction = omega arith
operand_first levels.Conjunction = omega arith
operand_first levels.Sum = omega arith
operand_first levels.Product = omega arith

pub chain_some : (level : Level) → 1 ≤ chain_extra level
chain_some levels.Disjunction = omega arith
chain_some levels.Conjunction = omega arith
chain_some levels.Sum = omega arith
chain_some levels.Product = omega arith

-- `or` and `and` keep no left operand
joins_or : (terminal : Terminal) (op : Op) → operator (Some terminal) levels.Disjunction ≡ Some op → op ≡ ops.Or
joins_or terminals.Or op e = cc
joins_or _ op e = absurd cc

joins_and : (terminal : Terminal) (op : Op) → operator (Some terminal) levels.Conjunction ≡ Some op → op ≡ ops.And
joins_and terminals.And op e = cc
joins_and _ op e = absurd cc

-- a right operand of a level, beside what the level keeps
pub right_extra : (level : Level) (terminal : Terminal) (op : Op) (r : ℕ) → operator (Some terminal) level ≡ Some op
    → beside op r + operand_extra level ≤ r + chain_extra level
right_extra levels.Disjunction terminal op r e =
    let same : beside op r ≡ r = ap (λ o. beside o r) (joins_or terminal op e) in omega arith
right_extra levels.Conjunction terminal op r e =
    let same : beside op r ≡ r = ap (λ o. beside o r) (joins_and terminal op e) in omega arith
right_extra levels.Sum terminal op r e = let most = beside_most op r in omega arith
right_extra levels.Product terminal op r e = let most = beside_most op r in omega arith

-- a right operand, and those behind it
pub linked : (op : Op) {r l less extra : ℕ} {a b c : Point} → beside op r + less ≤ r + extra → 1 ≤ extra → Needs r less a b
    → Needs l extra b c → Needs (max 1 (max (beside op r) l)) extra a c
linked op {r} {l} {less} {extra} more some s t = record {
  bound = λ n o free.
      max-le (omega (arith, some))
      (max-le (let right : r ≤ 4 * (n - o) + less = s.bound n o free in omega arith) (t.bound n o (s.keeps.is n o free)));
  keeps = then s.keeps t.keeps;
}

pub chained : (first : Expression) (links : Links) {extra : ℕ} {a b c : Point} → Needs (operands first) extra a b
    → Needs (links_operands links) extra b c → Needs (operands (chain first links)) extra a c
chained first NoLink s t = before s t.keeps
chained first (Linked op right links) s t = both s t
