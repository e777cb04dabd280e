-- How deep a tree may still become, by how many brackets may still be opened.
use Rattle.std.proofs.Common.{◌≡◌, ℕ, zero, suc, ◌+◌, ◌-◌, ◌*◌, ◌≤◌, max, Bool, true, false, cond, ◌∷◌, pos, Some, refl, subst, ◌∙◌, arith}
use Rattle.std.proofs.Math.Nat.{max-le}
use Rattle.std.specs.Ordering.{int_eq}
use Rattle.std.specs.Prelude.{take}
use Rattle.rb_base.specs.declared.place.Place.{Place}
use Rattle.rb_lex.specs.Tokens.{Lexeme}
use Rattle.rb_grammar.specs.Brackets.{open_after, open_from}
use Rattle.rb_grammar.specs.declared.level.Level.{Level}
use Rattle.rb_grammar.specs.declared.terminal.Terminal.{Terminal}
use Rattle.rb_grammar.specs.declared.terminal.Terminal.TheVariants as terminals
use Rattle.rb_grammar.specs.Grammar.{Point, Takes, TakesName, TakesNumber, TakesText, TakesEnsure, TakesOperator, TakesComparison, TakesQuantifier}
use Rattle.rb_grammar.specs.Operators.{operator, comparison, quantifier}
use Rattle.rb_grammar.specs.Terminals.{terminal_of, number_terminal}
use Rattle.rb_grammar.proofs.Takes.{counts}
use Rattle.rb_syntax.specs.declared.expression.Number.{Number}
use Rattle.rb_syntax.specs.declared.expression.Op.{Op}
use Rattle.rb_syntax.specs.declared.expression.Quantifier.{Quantifier}
use Rattle.rb_syntax.specs.Tree.{Identifier, PrintItem}

-- whether tokens of a terminal are brackets, and which way
pub data Bracket : Type 0 where
  Opening : Bracket
  Closing : Bracket
  Neither : Bracket

abbrev pub bracket : Terminal → Bracket
bracket terminals.OpenParen = Opening
bracket terminals.OpenBrace = Opening
bracket terminals.OpenBracket = Opening
bracket terminals.CloseParen = Closing
bracket terminals.CloseBrace = Closing
bracket terminals.CloseBracket = Closing
bracket _ = Neither

after_opening : (terminal : Terminal) (o : ℕ) → bracket terminal ≡ Opening → open_after (Some terminal) o ≡ o + 1
after_opening terminals.OpenParen o e = refl
after_opening terminals.OpenBrace o e = refl
after_opening terminals.OpenBracket o e = refl
after_opening terminals.CloseParen o e = absurd cc
after_opening terminals.CloseBrace o e = absurd cc
after_opening terminals.CloseBracket o e = absurd cc
after_opening _ o e = absurd cc

after_closing : (terminal : Terminal) (o : ℕ) → bracket terminal ≡ Closing → open_after (Some terminal) o ≡ o - 1
after_closing terminals.CloseParen o e = refl
after_closing terminals.CloseBrace o e = refl
after_closing terminals.CloseBracket o e = refl
after_closing terminals.OpenParen o e = absurd cc
after_closing terminals.OpenBrace o e = absurd cc
after_closing terminals.OpenBracket o e = absurd cc
after_closing _ o e = absurd cc

after_neither : (terminal : Terminal) (o : ℕ) → bracket terminal ≡ Neither → open_after (Some terminal) o ≡ o
after_neither terminals.OpenParen o e = absurd cc
after_neither terminals.OpenBrace o e = absurd cc
after_neither terminals.OpenBracket o e = absurd cc
after_neither terminals.CloseParen o e = absurd cc
after_neither terminals.CloseBrace o e = absurd cc
after_neither terminals.CloseBracket o e = absurd cc
after_neither _ o e = refl

-- with o brackets open at a point, no more than n are open at any later one
abbrev pub HasRoom : ℕ → ℕ → Point → Type 0
HasRoom n o a = (k : ℕ) → open_from o (take k a.left) ≤ n

-- as many are open at one point as at another
pub record Keeps (a b : Point) : Type 0 where
  pub is : (n o : ℕ) → HasRoom n o a → HasRoom n o b

-- one more is open at the second point
pub record Opens (a b : Point) : Type 0 where
  pub is : (n o : ℕ) → HasRoom n o a → HasRoom n (o + 1) b

-- one less is open at the second point
pub record Closes (a b : Point) : Type 0 where
  pub is : (n o : ℕ) → HasRoom n (o + 1) a → HasRoom n o b

-- what stands between two points is so deep at most: 9 for each bracket that may still be opened, and so much more
pub record Deep (d extra : ℕ) (a b : Point) : Type 0 where
  pub bound : (n o : ℕ) → HasRoom n o a → d ≤ 9 * (n - o) + extra
  pub keeps : Keeps a b

-- over one token
stepped : (terminal : Terminal) (token : Lexeme) (a b : Point) (n o m : ℕ) → a.left ≡ token ∷ b.left →
    terminal_of token ≡ Some terminal → open_after (Some terminal) o ≡ m → HasRoom n o a → HasRoom n m b
stepped terminal token a b n o m stands fits e room =
    λ k. subst (λ p. open_from p (take k b.left) ≤ n) e (subst (λ t. open_from (open_after t o) (take k b.left) ≤ n) fits
    (subst (λ left. open_from o (take (suc k) left) ≤ n) stands (room (suc k))))

kept : (terminal : Terminal) (token : Lexeme) (a b : Point) → a.left ≡ token ∷ b.left → terminal_of token ≡ Some terminal →
    bracket terminal ≡ Neither → Keeps a b
kept terminal token a b stands fits e = record { is = λ n o room. stepped terminal token a b n o o stands fits (after_neither terminal o e) room }

pub past : {terminal : Terminal} {a b : Point} → Takes terminal a b → bracket terminal ≡ Neither → Keeps a b
past {terminal} {a} {b} t e = kept terminal t.token a b t.stands t.fits e

pub opens : {terminal : Terminal} {a b : Point} → Takes terminal a b → bracket terminal ≡ Opening → Opens a b
opens {terminal} {a} {b} t e = record {
  is = λ n o room. stepped terminal t.token a b n o (o + 1) t.stands t.fits (after_opening terminal o e) room;
}

closed : (terminal : Terminal) (o : ℕ) → bracket terminal ≡ Closing → open_after (Some terminal) (o + 1) ≡ o
closed terminal o e = after_closing terminal (o + 1) e ∙ (let less : o + 1 - 1 ≡ o = omega arith in less)

pub closes : {terminal : Terminal} {a b : Point} → Takes terminal a b → bracket terminal ≡ Closing → Closes a b
closes {terminal} {a} {b} t e = record {
  is = λ n o room. stepped terminal t.token a b n (o + 1) o t.stands t.fits (closed terminal o e) room;
}

pub past_name : {name : Identifier} {a b : Point} → TakesName name a b → Keeps a b
past_name {a = a} {b = b} t = kept terminals.Name t.token a b t.stands t.fits refl

two_or_another : (test : Bool) → bracket (cond test terminals.Two terminals.Number) ≡ Neither
two_or_another true = refl
two_or_another false = refl

pub past_number : {number : Number} {a b : Point} → TakesNumber number a b → Keeps a b
past_number {a = a} {b = b} t =
    kept (number_terminal t.value) t.token a b t.stands (counts t) (two_or_another (int_eq t.value (pos 2)))

pub past_text : {item : PrintItem} {a b : Point} → TakesText item a b → Keeps a b
past_text {a = a} {b = b} t = kept terminals.Text t.token a b t.stands t.fits refl

pub past_ensure : {number : ℕ} {place : Place} {a b : Point} → TakesEnsure number place a b → Keeps a b
past_ensure {a = a} {b = b} t = kept terminals.Ensure t.token a b t.stands t.fits refl

operator_neither : (terminal : Terminal) (level : Level) (op : Op) → operator (Some terminal) level ≡ Some op → bracket terminal ≡ Neither
operator_neither terminals.OpenParen level op e = absurd cc
operator_neither terminals.OpenBrace level op e = absurd cc
operator_neither terminals.OpenBracket level op e = absurd cc
operator_neither terminals.CloseParen level op e = absurd cc
operator_neither terminals.CloseBrace level op e = absurd cc
operator_neither terminals.CloseBracket level op e = absurd cc
operator_neither _ level op e = refl

comparison_neither : (terminal : Terminal) (op : Op) → comparison (Some terminal) ≡ Some op → bracket terminal ≡ Neither
comparison_neither terminals.OpenParen op e = absurd cc
comparison_neither terminals.OpenBrace op e = absurd cc
comparison_neither terminals.OpenBracket op e = absurd cc
comparison_neither terminals.CloseParen op e = absurd cc
comparison_neither terminals.CloseBrace op e = absurd cc
comparison_neither terminals.CloseBracket op e = absurd cc
comparison_neither _ op e = refl

quantifier_neither : (terminal : Terminal) (kind : Quantifier) → quantifier (Some terminal) ≡ Some kind → bracket terminal ≡ Neither
quantifier_neither terminals.OpenParen kind e = absurd cc
quantifier_neither terminals.OpenBrace kind e = absurd cc
quantifier_neither terminals.OpenBracket kind e = absurd cc
quantifier_neither terminals.CloseParen kind e = absurd cc
quantifier_neither terminals.CloseBrace kind e = absurd cc
quantifier_neither terminals.CloseBracket kind e = absurd cc
quantifier_neither _ kind e = refl

pub past_operator : {level : Level} {op : Op} {a b : Point} → TakesOperator level op a b → Keeps a b
past_operator {level = level} {op = op} t = past t.takes (operator_neither t.terminal level op t.is)

pub past_comparison : {op : Op} {a b : Point} → TakesComparison op a b → Keeps a b
past_comparison {op = op} t = past t.takes (comparison_neither t.terminal op t.is)

pub past_quantifier : {kind : Quantifier} {place : Place} {a b : Point} → TakesQuantifier kind place a b → Keeps a b
past_quantifier {kind = kind} t = past t.takes.takes (quantifier_neither t.terminal kind t.is)

-- no step, and one after the other
pub none : {a : Point} → Keeps a a
none = record { is = λ n o room. room }

pub then : {a b c : Point} → Keeps a b → Keeps b c → Keeps a c
then s t = record { is = λ n o room. t.is n o (s.is n o room) }

-- brackets around
pub around : {a b c d : Point} → Opens a b → Keeps b c → Closes c d → Keeps a d
around s t u = record { is = λ n o room. u.is n o (t.is n (o + 1) (s.is n o room)) }

-- what has no depth
pub flat : {extra : ℕ} {a b : Point} → Keeps a b → Deep 0 extra a b
flat t = record { bound = λ n o room. omega arith; keeps = t }

pub nothing : {extra : ℕ} {a : Point} → Deep 0 extra a a
nothing = flat none

-- behind tokens, and before them
pub behind : {d extra : ℕ} {a b c : Point} → Keeps a b → Deep d extra b c → Deep d extra a c
behind s t = record { bound = λ n o room. t.bound n o (s.is n o room); keeps = then s t.keeps }

pub before : {d extra : ℕ} {a b c : Point} → Deep d extra a b → Keeps b c → Deep d extra a c
before s t = record { bound = s.bound; keeps = then s.keeps t }

-- one part after the other
pub both : {d f extra : ℕ} {a b c : Point} → Deep d extra a b → Deep f extra b c → Deep (max d f) extra a c
both s t = record {
  bound = λ n o room. max-le (s.bound n o room) (t.bound n o (s.keeps.is n o room));
  keeps = then s.keeps t.keeps;
}

-- with more left over
pub wider : {d less extra : ℕ} {a b : Point} → Deep d less a b → less ≤ extra → Deep d extra a b
wider s h = record { bound = λ n o room. omega (arith, s.bound n o room, h); keeps = s.keeps }

-- inside one more
pub more : {d extra : ℕ} {a b : Point} → Deep d extra a b → Deep (1 + d) (extra + 1) a b
more s = record { bound = λ n o room. omega (arith, s.bound n o room); keeps = s.keeps }

-- inside brackets
pub inside : {d less extra : ℕ} {a b c e : Point} → Opens a b → Deep d less b c → Closes c e → less ≤ extra + 9 → Deep d extra a e
inside {d} {less} {extra} s t u h = record {
  bound = λ n o room.
      let room_left : o + 1 ≤ n = s.is n o room zero in
      let bound : d ≤ 9 * (n - (o + 1)) + less = t.bound n (o + 1) (s.is n o room) in
      omega (arith, room_left, bound, h);
  keeps = around s t.keeps u;
}
