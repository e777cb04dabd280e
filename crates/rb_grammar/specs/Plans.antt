-- Plans: what is still wanted of the tokens left, and the tree that comes of it. A plan is done, or wants a token of one
-- terminal, or wants a part; what it wants next depends on what it was given.
use Rattle.std.specs.Prelude.{ℕ}
use Rattle.rb_lex.specs.Tokens.{Lexeme}
use Rattle.rb_grammar.specs.declared.terminal.Terminal.{Terminal}
use Rattle.rb_grammar.specs.Parts.{Part}
pub use Rattle.rb_grammar.specs.Values.{Value}

-- a token, and how many names and recoveries came before it
pub record Seen : Type 0 where
  pub token : Lexeme
  pub names : ℕ
  pub blocks : ℕ

-- what is still wanted, and the value that comes of it
pub data Plan (A : Type 0) : Type 0 where
  Done : A → Plan A
  Token : Terminal → (Seen → Plan A) → Plan A
  Call : (part : Part) → (Value part → Plan A) → Plan A

-- one plan, and then another with what the first gave
abbrev pub bind : {A B : Type 0} → Plan A → (A → Plan B) → Plan B
bind (Done v) k = k v
bind (Token terminal f) k = Token terminal (λ seen. bind (f seen) k)
bind (Call part f) k = Call part (λ v. bind (f v) k)
