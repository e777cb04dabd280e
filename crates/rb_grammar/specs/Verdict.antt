-- The verdict of a source: its tree, or the first fault that is met as its tokens are read in order.
use Rattle.std.specs.Prelude.{◌≡◌, ℕ, List, [], ◌∷◌, ◌++◌}
use Rattle.rb_base.specs.declared.place.Place.{Place}
use Rattle.rb_base.specs.declared.fault.SourceFault.{SourceFault}
use Rattle.rb_base.specs.declared.fault.FaultName.TheVariants.{Y1, Y2}
use Rattle.rb_base.specs.declared.fault.Refusal.{Refusal}
use Rattle.rb_base.specs.declared.fault.Refusal.TheVariants.{Fault, Memory}
use Rattle.rb_lex.specs.Tokens.{Lexeme, Ending, AtEnd, AtFault, Tokens}
use Rattle.rb_grammar.specs.Brackets.{HasFewOpen}
use Rattle.rb_grammar.specs.Grammar.{DerivesTree}
use Rattle.rb_grammar.specs.Laws.{GoesOn}
use Rattle.rb_syntax.specs.Tree.{Tree}

-- these tokens may be read in order: they begin some text that derives a tree, and nowhere are too many brackets open
pub record MayBegin (tokens : List Lexeme) : Type 0 where
  pub goes_on : GoesOn tokens
  pub few_open : HasFewOpen tokens

-- the text derives this tree, and nowhere are too many brackets open
pub record HasTree (bytes : List ℕ) (tree : Tree) : Type 0 where
  pub tokens : List Lexeme
  pub at : Place
  pub cut : Tokens bytes tokens (AtEnd at)
  pub derived : DerivesTree tree tokens
  pub few_open : HasFewOpen tokens

-- what comes after tokens that may begin a text is no token (X1 to X5)
pub record HasBadToken (bytes : List ℕ) (fault : SourceFault) : Type 0 where
  pub tokens : List Lexeme
  pub cut : Tokens bytes tokens (AtFault fault)
  pub begun : MayBegin tokens

-- the first token with which the text no longer begins any text of the grammar (Y1)
pub record HasStrayToken (bytes : List ℕ) (fault : SourceFault) : Type 0 where
  pub before : List Lexeme
  pub after : List Lexeme
  pub token : Lexeme
  pub ending : Ending
  pub cut : Tokens bytes (before ++ token ∷ after) ending
  pub begun : MayBegin before
  pub stray : GoesOn (before ++ token ∷ []) → ⊥
  pub is : fault ≡ record { name = Y1; place = token.place }

-- the text ends before it derives a tree (Y1, after its last byte)
pub record EndsEarly (bytes : List ℕ) (fault : SourceFault) : Type 0 where
  pub tokens : List Lexeme
  pub at : Place
  pub cut : Tokens bytes tokens (AtEnd at)
  pub begun : MayBegin tokens
  pub no_tree : (tree : Tree) → DerivesTree tree tokens → ⊥
  pub is : fault ≡ record { name = Y1; place = at }

-- an opening bracket with which the text goes on, but with which too many are open (Y2)
pub record HasDeepBracket (bytes : List ℕ) (fault : SourceFault) : Type 0 where
  pub before : List Lexeme
  pub after : List Lexeme
  pub token : Lexeme
  pub ending : Ending
  pub cut : Tokens bytes (before ++ token ∷ after) ending
  pub begun : MayBegin before
  pub goes_on : GoesOn (before ++ token ∷ [])
  pub deep : HasFewOpen (before ++ token ∷ []) → ⊥
  pub is : fault ≡ record { name = Y2; place = token.place }

-- the first fault of a text
pub data RefusedFor (bytes : List ℕ) (fault : SourceFault) : Type 0 where
  bad_token : HasBadToken bytes fault → RefusedFor bytes fault
  stray_token : HasStrayToken bytes fault → RefusedFor bytes fault
  early_end : EndsEarly bytes fault → RefusedFor bytes fault
  deep_bracket : HasDeepBracket bytes fault → RefusedFor bytes fault

-- what a parser's refusal says; want of memory says nothing
abbrev pub IsRefusal : List ℕ → Refusal → Type 0
IsRefusal bytes (Fault fault) = RefusedFor bytes fault
IsRefusal bytes Memory = Unit {0}
