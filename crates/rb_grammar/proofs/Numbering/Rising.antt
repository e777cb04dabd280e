-- The names and recovery blocks of a tree stand one behind the other in the text, since its tokens do.
use Rattle.std.proofs.Common.{ℕ, zero, suc, List, [], ◌∷◌, Option, Some, sym, subst, arith}
use Rattle.std.specs.Prelude.{All, AllPairs}
use Rattle.std.proofs.lemmas.List.Elements.{All-nil, All-cons, All-head, All-tail}
use Rattle.std.proofs.lemmas.List.Kept.{AllPairs-cons}
use Rattle.rb_base.specs.declared.place.Place.{Place}
use Rattle.rb_lex.proofs.Standing.{tokens_rise}
use Rattle.rb_lex.specs.Laws.{IsBefore}
use Rattle.rb_lex.specs.Tokens.{Lexeme}
use Rattle.rb_grammar.specs.declared.terminal.Terminal.{Terminal}
use Rattle.rb_grammar.specs.declared.terminal.Terminal.TheVariants as terminals
use Rattle.rb_grammar.specs.Laws.{NamesRise, RecoveriesRise}
use Rattle.rb_grammar.specs.Machine.{names_after, blocks_after}
use Rattle.rb_grammar.specs.Order.{Telling, recovery_at, named_by, token_told, told_from, names_alone, recoveries_alone}
use Rattle.rb_grammar.specs.Terminals.{terminal_of}
use Rattle.rb_grammar.proofs.Numbering.Numbered.{recoveries_in_order}
use Rattle.rb_syntax.specs.Tree.{Identifier}

-- the first element of a list with all later ones, and the later ones among themselves
pairs_first : {X : Type 0} (R : X → X → Type 0) (x : X) (xs : List X) → AllPairs R (x ∷ xs) → All (R x) xs
pairs_first R x xs a = λ k d h. a zero (suc k) d (omega arith) (omega (arith, h))

pairs_later : {X : Type 0} (R : X → X → Type 0) (x : X) (xs : List X) → AllPairs R (x ∷ xs) → AllPairs R xs
pairs_later R x xs a = λ i j d h k. a (suc i) (suc j) d (omega (arith, h)) (omega (arith, k))

no_pairs : {X : Type 0} (R : X → X → Type 0) → AllPairs R []
no_pairs R = λ i j d h k. absurd (omega (arith, k))

abbrev TokenBefore : Lexeme → Lexeme → Type 0
TokenBefore t u = IsBefore t.place u.place

-- what is told of tokens rises where a name and a recovery block stand at their tokens and come before the rest
module _ {A : Type 0} (telling : Telling A) (place : A → Place)
    (later_name : (p : Place) (name : Identifier) (rest : List A) → IsBefore p name.place → All (λ x. IsBefore p (place x)) rest →
    All (λ x. IsBefore p (place x)) (telling.name name rest))
    (later_recovery : (p : Place) (number : ℕ) (q : Place) (rest : List A) → IsBefore p q → All (λ x. IsBefore p (place x)) rest →
    All (λ x. IsBefore p (place x)) (telling.recovery number q rest))
    (rising_name : (name : Identifier) (rest : List A) → All (λ x. IsBefore name.place (place x)) rest →
    AllPairs (λ x y. IsBefore (place x) (place y)) rest → AllPairs (λ x y. IsBefore (place x) (place y)) (telling.name name rest))
    (rising_recovery : (number : ℕ) (q : Place) (rest : List A) → All (λ x. IsBefore q (place x)) rest →
    AllPairs (λ x y. IsBefore (place x) (place y)) rest → AllPairs (λ x y. IsBefore (place x) (place y))
    (telling.recovery number q rest)) where
  -- what stands before all tokens stands before all that is told of them
  later_token : (p : Place) (first : Option Terminal) (token : Lexeme) (n m : ℕ) (rest : List A) → IsBefore p token.place →
      All (λ x. IsBefore p (place x)) rest → All (λ x. IsBefore p (place x)) (token_told telling first token n m rest)
  later_token p (Some terminals.Name) token n m rest h later = later_name p (named_by token n) rest h later
  later_token p (Some terminals.Ensure) token n m rest h later = later_recovery p m token.place rest h later
  later_token p _ token n m rest h later = later

  all_later : (p : Place) (n m : ℕ) (tokens : List Lexeme) → All (λ t. IsBefore p t.place) tokens →
      All (λ x. IsBefore p (place x)) (told_from telling n m tokens)
  all_later p n m [] all = All-nil (λ x. IsBefore p (place x))
  all_later p n m (token ∷ tokens) all =
      later_token p (terminal_of token) token n m _ (All-head (λ t. IsBefore p t.place) token tokens all)
      (all_later p (names_after (terminal_of token) n) (blocks_after (terminal_of token) m) tokens
      (All-tail (λ t. IsBefore p t.place) token tokens all))

  rising_token : (first : Option Terminal) (token : Lexeme) (n m : ℕ) (rest : List A) →
      All (λ x. IsBefore token.place (place x)) rest → AllPairs (λ x y. IsBefore (place x) (place y)) rest →
      AllPairs (λ x y. IsBefore (place x) (place y)) (token_told telling first token n m rest)
  rising_token (Some terminals.Name) token n m rest later all = rising_name (named_by token n) rest later all
  rising_token (Some terminals.Ensure) token n m rest later all = rising_recovery m token.place rest later all
  rising_token _ token n m rest later all = all

  rising : (n m : ℕ) (tokens : List Lexeme) → AllPairs TokenBefore tokens →
      AllPairs (λ x y. IsBefore (place x) (place y)) (told_from telling n m tokens)
  rising n m [] all = no_pairs (λ x y. IsBefore (place x) (place y))
  rising n m (token ∷ tokens) all =
      let k : ℕ = names_after (terminal_of token) n in
      let l : ℕ = blocks_after (terminal_of token) m in
      rising_token (terminal_of token) token n m (told_from telling k l tokens)
      (all_later token.place k l tokens (pairs_first TokenBefore token tokens all))
      (rising k l tokens (pairs_later TokenBefore token tokens all))

pub names_rise : NamesRise
names_rise bytes tokens ending t =
    rising names_alone (λ name. name.place)
    (λ p name rest h later. All-cons (λ x. IsBefore p x.place) name rest h later)
    (λ p number q rest h later. later)
    (λ name rest later all. AllPairs-cons (λ x y. IsBefore x.place y.place) name rest later all)
    (λ number q rest later all. all)
    0 0 tokens (tokens_rise bytes tokens ending t)

pub recoveries_rise : RecoveriesRise
recoveries_rise bytes tokens ending tree t d =
    subst (λ recoveries. AllPairs (λ x y. IsBefore x.place y.place) recoveries) (sym (recoveries_in_order tokens tree d))
    (rising recoveries_alone (λ recovery. recovery.place)
    (λ p name rest h later. later)
    (λ p number q rest h later. All-cons (λ x. IsBefore p x.place) (recovery_at number q) rest h later)
    (λ name rest later all. all)
    (λ number q rest later all. AllPairs-cons (λ x y. IsBefore x.place y.place) (recovery_at number q) rest later all)
    0 0 tokens (tokens_rise bytes tokens ending t))
