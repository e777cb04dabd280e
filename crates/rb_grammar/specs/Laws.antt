-- Laws of the grammar.
use Rattle.std.specs.Prelude.{◌≡◌, ℕ, ◌+◌, ◌*◌, ◌≤◌, List, [], ◌∷◌, ◌++◌, length, map, take, AllPairs}
use Rattle.std.specs.List.Sorted.{IsPermutation}
use Rattle.rb_lex.specs.Laws.{IsBefore}
use Rattle.rb_lex.specs.Tokens.{Lexeme, Ending, Tokens}
use Rattle.rb_grammar.specs.Brackets.{open_in}
use Rattle.rb_grammar.specs.Depth.{depth}
use Rattle.rb_grammar.specs.Grammar.{DerivesTree, start_of}
use Rattle.rb_grammar.specs.Machine.{Refused, run, whole}
use Rattle.rb_grammar.specs.Order.{NamesInText, tree_names, tree_recoveries, names_from, recoveries_from}
use Rattle.rb_syntax.specs.Tree.{Tree}

-- a list of tokens derives one tree at most
abbrev pub HasOneTree : Type 0
HasOneTree = (tokens : List Lexeme) (t u : Tree) → DerivesTree t tokens → DerivesTree u tokens → t ≡ u

-- a list of tokens goes on: some list that begins with it derives a tree
abbrev pub GoesOn : List Lexeme → Type 0
GoesOn tokens = (more : List Lexeme) × (tree : Tree) × DerivesTree tree (tokens ++ more)

-- where the machine stops at a token, the tokens before it go on, and with it they do not
abbrev pub FirstBadToken : Type 0
FirstBadToken = (before after : List Lexeme) (token : Lexeme) →
    run whole (start_of (before ++ (token ∷ after))) ≡ Refused (token ∷ after) →
    GoesOn before × (GoesOn (before ++ (token ∷ [])) → ⊥)

-- where it stops at the end, all tokens go on, and derive no tree yet
abbrev pub EndsTooEarly : Type 0
EndsTooEarly = (tokens : List Lexeme) → run whole (start_of tokens) ≡ Refused [] → GoesOn tokens × ((tree : Tree) → DerivesTree tree tokens → ⊥)

-- numbers that count up from one
abbrev pub CountUp : ℕ → List ℕ → Type 0
CountUp n [] = Unit {0}
CountUp n (m ∷ others) = (m ≡ n) × CountUp (n + 1) others

-- from left to right the names among the tokens are those of the tree, with its channels and conversations as the text
-- mixes them
abbrev pub NamesInOrder : Type 0
NamesInOrder = (tokens : List Lexeme) (tree : Tree) → DerivesTree tree tokens → NamesInText tree (names_from 0 tokens)

-- so the tree has these names and no others, each once
abbrev pub NamesAreThose : Type 0
NamesAreThose = (tokens : List Lexeme) (tree : Tree) → DerivesTree tree tokens → IsPermutation (tree_names tree) (names_from 0 tokens)

-- they are numbered from 0 in the order of the text, and the tree tells how many there are
abbrev pub NamesCountUp : Type 0
NamesCountUp = (tokens : List Lexeme) (tree : Tree) → DerivesTree tree tokens →
    CountUp 0 (map (λ name. name.id) (names_from 0 tokens)) × (tree.names ≡ length (tree_names tree))

-- each stands before all later ones
abbrev pub NamesRise : Type 0
NamesRise = (bytes : List ℕ) (tokens : List Lexeme) (ending : Ending) → Tokens bytes tokens ending →
    AllPairs (λ x y. IsBefore x.place y.place) (names_from 0 tokens)

-- from left to right the recovery blocks of a tree are the words `ensure` among its tokens
abbrev pub RecoveriesInOrder : Type 0
RecoveriesInOrder = (tokens : List Lexeme) (tree : Tree) → DerivesTree tree tokens → tree_recoveries tree ≡ recoveries_from 0 tokens

-- they are numbered from 0 in this order, and the tree tells how many there are
abbrev pub RecoveriesCountUp : Type 0
RecoveriesCountUp = (tokens : List Lexeme) (tree : Tree) → DerivesTree tree tokens →
    CountUp 0 (map (λ recovery. recovery.number) (tree_recoveries tree)) × (tree.blocks ≡ length (tree_recoveries tree))

-- each stands before all later ones
abbrev pub RecoveriesRise : Type 0
RecoveriesRise = (bytes : List ℕ) (tokens : List Lexeme) (ending : Ending) (tree : Tree) → Tokens bytes tokens ending →
    DerivesTree tree tokens → AllPairs (λ x y. IsBefore x.place y.place) (tree_recoveries tree)

-- with at most n brackets open at any token, a tree is no deeper than 9 for each, and one more
abbrev pub DepthIsBounded : Type 0
DepthIsBounded = (tokens : List Lexeme) (tree : Tree) (n : ℕ) → DerivesTree tree tokens →
    ((k : ℕ) → open_in (take k tokens) ≤ n) → depth tree ≤ 9 * n + 1

-- and with each number of brackets but 0 some tree is just so deep
abbrev pub DepthIsReached : Type 0
DepthIsReached = (n : ℕ) → (tokens : List Lexeme) × (tree : Tree) × DerivesTree tree tokens ×
    ((k : ℕ) → open_in (take k tokens) ≤ n + 1) × (depth tree ≡ 9 * (n + 1) + 1)
