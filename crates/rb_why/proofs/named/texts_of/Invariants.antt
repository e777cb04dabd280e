use Rattle.std.proofs.Common.{◌≡◌, ◌++◌, Bor, List, ℕ, length, map}
use Rattle.rb_lex.specs.Reader.{lexeme_of}
use Rattle.rb_lex.specs.Tokens.{Lexeme}
use Rattle.rb_why.proofs.named.texts_of.Given as goal

-- the texts so far and those of the tokens that are left are all
abbrev pub invariant-loop-rest : goal.invariant-loop-rest
invariant-loop-rest l =
    map (λ (text : Bor (List ℕ)). text.now) l.texts.items ++ map (λ (token : Lexeme). token.text) (map lexeme_of l.rest)
    ≡ map (λ (token : Lexeme). token.text) (map lexeme_of l.tokens)

abbrev pub decreases-loop-rest : goal.decreases-loop-rest
decreases-loop-rest l = length l.rest
