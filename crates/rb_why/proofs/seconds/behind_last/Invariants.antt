use Rattle.std.proofs.Common.{◌≡◌, Bor, List, ℕ, [], length, map}
use Rattle.rb_lex.specs.Reader.{lexeme_of}
use Rattle.rb_why.specs.Seconds.{behind_last}
use Rattle.rb_why.proofs.seconds.behind_last.Given as goal

-- what is found among the rest, or was found before, is what is found among all
abbrev pub invariant-loop-rest : goal.invariant-loop-rest
invariant-loop-rest l =
    let words : List (List ℕ) = map (λ (word : Bor (List ℕ)). word.now) l.words in
    behind_last words (map lexeme_of l.rest) (map lexeme_of l.found) ≡ behind_last words (map lexeme_of l.tokens) []

abbrev pub decreases-loop-rest : goal.decreases-loop-rest
decreases-loop-rest l = length l.rest
