use Rattle.std.proofs.Common.{◌≡◌, ◌++◌, Bor, List, ℕ, [], length, map}
use Rattle.rb_lex.specs.Reader.{lexeme_of}
use Rattle.rb_why.specs.Scope.{named_behind}
use Rattle.rb_why.proofs.scope.with_named.Given as goal

-- the names so far and those of the rest are all
abbrev pub invariant-loop-rest : goal.invariant-loop-rest
invariant-loop-rest l =
    let words : List (List ℕ) = map (λ (word : Bor (List ℕ)). word.now) l.words in
    let ends : List (List ℕ) = map (λ (word : Bor (List ℕ)). word.now) l.ends in
    map lexeme_of l.all.items ++ named_behind words ends l.before (map lexeme_of l.rest)
    ≡ map lexeme_of l.fn.names.items ++ named_behind words ends [] (map lexeme_of l.tokens)

abbrev pub decreases-loop-rest : goal.decreases-loop-rest
decreases-loop-rest l = length l.rest
