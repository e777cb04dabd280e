use Rattle.std.proofs.Common.{◌≡◌, false, [], length, map}
use Rattle.rb_lex.specs.Reader.{lexeme_of}
use Rattle.rb_why.specs.Scope.{seen_behind}
use Rattle.rb_why.proofs.scope.seen_behind.Given as goal

-- what is seen behind the rest is what is seen behind all
abbrev pub invariant-loop-rest : goal.invariant-loop-rest
invariant-loop-rest l =
    seen_behind l.in_head l.before l.opened.items (map lexeme_of l.seen.items) (map lexeme_of l.rest)
    ≡ seen_behind false [] [] (map lexeme_of l.fn.names.items) (map lexeme_of l.tokens)

abbrev pub decreases-loop-rest : goal.decreases-loop-rest
decreases-loop-rest l = length l.rest
