-- What the parts of the lexer answer, as the definitions of tokens see it.
use Rattle.std.specs.Prelude.{ℕ, ◌==◌, List, length, filter, Result, Ok, Err}
use Rattle.rb_lex.specs.declared.cut.Cut.{Cut}
use Rattle.rb_lex.specs.declared.cut.Stop.{Stop}
use Rattle.rb_lex.specs.Tokens.{Front, Whole, Faulty}

-- what stands at the front
abbrev pub front_of : Result Cut Stop → Front
front_of (Ok cut) = Whole cut.kind cut.size
front_of (Err stop) = Faulty stop.name stop.offset

-- how many bytes it speaks of
abbrev pub reach_of : Result Cut Stop → ℕ
reach_of (Ok cut) = cut.size
reach_of (Err stop) = stop.offset

-- the words of one length
abbrev pub of_length : ℕ → List (List ℕ) → List (List ℕ)
of_length n words = filter (λ word. n == length word) words
