-- What a word was meant to be.
use Rattle.std.specs.Prelude.{ℕ, cond, List, ◌++◌, map, codes, Option, Some, None}
use Rattle.rb_base.specs.Reserved.{is_one_of}
use Rattle.rb_frame.specs.Frame.{helped}
use Rattle.rb_grammar.specs.Terminals.{words}
use Rattle.rb_near.specs.Nearest.{nearest}

-- the words of the language
abbrev pub all_words : List (List ℕ)
all_words = map (λ s. s.0) words

-- the one of these that a word was meant to be, which is none of the language
abbrev pub meant_among : List ℕ → List (List ℕ) → Option (List ℕ)
meant_among word others = cond (is_one_of all_words word) None (nearest word others)

-- the word of the language that the first word of a statement was meant to be
abbrev pub statement_meant : List ℕ → List (List ℕ) → Option (List ℕ)
statement_meant word may = cond (is_one_of may (codes ":=")) (meant_among word all_words) None

-- help with what was meant, if that is known, and else another remark
abbrev pub meant_or : Option (List ℕ) → List ℕ → List ℕ
meant_or None other = other
meant_or (Some word) other = helped (codes "did you mean `" ++ (word ++ codes "`?"))
