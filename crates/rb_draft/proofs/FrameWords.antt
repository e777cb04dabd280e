-- How many words a frame has, declaration by declaration.
use Rattle.std.proofs.Common.{◌≡◌, ◌+◌, List, ◌∷◌, length, ap, ◌∙◌, pos, map}
use Rattle.std.proofs.lemmas.List.{length-replicate}
use Rattle.std.proofs.lemmas.List.Sums.{sum_by-cons}
use Rattle.rb_syntax.specs.declared.statement.Var.{Var}
use Rattle.rb_syntax.specs.Plain.{declaration}
use Rattle.rb_meaning.specs.Environment.{Stored, frame_of, frame_words, size_of, zeros}

pub frame_more : (variable : Var) (others : List Var)
    → frame_words (frame_of (map declaration (variable ∷ others))) ≡ size_of variable.size + frame_words (frame_of (map declaration others))
frame_more variable others =
    sum_by-cons (λ (s : Stored). length s.values) (zeros (declaration variable)) (frame_of (map declaration others))
    ∙ ap (λ n. n + frame_words (frame_of (map declaration others))) (length-replicate (size_of variable.size) (pos 0))
