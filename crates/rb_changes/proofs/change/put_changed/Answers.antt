use Rattle.std.proofs.Common.{◌≡◌, ◌<◌, ◌++◌, ◌∷◌, [], List, ℕ, Bor, length, map, ap, ◌∙◌, arith}
use Rattle.std.specs.Prelude.{decimal}
use Rattle.std.proofs.lemmas.List.{length-map}
use Rattle.rb_outside.proofs.Puts.{puts_both, puts_same, puts_stopped_at}
use Rattle.rb_world.specs.Text.{line_of}
use Rattle.rb_changes.specs.Changes.{line_in}
use Rattle.rb_changes.proofs.Parts.{line_begins}
use Rattle.rb_changes.proofs.change.put_changed.Goals as goal

-- the line of a turn, by its number as it was written
begins : (turn : ℕ) (number : List ℕ) (words : List (Bor (List ℕ))) → number ≡ decimal turn → 0 < length words
    → (number ++ 32 ∷ []) ++ line_of (map (λ word. word.now) words) ≡ line_in turn (map (λ word. word.now) words)
begins turn number words is some =
    let many : 0 < length (map (λ (word : Bor (List ℕ)). word.now) words) =
    omega (arith, some, length-map words (λ (word : Bor (List ℕ)). word.now)) in
    line_begins number (map (λ word. word.now) words) many
    ∙ ap (λ (first : List ℕ). line_of (first ∷ map (λ word. word.now) words)) is

pub returns-in_err-put_pieces : goal.returns-in_err-put_pieces
returns-in_err-put_pieces g c =
    let is : c.as_bytes-number.result.now ≡ decimal c.args.turn = c.as_bytes-number.ensures.value ∙ c.format.ensures.text in
    puts_same _ _ _ _ _ _ _ (begins c.args.turn c.as_bytes-number.result.now c.args.words.now is c.requires)
    (puts_stopped_at _ _ _ _ _ _ _ c.from_residual.result c.from_residual.ensures.0 c.in_err-put_pieces.ensures)

pub returns : goal.returns
returns g c =
    let is : c.as_bytes-number.result.now ≡ decimal c.args.turn = c.as_bytes-number.ensures.value ∙ c.format.ensures.text in
    puts_same _ _ _ _ _ _ _ (begins c.args.turn c.as_bytes-number.result.now c.args.words.now is c.requires)
    (puts_both _ _ _ _ _ _ _ _ _ _ c.in_ok-put_pieces.ensures c.put_line.ensures)
