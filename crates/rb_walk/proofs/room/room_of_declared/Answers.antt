use Rattle.std.proofs.Common.{◌<◌, ◌≤◌, get_or, length, map, refl, ◌∙◌, arith}
use Rattle.std.proofs.lemmas.List.{length-map}
use Rattle.rb_syntax.specs.Plain.{declaration}
use Rattle.rb_meaning.specs.Environment.{Stored, zeros}
use Rattle.rb_walk.proofs.Words.{part_more, part_none, declared_at, declared_words}
use Rattle.rb_walk.proofs.room.room_of_declared.Goals as goal

pub returns-then-words-left : goal.returns-then-words-left
returns-then-words-left c =
    let variables = c.args.variables.now in
    let k = c.loop-variable.variable-index in
    let here : k < length (map declaration variables) = omega (arith, length-map variables declaration) in
    let short : c.size_of-words.result ≤ c.loop-variable.left → ⊥ = λ h. omega (arith, h, c.if-words-left.true) in
    part_none zeros (λ (s : Stored). length s.values)
    (map declaration variables) k c.loop-variable.left c.size_of-words.result _ here
    (declared_at variables k _ c.loop-variable-test.true)
    (declared_words (get_or variables k _) c.size_of-words.result c.size_of-words.ensures)
    short
    ∙ c.loop-variable.invariant

pub loop-variable-preserved : goal.loop-variable-preserved
loop-variable-preserved c =
    let variables = c.args.variables.now in
    let k = c.loop-variable.variable-index in
    let here : k < length (map declaration variables) = omega (arith, length-map variables declaration) in
    part_more zeros (λ (s : Stored). length s.values)
    (map declaration variables) k c.loop-variable.left c.size_of-words.result _ here
    (declared_at variables k _ c.loop-variable-test.true)
    (declared_words (get_or variables k _) c.size_of-words.result c.size_of-words.ensures)
    _ (c.if-words-left.false, refl)
    ∙ c.loop-variable.invariant
