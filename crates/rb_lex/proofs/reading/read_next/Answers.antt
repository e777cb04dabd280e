use Rattle.std.proofs.lemmas.Grind.{common_steps}
use Rattle.std.proofs.Common.{◌≡◌, ℕ, ◌==◌, true, List, [], ◌∷◌, length, refl, ap, sym, ◌∙◌, arith}
use Rattle.std.proofs.lemmas.Bool.{eqb-true}
use Rattle.rb_lex.specs.Gaps.{here}
use Rattle.rb_lex.proofs.reading.read_next.Goals as goal

-- no byte is left
nothing : (bytes : List ℕ) → true ≡ (length bytes == 0) → bytes ≡ []
nothing [] is = refl
nothing (b ∷ bs) is = let zero : length (b ∷ bs) ≡ 0 = eqb-true (length (b ∷ bs)) 0 (sym is) in absurd (omega arith)

pub returns-then-is_empty-clause-reads : goal.returns-then-is_empty-clause-reads
returns-then-is_empty-clause-reads c =
    let none = nothing c.in_ok-point.point.left.now c.if-is_empty.ensures in
    (c.in_ok-point.ensures.passes c.args.edition ∙ ap (here c.args.edition c.in_ok-point.point.place) none, none)

pub returns-clause-reads : goal.returns-clause-reads
returns-clause-reads c = grind (arith, common_steps)

pub returns-then-is_empty-clause-room : goal.returns-then-is_empty-clause-room
returns-then-is_empty-clause-room c = grind (arith, common_steps)

pub read_token-requires-clause-room : goal.read_token-requires-clause-room
read_token-requires-clause-room c = grind (arith, common_steps)

pub read_token-requires-clause-some : goal.read_token-requires-clause-some
read_token-requires-clause-some c = grind (arith, common_steps)
