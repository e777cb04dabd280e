use Rattle.std.proofs.Common.{ℕ, List, Bor, [], ◌∷◌, ◌++◌, ◌-◌, length, map, take, drop, arith}
use Rattle.std.proofs.lemmas.Grind.{common_steps}
use Rattle.rb_outside.proofs.Puts.{puts_both, puts_same, puts_stopped_at}
use Rattle.rb_trace.specs.Lines.{spaced}
use Rattle.rb_trace.proofs.Spaced.{line_of-parts}
use Rattle.rb_trace.proofs.line.put_line.Goals as goal

-- the words behind the first, with a blank before each
abbrev others_of : List (Bor (List ℕ)) → List ℕ
others_of words = spaced (map (λ (word : Bor (List ℕ)). word.now) (take (length words - 1) (drop 1 words)))

pub returns-in-empty : goal.returns-in-empty
returns-in-empty g c = grind (arith, common_steps)

pub returns-in_err-put_others-in-len1-up : goal.returns-in_err-put_others-in-len1-up
returns-in_err-put_others-in-len1-up g c =
    let rest = others_of c.args.words.now in
    let stop = c.from_residual-in_err-put_others-in-len1-up in
    puts_same _ _ _ _ _ _ _ (line_of-parts c.args.words.now _ c.in-len1-up.len_at_least)
    (puts_both _ (rest ++ 10 ∷ []) _ _ _ _ _ _ _ _ c.in_ok-put-in-len1-up.ensures
    (puts_stopped_at rest (10 ∷ []) _ _ _ _ _ stop.result stop.ensures.0 c.in_err-put_others-in-len1-up.ensures))

pub returns-in_ok-put_others-in-len1-up : goal.returns-in_ok-put_others-in-len1-up
returns-in_ok-put_others-in-len1-up g c =
    let rest = others_of c.args.words.now in
    puts_same _ _ _ _ _ _ _ (line_of-parts c.args.words.now _ c.in-len1-up.len_at_least)
    (puts_both _ (rest ++ 10 ∷ []) _ _ _ _ _ _ _ _ c.in_ok-put-in-len1-up.ensures
    (puts_both rest (10 ∷ []) _ _ _ _ _ _ _ _ c.in_ok-put_others-in-len1-up.ensures c.put-in-len1-up-2.ensures))

pub returns-in_err-put-in-len1-up : goal.returns-in_err-put-in-len1-up
returns-in_err-put-in-len1-up g c =
    let rest = others_of c.args.words.now in
    puts_same _ _ _ _ _ _ _ (line_of-parts c.args.words.now _ c.in-len1-up.len_at_least)
    (puts_stopped_at _ (rest ++ 10
    ∷ []) _ _ _ _ _ c.from_residual.result c.from_residual.ensures.0 c.in_err-put-in-len1-up.ensures)
