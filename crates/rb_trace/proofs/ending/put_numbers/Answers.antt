use Rattle.std.proofs.Common.{[], ◌∷◌, ◌++◌, map, codes}
use Rattle.std.specs.Fmt.{signed_decimal}
use Rattle.rb_outside.proofs.Puts.{puts_both, puts_stopped_at}
use Rattle.rb_trace.specs.Lines.{spaced}
use Rattle.rb_trace.proofs.ending.put_numbers.Goals as goal

pub returns : goal.returns
returns g c =
    let line = spaced (map signed_decimal c.args.values.now) in
    puts_both (codes " =") (line ++ 10 ∷ []) _ _ _ _ _ _ _ _ c.in_ok-put.ensures
    (puts_both line (10 ∷ []) _ _ _ _ _ _ _ _ c.in_ok-put_values.ensures c.put-2.ensures)

pub returns-in_err-put : goal.returns-in_err-put
returns-in_err-put g c =
    puts_stopped_at (codes " =")
    (spaced (map signed_decimal c.args.values.now) ++ 10
    ∷ []) _ _ _ _ _ c.from_residual.result c.from_residual.ensures.0 c.in_err-put.ensures

pub returns-in_err-put_values : goal.returns-in_err-put_values
returns-in_err-put_values g c =
    let line = spaced (map signed_decimal c.args.values.now) in
    let stop = c.from_residual-in_err-put_values in
    puts_both (codes " =") (line ++ 10 ∷ []) _ _ _ _ _ _ _ _ c.in_ok-put.ensures
    (puts_stopped_at line (10 ∷ []) _ _ _ _ _ stop.result stop.ensures.0 c.in_err-put_values.ensures)
