use Rattle.std.proofs.Common.{List, ℕ, [], ◌∷◌, ◌++◌, map, codes, ap, sym}
use Rattle.std.specs.Fmt.{signed_decimal}
use Rattle.rb_outside.proofs.Puts.{puts_both, puts_same, puts_stopped_at}
use Rattle.rb_trace.specs.Lines.{spaced}
use Rattle.rb_trace.proofs.Spaced.{line_of-spaced}
use Rattle.rb_trace.proofs.ending.write_variable.Goals as goal

pub returns : goal.returns
returns g c =
    let name = c.args.process.now ++ 46 ∷ c.args.variable.now in
    let texts = map signed_decimal c.args.values.now in
    let both = puts_both name (codes " =" ++ (spaced texts ++ 10 ∷ [])) _ _ _ _ _ _ _ _ c.in_ok-put_name.ensures c.put_numbers.ensures in
    puts_same _ _ _ _ _ _ _ (ap (λ (line : List ℕ). name ++ 32 ∷ line) (sym (line_of-spaced (codes "=") texts))) both

pub returns-in_err-put_name : goal.returns-in_err-put_name
returns-in_err-put_name g c =
    let name = c.args.process.now ++ 46 ∷ c.args.variable.now in
    let texts = map signed_decimal c.args.values.now in
    let both = puts_stopped_at name
    (codes " =" ++ (spaced texts ++ 10 ∷ [])) _ _ _ _ _ c.from_residual.result c.from_residual.ensures.0 c.in_err-put_name.ensures in
    puts_same _ _ _ _ _ _ _ (ap (λ (line : List ℕ). name ++ 32 ∷ line) (sym (line_of-spaced (codes "=") texts))) both
