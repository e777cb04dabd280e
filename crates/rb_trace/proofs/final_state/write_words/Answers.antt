use Rattle.std.proofs.Common.{List, ℕ, [], ◌∷◌, ◌++◌, codes, map, take, drop, ap, sym}
use Rattle.std.specs.Fmt.{signed_decimal}
use Rattle.rb_base.specs.Lines.{belonging}
use Rattle.rb_outside.proofs.Puts.{puts_both, puts_same, puts_stopped_at}
use Rattle.rb_world.specs.Text.{size_of}
use Rattle.rb_trace.specs.Lines.{spaced}
use Rattle.rb_trace.proofs.Spaced.{line_of-spaced}
use Rattle.rb_trace.proofs.final_state.write_words.Goals as goal

pub returns-in_err-put_name-clause-text : goal.returns-in_err-put_name-clause-text
returns-in_err-put_name-clause-text g c =
    let name = c.args.process.now ++ 46 ∷ c.args.variable.now.name in
    let texts = map signed_decimal
    (take (size_of c.args.variable.now.size) (drop c.args.variable.now.at (belonging (g.M.Final.words c.args.end.now) c.args.p))) in
    puts_same _ _ _ _ _ _ _ (ap (λ (line : List ℕ). name ++ 32 ∷ line) (sym (line_of-spaced (codes "=") texts)))
    (puts_stopped_at name (codes " =" ++ (spaced texts ++ 10 ∷ [])) _ _ _ _ _ c.from_residual.result c.from_residual.ensures.0
    (puts_same _ _ _ _ _ _ _ (ap (λ (n : List ℕ). c.args.process.now ++ 46 ∷ n) c.as_bytes.ensures) c.in_err-put_name.ensures))

pub returns-clause-text : goal.returns-clause-text
returns-clause-text g c =
    let name = c.args.process.now ++ 46 ∷ c.args.variable.now.name in
    let texts = map signed_decimal
    (take (size_of c.args.variable.now.size) (drop c.args.variable.now.at (belonging (g.M.Final.words c.args.end.now) c.args.p))) in
    puts_same _ _ _ _ _ _ _ (ap (λ (line : List ℕ). name ++ 32 ∷ line) (sym (line_of-spaced (codes "=") texts)))
    (puts_both name (codes " =" ++ (spaced texts ++ 10 ∷ [])) _ _ _ _ _ _ _ _
    (puts_same _ _ _ _ _ _ _ (ap (λ (n : List ℕ). c.args.process.now ++ 46 ∷ n) c.as_bytes.ensures) c.in_ok-put_name.ensures)
    (puts_same _ _ _ _ _ _ _
    (ap (λ (n : ℕ). codes " ="
    ++ (spaced (map signed_decimal (take n (drop c.args.variable.now.at (belonging (g.M.Final.words c.args.end.now) c.args.p))))
    ++ 10 ∷ [])) c.words_of.ensures) c.put_words.ensures.text))
