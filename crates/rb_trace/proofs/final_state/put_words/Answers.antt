use Rattle.std.proofs.Common.{[], ◌∷◌, ◌++◌, codes, map, take, drop}
use Rattle.std.specs.Fmt.{signed_decimal}
use Rattle.rb_base.specs.Lines.{belonging}
use Rattle.rb_outside.proofs.Puts.{puts_both, puts_stopped_at}
use Rattle.rb_trace.specs.Lines.{spaced}
use Rattle.rb_trace.proofs.final_state.put_words.Goals as goal

pub returns-in_err-put-clause-text : goal.returns-in_err-put-clause-text
returns-in_err-put-clause-text g c =
    puts_stopped_at (codes " =")
    (spaced (map signed_decimal (take c.args.size (drop c.args.at (belonging (g.M.Final.words c.args.end.now) c.args.p))))
    ++ 10 ∷ []) _ _ _ _ _ c.from_residual.result c.from_residual.ensures.0 c.in_err-put.ensures

pub returns-in_err-put_each_word-clause-text : goal.returns-in_err-put_each_word-clause-text
returns-in_err-put_each_word-clause-text g c =
    let line = spaced (map signed_decimal (take c.args.size (drop c.args.at (belonging (g.M.Final.words c.args.end.now) c.args.p)))) in
    let stop = c.from_residual-in_err-put_each_word in
    puts_both (codes " =") (line ++ 10 ∷ []) _ _ _ _ _ _ _ _ c.in_ok-put.ensures
    (puts_stopped_at line (10 ∷ []) _ _ _ _ _ stop.result stop.ensures.0 c.in_err-put_each_word.ensures.text)

pub returns-clause-text : goal.returns-clause-text
returns-clause-text g c =
    let line = spaced (map signed_decimal (take c.args.size (drop c.args.at (belonging (g.M.Final.words c.args.end.now) c.args.p)))) in
    puts_both (codes " =") (line ++ 10 ∷ []) _ _ _ _ _ _ _ _ c.in_ok-put.ensures
    (puts_both line (10 ∷ []) _ _ _ _ _ _ _ _ c.in_ok-put_each_word.ensures.text c.put-2.ensures)
