use Rattle.std.proofs.Common.{List, ℕ, Bor, sym}
use Rattle.std.proofs.lemmas.List.Folds.{flat_map-map}
use Rattle.rb_outside.proofs.Puts.{puts_nothing, puts_same}
use Rattle.rb_trace.specs.Lines.{spaced_word}
use Rattle.rb_trace.proofs.Spaced.{puts_next, puts_part, puts_whole}
use Rattle.rb_trace.proofs.line.put_others.Goals as goal

pub loop-word-init : goal.loop-word-init
loop-word-init g c = puts_nothing _ _ _

pub returns-in_err-put_after : goal.returns-in_err-put_after
returns-in_err-put_after g c =
    let next = puts_next
    (λ (word : Bor
    (List ℕ)). spaced_word word.now) c.args.words.now c.loop-word.word-index _ c.loop-word-test.true _ _ _ _ _ _ _ _ c.loop-word.invariant c.in_err-put_after.ensures in
    let all = puts_part
    (λ (word : Bor (List ℕ)). spaced_word word.now) c.args.words.now _ _ _ _ _ _ c.from_residual.result c.from_residual.ensures.0 next in
    puts_same _ _ _ _ _ _ _ (sym (flat_map-map spaced_word (λ (word : Bor (List ℕ)). word.now) c.args.words.now)) all

pub loop-word-preserved : goal.loop-word-preserved
loop-word-preserved g c =
    puts_next (λ (word : Bor
    (List ℕ)). spaced_word word.now) c.args.words.now c.loop-word.word-index _ c.loop-word-test.true _ _ _ _ _ _ _ _ c.loop-word.invariant c.in_ok-put_after.ensures

pub returns : goal.returns
returns g c =
    let all = puts_whole (λ (word : Bor (List ℕ)). spaced_word word.now) c.args.words.now _ _ _ _ _ _ c.loop-word-test.false c.loop-word.invariant in
    puts_same _ _ _ _ _ _ _ (sym (flat_map-map spaced_word (λ (word : Bor (List ℕ)). word.now) c.args.words.now)) all
