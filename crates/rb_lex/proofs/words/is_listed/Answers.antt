use Rattle.std.proofs.Common.{ℕ, List, Bor, nat_eq, ◌||◌, ap, sym, ◌∙◌}
use Rattle.std.specs.List.{list_any}
use Rattle.std.specs.Cmp.Lexicographic.{pointwise}
use Rattle.std.proofs.lemmas.List.{take_all}
use Rattle.std.proofs.lemmas.List.Folds.{list_any_at, list_any_more}
use Rattle.rb_lex.proofs.words.is_listed.Goals as goal

pub returns-then-eq : goal.returns-then-eq
returns-then-eq c =
    sym
    (list_any_at (λ (word : Bor (List ℕ)). pointwise nat_eq word.now c.args.text.now) c.args.words.now c.loop-word.word-index _
    c.loop-word-test.true (sym c.if-eq.ensures))

pub loop-word-preserved : goal.loop-word-preserved
loop-word-preserved c =
    let differs = sym c.if-eq.ensures in
    list_any_more (λ (word : Bor (List ℕ)). pointwise nat_eq word.now c.args.text.now) c.args.words.now c.loop-word.word-index _
    c.loop-word-test.true
    ∙ (λ i. c.loop-word.invariant i || differs i)

pub returns : goal.returns
returns c =
    sym
    (ap (list_any (λ (word : Bor (List ℕ)). pointwise nat_eq word.now c.args.text.now))
    (sym (take_all c.loop-word.word-index c.args.words.now c.loop-word-test.false))
    ∙ c.loop-word.invariant)
