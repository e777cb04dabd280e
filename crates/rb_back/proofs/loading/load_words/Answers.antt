-- A word more.
use Rattle.std.proofs.Common.{ℤ, List, ◌≤◌, ◌++◌, pos, length, take, drop, replicate, ap, ◌∙◌, arith, rules, w64}
use Rattle.std.proofs.lemmas.Int.{to_z-of_z}
use Rattle.std.proofs.lemmas.List.{append-nil, drop_all, length-append, length-drop, length-replicate, length-take, take_all}
use Rattle.rb_base.specs.Lines.{belonging}
use Rattle.rb_cell.specs.Store.{Store}
use Rattle.rb_back.proofs.Mixed.{set_more}
use Rattle.rb_back.proofs.loading.load_words.Goals as goal

pub word-word-requires : goal.word-word-requires
word-word-requires g c = omega (arith, c.loop-at-test.true, c.requires)

pub write-requires : goal.write-requires
write-requires g c =
    let words = belonging (g.M.Final.words c.args.machine.now) c.args.process in
    let zeros = replicate c.args.size (pos 0) in
    omega (
      arith,
      ap length c.loop-at.invariant,
      length-append (take c.loop-at.at words) (drop c.loop-at.at zeros),
      length-take c.loop-at.at words,
      length-drop c.loop-at.at zeros,
      length-replicate c.args.size (pos 0),
      c.loop-at-test.true,
      c.requires,
    )

pub returns : goal.returns
returns g c =
    let words : List ℤ = belonging (g.M.Final.words c.args.machine.now) c.args.process in
    let zeros : List ℤ = replicate c.args.size (pos 0) in
    let at = c.loop-at.at in
    let all : length words ≤ at = omega (arith, c.requires, c.loop-at-test.false) in
    let past : length zeros ≤ at = omega (arith, length-replicate c.args.size (pos 0), c.loop-at-test.false) in
    c.loop-at.invariant ∙ ap (λ (front : List ℤ). front ++ drop at zeros) (take_all at words all)
    ∙ ap (λ (back : List ℤ). words ++ back) (drop_all at zeros past) ∙ append-nil words

pub loop-at-preserved : goal.loop-at-preserved
loop-at-preserved g c =
    set_more (replicate c.args.size (pos 0)) (belonging (g.M.Final.words c.args.machine.now) c.args.process) c.loop-at.words.words c.write.new.self.words
    c.loop-at.at _ c.word-word.result (ap (λ (one : Store). one.words) c.write.ensures.words) c.loop-at.invariant
    (to_z-of_z w64 c.word-word.result (search rules)) c.word-word.ensures.value
    (omega (arith, c.loop-at-test.true, length-replicate c.args.size (pos 0)))
