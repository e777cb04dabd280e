use Rattle.std.proofs.Common.{◌<◌, cond, length, refl, sym, ap, ◌∙◌, arith}
use Rattle.std.proofs.lemmas.Bool.{eq-eqb, false≢true}
use Rattle.rb_lists.specs.Marks.{is_marked, is_number}
use Rattle.rb_lists.proofs.Counted.{tells_seen, twice}
use Rattle.rb_lists.proofs.once.see_each_once.Goals as goal

pub returns-then-seen-block : goal.returns-then-seen-block
returns-then-seen-block c =
    let b = c.in-Some.block in
    let within : b < length c.args.seen.now = omega arith in (
      (λ e. absurd (false≢true e)),
      (λ each. absurd (twice (is_marked c.args.mark b) c.args.instrs.now c.loop-instr.instr-index _ c.loop-instr-test.true
          (c.loop-instr.invariant b c.if-block-seen.true ∙ ap (λ one. cond one 1 0) c.if-seen-block.true)
          (ap (is_number b) (sym c.block_marked.ensures ∙ c.in-Some.is) ∙ eq-eqb b b refl)
          (each b within))),
    )

pub returns : goal.returns
returns c =
    tells_seen (is_marked c.args.mark) c.args.instrs.now c.loop-instr.instr-index (length c.args.seen.now) c.loop-instr.seen c.all_allowed.result
    c.loop-instr.auto.seen c.loop-instr-test.false c.loop-instr.invariant c.all_allowed.ensures
