use Rattle.std.proofs.Common.{◌≡◌, ◌<◌, List, get_or, length, ap, ◌∙◌, arith}
use Rattle.std.proofs.lemmas.List.Sums.{sum_by_more_le}
use Rattle.rb_code.specs.declared.code.ProcessCode.{ProcessCode}
use Rattle.rb_code.specs.Instructions.Plain.{part}
use Rattle.rb_back.proofs.Sizes.{held_sum}
use Rattle.rb_back.proofs.session.most_changes.Goals as goal

pub overflow_add-words : goal.overflow_add-words
overflow_add-words c =
    let items = c.args.code.now.processes.items in
    let same = c.deref-process-items.ensures.value in
    let is : c.process-item.result ≡ get_or items c.loop-process.process-index c.process-item.result =
    c.process-item.is ∙ ap (λ (xs : List ProcessCode). get_or xs c.loop-process.process-index c.process-item.result) same in
    let within : c.loop-process.process-index < length items = omega (arith, c.loop-process-test.true, ap length same) in
    omega (
      arith,
      sum_by_more_le (λ (one : ProcessCode). one.words) items c.loop-process.process-index c.process-item.result within,
      ap (λ (one : ProcessCode). one.words) is,
      c.loop-process.invariant,
      held_sum part items,
      c.requires,
    )
