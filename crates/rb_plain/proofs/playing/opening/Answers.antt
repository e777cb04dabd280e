use Rattle.std.proofs.Common.{◌≡◌, ◌+◌, ◌<◌, ◌++◌, List, length, map, get_or, ap, ◌∙◌, arith}
use Rattle.rb_syntax.specs.declared.program.Process.{Process as Declaration}
use Rattle.rb_syntax.specs.Plain.{tree}
use Rattle.rb_levels.specs.declared.process.Process.{Process}
use Rattle.rb_levels.specs.Worlds.{process_of}
use Rattle.rb_plain.proofs.Opening.{opened_from, opened_more}
use Rattle.rb_plain.proofs.playing.opening.Goals as goal

pub loop-number-preserved : goal.loop-number-preserved
loop-number-preserved c =
    let declared = c.args.program.now.processes.items in
    let program = tree c.args.program.now in
    let i = c.loop-number.number in
    let one = c.declared-item.result in
    let same = c.deref-declared-items.ensures.value in
    let is : one ≡ get_or declared i one = c.declared-item.is ∙ ap (λ (xs : List Declaration). get_or xs i one) same in
    let within : i < length declared = omega (arith, c.loop-number-test.true, ap length same) in
    record {
      same = ap (λ (made : List Process). map process_of made ++ opened_from program (i + 1) declared) c.push_reserved.ensures.items
          ∙ opened_more program declared i one c.loop-number.processes.items c.in_ok-opened.field-0
          (opened_from program 0 declared) within is c.in_ok-opened.ensures c.loop-number.invariant.same;
      many = omega arith;
      room = omega arith;
    }

pub push_reserved-requires : goal.push_reserved-requires
push_reserved-requires c =
    let declared = c.args.program.now.processes in
    omega (arith, c.loop-number-test.true, ap length c.deref-declared-items.ensures.value, declared.ok.0)
