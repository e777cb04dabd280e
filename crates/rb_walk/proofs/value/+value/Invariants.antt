use Rattle.std.proofs.Common.{◌≡◌, ◌-◌, ◌+ℤ◌, pos, drop, ℤ}
use Rattle.rb_syntax.specs.Plain.{links_of}
use Rattle.rb_meaning.specs.Value.{Outcome, chained, every_from, some_from, sum_from}
use Rattle.rb_walk.specs.Counters.{counted, body_values}
use Rattle.rb_walk.proofs.value.+value.Given as goal

abbrev pub invariant-chained-loop-link : goal.invariant-chained-loop-link
invariant-chained-loop-link l =
    chained l.environment l.prior (counted l.counters) l.left (links_of (drop l.link-index l.links))
    ≡ chained l.environment l.prior (counted l.counters) l.fn.first (links_of l.links)

abbrev pub invariant-every_from-loop-step : goal.invariant-every_from-loop-step
invariant-every_from-loop-step l =
    let f : ℤ → Outcome = body_values l.environment l.prior l.counters l.over in
    every_from (l.numbers.count - l.step) (l.numbers.first +ℤ pos l.step) f ≡ every_from l.numbers.count l.numbers.first f

abbrev pub invariant-some_from-loop-step : goal.invariant-some_from-loop-step
invariant-some_from-loop-step l =
    let f : ℤ → Outcome = body_values l.environment l.prior l.counters l.over in
    some_from (l.numbers.count - l.step) (l.numbers.first +ℤ pos l.step) f ≡ some_from l.numbers.count l.numbers.first f

abbrev pub invariant-sum_from-loop-step : goal.invariant-sum_from-loop-step
invariant-sum_from-loop-step l =
    let f : ℤ → Outcome = body_values l.environment l.prior l.counters l.over in
    sum_from (l.numbers.count - l.step) (l.numbers.first +ℤ pos l.step) f l.total ≡ sum_from l.numbers.count l.numbers.first f (pos 0)
