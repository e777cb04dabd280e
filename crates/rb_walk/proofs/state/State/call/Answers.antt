use Rattle.std.proofs.Common.{arith}
use Rattle.rb_walk.specs.States.{state_of}
use Rattle.rb_walk.proofs.Traps.{call_full, call_overflows}
use Rattle.rb_walk.proofs.state.State.call.Goals as goal

pub returns-then-open_calls : goal.returns-then-open_calls
returns-then-open_calls c =
    let s = state_of c.args.self.now in
    call_full c.args.edition c.args.procedure.now s.items s c.args.values.now (omega (arith, c.open_calls.ensures, c.if-open_calls.true))

pub returns-then-call_overflows : goal.returns-then-call_overflows
returns-then-call_overflows c =
    let s = state_of c.args.self.now in
    call_overflows c.args.edition c.args.procedure.now s.items s c.args.values.now c.most_words-most.result c.deref.result.now c.deref-2.result.now
    c.most_words-most.ensures c.deref.ensures.value c.deref-2.ensures.value c.if-call_overflows.ensures
