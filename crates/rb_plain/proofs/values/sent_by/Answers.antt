use Rattle.std.proofs.Common.{◌<◌, ◌≤◌, ◌∙◌, ℕ, length, ap, slice_get, sym, arith}
use Rattle.rb_syntax.specs.Plain.{tree}
use Rattle.rb_meaning.specs.Meaning.{by_state, sent_on, states_of}
use Rattle.rb_meaning.specs.State.{State}
use Rattle.rb_walk.specs.States.{state_of}
use Rattle.rb_levels.specs.declared.process.Process.{Process}
use Rattle.rb_levels.specs.Worlds.{world_of}
use Rattle.rb_plain.proofs.Endings.{state_past, state_there}
use Rattle.rb_plain.proofs.values.sent_by.Goals as goal

pub returns-then-p-processes : goal.returns-then-p-processes
returns-then-p-processes c =
    let program = tree c.args.program.now in
    let count = λ (s : State). length (sent_on s c.args.channel) in
    let past : length c.args.processes.now ≤ c.process_number-p.result = omega (arith, c.if-p-processes.true) in
    state_past count 0 program c.args.processes.now c.process_number-p.result past
    ∙ ap (λ (p : ℕ). by_state count 0 (slice_get (states_of (world_of program c.args.processes.now)) p)) c.process_number-p.ensures

pub returns : goal.returns
returns c =
    let program = tree c.args.program.now in
    let count = λ (s : State). length (sent_on s c.args.channel) in
    let within : c.process_number-p.result < length c.args.processes.now = omega (arith, c.if-p-processes.false) in
    c.sent_on.ensures
    ∙ ap (λ (one : Process). count (state_of one.state)) (sym c.index-processes-p.is)
    ∙ state_there count 0 program c.args.processes.now c.process_number-p.result c.index-processes-p.result within c.index-processes-p.is
    ∙ ap (λ (p : ℕ). by_state count 0 (slice_get (states_of (world_of program c.args.processes.now)) p)) c.process_number-p.ensures
