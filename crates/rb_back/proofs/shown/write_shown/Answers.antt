-- The line of the position, and then the process.
use Rattle.std.proofs.Common.{map, slice_get, take, ap, arith}
use Rattle.rb_base.specs.Lines.{belonging}
use Rattle.rb_outside.proofs.Puts.{puts_both, puts_same, puts_stopped_at}
use Rattle.rb_trace.specs.Ended.{process_text, state_of}
use Rattle.rb_trace.specs.Naming.{process_naming}
use Rattle.rb_code.specs.WordMachine.WordRun.{word_final, word_run}
use Rattle.rb_back.specs.Course.{shown_variables}
use Rattle.rb_script.specs.Shown.{position_line, process_shown}
use Rattle.rb_back.proofs.TextShown.{few_shown, process_fits, shown_here, state_there}
use Rattle.rb_back.proofs.shown.write_shown.Goals as goal

pub returns-in_err-write_position-clause-text : goal.returns-in_err-write_position-clause-text
returns-in_err-write_position-clause-text g c =
    let s = c.args.session.now in
    let final = word_final s.code (word_run s.code s.groups (take s.position s.ran)).0 in
    puts_stopped_at (position_line s.position)
    (process_shown (slice_get s.code.names.processes c.args.p) (slice_get (map state_of final.statuses) c.args.p) (belonging final.words c.args.p))
    _ _ _ _ _ c.from_residual.result c.from_residual.ensures.0
    (puts_same _ _ _ _ _ _ _ (ap position_line c.position.ensures.position) c.in_err-write_position.ensures)

pub state-state-requires : goal.state-state-requires
state-state-requires g c = state_there c.args.session.now c.args.names.now c.args.p c.requires.process c.requires.fit

pub write_process-requires : goal.write_process-requires
write_process-requires g c =
    process_fits c.args.session.now c.args.names.now c.args.p c.requires.process c.index.result.now c.index.ensures c.position.ensures.sound
    c.requires.fit

pub returns-clause-text : goal.returns-clause-text
returns-clause-text g c =
    let s = c.args.session.now in
    puts_same _ _ _ _ _ _ _
    (shown_here s c.args.names.now c.args.p c.requires.process c.index.result.now c.index.ensures c.state-state.result c.requires.named
    c.state-state.ensures)
    (puts_both (position_line s.position)
    (process_text (process_naming c.index.result.now) c.state-state.result (belonging (shown_variables s) c.args.p)) _ _ _ _ _ _ _ _
    (puts_same _ _ _ _ _ _ _ (ap position_line c.position.ensures.position) c.in_ok-write_position.ensures) c.write_process.ensures.text)

pub returns-clause-work : goal.returns-clause-work
returns-clause-work g c = omega (
  arith,
  c.write_process.ensures.work,
  few_shown c.args.session.now c.args.names.now c.args.p c.requires.process c.index.result.now c.index.ensures,
)
