use Rattle.std.proofs.Common.{[], ◌∷◌, codes, decimal, map}
use Rattle.rb_outside.proofs.Puts.{puts_both, puts_same, puts_stopped_at}
use Rattle.rb_world.specs.Text.{channel_lines, line_of}
use Rattle.rb_trace.specs.Naming.{naming, process_naming}
use Rattle.rb_trace.specs.Ended.{ended_text, processes_text}
use Rattle.rb_trace.proofs.Ended.{ended_is}
use Rattle.rb_trace.proofs.final_state.write_end.Goals as goal

pub returns-in_err-write_end_line-clause-text : goal.returns-in_err-write_end_line-clause-text
returns-in_err-write_end_line-clause-text g c final ended =
    puts_same _ _ _ _ _ _ _ (ended_is c.args.names.now _ _ _ _ final c.args.turns ended)
    (puts_stopped_at (line_of (codes "end" ∷ decimal c.args.turns ∷ []))
    (ended_text (naming c.args.names.now) (g.M.Final.states c.args.end.now) (g.M.Final.words c.args.end.now)
    (g.M.Final.sent c.args.end.now)
    (g.M.Final.taken c.args.end.now)) _ _ _ _ _ c.from_residual.result c.from_residual.ensures.0 c.in_err-write_end_line.ensures)

pub returns-in_err-write_processes-clause-text : goal.returns-in_err-write_processes-clause-text
returns-in_err-write_processes-clause-text g c final ended =
    let stop = c.from_residual-in_err-write_processes in
    let processes = processes_text (map process_naming c.args.names.now.processes.items) (g.M.Final.states c.args.end.now)
    (g.M.Final.words c.args.end.now) in
    let channels = channel_lines c.args.names.now.channels.items (g.M.Final.sent c.args.end.now) (g.M.Final.taken c.args.end.now) in
    puts_same _ _ _ _ _ _ _ (ended_is c.args.names.now _ _ _ _ final c.args.turns ended)
    (puts_both (line_of (codes "end" ∷ decimal c.args.turns ∷ []))
    (ended_text (naming c.args.names.now) (g.M.Final.states c.args.end.now) (g.M.Final.words c.args.end.now)
    (g.M.Final.sent c.args.end.now)
    (g.M.Final.taken c.args.end.now)) _ _ _ _ _ _ _ _ c.in_ok-write_end_line.ensures
    (puts_stopped_at processes channels _ _ _ _ _ stop.result stop.ensures.0 c.in_err-write_processes.ensures.text))

pub returns-clause-text : goal.returns-clause-text
returns-clause-text g c final ended =
    let processes = processes_text (map process_naming c.args.names.now.processes.items) (g.M.Final.states c.args.end.now)
    (g.M.Final.words c.args.end.now) in
    let channels = channel_lines c.args.names.now.channels.items (g.M.Final.sent c.args.end.now) (g.M.Final.taken c.args.end.now) in
    puts_same _ _ _ _ _ _ _ (ended_is c.args.names.now _ _ _ _ final c.args.turns ended)
    (puts_both (line_of (codes "end" ∷ decimal c.args.turns ∷ []))
    (ended_text (naming c.args.names.now) (g.M.Final.states c.args.end.now) (g.M.Final.words c.args.end.now)
    (g.M.Final.sent c.args.end.now)
    (g.M.Final.taken c.args.end.now)) _ _ _ _ _ _ _ _ c.in_ok-write_end_line.ensures
    (puts_both processes channels _ _ _ _ _ _ _ _ c.in_ok-write_processes.ensures.text c.write_channels.ensures.text))
