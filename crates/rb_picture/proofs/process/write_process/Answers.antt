use Rattle.std.proofs.Common.{◌++◌, map}
use Rattle.std.specs.List.{flat_map}
use Rattle.rb_outside.proofs.Puts.{puts_both, puts_same, puts_stopped_at}
use Rattle.rb_trace.specs.Naming.{variable_naming}
use Rattle.rb_changes.specs.Changes.{held_lines, levels_changes, state_line, variable_change}
use Rattle.rb_picture.proofs.process.write_process.Goals as goal

pub returns-in_err-write_variables : goal.returns-in_err-write_variables
returns-in_err-write_variables g c held e l =
    puts_same _ _ _ _ _ _ _
    (λ i. flat_map (variable_change c.args.turn (c.as_bytes-name.ensures i) (c.deref-2.ensures.value i) (c.deref-3.ensures.value i)) (map variable_naming (c.deref.ensures.value i))
    ++ (levels_changes c.args.turn (c.as_bytes-name.ensures i) c.args.was.now.levels.items c.args.now.now.levels.items
    ++ (held_lines c.args.turn (c.as_bytes-name.ensures i) c.args.was.now.held held ++ state_line c.args.turn (c.as_bytes-name.ensures i) c.args.was.now.stand c.args.now.now.stand)))
    (puts_stopped_at _ _ _ _ _ _ _ c.from_residual.result c.from_residual.ensures.0 c.in_err-write_variables.ensures)

pub returns-in_err-write_levels : goal.returns-in_err-write_levels
returns-in_err-write_levels g c held e l =
    puts_same _ _ _ _ _ _ _
    (λ i. flat_map (variable_change c.args.turn (c.as_bytes-name.ensures i) (c.deref-2.ensures.value i) (c.deref-3.ensures.value i)) (map variable_naming (c.deref.ensures.value i))
    ++ (levels_changes c.args.turn (c.as_bytes-name.ensures i) (c.deref-4.ensures.value i) (c.deref-5.ensures.value i)
    ++ (held_lines c.args.turn (c.as_bytes-name.ensures i) c.args.was.now.held held ++ state_line c.args.turn (c.as_bytes-name.ensures i) c.args.was.now.stand c.args.now.now.stand)))
    (puts_both _ _ _ _ _ _ _ _ _ _ c.in_ok-write_variables.ensures
    (puts_stopped_at _ _ _ _ _ _ _ c.from_residual-in_err-write_levels.result c.from_residual-in_err-write_levels.ensures.0
    c.in_err-write_levels.ensures))

pub returns-in_err-write_holding : goal.returns-in_err-write_holding
returns-in_err-write_holding g c held e l =
    puts_same _ _ _ _ _ _ _
    (λ i. flat_map (variable_change c.args.turn (c.as_bytes-name.ensures i) (c.deref-2.ensures.value i) (c.deref-3.ensures.value i)) (map variable_naming (c.deref.ensures.value i))
    ++ (levels_changes c.args.turn (c.as_bytes-name.ensures i) (c.deref-4.ensures.value i) (c.deref-5.ensures.value i)
    ++ (held_lines c.args.turn (c.as_bytes-name.ensures i) c.args.was.now.held held ++ state_line c.args.turn (c.as_bytes-name.ensures i) c.args.was.now.stand c.args.now.now.stand)))
    (puts_both _ _ _ _ _ _ _ _ _ _ c.in_ok-write_variables.ensures
    (puts_both _ _ _ _ _ _ _ _ _ _ c.in_ok-write_levels.ensures
    (puts_stopped_at _ _ _ _ _ _ _ c.from_residual-in_err-write_holding.result c.from_residual-in_err-write_holding.ensures.0
    (c.in_err-write_holding.ensures held e l))))

pub returns : goal.returns
returns g c held e l =
    puts_same _ _ _ _ _ _ _
    (λ i. flat_map (variable_change c.args.turn (c.as_bytes-name.ensures i) (c.deref-2.ensures.value i) (c.deref-3.ensures.value i)) (map variable_naming (c.deref.ensures.value i))
    ++ (levels_changes c.args.turn (c.as_bytes-name.ensures i) (c.deref-4.ensures.value i) (c.deref-5.ensures.value i)
    ++ (held_lines c.args.turn (c.as_bytes-name.ensures i) c.args.was.now.held held ++ state_line c.args.turn (c.as_bytes-name.ensures i) c.args.was.now.stand c.args.now.now.stand)))
    (puts_both _ _ _ _ _ _ _ _ _ _ c.in_ok-write_variables.ensures
    (puts_both _ _ _ _ _ _ _ _ _ _ c.in_ok-write_levels.ensures
    (puts_both _ _ _ _ _ _ _ _ _ _ (c.in_ok-write_holding.ensures held e l) c.write_standing.ensures)))
