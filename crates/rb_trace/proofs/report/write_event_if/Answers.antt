use Rattle.std.proofs.Common.{◌≡◌, rules}
use Rattle.rb_outside.proofs.Puts.{puts_same}
use Rattle.rb_trace.specs.Naming.{naming}
use Rattle.rb_trace.proofs.Events.{wanted}
use Rattle.rb_trace.proofs.report.write_event_if.Goals as goal

pub returns-then-tells_done-done : goal.returns-then-tells_done-done
returns-then-tells_done-done g c =
    let same : c.tells_done.result ≡ c.args.done = search rules in
    puts_same _ _ _ _ _ _ _
    (wanted (naming c.args.names.now) c.args.turn c.args.done c.tells_done.result c.args.event.now c.tells_done.ensures same) c.write_event.ensures
