use Rattle.rb_scope.proofs.Long.{got}
use Rattle.rb_machine.proofs.ReadAt.{state_read}
use Rattle.rb_machine.proofs.reading.state_at.Goals as goal

pub returns : goal.returns
returns g c =
    state_read c.args.procs.now c.args.p c.index-procs-p.result c.state.result
    (got c.args.procs.now c.args.p c.index-procs-p.result c.requires c.index-procs-p.is) c.state.ensures
