use Rattle.std.proofs.Common.{slice_get, sym, subst, ◌∙◌}
use Rattle.rb_world.specs.World.{Process}
use Rattle.rb_world.proofs.ListFacts.{some_same}
use Rattle.rb_code.specs.WordMachine.Turn.{Copy, Standing}
use Rattle.rb_scope.proofs.Long.{got}
use Rattle.rb_recoverable.specs.Views.{IsEntryOf}
use Rattle.rb_machine.proofs.ReadAt.{process_there}
use Rattle.rb_machine.proofs.looking.entered_at.Goals as goal

pub entered-requires : goal.entered-requires
entered-requires g c =
    let one = c.index-procs-p.result in
    c.requires.level one.process
    (process_there c.args.procs.now c.args.p one (got c.args.procs.now c.args.p one c.requires.process c.index-procs-p.is))

pub returns : goal.returns
returns g c q e =
    let one = c.index-procs-p.result in
    let there = process_there c.args.procs.now c.args.p one (got c.args.procs.now c.args.p one c.requires.process c.index-procs-p.is) in
    subst (λ (x : Process Standing Copy). IsEntryOf (slice_get x.levels c.args.k) c.entered.result) (some_same (sym there ∙ e)) c.entered.ensures
