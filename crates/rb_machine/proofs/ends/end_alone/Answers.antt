-- The turn came to this, with no pass.
use Rattle.std.proofs.Common.{sym, subst}
use Rattle.rb_machine.specs.Ends.{SomeTurnCame}
use Rattle.rb_machine.specs.declared.came.Came.{Came}
use Rattle.rb_machine.proofs.Turning.Ended.{came_is, finishes_of}
use Rattle.rb_machine.proofs.ends.end_alone.Goals as goal

pub end-requires : goal.end-requires
end-requires g c =
    let is = came_is c.without_pass-came.result c.args.kind _ c.without_pass-came.ensures.kind c.without_pass-came.ensures.pass
    c.without_pass-came.ensures.quiet in
    record {
      come = subst (λ (came : Came). SomeTurnCame c.args.p c.args.parts.now c.args.running.now.items c.args.report.now.events.items came)
          (sym is) c.requires.come;
    }

pub returns-clause-finished : goal.returns-clause-finished
returns-clause-finished g c =
    let is = came_is c.without_pass-came.result c.args.kind _ c.without_pass-came.ensures.kind c.without_pass-came.ensures.pass
    c.without_pass-came.ensures.quiet in
    finishes_of is c.end.ensures.finished
