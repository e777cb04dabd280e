use Rattle.std.proofs.Common.{subst, sym, ◌∙◌}
use Rattle.rb_view.specs.Steady.{IsSized}
use Rattle.rb_view.proofs.was.Was.keep.Goals as goal

pub note-requires-clause-sized : goal.note-requires-clause-sized
note-requires-clause-sized g c =
    let m = c.args.machine.now in
    subst (IsSized m.code m.groups) (sym (c.self.invariant.same ∙ c.self.view_is)) c.requires.sized

pub note-requires-2-clause-sized : goal.note-requires-2-clause-sized
note-requires-2-clause-sized g c =
    let m = c.args.machine.now in
    subst (IsSized m.code m.groups) (sym c.self.view_is) c.requires.sized
