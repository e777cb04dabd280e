-- What was kept is as it was told, and so is what is kept now.
use Rattle.std.proofs.Common.{◌++◌, ◌∙◌, sym, ap, subst}
use Rattle.rb_outside.proofs.Puts.{puts_same}
use Rattle.rb_trace.specs.Naming.{naming}
use Rattle.rb_changes.specs.Changes.{changes}
use Rattle.rb_changes.specs.Noted.{WorldNoted}
use Rattle.rb_picture.specs.Trace.{back_text}
use Rattle.rb_view.specs.Steady.{IsSized, shown_now}
use Rattle.rb_view.proofs.was.Was.tell.Goals as goal

pub note-requires-clause-sized : goal.note-requires-clause-sized
note-requires-clause-sized g c =
    let m = c.args.machine.now in
    subst (IsSized m.code m.groups) (sym (c.self.invariant.same ∙ c.self.view_is)) c.requires.sized

pub returns-clause-text : goal.returns-clause-text
returns-clause-text g c =
    let names = naming c.args.names.now in
    let shown = shown_now c.args.machine.now in
    puts_same _ _ _ _ _ _ _
    (ap (λ (was : WorldNoted). back_text c.args.kind c.args.turn names was shown ++ changes c.args.turn names was shown) c.self.view_is)
    c.write_all-written.ensures
