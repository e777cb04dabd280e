use Rattle.rb_back.specs.Picture.{picture}
use Rattle.rb_back.proofs.Noted.{state_noted}
use Rattle.rb_back.proofs.noting.note_state.Goals as goal

pub returns-then-ne-clause-noted : goal.returns-then-ne-clause-noted
returns-then-ne-clause-noted g c target =
    state_noted target c.args.changes.now.items c.note.new.changes.items (picture c.args.view.now) c.args.process c.index.result.now c.args.now
    c.note.ensures.items c.index.ensures
