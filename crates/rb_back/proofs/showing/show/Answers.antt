use Rattle.rb_outside.proofs.Puts.{puts_same}
use Rattle.rb_back.proofs.TextShown.{as_stopped, moved_text}
use Rattle.rb_back.proofs.showing.show.Goals as goal

pub returns-clause-text : goal.returns-clause-text
returns-clause-text g c =
    puts_same _ _ _ _ _ _ _
    (moved_text c.args.session.now c.move_to.new.session c.args.schedule.now c.move_to.new.schedule c.args.position c.args.p
    c.in_ok-move_to.ensures)
    (as_stopped _ _ _ _ _ c.in_ok-write_shown.ensures.text)
