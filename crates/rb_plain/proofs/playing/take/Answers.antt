-- What the turn came to is answered with its number.
use Rattle.rb_plain.proofs.playing.take.Goals as goal

pub returns : goal.returns
returns c = c.of_turn.ensures _ _ c.take_turn.ensures
