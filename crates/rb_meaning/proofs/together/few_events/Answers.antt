use Rattle.rb_meaning.proofs.Knowing.FewEventsOfTurns.{few_events as few}
use Rattle.rb_meaning.proofs.together.few_events.Goals as goal

-- src/together.rt:7:1
pub returns : goal.returns
returns c = few
