use Rattle.rb_lex.proofs.Counting.{places_count}
use Rattle.rb_lex.proofs.laws.places_count.Goals as goal

pub returns : goal.returns
returns c = places_count
