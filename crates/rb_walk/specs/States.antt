-- The state that one in memory stands for. Kept turns are not noted in a plain run.
use Rattle.std.specs.Prelude.{[], map, reverse}
use Rattle.rb_meaning.specs.State.{State as Plain}
use Rattle.rb_walk.specs.declared.state.State.{State}
use Rattle.rb_walk.specs.Items.{items_of}

abbrev pub state_of : State → Plain
state_of s = record {
  process = s.number;
  items = items_of (reverse s.items.items);
  environment = s.environment;
  sent = map (λ values. values.items) s.sent.items;
  taken = s.taken.items;
  held = s.held;
  kept = [];
}
