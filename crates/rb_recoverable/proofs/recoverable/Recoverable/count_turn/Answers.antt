use Rattle.std.proofs.Common.{map, ap, sym, ◌∙◌}
use Rattle.std.specs.Prelude.{position}
use Rattle.rb_world.specs.Turn.{is_over, one_used}
use Rattle.rb_recoverable.specs.Contents.{Contents}
use Rattle.rb_recoverable.proofs.Looked.{seen_tick, tied_tick, within_seen}
use Rattle.rb_recoverable.proofs.recoverable.Recoverable.count_turn.Goals as goal

pub invariant_of-self : goal.invariant_of-self
invariant_of-self g c = tied_tick _ _ _ _ _ _ _ _ _ c.self.invariant

pub returns-then-self-clause-turn : goal.returns-then-self-clause-turn
returns-then-self-clause-turn g c =
    seen_tick _ _ _ _ _ _ _ _ _ c.self.invariant ∙ ap (λ (r : Contents). record r { levels = map one_used r.levels }) c.self.view_is

pub returns-then-self-clause-over : goal.returns-then-self-clause-over
returns-then-self-clause-over g c =
    sym (ap (λ (r : Contents). position is_over r.levels) (seen_tick _ _ _ _ _ _ _ _ _ c.self.invariant)
    ∙ within_seen _ _ _ _ _ _ _ _ _ c.self.invariant c.if-self.true)
