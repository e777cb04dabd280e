use Rattle.std.proofs.Common.{◌≡◌, List, length, ap, sym, ◌∙◌, subst, arith}
use Rattle.rb_domino.specs.declared.state.State.{State}
use Rattle.rb_domino.specs.Recovery.{all_states}
use Rattle.rb_domino.specs.Board.{AreSplit, in_all, is_in, stacks}
use Rattle.rb_domino.proofs.FewStates.{few_states}
use Rattle.rb_domino.proofs.Opening.{split_opening, counted_states, counted_stacks}
use Rattle.rb_domino.proofs.board.Board.new.Goals as goal

pub returns-clause-holds : goal.returns-clause-holds
returns-clause-holds g c =
    let story = c.args.history.now in
    let states = c.in_ok-states.states in
    let sends = c.in_ok-sends.sends in
    let left : stacks states.items ≡ all_states story = c.in_ok-states.ensures.states in
    record {
      orderly = c.requires.orderly;
      takes = c.in_ok-takes.ensures.takes;
      all_takes = c.in_ok-takes.ensures.all;
      all_states = states.ok.0 ∙ counted_stacks states.items (length story.processes) (counted_states story (stacks states.items) left);
      all_sends = sends.ok.0 ∙ counted_stacks sends.items (length story.processes) c.in_ok-sends.ensures.sends.counted;
      split = subst (λ (l : List (List State)). AreSplit story l (stacks sends.items) (is_in c.new-pending.result)) (sym left)
          (split_opening story (stacks sends.items) c.new-pending.result c.requires.orderly c.in_ok-sends.ensures.sends c.new-pending.ensures.empty);
    }

pub returns-clause-owed : goal.returns-clause-owed
returns-clause-owed g c =
    let story = c.args.history.now in
    omega (
      arith,
      few_states story,
      ap (in_all {X = State}) c.in_ok-states.ensures.states,
      c.in_ok-sends.ensures.sends.once,
      c.new-pending.ensures.len,
    )
