use Rattle.std.proofs.Common.{List, ◌++◌, length, ap, ◌∙◌, arith}
use Rattle.rb_domino.specs.declared.state.State.{State}
use Rattle.rb_domino.specs.Board.{left_on}
use Rattle.rb_domino.specs.Recovery.{Outcome, failure_from, falls, falls_by_messages, line_of}
use Rattle.rb_domino.proofs.analysis.analyse_on.Goals as goal

pub fall_all-requires-clause-holds : goal.fall_all-requires-clause-holds
fall_all-requires-clause-holds g c = c.requires.holds

pub fall_all-requires-clause-lines : goal.fall_all-requires-clause-lines
fall_all-requires-clause-lines g c = c.requires.lines

pub fall_all-requires-clause-few : goal.fall_all-requires-clause-few
fall_all-requires-clause-few g c = c.requires.few

pub returns-clause-drops : goal.returns-clause-drops
returns-clause-drops g c =
    let story = c.args.history.now in
    let outcome : List (List State) → Outcome =
    λ (left : List (List State)). falls left (failure_from 0 story.lines) (falls_by_messages story (length story.lines)) in
    c.in_ok-fall_all.ensures.falls.drops
    ∙ ap (λ ds. ds ++ (outcome (left_on c.args.board.now)).drops) c.new-drops.ensures.items
    ∙ ap (λ l. (outcome l).drops) c.requires.whole

pub returns-clause-line : goal.returns-clause-line
returns-clause-line g c =
    let story = c.args.history.now in
    let outcome : List (List State) → Outcome =
    λ (left : List (List State)). falls left (failure_from 0 story.lines) (falls_by_messages story (length story.lines)) in
    c.in_ok-line.ensures.line
    ∙ ap line_of (c.in_ok-fall_all.ensures.falls.left_is ∙ ap (λ l. (outcome l).left) c.requires.whole)

pub returns-in_err-fall_all-clause-work : goal.returns-in_err-fall_all-clause-work
returns-in_err-fall_all-clause-work g c = omega (arith, c.fall_all.ensures.work)

pub returns-in_err-line-clause-work : goal.returns-in_err-line-clause-work
returns-in_err-line-clause-work g c =
    omega (arith, c.fall_all.ensures.work, c.in_ok-fall_all.ensures.holds.all_states, c.line.ensures.work)

pub returns-clause-work : goal.returns-clause-work
returns-clause-work g c =
    omega (arith, c.fall_all.ensures.work, c.in_ok-fall_all.ensures.holds.all_states, c.line.ensures.work)
