use Rattle.std.proofs.Common.{◌≡◌, ◌+◌, ◌-◌, suc, None, Some, refl, sym, ◌∙◌, arith}
use Rattle.rb_domino.specs.Board.{left_on}
use Rattle.rb_domino.specs.Recovery.{falls_by_messages, first_fall}
use Rattle.rb_domino.proofs.Rounds.{falls_on_all, falls_on_more, falls_on_none, falls_on_none_left}
use Rattle.rb_domino.proofs.analysis.fall_by_messages.Goals as goal

pub loop-round-init : goal.loop-round-init
loop-round-init g c =
    let story = c.args.history.now in
    let rounds : c.args.most ≡ c.args.most - 0 = omega arith in
    record {
      falls = falls_on_none story (falls_by_messages story c.args.most (left_on c.args.board.now)) (c.args.most - 0) c.args.most
          c.args.drops.now.items c.args.board.now refl rounds c.requires;
      work = omega arith;
    }

pub returns-in_default-clause-falls : goal.returns-in_default-clause-falls
returns-in_default-clause-falls g c =
    let story = c.args.history.now in
    let none : first_fall story (left_on c.loop-round.board) ≡ None = sym c.next_fall.ensures.fall ∙ c.in_default.is in
    falls_on_none_left story (falls_by_messages story c.args.most (left_on c.args.board.now)) (c.args.most - c.loop-round._round)
    c.args.drops.now.items c.loop-round.drops.items c.loop-round.board
    (left_on c.next_fall.new.self) c.loop-round.invariant.falls none c.next_fall.ensures.left

pub loop-round-preserved : goal.loop-round-preserved
loop-round-preserved g c =
    let story = c.args.history.now in
    let fewer = c.args.most - (c.loop-round._round + 1) in
    let rounds : c.args.most - c.loop-round._round ≡ suc fewer = omega arith in
    let first : first_fall story (left_on c.loop-round.board) ≡ Some c.in-Some.fall = sym c.next_fall.ensures.fall ∙ c.in-Some.is in
    record {
      falls = falls_on_more story (falls_by_messages story c.args.most (left_on c.args.board.now)) (c.args.most - c.loop-round._round) fewer
          c.args.drops.now.items c.loop-round.drops.items c.fall.new.drops.items c.loop-round.board c.fall.new.self c.in-Some.fall
          (left_on c.next_fall.new.self) c.loop-round.invariant.falls rounds first c.next_fall.ensures.left
          c.in_ok-fall.ensures.drops c.in_ok-fall.ensures.left c.in_ok-fall.ensures.holds;
      work = omega (arith, c.loop-round.invariant.work, c.tick.ensures, c.next_fall.ensures.work, c.fall.ensures.work);
    }

pub returns-clause-falls : goal.returns-clause-falls
returns-clause-falls g c =
    let story = c.args.history.now in
    let none : c.args.most - c.loop-round._round ≡ 0 = omega arith in
    falls_on_all story (falls_by_messages story c.args.most (left_on c.args.board.now)) (c.args.most - c.loop-round._round)
    c.args.drops.now.items c.loop-round.drops.items c.loop-round.board c.loop-round.invariant.falls none

pub returns-in_default-clause-work : goal.returns-in_default-clause-work
returns-in_default-clause-work g c =
    omega (arith, c.loop-round-test.true, c.loop-round.invariant.work, c.tick.ensures, c.next_fall.ensures.work)

pub returns-in_err-fall-clause-work : goal.returns-in_err-fall-clause-work
returns-in_err-fall-clause-work g c =
    omega (arith, c.loop-round-test.true, c.loop-round.invariant.work, c.tick.ensures, c.next_fall.ensures.work, c.fall.ensures.work)
