use Rattle.std.proofs.Common.{◌≡◌, ℕ, length, None, Some, OnOk, ap, sym, ◌∙◌, subst}
use Rattle.std.proofs.lemmas.Result.{IfOk-weaker}
use Rattle.rb_domino.specs.declared.line.Line.{Line}
use Rattle.rb_domino.specs.Board.{Falls, left_on}
use Rattle.rb_domino.specs.Recovery.{failure_from, falls, falls_by_messages}
use Rattle.rb_domino.proofs.Rounds.{failure_known, falls_first, falls_nowhere}
use Rattle.rb_domino.proofs.analysis.fall_all.Goals as goal

pub fall-requires-clause-known : goal.fall-requires-clause-known
fall-requires-clause-known g c =
    let story = c.args.history.now in
    let fails : failure_from 0 story.lines ≡ Some c.in-Some.fall = ap (failure_from 0) (sym c.requires.lines) ∙ sym c.failure.ensures.fails
    ∙ c.in-Some.is in
    failure_known (length story.processes) (length story.messages) 0 story.lines c.in-Some.fall c.requires.holds.orderly.lines fails

pub returns-in_default-clause-falls : goal.returns-in_default-clause-falls
returns-in_default-clause-falls g c =
    let story = c.args.history.now in
    let none : failure_from 0 story.lines ≡ None = ap (failure_from 0) (sym c.requires.lines) ∙ sym c.failure.ensures.fails ∙ c.in_default.is in
    falls_nowhere (left_on c.args.board.now) (failure_from 0 story.lines) (falls_by_messages story (length story.lines)) c.args.drops.now.items none

pub returns-clause-falls : goal.returns-clause-falls
returns-clause-falls g c =
    let story = c.args.history.now in
    let fails : failure_from 0 story.lines ≡ Some c.in-Some.fall = ap (failure_from 0) (sym c.requires.lines) ∙ sym c.failure.ensures.fails
    ∙ c.in-Some.is in
    let most : length c.args.lines.now ≡ length story.lines = ap (length {A = Line}) c.requires.lines in
    let left = left_on c.args.board.now in
    let next = left_on c.fall.new.self in
    let last = left_on c.fall_by_messages.new.board in
    let now = c.fall.new.drops.items in
    let then = c.fall_by_messages.new.drops.items in
    let rest : OnOk c.fall_by_messages.result (Falls (falls_by_messages story (length story.lines) next) now then last) =
    subst (λ (n : ℕ). OnOk c.fall_by_messages.result (Falls (falls_by_messages story n next) now then last)) most c.fall_by_messages.ensures.falls in
    IfOk-weaker c.fall_by_messages.result (λ _. Falls (falls_by_messages story (length story.lines) next) now then last)
    (λ _. Falls (falls left (failure_from 0 story.lines) (falls_by_messages story (length story.lines))) c.args.drops.now.items then last)
    (λ _. falls_first left next last c.in-Some.fall (failure_from 0 story.lines) (falls_by_messages story (length story.lines))
    c.args.drops.now.items now then fails c.in_ok-fall.ensures.drops c.in_ok-fall.ensures.left) rest
