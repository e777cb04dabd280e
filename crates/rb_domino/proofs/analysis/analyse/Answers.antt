use Rattle.std.proofs.Common.{◌≡◌, length, ap, subst, sym, arith}
use Rattle.std.proofs.lemmas.Result.{IfOk-weaker}
use Rattle.rb_domino.specs.declared.analysis.Analysis.{Analysis}
use Rattle.rb_domino.specs.Recovery.{outcome_of}
use Rattle.rb_domino.specs.RecoveryLine.{IsRecovered, recovery_line}
use Rattle.rb_domino.proofs.Orderly.{orderly, few_named}
use Rattle.rb_domino.proofs.theorem.Whole.{recovered}
use Rattle.rb_domino.proofs.analysis.analyse.Goals as goal

pub analyse_on-requires-clause-holds : goal.analyse_on-requires-clause-holds
analyse_on-requires-clause-holds g c = c.in_ok-board.ensures.holds

pub analyse_on-requires-clause-whole : goal.analyse_on-requires-clause-whole
analyse_on-requires-clause-whole g c = c.in_ok-board.ensures.left

pub analyse_on-requires-clause-lines : goal.analyse_on-requires-clause-lines
analyse_on-requires-clause-lines g c = c.lines-lines.ensures.lines

pub analyse_on-requires-clause-few : goal.analyse_on-requires-clause-few
analyse_on-requires-clause-few g c = omega (arith, ap length c.lines-lines.ensures.lines, c.lines-lines.ensures.whole.few_lines)

pub returns-clause-recovered : goal.returns-clause-recovered
returns-clause-recovered g c =
    let story = c.args.history.now in
    IfOk-weaker c.analyse_on.result (λ (analysis : Analysis). analysis.drops.items ≡ (outcome_of story).drops)
    (λ (analysis : Analysis). IsRecovered story analysis.drops.items (recovery_line story))
    (λ analysis same. subst (λ drops. IsRecovered story drops (recovery_line story)) (sym same) (recovered story c.lines-lines.ensures.whole))
    c.analyse_on.ensures.drops

pub returns-in_err-board-clause-work : goal.returns-in_err-board-clause-work
returns-in_err-board-clause-work g c = omega (arith, few_named c.lines-lines.ensures.whole.history, c.new.ensures.work)

pub returns-clause-work : goal.returns-clause-work
returns-clause-work g c =
    omega (
      arith,
      few_named c.lines-lines.ensures.whole.history,
      c.new.ensures.work,
      c.in_ok-board.ensures.owed,
      c.analyse_on.ensures.work,
      ap length c.lines-lines.ensures.lines,
    )

pub new-requires-clause-orderly : goal.new-requires-clause-orderly
new-requires-clause-orderly g c = orderly c.lines-lines.ensures.whole.history
