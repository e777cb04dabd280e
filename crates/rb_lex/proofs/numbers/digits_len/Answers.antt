use Rattle.std.proofs.Common.{sym, arith}
use Rattle.std.proofs.lemmas.List.Sums.{prefix_len-drop_all, prefix_len-drop_no, prefix_len-drop_yes}
use Rattle.rb_base.specs.Bytes.{is_digit}
use Rattle.rb_lex.proofs.numbers.digits_len.Goals as goal

pub loop-at-preserved : goal.loop-at-preserved
loop-at-preserved c =
    let more = prefix_len-drop_yes is_digit c.args.bytes.now c.loop-at.at 0 c.loop-at-test.true (sym c.if-not-is_digit.ensures) in
    omega (arith, c.loop-at.invariant, more)

pub returns-then-not-is_digit : goal.returns-then-not-is_digit
returns-then-not-is_digit c =
    let none = prefix_len-drop_no is_digit c.args.bytes.now c.loop-at.at 0 c.loop-at-test.true (sym c.if-not-is_digit.ensures) in
    omega (arith, c.loop-at.invariant, none)

pub returns : goal.returns
returns c =
    let none = prefix_len-drop_all is_digit c.args.bytes.now c.loop-at.at c.loop-at-test.false in
    omega (arith, c.loop-at.invariant, none)
