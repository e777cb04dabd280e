use Rattle.std.proofs.Common.{sym, subst}
use Rattle.rb_grammar.proofs.Ahead.{misses, misses_all, advances, advances_sound, shorter, same_ending, stops_deep, stops_faulty}
use Rattle.rb_grammar.specs.Reading.{IsNotTaken}
use Rattle.rb_grammar.specs.declared.stop.Stop.TheVariants as stops
use Rattle.rb_grammar.proofs.cursor.Cursor.take.Goals as goal

pub returns-in_default-clause-err : goal.returns-in_default-clause-err
returns-in_default-clause-err c =
    let i = c.self.inside in
    misses_all c.args.terminal i.terminal i.ahead i.lexer i.names i.recoveries i.brackets c.args.self.now c.self.view_is
    c.self.invariant c.in_default.is

pub returns-then-not-fits-clause-err : goal.returns-then-not-fits-clause-err
returns-then-not-fits-clause-err c =
    let i = c.self.inside in
    misses c.args.terminal i.terminal i.ahead i.lexer i.names i.recoveries i.brackets c.args.self.now c.self.view_is
    c.self.invariant (sym c.if-not-fits.ensures)

pub returns-then-brackets-gt-MOST_OPEN_BRACKETS-clause-err : goal.returns-then-brackets-gt-MOST_OPEN_BRACKETS-clause-err
returns-then-brackets-gt-MOST_OPEN_BRACKETS-clause-err c =
    let i = c.self.inside in
    subst (λ fault. IsNotTaken c.args.terminal c.args.self.now c.args.self.now (stops.Token fault)) (sym c.too_deep.ensures)
    (stops_deep c.in-Some.token i.ahead c.args.terminal i.terminal i.lexer i.names i.recoveries i.brackets c.args.self.now
    c.self.view_is c.self.invariant c.in-Some.is (sym c.if-not-fits.ensures) c.args.self.now c.open_after-brackets.result
    c.open_after-brackets.ensures c.if-brackets-gt-MOST_OPEN_BRACKETS.true)

pub invariant_of-self : goal.invariant_of-self
invariant_of-self c =
    let i = c.self.inside in
    advances_sound c.in-Some.token i.ahead c.args.terminal i.terminal i.lexer i.names i.recoveries i.brackets c.args.self.now
    c.self.view_is c.self.invariant c.in-Some.is (sym c.if-not-fits.ensures) c.open_after-brackets.result
    c.open_after-brackets.ensures c.if-brackets-gt-MOST_OPEN_BRACKETS.false c.in-Ok.ahead c.next.new.self c.in-Ok.ensures
    c.terminal_ahead-self-inside.result c.names_after-self-inside.result c.blocks_after-self-inside.result
    c.terminal_ahead-self-inside.ensures c.names_after-self-inside.ensures c.blocks_after-self-inside.ensures

pub returns-in-Ok-clause-ok : goal.returns-in-Ok-clause-ok
returns-in-Ok-clause-ok c =
    let i = c.self.inside in
    advances c.in-Some.token i.ahead c.args.terminal i.terminal i.lexer i.names i.recoveries i.brackets c.args.self.now
    c.self.view_is c.self.invariant c.in-Some.is (sym c.if-not-fits.ensures) c.open_after-brackets.result
    c.open_after-brackets.ensures c.if-brackets-gt-MOST_OPEN_BRACKETS.false c.in-Ok.ahead c.next.new.self c.in-Ok.ensures
    c.names_after-self-inside.result c.blocks_after-self-inside.result c.names_after-self-inside.ensures
    c.blocks_after-self-inside.ensures

pub returns-in-Ok-clause-ending : goal.returns-in-Ok-clause-ending
returns-in-Ok-clause-ending c =
    let i = c.self.inside in
    same_ending c.in-Some.token i.ahead c.args.terminal i.terminal i.lexer i.names i.recoveries i.brackets c.args.self.now
    c.self.view_is c.self.invariant c.in-Some.is (sym c.if-not-fits.ensures) c.open_after-brackets.result
    c.open_after-brackets.ensures c.if-brackets-gt-MOST_OPEN_BRACKETS.false c.in-Ok.ahead c.next.new.self c.in-Ok.ensures

pub returns-in-Ok-clause-shorter : goal.returns-in-Ok-clause-shorter
returns-in-Ok-clause-shorter c =
    let i = c.self.inside in
    shorter c.in-Some.token i.ahead c.args.terminal i.terminal i.lexer i.names i.recoveries i.brackets c.args.self.now
    c.self.view_is c.self.invariant c.in-Some.is (sym c.if-not-fits.ensures) c.open_after-brackets.result
    c.open_after-brackets.ensures c.if-brackets-gt-MOST_OPEN_BRACKETS.false c.in-Ok.ahead c.next.new.self c.in-Ok.ensures

pub returns-in-Err-clause-err : goal.returns-in-Err-clause-err
returns-in-Err-clause-err c =
    let i = c.self.inside in
    stops_faulty c.in-Some.token i.ahead c.args.terminal i.terminal i.lexer i.names i.recoveries i.brackets c.args.self.now
    c.self.view_is c.self.invariant c.in-Some.is (sym c.if-not-fits.ensures) c.open_after-brackets.result
    c.open_after-brackets.ensures c.if-brackets-gt-MOST_OPEN_BRACKETS.false c.in-Err.fault c.next.new.self _ c.in-Err.ensures
