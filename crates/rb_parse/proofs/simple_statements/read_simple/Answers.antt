use Rattle.std.proofs.Common.{sym}
use Rattle.rb_parse.proofs.simple_statements.read_simple.Goals as goal

pub returns-then-stands_at-clause-ok : goal.returns-then-stands_at-clause-ok
returns-then-stands_at-clause-ok c = c.read_print.ensures.ok

pub returns-then-stands_at-clause-err : goal.returns-then-stands_at-clause-err
returns-then-stands_at-clause-err c = c.read_print.ensures.err

pub returns-then-stands_at-clause-ending : goal.returns-then-stands_at-clause-ending
returns-then-stands_at-clause-ending c = c.read_print.ensures.ending

pub returns-then-stands_at-clause-shorter : goal.returns-then-stands_at-clause-shorter
returns-then-stands_at-clause-shorter c = c.read_print.ensures.shorter

pub read_print-requires : goal.read_print-requires
read_print-requires c = sym c.if-stands_at.ensures

pub returns-then-stands_at-2-clause-ok : goal.returns-then-stands_at-2-clause-ok
returns-then-stands_at-2-clause-ok c = c.read_send.ensures.ok

pub returns-then-stands_at-2-clause-err : goal.returns-then-stands_at-2-clause-err
returns-then-stands_at-2-clause-err c = c.read_send.ensures.err

pub returns-then-stands_at-2-clause-ending : goal.returns-then-stands_at-2-clause-ending
returns-then-stands_at-2-clause-ending c = c.read_send.ensures.ending

pub returns-then-stands_at-2-clause-shorter : goal.returns-then-stands_at-2-clause-shorter
returns-then-stands_at-2-clause-shorter c = c.read_send.ensures.shorter

pub read_send-requires : goal.read_send-requires
read_send-requires c = sym c.if-stands_at-2.ensures

pub returns-then-stands_at-3-clause-ok : goal.returns-then-stands_at-3-clause-ok
returns-then-stands_at-3-clause-ok c = c.read_call.ensures.ok

pub returns-then-stands_at-3-clause-err : goal.returns-then-stands_at-3-clause-err
returns-then-stands_at-3-clause-err c = c.read_call.ensures.err

pub returns-then-stands_at-3-clause-ending : goal.returns-then-stands_at-3-clause-ending
returns-then-stands_at-3-clause-ending c = c.read_call.ensures.ending

pub returns-then-stands_at-3-clause-shorter : goal.returns-then-stands_at-3-clause-shorter
returns-then-stands_at-3-clause-shorter c = c.read_call.ensures.shorter

pub read_call-requires : goal.read_call-requires
read_call-requires c = sym c.if-stands_at-3.ensures

pub returns-then-stands_at-4-clause-ok : goal.returns-then-stands_at-4-clause-ok
returns-then-stands_at-4-clause-ok c = c.read_fail.ensures.ok

pub returns-then-stands_at-4-clause-err : goal.returns-then-stands_at-4-clause-err
returns-then-stands_at-4-clause-err c = c.read_fail.ensures.err

pub returns-then-stands_at-4-clause-ending : goal.returns-then-stands_at-4-clause-ending
returns-then-stands_at-4-clause-ending c = c.read_fail.ensures.ending

pub returns-then-stands_at-4-clause-shorter : goal.returns-then-stands_at-4-clause-shorter
returns-then-stands_at-4-clause-shorter c = c.read_fail.ensures.shorter

pub read_fail-requires : goal.read_fail-requires
read_fail-requires c = sym c.if-stands_at-4.ensures

pub returns-else-stands_at-4-clause-ok : goal.returns-else-stands_at-4-clause-ok
returns-else-stands_at-4-clause-ok c = c.read_assignment.ensures.ok

pub returns-else-stands_at-4-clause-err : goal.returns-else-stands_at-4-clause-err
returns-else-stands_at-4-clause-err c = c.read_assignment.ensures.err

pub returns-else-stands_at-4-clause-ending : goal.returns-else-stands_at-4-clause-ending
returns-else-stands_at-4-clause-ending c = c.read_assignment.ensures.ending

pub returns-else-stands_at-4-clause-shorter : goal.returns-else-stands_at-4-clause-shorter
returns-else-stands_at-4-clause-shorter c = c.read_assignment.ensures.shorter

pub read_assignment-requires-clause-no_receive : goal.read_assignment-requires-clause-no_receive
read_assignment-requires-clause-no_receive c = c.requires.no_receive

pub read_assignment-requires-clause-no_if : goal.read_assignment-requires-clause-no_if
read_assignment-requires-clause-no_if c = c.requires.no_if

pub read_assignment-requires-clause-no_while : goal.read_assignment-requires-clause-no_while
read_assignment-requires-clause-no_while c = c.requires.no_while

pub read_assignment-requires-clause-no_ensure : goal.read_assignment-requires-clause-no_ensure
read_assignment-requires-clause-no_ensure c = c.requires.no_ensure

pub read_assignment-requires-clause-no_converse : goal.read_assignment-requires-clause-no_converse
read_assignment-requires-clause-no_converse c = c.requires.no_converse

pub read_assignment-requires-clause-no_print : goal.read_assignment-requires-clause-no_print
read_assignment-requires-clause-no_print c = sym c.if-stands_at.ensures

pub read_assignment-requires-clause-no_send : goal.read_assignment-requires-clause-no_send
read_assignment-requires-clause-no_send c = sym c.if-stands_at-2.ensures

pub read_assignment-requires-clause-no_call : goal.read_assignment-requires-clause-no_call
read_assignment-requires-clause-no_call c = sym c.if-stands_at-3.ensures

pub read_assignment-requires-clause-no_fail : goal.read_assignment-requires-clause-no_fail
read_assignment-requires-clause-no_fail c = sym c.if-stands_at-4.ensures
