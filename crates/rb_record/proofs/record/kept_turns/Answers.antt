use Rattle.rb_record.proofs.Records.{read_fault, read_all}
use Rattle.rb_record.proofs.record.kept_turns.Goals as goal

pub returns-in-Err : goal.returns-in-Err
returns-in-Err c = read_fault _ _ _ _ _ _ _ c.first_line.result.1.now _ c.loop-rest.invariant.read c.first_line.ensures.lines c.in-Err.ensures

pub returns : goal.returns
returns c = read_all _ _ _ _ _ _ c.loop-rest.invariant.read c.loop-rest-test.ensures
