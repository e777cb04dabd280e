use Rattle.std.proofs.Common.{sym, ◌∙◌, arith}
use Rattle.rb_flow.proofs.Starting.{put_one}
use Rattle.rb_flow.proofs.ends.starts_of.Goals as goal

pub loop-one-preserved : goal.loop-one-preserved
loop-one-preserved c = λ a.
    sym (put_one c.args.procedures.now c.loop-one.one-index c.one-item.result c.loop-one.starts c.insert.new.self a (omega arith) c.one-item.is
    c.in_ok-insert.ensures.updates.0)
    ∙ c.loop-one.invariant a
