use Rattle.rb_verdict.specs.Judging.{Judges, accepted_line}
use Rattle.rb_verdict.specs.Words.{Check}
use Rattle.rb_hall.proofs.Ends.{put_failed, put_whole}
use Rattle.rb_commands.specs.Explained.{ExplainsSource}
use Rattle.rb_commands.proofs.Sources.{checked_writes}
use Rattle.rb_commands.proofs.check.Check.put.Goals as goal

pub returns-in-Ok : goal.returns-in-Ok
returns-in-Ok g c =
    λ texts many holds.
    put_whole (Judges Check texts) (ExplainsSource texts) ⊥ accepted_line _ _ (g.S.Sink.faults c.args.out.now) _ _ tt
    (checked_writes c.args.held texts many holds) c.in-Ok.ensures

pub returns-in-Err : goal.returns-in-Err
returns-in-Err g c =
    λ texts many holds.
    put_failed (Judges Check texts) (ExplainsSource texts) ⊥ accepted_line _ _ (g.S.Sink.faults c.args.out.now) _ _
    (checked_writes c.args.held texts many holds) c.in-Err.ensures
