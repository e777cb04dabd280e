use Rattle.std.proofs.Common.{refl}
use Rattle.rb_hall.proofs.Ends.{put_failed, put_whole}
use Rattle.rb_verdict.specs.Judging.{Tells}
use Rattle.rb_commands.specs.Explained.{ExplainsSource}
use Rattle.rb_commands.proofs.saying.Saying.put.Goals as goal

pub returns-in-Ok : goal.returns-in-Ok
returns-in-Ok g c =
    let text = c.args.self.now.text.now in
    λ texts many none. put_whole (Tells text texts) (ExplainsSource texts) ⊥ text _ _ (g.S.Sink.faults c.args.out.now) _ _ tt (none, refl) c.in-Ok.ensures

pub returns-in-Err : goal.returns-in-Err
returns-in-Err g c =
    let text = c.args.self.now.text.now in
    λ texts many none. put_failed (Tells text texts) (ExplainsSource texts) ⊥ text _ _ (g.S.Sink.faults c.args.out.now) _ _ (none, refl) c.in-Err.ensures
