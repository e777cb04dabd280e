use Rattle.rb_nest.specs.Groups.{alternates, memberships}
use Rattle.rb_code.specs.Instructions.Plain.{code}
use Rattle.rb_image.specs.Image.{image_of}
use Rattle.rb_hall.proofs.Ends.{put_failed, put_whole}
use Rattle.rb_verdict.specs.Judging.{Judges}
use Rattle.rb_verdict.specs.Words.{Compile}
use Rattle.rb_commands.specs.Explained.{ExplainsSource}
use Rattle.rb_commands.proofs.Programs.{image_writes}
use Rattle.rb_commands.proofs.compile.Compile.put.Goals as goal

pub returns-in-Ok : goal.returns-in-Ok
returns-in-Ok g c =
    let prepared = c.in-Program.prepared in
    rw c.in-Program.is (λ texts many holds.
    put_whole (Judges Compile texts) (ExplainsSource texts) ⊥ (image_of (code prepared.code) (memberships prepared.nested) (alternates prepared.nested))
    _ _ (g.S.Sink.faults c.args.out.now) _ _ tt (image_writes prepared texts holds) c.in-Ok.ensures.text)

pub returns : goal.returns
returns g c =
    let prepared = c.in-Program.prepared in
    rw c.in-Program.is (λ texts many holds.
    put_failed (Judges Compile texts) (ExplainsSource texts) ⊥ (image_of (code prepared.code) (memberships prepared.nested) (alternates prepared.nested))
    _ _ (g.S.Sink.faults c.args.out.now) _ _ (image_writes prepared texts holds) c.in-Err.ensures.text)
