use Rattle.rb_code.specs.Instructions.Listing.{listing_text}
use Rattle.rb_code.specs.Instructions.Plain.{code}
use Rattle.rb_hall.proofs.Ends.{put_failed, put_whole}
use Rattle.rb_verdict.specs.Judging.{Judges}
use Rattle.rb_verdict.specs.Words.{ListCode}
use Rattle.rb_commands.specs.Explained.{ExplainsSource}
use Rattle.rb_commands.proofs.Programs.{code_lists}
use Rattle.rb_commands.proofs.code.Code.put.Goals as goal

pub returns-in-Ok : goal.returns-in-Ok
returns-in-Ok g c =
    rw c.in-Program.is (λ texts many holds.
    put_whole (Judges ListCode texts) (ExplainsSource texts) ⊥ (listing_text (code c.in-Program.prepared.code)) _ _ (g.S.Sink.faults c.args.out.now) _ _ tt
    (code_lists c.in-Program.prepared texts holds) c.in-Ok.ensures)

pub returns : goal.returns
returns g c =
    rw c.in-Program.is (λ texts many holds.
    put_failed (Judges ListCode texts) (ExplainsSource texts) ⊥ (listing_text (code c.in-Program.prepared.code)) _ _ (g.S.Sink.faults c.args.out.now) _ _
    (code_lists c.in-Program.prepared texts holds) c.in-Err.ensures)
