use Rattle.rb_domino.specs.Recovery.{outcome_of}
use Rattle.rb_domino.specs.Written.{outcome_text}
use Rattle.rb_verdict.specs.Judging.{Judges}
use Rattle.rb_verdict.specs.Words.{Analyse}
use Rattle.rb_commands.specs.Explained.{ExplainsSource}
use Rattle.rb_commands.proofs.Ending.{whole_ends}
use Rattle.rb_commands.proofs.Histories.{history_writes}
use Rattle.rb_commands.proofs.domino.Domino.put.Goals as goal

pub returns : goal.returns
returns g c =
    let story = c.in-Story.history in
    rw c.in-Story.is (λ texts many holds.
    whole_ends (Judges Analyse texts) (ExplainsSource texts) ⊥ (outcome_text story (outcome_of story)) (history_writes story texts holds)
    (g.S.Sink.written c.args.out.now) (g.S.Sink.written c.tell_outcome.new.out) (g.S.Sink.faults c.args.out.now)
    (g.S.Sink.faults c.tell_outcome.new.out) c.tell_outcome.result c.tell_outcome.ensures)
