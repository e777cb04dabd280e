use Rattle.std.proofs.Common.{ℕ, List, sym, subst}
use Rattle.rb_hall.specs.Ends.{WriteEnds}
use Rattle.rb_verdict.specs.Judging.{Judges}
use Rattle.rb_verdict.specs.Words.{Trial}
use Rattle.rb_commands.specs.Explained.{ExplainsSource}
use Rattle.rb_commands.proofs.trial.Trial.put.Goals as goal

pub returns-in-Ok : goal.returns-in-Ok
returns-in-Ok g c =
    λ texts many none.
    subst (λ (ts : List (List ℕ)). WriteEnds (Judges (Trial c.args.self.now.number) ts) (ExplainsSource ts) ⊥ (g.S.Sink.written c.args.out.now)
    (g.S.Sink.written c.try_texts.new.out) (g.S.Sink.faults c.args.out.now) (g.S.Sink.faults c.try_texts.new.out) c.try_texts.result)
    (sym none) c.try_texts.ensures
