use Rattle.std.proofs.Common.{◌≡◌, subst}
use Rattle.rb_code.specs.WordMachine.WordRun.{word_text}
use Rattle.rb_trace.specs.Naming.{naming}
use Rattle.rb_verdict.specs.Programs.{Program, names_in}
use Rattle.rb_commands.specs.Written.{EndsOverTurns}
use Rattle.rb_commands.proofs.image.Image.run.Goals as goal

pub returns : goal.returns
returns g c =
    subst (λ (one : Program). EndsOverTurns (names_in one) (word_text one.code one.groups) (λ names. naming names ≡ one.code.names) c.args.text.now
    (g.S.Sink.written c.args.out.now) (g.S.Sink.written c.run_over.new.out) (g.S.Sink.faults c.args.out.now) (g.S.Sink.faults c.run_over.new.out)
    c.run_over.result)
    c.self.view_is c.run_over.ensures
