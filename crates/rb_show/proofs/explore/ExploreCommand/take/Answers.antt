use Rattle.rb_commands.proofs.Sources.{program_refused, program_taken}
use Rattle.rb_show.specs.Explored.{ExploreGoesOn}
use Rattle.rb_show.proofs.explore.ExploreCommand.take.Goals as goal

pub returns-clause-held : goal.returns-clause-held
returns-clause-held c =
    rw c.in-Nothing.is
    (program_taken (ExploreGoesOn c.args.self.now.number) c.args.self.now.source.now c.args.text.now c.take_source.result c.take_source.ensures.compiled)

pub returns-clause-refused : goal.returns-clause-refused
returns-clause-refused c =
    rw c.in-Nothing.is (program_refused (ExploreGoesOn c.args.self.now.number) c.args.text.now c.take_source.result c.take_source.ensures.refused)
