use Rattle.rb_verdict.specs.Judging.{TakesWhileWriting}
use Rattle.rb_commands.specs.Asked.{asked}
use Rattle.rb_commands.specs.Requests.{explains_of}
use Rattle.rb_commands.proofs.Lasts.{lasts_behind}
use Rattle.rb_commands.proofs.request.command.Goals as goal

pub returns-clause-lasts : goal.returns-clause-lasts
returns-clause-lasts g c =
    let request = asked c.args.request in
    lasts_behind request (explains_of request.command) (TakesWhileWriting request.command) _ _ c.carry.result.outcome c.carry.ensures.ends
