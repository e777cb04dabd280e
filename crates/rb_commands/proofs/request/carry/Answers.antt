use Rattle.rb_commands.proofs.request.carry.Goals as goal

pub returns-in-Usage-clause-ends : goal.returns-in-Usage-clause-ends
returns-in-Usage-clause-ends g c = rw c.in-Usage.is c.carry_out-in-Usage.ensures.ends
