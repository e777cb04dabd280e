use Rattle.rb_show.proofs.request.command.Goals as goal

pub returns-in-Explain-clause-ends : goal.returns-in-Explain-clause-ends
returns-in-Explain-clause-ends g c = rw c.in-Explain.is c.carry_out.ensures.ends

pub returns-in-Tell-clause-ends : goal.returns-in-Tell-clause-ends
returns-in-Tell-clause-ends g c = rw c.in-Tell.is (rw c.said.ensures at c.carry_out-in-Tell.ensures.ends)

pub returns-in-Usage-clause-ends : goal.returns-in-Usage-clause-ends
returns-in-Usage-clause-ends g c = rw c.in-Usage.is c.carry_out-in-Usage.ensures.ends
