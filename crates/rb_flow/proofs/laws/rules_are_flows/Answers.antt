use Rattle.rb_flow.proofs.FlowIsFine.{fine_is_flow}
use Rattle.rb_flow.proofs.Monotone.{flow_is_monotone}
use Rattle.rb_flow.proofs.laws.rules_are_flows.Goals as goal

pub returns-clause-rules : goal.returns-clause-rules
returns-clause-rules c = fine_is_flow

pub returns-clause-monotone : goal.returns-clause-monotone
returns-clause-monotone c = flow_is_monotone
