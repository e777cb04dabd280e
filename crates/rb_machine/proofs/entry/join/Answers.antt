-- Who joins a conversation changes neither alternates nor members.
use Rattle.rb_machine.proofs.Turning.Entering.{joined_groups, joined_talks}
use Rattle.rb_machine.proofs.entry.join.Goals as goal

pub returns-then-enter-clause-talks : goal.returns-then-enter-clause-talks
returns-then-enter-clause-talks c = joined_talks c.args.table.now c.enter.new.self c.args.conversation c.args.p c.enter.ensures.entered

pub returns-then-enter-clause-groups : goal.returns-then-enter-clause-groups
returns-then-enter-clause-groups c = joined_groups c.args.table.now c.enter.new.self c.args.conversation c.args.p c.enter.ensures.entered

pub returns-else-enter-clause-talks : goal.returns-else-enter-clause-talks
returns-else-enter-clause-talks c = joined_talks c.args.table.now c.enter.new.self c.args.conversation c.args.p c.enter.ensures.entered

pub returns-else-enter-clause-groups : goal.returns-else-enter-clause-groups
returns-else-enter-clause-groups c = joined_groups c.args.table.now c.enter.new.self c.args.conversation c.args.p c.enter.ensures.entered
