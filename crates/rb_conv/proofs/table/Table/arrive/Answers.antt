use Rattle.rb_conv.specs.Conversations.{arrived}
use Rattle.rb_conv.proofs.Places.{written}
use Rattle.rb_conv.proofs.table.Table.arrive.Goals as goal

pub returns-clause-arrived : goal.returns-clause-arrived
returns-clause-arrived c =
    written (arrived c.args.p) c.self.inside.conversations.items c.args.self.now c.args.c c.index_mut.result.now c.arrive.new.self c.self.view_is c.requires
    c.index_mut.ensures.value c.arrive.ensures.arrived
