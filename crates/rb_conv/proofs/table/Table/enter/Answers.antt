use Rattle.rb_conv.specs.Conversations.{entered}
use Rattle.rb_conv.proofs.Places.{written}
use Rattle.rb_conv.proofs.table.Table.enter.Goals as goal

pub returns-clause-entered : goal.returns-clause-entered
returns-clause-entered c =
    written (entered c.args.p) c.self.inside.conversations.items c.args.self.now c.args.c c.index_mut.result.now c.enter.new.self c.self.view_is c.requires
    c.index_mut.ensures.value c.enter.ensures.entered
