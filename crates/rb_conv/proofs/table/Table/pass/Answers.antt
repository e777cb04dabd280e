use Rattle.rb_conv.specs.Conversations.{emptied}
use Rattle.rb_conv.proofs.Places.{written}
use Rattle.rb_conv.proofs.table.Table.pass.Goals as goal

pub returns-clause-passed : goal.returns-clause-passed
returns-clause-passed c =
    written emptied c.self.inside.conversations.items c.args.self.now c.args.c c.index_mut.result.now c.empty.new.self c.self.view_is c.requires
    c.index_mut.ensures.value c.empty.ensures
