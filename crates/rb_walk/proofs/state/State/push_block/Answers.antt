use Rattle.rb_walk.specs.States.{state_of}
use Rattle.rb_walk.proofs.Traps.{block_overflows}
use Rattle.rb_walk.proofs.state.State.push_block.Goals as goal

pub returns-then-overflows : goal.returns-then-overflows
returns-then-overflows c =
    let s = state_of c.args.self.now in
    block_overflows c.args.edition c.args.block.now s.items s c.most_words.result c.deref.result.now c.most_words.ensures c.deref.ensures.value c.if-overflows.ensures
