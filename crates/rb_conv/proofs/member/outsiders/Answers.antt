use Rattle.std.proofs.Common.{map, ap, ◌∙◌, arith}
use Rattle.std.proofs.lemmas.List.{take_all}
use Rattle.rb_conv.specs.Conversations.{outsider}
use Rattle.rb_conv.proofs.Places.{pushed}
use Rattle.rb_conv.proofs.member.outsiders.Goals as goal

pub loop-process-preserved : goal.loop-process-preserved
loop-process-preserved c = record {
  same = pushed outsider c.args.processes.now c.loop-process.process-index 0 c.outside.result c.loop-process.members.items
      c.push_reserved.new.self.items c.loop-process-test.true c.loop-process.invariant.same c.push_reserved.ensures.items c.outside.ensures;
  many = omega arith;
  room = omega arith;
}

pub push_reserved-requires : goal.push_reserved-requires
push_reserved-requires c = omega (arith, c.loop-process.invariant.many, c.loop-process.invariant.room, c.loop-process-test.true)

pub returns : goal.returns
returns c =
    c.loop-process.invariant.same ∙ ap (map outsider) (take_all c.loop-process.process-index c.args.processes.now c.loop-process-test.false)
