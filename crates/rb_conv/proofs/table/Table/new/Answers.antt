use Rattle.std.proofs.Common.{map, length, ap, sym, ◌∙◌, arith}
use Rattle.std.proofs.lemmas.List.{length-map, take_all}
use Rattle.rb_conv.specs.Conversations.{opened}
use Rattle.rb_conv.proofs.Places.{pushed}
use Rattle.rb_conv.proofs.table.Table.new.Goals as goal

pub loop-group-preserved : goal.loop-group-preserved
loop-group-preserved c = record {
  same = pushed opened c.deref-group-items.result.now c.loop-group.group-index c.group-item.result c.in_ok-new.field-0
      c.loop-group.conversations.items c.push_reserved.new.self.items c.loop-group-test.true c.loop-group.invariant.same
      c.push_reserved.ensures.items
      (c.in_ok-new.ensures ∙ ap opened c.group-item.is);
  many = omega arith;
  room = omega arith;
}

pub push_reserved-requires : goal.push_reserved-requires
push_reserved-requires c = omega (arith, c.loop-group.invariant.many, c.loop-group.invariant.room, c.loop-group-test.true)

pub returns-clause-opening : goal.returns-clause-opening
returns-clause-opening c =
    c.loop-group.invariant.same
    ∙ ap (map opened)
    (take_all c.loop-group.group-index c.deref-group-items.result.now c.loop-group-test.false ∙ c.deref-group-items.ensures.value)

pub returns-clause-as_many : goal.returns-clause-as_many
returns-clause-as_many c =
    ap length c.loop-group.invariant.same
    ∙ ap (λ groups. length (map opened groups))
    (take_all c.loop-group.group-index c.deref-group-items.result.now c.loop-group-test.false ∙ c.deref-group-items.ensures.value)
    ∙ length-map c.args.nested.now.conversations.items opened
    ∙ sym c.args.nested.now.conversations.ok.0
