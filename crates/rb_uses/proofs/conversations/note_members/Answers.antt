use Rattle.rb_syntax.specs.Plain.{tree}
use Rattle.rb_uses.proofs.After.{members_more}
use Rattle.rb_uses.proofs.conversations.note_members.Goals as goal

pub loop-index-preserved : goal.loop-index-preserved
loop-index-preserved c =
    members_more (tree c.args.uses.now.program.now) c.args.conversation.now c.args.members.now c.loop-index.index _ c.loop-index-test.true
    c.loop-index.first c.note_member.new.first _ c.loop-index.invariant c.note_member.ensures
