use Rattle.std.proofs.Common.{List, map, ap}
use Rattle.rb_base.specs.declared.names.Group.{Group}
use Rattle.rb_code.specs.Instructions.Plain.{block as plain_block}
use Rattle.rb_code.specs.declared.code.BlockCode.{BlockCode}
use Rattle.rb_outside.proofs.Puts.{puts_both, puts_same, puts_stopped_at}
use Rattle.rb_trace.specs.Naming.{naming}
use Rattle.rb_picture.specs.Head.{block_head, conversation_head}
use Rattle.rb_picture.specs.Heads.{meeting}
use Rattle.rb_changes.specs.Numbered.{numbered}
use Rattle.rb_picture.proofs.head.write_meetings.Goals as goal

pub returns-in_err-write_conversations : goal.returns-in_err-write_conversations
returns-in_err-write_conversations g c =
    puts_stopped_at _ _ _ _ _ _ _ c.from_residual.result c.from_residual.ensures.0
    (puts_same _ _ _ _ _ _ _ (ap (λ (xs : List Group). numbered (conversation_head (naming c.args.code.now.names)) 0 (map meeting xs)) c.deref.ensures.value) c.in_err-write_conversations.ensures)

pub returns-in_err-write_blocks : goal.returns-in_err-write_blocks
returns-in_err-write_blocks g c =
    puts_both _ _ _ _ _ _ _ _ _ _ (puts_same _ _ _ _ _ _ _ (ap (λ (xs : List Group). numbered (conversation_head (naming c.args.code.now.names)) 0 (map meeting xs)) c.deref.ensures.value) c.in_ok-write_conversations.ensures)
    (puts_stopped_at _ _ _ _ _ _ _ c.from_residual-in_err-write_blocks.result c.from_residual-in_err-write_blocks.ensures.0 (puts_same _ _ _ _ _ _ _ (ap (λ (xs : List BlockCode). numbered (block_head (naming c.args.code.now.names)) 0 (map plain_block xs)) c.deref-2.ensures.value) c.in_err-write_blocks.ensures))

pub returns : goal.returns
returns g c =
    puts_both _ _ _ _ _ _ _ _ _ _ (puts_same _ _ _ _ _ _ _ (ap (λ (xs : List Group). numbered (conversation_head (naming c.args.code.now.names)) 0 (map meeting xs)) c.deref.ensures.value) c.in_ok-write_conversations.ensures)
    (puts_both _ _ _ _ _ _ _ _ _ _ (puts_same _ _ _ _ _ _ _ (ap (λ (xs : List BlockCode). numbered (block_head (naming c.args.code.now.names)) 0 (map plain_block xs)) c.deref-2.ensures.value) c.in_ok-write_blocks.ensures)
    c.write_turns.ensures)
