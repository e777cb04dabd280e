use Rattle.std.proofs.Common.{refl, sym, ◌∙◌, arith}
use Rattle.rb_grammar.proofs.Accepting.Forms.{connections_channel, connections_conversation}
use Rattle.rb_grammar.proofs.Pushing.{channel_step, connections_end, connections_init, conversation_step}
use Rattle.rb_grammar.proofs.Reaching.{begins_here, by_part, exit_memory, exit_within, within}
use Rattle.rb_grammar.proofs.Accepting.Starts.{no_connections, some_channel, some_conversation}
use Rattle.rb_grammar.specs.Parts.{Part}
use Rattle.rb_grammar.specs.Table.{channels_after, conversations_after}
use Rattle.rb_parse.proofs.connections.read_connections.Goals as goal

pub connections-init : goal.connections-init
connections-init c =
    record {
      reached = connections_init c.new-channels.result.items c.new-conversations.result.items c.args.cursor.now.point
          c.new-channels.ensures.items c.new-conversations.ensures.items;
      ending = refl;
      shorter = omega arith;
    }

pub returns-in_err-channel-clause-err : goal.returns-in_err-channel-clause-err
returns-in_err-channel-clause-err c =
    exit_within c.from_residual.result c.from_residual.ensures.1 c.connections.invariant.ending
    (within c.connections.invariant.reached (begins_here Part.Channel _ channels_after
    (connections_channel _ (some_channel _ (sym c.if-stands_at.ensures))) (some_channel _ (sym c.if-stands_at.ensures))))
    c.in_err-channel.ensures.err

pub returns-in_err-append-clause-err : goal.returns-in_err-append-clause-err
returns-in_err-append-clause-err c =
    exit_memory _ _ _ c.from_residual-in_err-append.result _ c.from_residual-in_err-append.ensures.1 c.in_err-append.ensures.memory

pub returns-in_err-conversation-clause-err : goal.returns-in_err-conversation-clause-err
returns-in_err-conversation-clause-err c =
    exit_within c.from_residual-in_err-conversation.result c.from_residual-in_err-conversation.ensures.1
    c.connections.invariant.ending (within c.connections.invariant.reached
    (begins_here Part.Conversation _ conversations_after (connections_conversation _
    (some_conversation _ (sym c.if-stands_at-2.ensures))) (some_conversation _ (sym c.if-stands_at-2.ensures))))
    c.in_err-conversation.ensures.err

pub returns-in_err-append-2-clause-err : goal.returns-in_err-append-2-clause-err
returns-in_err-append-2-clause-err c =
    exit_memory _ _ _ c.from_residual-in_err-append-2.result _ c.from_residual-in_err-append-2.ensures.1 c.in_err-append-2.ensures.memory

pub returns-else-stands_at-2-clause-ok : goal.returns-else-stands_at-2-clause-ok
returns-else-stands_at-2-clause-ok c =
    connections_end c.connections.channels.items c.connections.conversations.items c.connections.invariant.reached
    (no_connections _ (sym c.if-stands_at.ensures) (sym c.if-stands_at-2.ensures))

pub connections-preserved : goal.connections-preserved
connections-preserved c =
    record {
      reached = conversation_step c.connections.channels.items c.connections.conversations.items
          c.append-then-stands_at-2.new.list.items c.in_ok-conversation.conversation c.in_ok-append-2.ensures.items
          c.connections.invariant.reached (by_part (begins_here Part.Conversation _ conversations_after
          (connections_conversation _ (some_conversation _ (sym c.if-stands_at-2.ensures)))
          (some_conversation _ (sym c.if-stands_at-2.ensures))) c.in_ok-conversation.ensures.ok);
      ending = c.in_ok-conversation.ensures.ending ∙ c.connections.invariant.ending;
      shorter = omega (arith, c.in_ok-conversation.ensures.shorter, c.connections.invariant.shorter);
    }

pub connections-preserved-in-Continue-branch-2 : goal.connections-preserved-in-Continue-branch-2
connections-preserved-in-Continue-branch-2 c =
    record {
      reached = channel_step c.connections.channels.items c.append.new.list.items c.connections.conversations.items
          c.in_ok-channel.channel c.in_ok-append.ensures.items c.connections.invariant.reached
          (by_part (begins_here Part.Channel _ channels_after
          (connections_channel _ (some_channel _ (sym c.if-stands_at.ensures))) (some_channel _ (sym c.if-stands_at.ensures)))
          c.in_ok-channel.ensures.ok);
      ending = c.in_ok-channel.ensures.ending ∙ c.connections.invariant.ending;
      shorter = omega (arith, c.in_ok-channel.ensures.shorter, c.connections.invariant.shorter);
    }

pub returns-in_err-channel-clause-ending : goal.returns-in_err-channel-clause-ending
returns-in_err-channel-clause-ending c = c.in_err-channel.ensures.ending ∙ c.connections.invariant.ending

pub returns-in_err-append-clause-ending : goal.returns-in_err-append-clause-ending
returns-in_err-append-clause-ending c = c.in_ok-channel.ensures.ending ∙ c.connections.invariant.ending

pub returns-in_err-conversation-clause-ending : goal.returns-in_err-conversation-clause-ending
returns-in_err-conversation-clause-ending c =
    c.in_err-conversation.ensures.ending ∙ c.connections.invariant.ending

pub returns-in_err-append-2-clause-ending : goal.returns-in_err-append-2-clause-ending
returns-in_err-append-2-clause-ending c = c.in_ok-conversation.ensures.ending ∙ c.connections.invariant.ending

pub connections-smaller : goal.connections-smaller
connections-smaller c = c.in_ok-conversation.ensures.shorter

pub connections-smaller-in-Continue-branch-2 : goal.connections-smaller-in-Continue-branch-2
connections-smaller-in-Continue-branch-2 c = c.in_ok-channel.ensures.shorter
