use Rattle.std.proofs.Common.{◌≡◌, ◌<◌, ◌^◌, ℕ, subst, sym, ◌∙◌, arith}
use Rattle.rb_meaning.specs.Meaning.{process_named}
use Rattle.rb_syntax.specs.Plain.{channel_declaration, conversation_declaration, process_declaration}
use Rattle.rb_syntax.specs.Tree.{ChannelDeclaration, ConversationDeclaration}
use Rattle.rb_trace.specs.Naming.{process_naming}
use Rattle.rb_resolve.proofs.Named.{as_long, as_many}
use Rattle.rb_resolve.proofs.naming.names.Goals as goal

few : (n m : ℕ) → n ≡ m → m < 2 ^ 32 → n < 2 ^ 32
few n m e h = subst (λ k. k < 2 ^ 32) (sym e) h

pub invariant_of-result : goal.invariant_of-result
invariant_of-result c = record {
  few_processes = few _ c.in_ok-count.field-0 (c.in_ok-processes.processes.ok.0
      ∙ as_long process_naming process_named process_declaration c.in_ok-processes.processes.items c.deref.result.now c.in_ok-processes.ensures
      ∙ c.deref.ensures.len ∙ sym c.len.ensures ∙ sym c.in_ok-count.ensures) (omega arith);
  few_channels = few _ c.in_ok-count-2.field-0 (c.in_ok-channels.channels.ok.0
      ∙ as_many (λ (c : ChannelDeclaration). c.name.text) channel_declaration c.in_ok-channels.channels.items c.deref-2.result.now
      c.in_ok-channels.ensures ∙ c.deref-2.ensures.len ∙ sym c.len-2.ensures ∙ sym c.in_ok-count-2.ensures) (omega arith);
  few_conversations = few _ c.in_ok-count-3.field-0 (c.in_ok-conversations.conversations.ok.0
      ∙ as_many (λ (c : ConversationDeclaration). c.name.text) conversation_declaration c.in_ok-conversations.conversations.items
      c.deref-3.result.now c.in_ok-conversations.ensures ∙ c.deref-3.ensures.len ∙ sym c.len-3.ensures ∙ sym c.in_ok-count-3.ensures) (omega arith);
}
