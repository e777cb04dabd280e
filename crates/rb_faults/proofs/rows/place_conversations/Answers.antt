use Rattle.std.proofs.Common.{◌≡◌, ◌≤◌, ◌+◌, ◌-◌, List, [], ◌∷◌, ℕ, length, take, drop, get_or, map, ap, arith, ◌∙◌}
use Rattle.rb_syntax.specs.declared.program.Conversation.{Conversation}
use Rattle.rb_syntax.specs.Plain.{conversation_declaration, identifier}
use Rattle.rb_scope.specs.declared.slot.Slot.TheVariants.{Conversation as ConversationSlot}
use Rattle.rb_scope.specs.Memory.{all_held}
use Rattle.rb_scope.specs.Scopes.{Declared, conversations_from, in_text_order, take_place}
use Rattle.rb_faults.proofs.Named.{after_one, fewer_left}
use Rattle.rb_faults.proofs.rows.place_conversations.Goals as goal

abbrev others : ℕ → List Conversation → List Declared
others k xs = conversations_from k (map conversation_declaration xs)

abbrev entry : ℕ → Conversation → Declared
entry k x = record { name = identifier x.name; slot = ConversationSlot k; parameters = 0 }

step : (rest : List Conversation) (x : Conversation) (k k' : ℕ) (before after whole : List Declared) → 1 ≤ length rest → x ≡ get_or rest 0 x
    → k' ≡ k + 1 → after ≡ take_place (entry k x) before → in_text_order (others k rest) before ≡ whole
    → in_text_order (others k' (take (length rest - 1) (drop 1 rest))) after ≡ whole
step [] x k k' before after whole h is counts placed so_far = absurd (omega arith)
step (y ∷ ys) x k k' before after whole h is counts placed so_far =
    ap (λ n. in_text_order (others n (take (length (y ∷ ys) - 1) (drop 1 (y ∷ ys)))) after) counts
    ∙ ap (λ zs. in_text_order (others (k + 1) zs) after) (after_one y ys)
    ∙ ap (in_text_order (others (k + 1) ys)) (placed ∙ ap (λ z. take_place (entry k z) before) is)
    ∙ so_far

pub conversations-smaller : goal.conversations-smaller
conversations-smaller c = fewer_left c.conversations.rest.now c.in-len1-up.len_at_least

pub conversations-preserved : goal.conversations-preserved
conversations-preserved c =
    step c.conversations.rest.now c.conversation-item.result c.conversations.number _ (all_held c.conversations.declared.items) _ _
    c.in-len1-up.len_at_least c.conversation-item.is c.in_ok-number.ensures c.in_ok-place.ensures c.conversations.invariant
