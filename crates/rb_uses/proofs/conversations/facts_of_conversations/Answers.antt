use Rattle.std.proofs.Common.{◌+◌, List, [], ◌∷◌, ◌++◌, drop, map, refl, ap, ◌∙◌}
use Rattle.std.proofs.lemmas.List.{map-append}
use Rattle.std.specs.List.{flat_map}
use Rattle.rb_syntax.specs.declared.program.Conversation.{Conversation}
use Rattle.rb_syntax.specs.Plain.{conversation_declaration, tree}
use Rattle.rb_uses.specs.declared.conversations.Facts.{Facts}
use Rattle.rb_uses.specs.Members.{known, known_from, known_of}
use Rattle.rb_nest.specs.Rules.{conversation_faults}
use Rattle.rb_uses.proofs.After.{found_more, made_more}
use Rattle.rb_uses.proofs.conversations.facts_of_conversations.Goals as goal

pub loop-number-preserved : goal.loop-number-preserved
loop-number-preserved c =
    let whole = tree c.args.uses.now.program.now in
    let number = c.loop-number.number in
    let all = c.deref-conversation-items.result.now in
    let one = c.in_ok-facts_of.field-0 in
    let others = known_from whole (number + 1) (map conversation_declaration (drop (number + 1) all)) in
    record {
      facts =
          ap (λ (fs : List Facts). map known fs ++ others) c.in_ok-push.ensures.items
          ∙ ap (λ ks. ks ++ others) (map-append known c.loop-number.all.items (one ∷ []))
          ∙ made_more (λ n cs. known_from whole n (map conversation_declaration cs))
          (λ n (x : Conversation). known_of whole n (conversation_declaration x)) (λ n x xs. refl)
          all number c.conversation-item.result c.conversation-item.is c.loop-number-test.true
          (map known c.loop-number.all.items) _ (known one) c.loop-number.invariant.facts c.in_ok-facts_of.ensures;
      found =
          found_more (λ cs. flat_map (conversation_faults whole) (map conversation_declaration cs))
          (λ (x : Conversation). conversation_faults whole (conversation_declaration x)) (λ x xs. refl)
          all number c.conversation-item.result c.conversation-item.is c.loop-number-test.true
          c.loop-number.first c.note_conversation.new.first _ c.loop-number.invariant.found c.note_conversation.ensures;
    }
