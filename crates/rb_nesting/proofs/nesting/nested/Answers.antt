use Rattle.std.proofs.Common.{◌≡◌, ℕ, zero, suc, ◌+◌, List, [], ◌∷◌, ◌++◌, drop, length, map, slice_get, arith}
use Rattle.std.proofs.Common.{Option, Some, refl, ap, sym, subst, ◌∙◌, length-append}
use Rattle.std.specs.Option.{option_map}
use Rattle.std.proofs.lemmas.List.{length-map, map-append}
use Rattle.std.proofs.lemmas.Option.{slice_get-map, slice_get_read}
use Rattle.rb_base.specs.declared.names.Group.{Group}
use Rattle.rb_syntax.specs.declared.program.Conversation.{Conversation}
use Rattle.rb_syntax.specs.Plain.{conversation_declaration, tree}
use Rattle.rb_meaning.specs.Groups.{membership_of}
use Rattle.rb_meaning.specs.Nesting.{alternates_of}
use Rattle.rb_nest.specs.Groups.{membership}
use Rattle.rb_uses.proofs.After.{made_more}
use Rattle.rb_nesting.proofs.Joined.{conversation_joined}
use Rattle.rb_nesting.proofs.nesting.nested.Goals as goal

-- each entry is what a function gives for its place
abbrev Agree : (ℕ → Option ℕ) → List ℕ → Type 0
Agree f xs = (c n : ℕ) → slice_get xs c ≡ Some n → f c ≡ Some n

agree-more : (f : ℕ → Option ℕ) (xs : List ℕ) (x : ℕ) → Agree f xs → f (length xs) ≡ Some x → Agree f (xs ++ x ∷ [])
agree-more f [] x h e zero n g = e ∙ g
agree-more f [] x h e (suc c) n g = absurd (cc)
agree-more f (y ∷ xs) x h e zero n g = h zero n g
agree-more f (y ∷ xs) x h e (suc c) n g = agree-more (λ k. f (suc k)) xs x (λ k m i. h (suc k) m i) e c n g

pub loop-number-preserved : goal.loop-number-preserved
loop-number-preserved c =
    let whole = tree c.args.uses.now.program.now in
    let number = c.loop-number.number in
    let all = c.deref-conversation-items.result.now in
    let groups = c.loop-number.conversations.items in
    let one = c.in_ok-group.field-0 in
    let count = λ (g : Group). g.alternates in
    let others = map (membership_of whole) (map conversation_declaration (drop (number + 1) all)) in
    let there : length (map count groups) ≡ number = length-map groups count ∙ c.loop-number.invariant.as_many in
    let alternates =
    agree-more (alternates_of whole) (map count groups) one.alternates c.loop-number.invariant.counts
    (ap (alternates_of whole) there ∙ c.in_ok-group.ensures.alternates) in
    record {
      as_many = ap length c.in_ok-push.ensures.items ∙ simp length-append (omega (arith, c.loop-number.invariant.as_many));
      groups =
          ap (λ (gs : List Group). map membership gs ++ others) c.in_ok-push.ensures.items
          ∙ ap (λ ms. ms ++ others) (map-append membership groups (one ∷ []))
          ∙ made_more (λ n cs. map (membership_of whole) (map conversation_declaration cs))
          (λ n (x : Conversation). membership_of whole (conversation_declaration x)) (λ n x xs. refl)
          all number c.conversation-item.result c.conversation-item.is c.loop-number-test.true
          (map membership groups) _ (membership one) c.loop-number.invariant.groups c.in_ok-group.ensures.membership;
      counts =
          subst (λ (gs : List Group). Agree (alternates_of whole) (map count gs)) (sym c.in_ok-push.ensures.items)
          (subst (Agree (alternates_of whole)) (sym (map-append count groups (one ∷ []))) alternates);
    }

pub group-requires : goal.group-requires
group-requires c =
    let whole = tree c.args.uses.now.program.now in
    let one = conversation_declaration c.conversation-item.result in
    conversation_joined whole c.loop-number.number one c.requires.no_fault c.requires.distinct
    (ap (λ items. slice_get (map conversation_declaration items) c.loop-number.number) (sym c.deref-conversation-items.ensures.value)
    ∙ slice_get-map conversation_declaration c.deref-conversation-items.result.now c.loop-number.number
    ∙ ap (option_map conversation_declaration)
    (slice_get_read c.deref-conversation-items.result.now (length c.deref-conversation-items.result.now) c.loop-number.number
    c.conversation-item.result refl c.loop-number-test.true c.conversation-item.is))
