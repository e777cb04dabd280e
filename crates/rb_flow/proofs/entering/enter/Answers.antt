use Rattle.std.proofs.Common.{◌≡◌, ℕ, ◌+◌, ◌&&◌, Bool, [], ◌∷◌, ◌∙◌, ap, slice_get, subst, IfOk, Option}
use Rattle.rb_code.specs.Instructions.Plain.{code as plain}
use Rattle.rb_code.specs.SoundCode.Sound.{Changed}
use Rattle.rb_conv.specs.Conversations.{memberships, opening}
use Rattle.rb_flow.specs.Flow.{Steps, goes, is_turn, may_enter, when}
use Rattle.rb_flow.specs.Ways.{IsFlow}
use Rattle.rb_entries.specs.Parts.{block_of, within_of}
use Rattle.rb_entries.specs.declared.entry.OpenBlock.{OpenBlock}
use Rattle.rb_flow.specs.Held.{blocks_of, entry_of}
use Rattle.rb_entries.specs.declared.entry.Held.{Held}
use Rattle.rb_flow.specs.declared.lists.Lists.{Lists}
use Rattle.rb_flow.specs.declared.way.Way.TheVariants.{Broken}
use Rattle.rb_flow.proofs.Chosen.{passed_flow, refused_flow, when_and}
use Rattle.rb_flow.proofs.entering.enter.Goals as goal

-- five tests one after another, where each is known otherwise
tests : {f n r t m : Bool} {p q u v w : Bool} (steps : Steps) → p ≡ f → q ≡ n → u ≡ r → v ≡ t → w ≡ m
    → when ((((p && q) && u) && v) && w) steps ≡ when f (when n (when r (when t (when m steps))))
tests {f = f} {n = n} {r = r} {t = t} {m = m} steps of_f of_n of_r of_t of_m =
    rw (of_f, of_n, of_r, of_t, of_m)
    (when_and (((f && n) && r) && t) m steps ∙ when_and ((f && n) && r) t (when m steps)
    ∙ when_and (f && n) r (when t (when m steps)) ∙ when_and f n (when r (when t (when m steps))))

-- into the block
abbrev inside : Lists → Held → ℕ → OpenBlock → Steps
inside lists e a block =
    goes (a + 1) (record (entry_of lists e) {
      operands = [];
      blocks = block_of block ∷ blocks_of lists e.blocks;
      mode = Changed;
    })

pub returns-then-not-all : goal.returns-then-not-all
returns-then-not-all c =
    let code = plain c.args.code.now
    in let lists = c.args.lists.now
    in let e = c.args.entry
    in let steps = inside lists e c.args.at (record { number = c.args.b; words = e.words })
    in subst (λ (s : Steps). IsFlow code lists lists Broken s)
    (tests steps c.is_fresh.ensures c.is_none-none.ensures c.restarts_at-restarts.ensures
    (c.is_turn-turns.ensures ∙ ap (λ xs. is_turn (slice_get xs (c.args.at + 1))) c.deref.ensures.value)
    (c.may_enter-may.ensures
    ∙ ap (λ (o : Option ℕ). may_enter code (memberships (opening c.args.nested.now)) o (within_of e.within) (blocks_of lists e.blocks))
    c.conversation_in-conversation.ensures))
    (refused_flow code lists _ steps c.if-not-all.true)

pub returns : goal.returns
returns c =
    let code = plain c.args.code.now
    in let lists = c.args.lists.now
    in let e = c.args.entry
    in let steps = inside lists e c.args.at (record { number = c.args.b; words = e.words })
    in subst (λ (s : Steps). IfOk c.put_block.result (λ way. IsFlow code lists c.put_block.new.lists way s))
    (tests steps c.is_fresh.ensures c.is_none-none.ensures c.restarts_at-restarts.ensures
    (c.is_turn-turns.ensures ∙ ap (λ xs. is_turn (slice_get xs (c.args.at + 1))) c.deref.ensures.value)
    (c.may_enter-may.ensures
    ∙ ap (λ (o : Option ℕ). may_enter code (memberships (opening c.args.nested.now)) o (within_of e.within) (blocks_of lists e.blocks))
    c.conversation_in-conversation.ensures))
    (passed_flow code lists c.put_block.new.lists _ c.put_block.result steps c.if-not-all.false
    (subst (λ (block : OpenBlock). IfOk c.put_block.result (λ way. IsFlow code lists c.put_block.new.lists way (inside lists e c.args.at block)))
    c.opened.ensures c.put_block.ensures))
