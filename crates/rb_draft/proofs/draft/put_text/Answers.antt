use Rattle.std.proofs.Common.{ap, ◌∙◌, ◌∷◌, ◌++◌, [], List, ℕ, refl}
use Rattle.rb_draft.specs.Output.{output}
use Rattle.rb_draft.proofs.Emits.{quoted}
use Rattle.rb_draft.proofs.draft.put_text.Goals as goal

pub returns : goal.returns
returns c = λ p n.
    quoted c.args.text.now c.in_ok-number.number (output c.args.draft.now) _ c.in_ok-push-2.ensures.items
    (c.in_ok-push.ensures.items ∙ ap (λ (t : List ℕ). c.args.draft.now.texts.items ++ (t ∷ [])) c.in_ok-copy.ensures)
    refl (c.in_ok-number.ensures ∙ c.len.ensures ∙ c.args.draft.now.texts.ok.0) p n
