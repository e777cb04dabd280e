use Rattle.std.proofs.Common.{◌∙◌, [], ◌∷◌, ◌++◌, codes, map, ap, Option, List, ℕ}
use Rattle.rb_near.specs.Nearest.{nearest}
use Rattle.rb_asking.specs.Misasked.{meant, misnamed_text}
use Rattle.rb_asking.proofs.Appended.{put_between}
use Rattle.rb_asking.proofs.wrong.push_misnamed.Goals as goal

pub returns : goal.returns
unfolding misnamed_text
returns c =
    let names = map (λ n. n.now) c.args.names.now in
    put_between c.args.told.now.items c.push.new.text.items c.push_meant.new.told.items c.push-2.new.text.items
    (c.args.program.now ∷ codes ": there is no " ∷ c.args.kind.now ∷ codes " `" ∷ c.args.name.now ∷ codes "`" ∷ [])
    (meant (nearest c.args.name.now names)) (codes "\n" ∷ []) c.in_ok-push.ensures
    (c.in_ok-push_meant.ensures
    ∙ ap (λ (name : Option (List ℕ)). c.push.new.text.items ++ meant name)
    (c.nearest.ensures ∙ ap (λ (word : List ℕ). nearest word names) c.as_bytes.ensures.value))
    c.in_ok-push-2.ensures
