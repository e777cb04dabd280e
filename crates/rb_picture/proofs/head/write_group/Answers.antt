use Rattle.std.proofs.Common.{List, [], ℕ, slice_get, ap, ◌∙◌}
use Rattle.std.specs.Option.{unwrap_or}
use Rattle.rb_picture.proofs.head.write_group.Goals as goal

pub returns : goal.returns
returns g c =
    let name = c.name_at-name.ensures ∙ ap (λ (names : List (List ℕ)). unwrap_or (slice_get names c.args.number) []) c.deref.ensures.value in
    rw (
      ← name,
      ← c.conversation_at-parent.ensures,
      ← c.format.ensures.text,
      ← c.as_bytes-count.ensures.value,
    ) c.put_group.ensures
