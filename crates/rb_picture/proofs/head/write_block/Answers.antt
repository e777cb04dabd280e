use Rattle.std.proofs.Common.{List, ℕ, length, ap, ◌∙◌}
use Rattle.rb_picture.proofs.head.write_block.Goals as goal

pub returns : goal.returns
returns g c =
    let count = c.count_of.ensures ∙ ap (λ (alternates : List ℕ). length alternates) c.deref.ensures.value in
    rw (
      ← c.format.ensures.text,
      ← c.as_bytes-number.ensures.value,
      ← c.format-2.ensures.text,
      ← c.as_bytes-line.ensures.value,
      ← c.conversation_at-conversation.ensures,
      ← c.format-3.ensures.text,
      ← c.as_bytes-bound.ensures.value,
      ← count,
      ← c.format-4.ensures.text,
      ← c.as_bytes-count.ensures.value,
    ) c.put_block.ensures
