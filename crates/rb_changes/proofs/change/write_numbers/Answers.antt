use Rattle.rb_changes.proofs.change.write_numbers.Goals as goal

pub returns : goal.returns
returns g c =
    rw (
      ← c.format.ensures.text,
      ← c.as_bytes-sent.ensures.value,
      ← c.format-2.ensures.text,
      ← c.as_bytes-taken.ensures.value,
      ← c.format-3.ensures.text,
      ← c.as_bytes-seen.ensures.value,
      ← c.format-4.ensures.text,
      ← c.as_bytes-free.ensures.value,
    ) c.put_changed.ensures
