use Rattle.rb_changes.proofs.change.write_level.Goals as goal

pub returns : goal.returns
returns g c =
    rw (
      ← c.format.ensures.text,
      ← c.as_bytes-number.ensures.value,
      ← c.format-2.ensures.text,
      ← c.as_bytes-block.ensures.value,
      ← c.format-3.ensures.text,
      ← c.as_bytes-alternate.ensures.value,
      ← c.format-4.ensures.text,
      ← c.as_bytes-used.ensures.value,
      ← c.format-5.ensures.text,
      ← c.as_bytes-entered.ensures.value,
    ) c.put_changed.ensures
