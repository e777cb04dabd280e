use Rattle.rb_changes.proofs.change.write_alternate.Goals as goal

pub returns : goal.returns
returns g c =
    rw (
      ← c.format.ensures.text,
      ← c.as_bytes-alternate.ensures.value,
    ) c.put_changed.ensures
