use Rattle.rb_picture.proofs.turn.write_start.Goals as goal

pub returns : goal.returns
returns g c =
    rw (
      ← c.format.ensures.text,
      ← c.as_bytes-block.ensures.value,
      ← c.format-2.ensures.text,
      ← c.as_bytes-alternate.ensures.value,
    ) c.put_turn.ensures
