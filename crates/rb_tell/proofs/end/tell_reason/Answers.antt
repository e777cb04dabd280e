use Rattle.rb_tell.proofs.end.tell_reason.Goals as goal

pub returns-then-not-is_short : goal.returns-then-not-is_short
returns-then-not-is_short g c short = absurd (c.is_short.ensures.long c.if-not-is_short.true short)
