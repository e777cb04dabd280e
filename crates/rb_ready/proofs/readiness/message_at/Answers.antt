use Rattle.std.proofs.Common.{w64, ◌∙◌, sym, arith, rules}
use Rattle.std.proofs.lemmas.Int.{to_z-of_z}
use Rattle.rb_proc.proofs.Mailed.{slot_none, slot_there}
use Rattle.rb_ready.proofs.readiness.message_at.Goals as goal

pub returns-then-channel-len : goal.returns-then-channel-len
returns-then-channel-len c code sized =
    sym (to_z-of_z w64 c.get.result (search rules)
    ∙ slot_there code.channels c.args.mails.now c.args.channel c.args.number c.get.result sized (omega arith) c.get.ensures)

pub returns-else-channel-len : goal.returns-else-channel-len
returns-else-channel-len c code sized =
    sym (slot_none code.channels c.args.mails.now c.args.channel _ (omega arith))
