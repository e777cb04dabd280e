use Rattle.std.proofs.Common.{ap, sym, ◌∙◌, rules, w64}
use Rattle.std.proofs.lemmas.Int.{to_z-of_z}
use Rattle.rb_view.specs.Steady.{last_in}
use Rattle.rb_view.proofs.Kept.{last_some}
use Rattle.rb_view.proofs.writing.last_sent.Goals as goal

pub returns-then-sent-eq0 : goal.returns-then-sent-eq0
returns-then-sent-eq0 g c =
    ap (last_in c.args.machine.now.code.channels c.args.machine.now.world.memory.slots c.args.channel) (sym c.if-sent-eq0.true)

pub returns-else-sent-eq0 : goal.returns-else-sent-eq0
returns-else-sent-eq0 g c =
    to_z-of_z w64 c.last_message.result (search rules)
    ∙ last_some c.args.machine.now.code.channels c.args.machine.now.world.memory.slots c.args.channel c.args.sent c.last_message.result
    c.if-sent-eq0.false c.last_message.ensures
