-- A send is ready where there is room.
use Rattle.std.proofs.Common.{sym, ◌∙◌}
use Rattle.rb_code.specs.Instructions.Plain.{code as plain}
use Rattle.rb_conv.specs.Conversations.{memberships, talks}
use Rattle.rb_ready.proofs.Readying.{send_ready, send_unready}
use Rattle.rb_ready.proofs.readiness.send.Goals as goal

pub returns-then-has_room-clause-ready : goal.returns-then-has_room-clause-ready
returns-then-has_room-clause-ready g c slots =
    send_ready (plain c.args.code.now) c.args.procs.now slots c.args.p c.args.channel c.requires.wants
    (λ table links. sym (c.has_room.ensures.room (memberships table) (talks table) (record { slots = slots; links = links })) ∙ c.if-has_room.true)

pub returns-else-has_room-clause-ready : goal.returns-else-has_room-clause-ready
returns-else-has_room-clause-ready g c slots =
    send_unready (plain c.args.code.now) c.args.procs.now slots c.args.p c.args.channel c.requires.wants
    (λ table links. sym (c.has_room.ensures.room (memberships table) (talks table) (record { slots = slots; links = links })) ∙ c.if-has_room.false)
