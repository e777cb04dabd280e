-- What is asked to look at a channel.
use Rattle.std.proofs.Common.{List, sym, subst}
use Rattle.rb_code.specs.Instructions.Plain.{code as plain}
use Rattle.rb_conv.specs.Conversations.{memberships}
use Rattle.rb_proc.specs.Process.{Seen as Process}
use Rattle.rb_machine.specs.Looking.{CopiesBelow, IsViewOn}
use Rattle.rb_machine.specs.Machine.{Seen}
use Rattle.rb_recovery.specs.Reading.{AreCounted}
use Rattle.rb_recovery.specs.Worlds.{processes_of}
use Rattle.rb_machine.proofs.Passing.ChannelsLooked.{copies_at_work}
use Rattle.rb_machine.proofs.Passing.CountedAtWork.{counted_at_work}
use Rattle.rb_machine.proofs.machine.Machine.channel_view.Goals as goal

pub view_at-requires-clause-counted : goal.view_at-requires-clause-counted
view_at-requires-clause-counted g c =
    subst (AreCounted (plain c.self.inside.code.now)) (sym c.deref.ensures.value)
    (counted_at_work _ _ _ _ _ _ c.self.invariant.work)

pub view_at-requires-clause-copies : goal.view_at-requires-clause-copies
view_at-requires-clause-copies g c =
    subst (CopiesBelow (plain c.self.inside.code.now)) (sym c.deref.ensures.value)
    (copies_at_work _ _ _ _ _ _ c.self.invariant.work)

pub returns-clause-view : goal.returns-clause-view
returns-clause-view g c =
    let code = plain c.self.inside.code.now in
    let groups = memberships c.self.inside.parts.table in
    subst (λ (m : Seen). IsViewOn m.code m.groups m.world.processes c.args.channel c.view_at.result) c.self.view_is
    (subst (λ (procs : List Process). IsViewOn code groups (processes_of procs) c.args.channel c.view_at.result) c.deref.ensures.value
    (c.view_at.ensures.view groups))
