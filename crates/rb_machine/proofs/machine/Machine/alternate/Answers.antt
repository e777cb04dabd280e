use Rattle.std.proofs.Common.{◌<◌, length, sym, subst}
use Rattle.std.proofs.lemmas.List.{length-map}
use Rattle.rb_conv.specs.Conversations.{Conversation}
use Rattle.rb_machine.specs.Machine.{Seen}
use Rattle.rb_machine.proofs.machine.Machine.alternate.Goals as goal

pub alternate_at-requires : goal.alternate_at-requires
alternate_at-requires g c =
    subst (λ n. c.args.conversation < n) (length-map c.self.inside.parts.table (λ (one : Conversation). one.talk))
    (subst (λ (m : Seen). c.args.conversation < length m.world.talks) (sym c.self.view_is) c.requires)
