use Rattle.std.proofs.Common.{◌<◌, length, ap, sym, subst, ◌∙◌}
use Rattle.std.proofs.lemmas.List.{length-map}
use Rattle.rb_conv.proofs.conversation.Conversation.member.Goals as goal

pub process_of-requires : goal.process_of-requires
process_of-requires c =
    subst (λ n. c.args.k < n)
    (length-map c.args.self.now.members (λ member. member.process)
    ∙ ap (λ conversation. length conversation.members) (sym c.self.view_is)
    ∙ ap length (sym c.deref.ensures.value)) c.requires
