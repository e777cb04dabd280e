use Rattle.std.proofs.Common.{◌≡◌, ℕ, List, slice_get, Some, sym, ap, ◌∙◌}
use Rattle.std.proofs.lemmas.Option.{slice_get-get_or}
use Rattle.rb_base.specs.declared.names.Group.{Group}
use Rattle.rb_flow.specs.Flow.{is_among as is_one_of}
use Rattle.rb_flow.proofs.Members.{members_found}
use Rattle.rb_flow.proofs.rules.is_member.Goals as goal

pub returns-in-Some : goal.returns-in-Some
returns-in-Some c =
    let d = c.args.conversation
    in let group = c.in-Some.group.now
    in let at = c.in-Some.ensures.lookup.3
    in let found : slice_get c.args.nested.now.conversations.items d ≡ Some group
    = ap (λ (gs : List Group). slice_get gs d) (sym c.deref.ensures.value) ∙ slice_get-get_or c.deref.result.now d group at.0
    ∙ ap Some (sym (at.1 group))
    in c.is_among.ensures
    ∙ ap (λ (ms : List ℕ). is_one_of ms c.args.process)
    (c.deref-in-Some.ensures.value ∙ sym (members_found c.args.nested.now.conversations.items d group found))
