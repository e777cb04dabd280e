use Rattle.std.proofs.Common.{◌≡◌, length, ap, ◌∙◌}
use Rattle.rb_conv.specs.Reject.{rejected}
use Rattle.rb_conv.proofs.Places.{written_back}
use Rattle.rb_conv.proofs.table.Table.reject.Goals as goal

pub returns-clause-rejected : goal.returns-clause-rejected
returns-clause-rejected c =
    let old = c.self.inside.conversations in
    let new = c.reject.new.conversations in
    let same : length new ≡ length old.items = c.reject.auto.conversations ∙ ap length c.deref_mut.ensures.value in
    written_back old.items new old.len old.ok.0 same
    ∙ c.reject.ensures.rejected
    ∙ ap (rejected c.args.c) (c.deref_mut.ensures.value ∙ c.self.view_is)

pub returns-clause-as_many : goal.returns-clause-as_many
returns-clause-as_many c =
    let old = c.self.inside.conversations in
    let new = c.reject.new.conversations in
    let same : length new ≡ length old.items = c.reject.auto.conversations ∙ ap length c.deref_mut.ensures.value in
    ap length (written_back old.items new old.len old.ok.0 same) ∙ same ∙ ap length c.self.view_is
