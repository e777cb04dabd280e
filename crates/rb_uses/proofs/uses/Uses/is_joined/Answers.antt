use Rattle.std.proofs.Common.{ap, ◌∙◌}
use Rattle.std.specs.List.{list_any}
use Rattle.rb_syntax.specs.Plain.{tree}
use Rattle.rb_uses.specs.Memory.{all_held}
use Rattle.rb_uses.specs.Summary.{joins_at}
use Rattle.rb_uses.proofs.Parents.{join_found}
use Rattle.rb_uses.proofs.uses.Uses.is_joined.Goals as goal

pub returns : goal.returns
returns c =
    c.is_joined.ensures
    ∙ ap (λ joins. list_any (joins_at c.args.process c.args.name.now) (all_held joins)) c.deref.ensures.value
    ∙ ap (list_any (joins_at c.args.process c.args.name.now)) c.args.self.now.joined
    ∙ join_found (tree c.args.self.now.program.now) c.args.process c.args.name.now
