use Rattle.std.proofs.Common.{None, ap, unwrap_or, ◌∙◌}
use Rattle.rb_syntax.specs.Plain.{tree}
use Rattle.rb_nest.specs.Answers.{first_answer}
use Rattle.rb_uses.specs.Memory.{all_held}
use Rattle.rb_uses.specs.Summary.{within_for}
use Rattle.rb_uses.proofs.Parents.{parent_found}
use Rattle.rb_uses.proofs.uses.Uses.parent.Goals as goal

pub returns : goal.returns
returns c =
    c.first_within.ensures
    ∙ ap (λ joins. unwrap_or (first_answer (within_for c.args.name.now) (all_held joins)) None) c.deref.ensures.value
    ∙ ap (λ joins. unwrap_or (first_answer (within_for c.args.name.now) joins) None) c.args.self.now.joined
    ∙ parent_found (tree c.args.self.now.program.now) c.args.name.now
