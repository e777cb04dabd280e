use Rattle.std.proofs.Common.{ap, ◌∙◌}
use Rattle.rb_syntax.specs.Plain.{tree}
use Rattle.rb_nest.specs.Answers.{first_answer}
use Rattle.rb_uses.specs.Memory.{all_held}
use Rattle.rb_uses.specs.Summary.{alternates_for}
use Rattle.rb_uses.proofs.Parents.{alternates_found}
use Rattle.rb_uses.proofs.uses.Uses.alternates.Goals as goal

pub returns : goal.returns
returns c =
    c.first_alternates.ensures
    ∙ ap (λ joins. first_answer (alternates_for c.args.number) (all_held joins)) c.deref.ensures.value
    ∙ ap (first_answer (alternates_for c.args.number)) c.args.self.now.joined
    ∙ alternates_found (tree c.args.self.now.program.now) c.args.number
