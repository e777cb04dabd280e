use Rattle.std.proofs.Common.{sym, ◌∙◌}
use Rattle.rb_syntax.specs.Plain.{identifier}
use Rattle.rb_syntax.specs.Tree.{Identifier}
use Rattle.rb_scope.proofs.Long.{long_copy}
use Rattle.rb_resolve.proofs.lists.count_parameters.Goals as goal

pub returns-then-parameters-gt-MOST_PARAMETERS : goal.returns-then-parameters-gt-MOST_PARAMETERS
returns-then-parameters-gt-MOST_PARAMETERS c =
    c.note.ensures
    ∙ sym (long_copy identifier
    (λ (name : Identifier). name.place) 16 c.args.finder.now c.args.parameters.now _ c.if-parameters-gt-MOST_PARAMETERS.true)
