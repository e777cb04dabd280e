use Rattle.std.proofs.Common.{sym, ◌∙◌}
use Rattle.rb_syntax.specs.Plain.{identifier}
use Rattle.rb_syntax.specs.Tree.{Identifier}
use Rattle.rb_faults.proofs.Long.{long_copy}
use Rattle.rb_faults.proofs.lists.count_parameters.Goals as goal

pub returns-in_ok-note : goal.returns-in_ok-note
returns-in_ok-note c =
    c.in_ok-note.ensures
    ∙ sym (long_copy identifier
    (λ (name : Identifier). name.place) 16 c.args.finder.now c.args.parameters.now _ c.if-parameters-gt-MOST_PARAMETERS.true)
