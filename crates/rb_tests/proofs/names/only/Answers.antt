use Rattle.std.proofs.Common.{List, ◌++◌, ◌∷◌, [], ap, ◌∙◌}
use Rattle.rb_tests.proofs.names.only.Goals as goal

pub returns : goal.returns
returns g c = c.push_reserved.ensures.items ∙ ap (λ items. items ++ c.args.value ∷ []) c.in_ok-list.ensures.items
