use Rattle.rb_syntax.specs.Plain.{tree}
use Rattle.rb_scope.proofs.DistinctNames.{have_distinct_names}
use Rattle.rb_nesting.proofs.nesting.nest.Goals as goal

pub judge-requires : goal.judge-requires
judge-requires c = have_distinct_names (tree c.args.checked.now.program) c.requires.no_fault
