use Rattle.std.proofs.Common.{◌≡◌}
use Rattle.std.specs.List.{list_all}
use Rattle.rb_meaning.specs.Nesting.{is_converse}
use Rattle.rb_nest.specs.Blocks.{blocks_of}
use Rattle.rb_nest.proofs.blocks.Blocks.all_converse.Given as goal

abbrev pub invariant-around : goal.invariant-around
invariant-around l = list_all is_converse (blocks_of l.rest) ≡ list_all is_converse (blocks_of l.initial.rest)
