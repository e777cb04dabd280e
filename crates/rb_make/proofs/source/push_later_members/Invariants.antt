use Rattle.rb_make.specs.Trial.{next_member}
use Rattle.rb_make.proofs.Texts.{ArePut}
use Rattle.rb_make.proofs.source.push_later_members.Given as goal

abbrev pub invariant-loop-process : goal.invariant-loop-process
invariant-loop-process l = ArePut next_member l.initial.text.items 2 l.process l.text.items
