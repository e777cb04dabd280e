use Rattle.rb_make.specs.Trial.{channel_line}
use Rattle.rb_make.proofs.Texts.{ArePut}
use Rattle.rb_make.proofs.source.push_channels.Given as goal

abbrev pub invariant-loop-process : goal.invariant-loop-process
invariant-loop-process l = ArePut channel_line l.initial.text.items 1 l.process l.text.items
