-- The alternate that a step is given, by what the process wants.
use Rattle.std.specs.Prelude.{ℕ, List}
use Rattle.rb_world.specs.Turn.{tried_at}
use Rattle.rb_world.specs.World.{Level, last_of}
use Rattle.rb_code.specs.WordMachine.Turn.{Copy}
use Rattle.rb_proc.specs.declared.answers.Wanted.{Wanted}
use Rattle.rb_proc.specs.declared.answers.Wanted.TheVariants as wanted

abbrev pub alternate_by : Wanted → List (Level Copy) → ℕ
alternate_by wanted.Start levels = tried_at (last_of levels)
alternate_by _ levels = 0
