-- What the parts of an entry in memory stand for.
use Rattle.std.specs.Prelude.{List, [], ◌∷◌}
use Rattle.rb_code.specs.SoundCode.Sound.{Loop, Mode, OpenBlock, Within, Fresh, MayPut, MayTake, Begun, Free, Changed}
use Rattle.rb_entries.specs.declared.entry.Mode.{Mode as HeldMode}
use Rattle.rb_entries.specs.declared.entry.Mode.TheVariants as held
use Rattle.rb_entries.specs.declared.entry.Within.{Within as HeldWithin}
use Rattle.rb_entries.specs.declared.entry.OpenBlock.{OpenBlock as HeldBlock}
use Rattle.rb_entries.specs.declared.entry.Loop.{Loop as HeldLoop}
use Rattle.rb_entries.specs.declared.entry.Loops.{Loops}
use Rattle.rb_entries.specs.declared.entry.Loops.TheVariants.{Zero, One, Two}

abbrev pub mode_of : HeldMode → Mode
mode_of held.Fresh = Fresh
mode_of (held.MayPut c) = MayPut c
mode_of (held.MayTake c) = MayTake c
mode_of held.Begun = Begun
mode_of held.Free = Free
mode_of held.Changed = Changed

abbrev pub within_of : HeldWithin → Within
within_of one = record { process = one.process; procedure = one.procedure }

abbrev pub block_of : HeldBlock → OpenBlock
block_of one = record { number = one.number; words = one.words }

abbrev pub loop_of : HeldLoop → Loop
loop_of one = record { counter = one.counter; first = one.first; last = one.last }

abbrev pub loops_of : Loops → List Loop
loops_of Zero = []
loops_of (One inner) = loop_of inner ∷ []
loops_of (Two inner around) = loop_of inner ∷ loop_of around ∷ []
