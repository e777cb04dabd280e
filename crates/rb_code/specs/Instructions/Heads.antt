-- Which heads of a listing are still to be written.
use Rattle.std.specs.Prelude.{List, ◌++◌, map}
use Rattle.rb_world.specs.Text.{Naming}
use Rattle.rb_code.specs.Instructions.Plain.{part, procedure}
use Rattle.rb_code.specs.Instructions.Listing.{Head, heads_from, procedure_head}
use Rattle.rb_code.specs.declared.listing.Heads.{Heads}

-- those of the procedures that are left of one process, and those of the processes behind it
abbrev pub heads_left : Naming → Heads → List Head
heads_left names left =
    map procedure_head (map procedure left.procedures.now) ++ heads_from names left.process (map part left.processes.now)
