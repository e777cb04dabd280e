use Rattle.std.proofs.Common.{◌≡◌, map, take}
use Rattle.std.specs.List.{fold}
use Rattle.clap.specs.Words.{app_of, with_subcommand}
use Rattle.rb_asking.specs.Guides.{guide_of}
use Rattle.rb_asking.specs.Program.{shape_of}
use Rattle.rb_asking.proofs.line.with_commands.Given as goal

-- the program has the commands so far
abbrev pub invariant-loop-guide : goal.invariant-loop-guide
invariant-loop-guide l =
    app_of l.program ≡ fold with_subcommand (app_of l.initial.program) (map shape_of (map guide_of (take l.guide-index l.guides)))
