-- The command line of `rblview` as `clap` is told of it, and what is read from what it finds.
use Rattle.std.specs.Prelude.{ℕ, nat_eq, cond, List, map, codes, Option, Some, None, option_and_then, option_map}
use Rattle.std.specs.Cmp.Lexicographic.{pointwise}
use Rattle.clap.specs.Words.{App, Shape}
use Rattle.rb_asking.specs.Guides.{plain_guides}
use Rattle.rb_asking.specs.Program.{program_with, shape_of}
use Rattle.rb_asking.specs.Views.{View, Explains, Explores, Helps, Lists, Pages, TellsVersion, Traces, explored_by}
use Rattle.rb_words.specs.Given.{three_given, two_given}
use Rattle.rb_asking.specs.declared.viewing.View.{View as Found}
use Rattle.rb_asking.specs.declared.viewing.View.TheVariants as found

-- the commands that take plain words alone, each with these
abbrev pub commands : List Shape
commands = map shape_of plain_guides

-- the program with its commands
abbrev pub program : App
program = program_with (codes "rblview") commands

-- what the command of this name asks for, with the words that it was given
abbrev pub view_given : List ℕ → (List ℕ → Option (List ℕ)) → Option View
view_given name given =
    cond (pointwise nat_eq name (codes "explain")) (Some (Explains (given (codes "NAME"))))
    (cond (pointwise nat_eq name (codes "trace")) (two_given Traces (given (codes "SOURCE")) (given (codes "SCHEDULE")))
    (cond (pointwise nat_eq name (codes "page")) (three_given Pages (given (codes "PAGE")) (given (codes "SOURCE")) (given (codes "SCHEDULE")))
    (cond (pointwise nat_eq name (codes "explore")) (option_and_then (λ source. explored_by source (given (codes "NUMBER"))) (given (codes "SOURCE")))
    (cond (pointwise nat_eq name (codes "faults")) (option_map Lists (given (codes "SOURCE"))) None))))

-- what words ask for, as the code finds it
abbrev pub plainly : Found → View
plainly (found.Explain name) = Explains (option_map (λ word. word.now) name)
plainly (found.Trace source schedule) = Traces source.now schedule.now
plainly (found.Page page source schedule) = Pages page.now source.now schedule.now
plainly (found.Explore source number) = Explores source.now number
plainly (found.Faults source) = Lists source.now
plainly (found.Help name) = Helps (option_map (λ word. word.now) name)
plainly found.Version = TellsVersion
