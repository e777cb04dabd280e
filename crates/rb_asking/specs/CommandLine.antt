-- The command line of `rbl` as `clap` is told of it, and what is read from what it finds.
use Rattle.std.specs.Prelude.{ℕ, nat_eq, cond, List, map, codes, Option, None, option_and_then, option_map}
use Rattle.std.specs.Cmp.Lexicographic.{pointwise}
use Rattle.clap.specs.Words.{App, Shape}
use Rattle.rb_asking.specs.Commands.{Asked, Run, Survive, Plain, Check, Code, Trial, Compile, Load, Session, Domino, Stuck}
use Rattle.rb_words.specs.Given.{three_given, two_given}
use Rattle.rb_asking.specs.Number.{trial_number}
use Rattle.rb_asking.specs.Guides.{command_guides}
use Rattle.rb_asking.specs.Program.{program_with, shape_of}
use Rattle.rb_asking.specs.declared.asking.Asked.{Asked as Found}
use Rattle.rb_asking.specs.declared.asking.Asked.TheVariants as found

-- the commands, each with its words
abbrev pub commands : List Shape
commands = map shape_of command_guides

-- the program with its commands
abbrev pub program : App
program = program_with (codes "rbl") commands

-- the trial of a number that is given
abbrev pub trial_given : Option (List ℕ) → Option Asked
trial_given word = option_and_then (λ digits. option_map Trial (trial_number digits)) word

-- what the command of this name asks for, with the words that it was given
abbrev pub asked_given : List ℕ → (List ℕ → Option (List ℕ)) → Option Asked
asked_given name given =
    cond (pointwise nat_eq name (codes "run")) (two_given Run (given (codes "SOURCE")) (given (codes "SCHEDULE")))
    (cond (pointwise nat_eq name (codes "survive")) (two_given Survive (given (codes "SOURCE")) (given (codes "SCHEDULE")))
    (cond (pointwise nat_eq name (codes "plain")) (two_given Plain (given (codes "SOURCE")) (given (codes "RECORD")))
    (cond (pointwise nat_eq name (codes "check")) (option_map Check (given (codes "SOURCE")))
    (cond (pointwise nat_eq name (codes "code")) (option_map Code (given (codes "SOURCE")))
    (cond (pointwise nat_eq name (codes "trial")) (trial_given (given (codes "NUMBER")))
    (cond (pointwise nat_eq name (codes "compile")) (option_map Compile (given (codes "SOURCE")))
    (cond (pointwise nat_eq name (codes "load")) (two_given Load (given (codes "IMAGE")) (given (codes "SCHEDULE")))
    (cond (pointwise nat_eq name (codes "session")) (three_given Session (given (codes "SOURCE")) (given (codes "SCHEDULE")) (given (codes "SESSION")))
    (cond (pointwise nat_eq name (codes "domino")) (option_map Domino (given (codes "HISTORY")))
    (cond (pointwise nat_eq name (codes "stuck")) (two_given Stuck (given (codes "SOURCE")) (given (codes "SCHEDULE"))) None))))))))))

-- what words ask for, as the code finds it
abbrev pub plainly : Found → Asked
plainly (found.Run source schedule) = Run source.now schedule.now
plainly (found.Survive source schedule) = Survive source.now schedule.now
plainly (found.Plain source kept) = Plain source.now kept.now
plainly (found.Check source) = Check source.now
plainly (found.Code source) = Code source.now
plainly (found.Trial number) = Trial number
plainly (found.Compile source) = Compile source.now
plainly (found.Load image schedule) = Load image.now schedule.now
plainly (found.Session source schedule session) = Session source.now schedule.now session.now
plainly (found.Domino history) = Domino history.now
plainly (found.Stuck source schedule) = Stuck source.now schedule.now
