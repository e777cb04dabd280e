-- How the commands of `rbl` and of `rblview` are used. All of it is this project's own.
use Rattle.std.specs.Prelude.{ℕ, List, [], ◌∷◌, ◌++◌, map, codes, Option, Some, None, option_map}
use Rattle.rb_asking.specs.declared.guides.Guide.{Guide as Kept}

-- how a command is used: its name, the words that it takes, one more that may be left out, what it does, and a line for a shell that shows it
pub record Guide : Type 0 where
  pub name : List ℕ
  pub takes : List (List ℕ)
  pub last : Option (List ℕ)
  pub does : List ℕ
  pub example : List ℕ

-- as the code has it
abbrev pub guide_of : Kept → Guide
guide_of kept = record {
  name = kept.name.now;
  takes = map (λ word. word.now) kept.takes.now;
  last = option_map (λ word. word.now) kept.last;
  does = kept.does.now;
  example = kept.example.now;
}

-- a command that takes just these words
abbrev pub guide : List ℕ → List (List ℕ) → List ℕ → List ℕ → Guide
guide name takes does example = record { name = name; takes = takes; last = None; does = does; example = example }

-- the commands of `rbl`
abbrev pub command_guides : List Guide
command_guides =
    guide (codes "run") (codes "SOURCE" ∷ codes "SCHEDULE" ∷ []) (codes "what a program prints, turn by turn over a schedule")
    (codes "rbl run examples/recovery.rbl examples/recovery.schedule")
    ∷ guide (codes "survive") (codes "SOURCE" ∷ codes "SCHEDULE" ∷ []) (codes "which turns of that run survived, as a record")
    (codes "rbl survive examples/step1.rbl examples/step1.schedule")
    ∷ guide (codes "plain") (codes "SOURCE" ∷ codes "RECORD" ∷ []) (codes "what those turns do by themselves, where nothing is undone")
    (codes "rbl plain examples/step1.rbl examples/step1.record")
    ∷ guide (codes "check") (codes "SOURCE" ∷ []) (codes "whether a program is accepted, and else its first fault")
    (codes "rbl check examples/step1.rbl")
    ∷ guide (codes "code") (codes "SOURCE" ∷ []) (codes "the code that a program is compiled to") (codes "rbl code examples/step1.rbl")
    ∷ guide (codes "trial") (codes "NUMBER" ∷ []) (codes "a run of a program that is made from a number") (codes "rbl trial 7")
    ∷ guide (codes "compile") (codes "SOURCE" ∷ []) (codes "a program as an image") (codes "rbl compile examples/step1.rbl > step1.image")
    ∷ guide (codes "load") (codes "IMAGE" ∷ codes "SCHEDULE" ∷ []) (codes "what a program prints that was compiled")
    (codes "rbl compile examples/step1.rbl | rbl load /dev/stdin examples/step1.schedule")
    ∷ guide (codes "session") (codes "SOURCE" ∷ codes "SCHEDULE" ∷ codes "SESSION" ∷ []) (codes "a run that is stepped forth and back")
    (codes "rbl session examples/step3.rbl examples/step3.schedule examples/step3.session")
    ∷ guide (codes "domino") (codes "HISTORY" ∷ []) (codes "how far processes go back that have no conversations")
    (codes "rbl domino examples/domino.history")
    ∷ guide (codes "stuck") (codes "SOURCE" ∷ codes "SCHEDULE" ∷ []) (codes "whether anything can still go on after a run, and who waits for what")
    (codes "rbl stuck examples/deadlock.rbl examples/deadlock.schedule") ∷ []

-- a command that takes these words, and one more that may be left out
abbrev pub guide_and_last : List ℕ → List (List ℕ) → List ℕ → List ℕ → List ℕ → Guide
guide_and_last name takes last does example = record { name = name; takes = takes; last = Some last; does = does; example = example }

-- the commands of `rblview` that take plain words alone
abbrev pub plain_guides : List Guide
plain_guides =
    guide_and_last (codes "explain") [] (codes "NAME") (codes "what a fault or a cause means, or the names of all") (codes "rblview explain S1")
    ∷ guide (codes "trace") (codes "SOURCE" ∷ codes "SCHEDULE" ∷ []) (codes "what each turn of a run did")
    (codes "rblview trace examples/step1.rbl examples/step1.schedule")
    ∷ guide (codes "page") (codes "PAGE" ∷ codes "SOURCE" ∷ codes "SCHEDULE" ∷ []) (codes "a page that shows a run in a browser")
    (codes "rblview page view/page.html examples/step4.rbl examples/step4.schedule > step4.html")
    ∷ guide_and_last (codes "explore") (codes "SOURCE" ∷ []) (codes "NUMBER")
    (codes "what a program comes to over all schedules, or a schedule that leads there") (codes "rblview explore examples/step5.rbl")
    ∷ guide (codes "faults") (codes "SOURCE" ∷ []) (codes "all faults of names, limits and nesting of a program, each with its reason")
    (codes "rblview faults examples/faults/three.rbl") ∷ []

-- the others, which options stand for too
abbrev pub other_guides : List Guide
other_guides =
    guide_and_last (codes "help") [] (codes "NAME") (codes "how a command is used, or all of them") (codes "rblview help trace")
    ∷ guide (codes "version") [] (codes "which version this is, and what is proved of it") (codes "rblview version") ∷ []

-- the commands of `rblview`
abbrev pub view_guides : List Guide
view_guides = plain_guides ++ other_guides
