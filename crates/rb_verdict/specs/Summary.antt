-- What a trial writes of the run of its source over its schedule.
use Rattle.std.specs.Prelude.{ℕ, List, [], ◌∷◌, ◌++◌, length, codes, decimal}
use Rattle.rb_syntax.specs.Tree.{Tree}
use Rattle.rb_world.specs.Text.{line_of}
use Rattle.rb_world.specs.Turn.{told_at_opening}
use Rattle.rb_meaning.specs.Meaning.{opening_world, run_of}
use Rattle.rb_make.specs.Trial.{processes_of}
use Rattle.rb_run.specs.Counting.{Counted, told_counts}

-- how many lines of each kind a run prints before its ending
abbrev pub run_counts : Tree → List ℕ → Counted
run_counts tree turns = told_counts (told_at_opening (opening_world tree) ∷ (run_of tree turns).1)

-- the line of how many lines of each kind a run prints
abbrev pub counts_line : Counted → List ℕ
counts_line counts =
    line_of (codes "out" ∷ decimal counts.out ∷ codes "reject" ∷ decimal counts.reject ∷ codes "pass" ∷ decimal counts.pass
    ∷ codes "error" ∷ decimal counts.error ∷ codes "done" ∷ decimal counts.done ∷ [])

-- The summary of trial n: its number, how many processes it has, how many turns its schedule has, and how many lines of each kind its run
-- prints.
abbrev pub summary_of : ℕ → ℕ → Counted → List ℕ
summary_of n turns counts =
    line_of (codes "trial" ∷ decimal n ∷ [])
    ++ (line_of (codes "processes" ∷ decimal (processes_of n) ∷ [])
    ++ (line_of (codes "turns" ∷ decimal turns ∷ [])
    ++ counts_line counts))

-- the same for its source's tree and the turns of its schedule
abbrev pub summary_text : ℕ → Tree → List ℕ → List ℕ
summary_text n tree turns = summary_of n (length turns) (run_counts tree turns)
