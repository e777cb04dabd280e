-- Trials: a source and a schedule that are made from a number, as large input that is the same each time. The processes stand
-- in a chain, with a channel from each to the next. In every round all of them enter one conversation, in which the first
-- counts and the others add to what they receive and send it on, and each then prints what came of it. All of it is this
-- project's own.
use Rattle.std.specs.Prelude.{ℕ, ◌+◌, ◌-◌, ◌*◌, ◌/◌, ◌%◌, nat_lt, cond, List, [], ◌∷◌, codes, decimal}
use Rattle.std.specs.List.{concat, flat_map, range_with_len}

-- how many processes there are, from 2 to 32
abbrev pub processes_of : ℕ → ℕ
processes_of n = 2 + n % 31

-- how many rounds each process makes, from 1 to 50
abbrev pub rounds_of : ℕ → ℕ
rounds_of n = 1 + (n / 31) % 50

-- what the first process adds in its recovery block, below 5
abbrev pub added_of : ℕ → ℕ
added_of n = n % 5

-- the line of the channel from process j to the next one
unfoldable pub channel_line : ℕ → List ℕ
channel_line j = concat (codes "channel c" ∷ decimal j ∷ codes " from p" ∷ decimal j ∷ codes " to p" ∷ decimal (j + 1) ∷ codes " size 4;\n" ∷ [])

-- a member of the conversation behind the first
unfoldable pub next_member : ℕ → List ℕ
next_member j = concat (codes ", p" ∷ decimal j ∷ [])

-- the line of the conversation of k processes
unfoldable pub conversation_line : ℕ → List ℕ
conversation_line k = concat (codes "conversation C (p1" ∷ flat_map next_member (range_with_len 2 (k - 1)) ∷ codes ");\n" ∷ [])

-- what every process begins with: process j makes w rounds
unfoldable pub beginning : ℕ → ℕ → List ℕ
beginning j w = concat (
    codes "process p" ∷ decimal j ∷ codes " { var i; var x;\nwhile i < " ∷ decimal w
    ∷ codes " { i := i + 1;\nconverse C ensure x % 3 <> 0 within 1000 by { " ∷ [])

-- what every process ends with
unfoldable pub ending : List ℕ
ending = codes " } else error;\nprint x; } }\n"

-- the process that stands first in the chain, where it makes w rounds and adds s
unfoldable pub first_process : ℕ → ℕ → List ℕ
first_process w s = concat (
    beginning 1 w
    ∷ codes "x := x + i; ensure x > prior x within 20 by { x := x + " ∷ decimal s ∷ codes "; } else error; send c1 x; }\n"
    ∷ codes "else by { x := 3 * i + 1; send c1 x;" ∷ ending ∷ [])

-- what process j of k sends on: the last one nothing
unfoldable pub sends_on : ℕ → ℕ → List ℕ
sends_on k j = cond (nat_lt j k) (concat (codes " send c" ∷ decimal j ∷ codes " x;" ∷ [])) []

-- the primary of process j of k behind the first: it adds to what it receives
unfoldable pub later_primary : ℕ → ℕ → List ℕ
later_primary k j = concat (codes "receive c" ∷ decimal (j - 1) ∷ codes " x; x := x + " ∷ decimal j ∷ codes ";" ∷ sends_on k j ∷ codes " }\n" ∷ [])

-- the alternate of process j of k behind the first: it hands on what it receives
unfoldable pub later_alternate : ℕ → ℕ → List ℕ
later_alternate k j = concat (codes "else by { receive c" ∷ decimal (j - 1) ∷ codes " x;" ∷ sends_on k j ∷ [])

-- process j of k behind the first, where each makes w rounds
unfoldable pub later_process : ℕ → ℕ → ℕ → List ℕ
later_process k w j = concat (beginning j w ∷ later_primary k j ∷ later_alternate k j ∷ ending ∷ [])

-- the source of k processes that make w rounds, of which the first adds s
unfoldable pub source : ℕ → ℕ → ℕ → List ℕ
source k w s = concat (
    codes "program trial;\n"
    ∷ flat_map channel_line (range_with_len 1 (k - 1))
    ∷ conversation_line k
    ∷ first_process w s
    ∷ flat_map (later_process k w) (range_with_len 2 (k - 1))
    ∷ codes "end.\n" ∷ [])

-- the schedule of a trial of k processes that make w rounds: enough turns of each for all that it does
unfoldable pub schedule : ℕ → ℕ → List ℕ
schedule k w = concat (codes "all " ∷ decimal (w * (8 * k + 60)) ∷ codes "\n" ∷ [])

-- the source of trial n
abbrev pub source_of : ℕ → List ℕ
source_of n = source (processes_of n) (rounds_of n) (added_of n)

-- the schedule of trial n
abbrev pub schedule_of : ℕ → List ℕ
schedule_of n = schedule (processes_of n) (rounds_of n)
