-- The work of the turns that are left, and of one turn more.
use Rattle.std.proofs.Common.{◌≡◌, ℕ, ◌+◌, ◌≤◌, Bool, List, [], ◌∷◌, length, replicate, ap, ◌∙◌, arith}
use Rattle.rb_world.specs.Turn.{Told}
use Rattle.rb_machine.specs.Machine.{HasTurned, Seen, opening_seen}
use Rattle.rb_recovery.specs.Work.{turn_work, turns_work}
use Rattle.rb_run.specs.Running.{NoneWaits}
use Rattle.rb_run.proofs.TurnsTaken.{is_after}

abbrev pub work_left : Seen → List ℕ → ℕ
work_left m turns = turns_work m.code m.groups (m.taken + 1) turns m.world

-- a turn of a machine has cost this at most
abbrev pub work_now : Seen → ℕ → ℕ
work_now m p = turn_work m.code m.groups (m.taken + 1) p m.world

-- the ticks so far, and the work that is left, are within a bound: so they are after one turn more
pub work_on : (m turning now : Seen) (p : ℕ) (told : Told) → HasTurned m p turning told → NoneWaits m
    → now.waiting ≡ replicate (length turning.waiting) [] → record now { waiting = [] } ≡ record turning { waiting = [] }
    → (left later : List ℕ) → left ≡ p ∷ later → (ticks after bound : ℕ) → after ≤ ticks + work_now m p → ticks + work_left m left ≤ bound
    → after + work_left now later ≤ bound
work_on m turning now p told h waits none rest left later parts ticks after bound turn within =
    omega (arith, turn, within, ap (work_left m) parts, ap (λ (x : Seen). work_left x later) (is_after m turning now p told h waits none rest))

-- the same where the lines of the turn are not written any more
pub work_through : (m : Seen) (p : ℕ) (left later : List ℕ) → left ≡ p ∷ later → (ticks after bound : ℕ) → after ≤ ticks + work_now m p
    → ticks + work_left m left ≤ bound → after ≤ bound
work_through m p left later parts ticks after bound turn within = omega (arith, turn, within, ap (work_left m) parts)

-- the work of all turns of a machine that was just loaded, whose lines of turn 0 may have been written
pub work_first : (old now : Seen) (keeps : Bool) → old ≡ opening_seen old.code old.groups keeps old.most → record now { waiting = [] } ≡ record old { waiting = [] }
    → (left all : List ℕ) → left ≡ all → work_left now left ≡ turns_work old.code old.groups 1 all old.world
work_first old now keeps fresh rest left all whole =
    ap (λ (x : Seen). work_left x left) rest
    ∙ ap (λ n. turns_work old.code old.groups (n + 1) left old.world) (ap (λ (x : Seen). x.taken) fresh)
    ∙ ap (λ turns. turns_work old.code old.groups 1 turns old.world) whole
