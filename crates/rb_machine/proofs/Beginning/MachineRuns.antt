-- The turns of a machine, one after another, are the run of the word machine.
use Rattle.std.proofs.Common.{◌≡◌, ℕ, ◌+◌, Bool, List, [], ◌∷◌, length, replicate, ap, sym, ◌∙◌}
use Rattle.rb_world.specs.Kind.{Membership}
use Rattle.rb_world.specs.Turn.{Told, run, told_first}
use Rattle.rb_code.specs.Instructions.Plain.{Code}
use Rattle.rb_code.specs.WordMachine.WordKind.{word_kind}
use Rattle.rb_code.specs.WordMachine.WordRun.{WordWorld, word_run}
use Rattle.rb_machine.specs.Machine.{HasRun, HasTurned, Seen, opening_seen, turned}

-- the run of the word machine that goes on from a machine
abbrev pub runs_from : Seen → List ℕ → WordWorld × List Told
runs_from m ps = run (word_kind m.code m.groups) (m.taken + 1) ps m.world

-- after a turn the rest of the run goes on from the next machine, whatever lines wait
pub run_goes_on : (old new : Seen) (p : ℕ) (ps : List ℕ) (told : Told) (lines : List (List (List ℕ))) → HasTurned old p new told
    → runs_from old (p ∷ ps) ≡ told_first told (runs_from (record new { waiting = lines }) ps)
run_goes_on old new p ps told lines h =
    let next : Seen = record old { world = (turned old p).0; waiting = (turned old p).1.released; taken = old.taken + 1 } in
    ap (λ (m : Seen). told_first (turned old p).1 (runs_from (record m { waiting = lines }) ps)) (sym h.machine)
    ∙ ap (λ (one : Told). told_first one (runs_from (record new { waiting = lines }) ps)) (sym h.told_is)

-- so all turns together are the run
pub machine_runs_from : (old new : Seen) (ps : List ℕ) (all : List Told) → HasRun old ps all new → (new.world, all) ≡ runs_from old ps
machine_runs_from old new [] all h =
    ap (λ (m : Seen). (m.world, all)) h.0 ∙ ap (λ (told : List Told). (old.world, told)) h.1
machine_runs_from old new (p ∷ ps) all (next, one, others, turned_so, is, rest) =
    let lines : List (List (List ℕ)) = replicate (length next.world.processes) [] in
    ap (λ (told : List Told). (new.world, told)) is
    ∙ (ap (told_first one) (machine_runs_from (record next { waiting = lines }) new ps others rest)
    ∙ sym (run_goes_on old next p ps one lines turned_so))

-- from a machine that was loaded they are the run of the code
pub machine_runs : (c : Code) (groups : List Membership) (keeps : Bool) (most : ℕ) (new : Seen) (ps : List ℕ) (all : List Told)
    → HasRun (opening_seen c groups keeps most) ps all new → (new.world, all) ≡ word_run c groups ps
machine_runs c groups keeps most new ps all h = machine_runs_from (opening_seen c groups keeps most) new ps all h
