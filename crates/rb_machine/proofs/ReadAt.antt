-- What is read of a process by its number.
use Rattle.std.proofs.Common.{◌≡◌, ◌<◌, ℕ, ℤ, zero, suc, List, [], ◌∷◌, length, option_map, slice_get, unwrap_or, Option, Some, ap, sym, ◌∙◌, subst, arith}
use Rattle.std.proofs.lemmas.List.{length-map}
use Rattle.std.proofs.lemmas.Option.{slice_get-map}
use Rattle.rb_base.specs.Lines.{belonging}
use Rattle.rb_base.specs.declared.event.State.{State}
use Rattle.rb_trace.specs.Ended.{state_of}
use Rattle.rb_world.specs.World.{Process}
use Rattle.rb_code.specs.Instructions.Plain.{Code}
use Rattle.rb_code.specs.WordMachine.Turn.{Copy, Standing}
use Rattle.rb_code.specs.WordMachine.WordRun.{variable_words}
use Rattle.rb_proc.specs.Process.{Seen}
use Rattle.rb_recovery.specs.Reading.{states_of, variables_of}
use Rattle.rb_recovery.specs.Worlds.{processes_of}

-- a process by its number
pub process_there : (procs : List Seen) (p : ℕ) (one : Seen) → slice_get procs p ≡ Some one → slice_get (processes_of procs) p ≡ Some one.process
process_there procs p one e = slice_get-map (λ (one : Seen). one.process) procs p ∙ ap (option_map (λ (one : Seen). one.process)) e

pub state_read : (procs : List Seen) (p : ℕ) (one : Seen) (state : State) → slice_get procs p ≡ Some one
    → state ≡ state_of (one.process.status, length one.process.levels) → slice_get (states_of (processes_of procs)) p ≡ Some state
state_read procs p one state e is =
    slice_get-map (λ (q : Process Standing Copy). state_of (q.status, length q.levels)) (processes_of procs) p
    ∙ ap (option_map (λ (q : Process Standing Copy). state_of (q.status, length q.levels))) (process_there procs p one e)
    ∙ ap Some (sym is)

-- a process with variables is there
pub with_variables : (c : Code) (procs : List Seen) (p at : ℕ) → at < length (belonging (variables_of c (processes_of procs)) p) → p < length procs
with_variables c [] p at h = omega (arith, h)
with_variables c (one ∷ procs) zero at h = omega arith
with_variables c (one ∷ procs) (suc p) at h = omega (arith, with_variables c procs p at h)

-- and these are its variables
pub variables_there : (c : Code) (procs : List Seen) (p : ℕ) (one : Seen) → slice_get procs p ≡ Some one
    → belonging (variables_of c (processes_of procs)) p ≡ variable_words c one.process.state
variables_there c procs p one e =
    ap (λ (o : Option (List ℤ)). unwrap_or o [])
    (slice_get-map (λ (q : Process Standing Copy). variable_words c q.state) (processes_of procs) p
    ∙ ap (option_map (λ (q : Process Standing Copy). variable_words c q.state)) (process_there procs p one e))

-- a process that contracts see is there
pub process_listed : (procs items : List Seen) (processes : List (Process Standing Copy)) (p : ℕ) → procs ≡ items → processes_of items ≡ processes
    → p < length processes → p < length procs
process_listed procs items processes p e seen h =
    subst (λ n. p < n)
    (ap length (sym seen) ∙ length-map items (λ (one : Seen). one.process) ∙ ap length (sym e)) h
