use Rattle.std.proofs.Common.{◌≡◌, ◌≤◌, false, nat_lt, length, refl, ap, sym, ◌∙◌, arith}
use Rattle.std.proofs.lemmas.Bool.Decides.{nat_tests}
use Rattle.std.proofs.lemmas.List.{length-map}
use Rattle.std.proofs.lemmas.Option.{slice_get_past}
use Rattle.rb_scope.proofs.Long.{got}
use Rattle.rb_proc.specs.Process.{Seen}
use Rattle.rb_proc.specs.Statuses.{status_of}
use Rattle.rb_proc.specs.declared.answers.ProcessStatus.{ProcessStatus}
use Rattle.rb_proc.specs.declared.answers.ProcessStatus.TheVariants as status
use Rattle.rb_machine.specs.Telling.{is_running}
use Rattle.rb_machine.specs.Turns.{runs_there}
use Rattle.rb_recovery.specs.Worlds.{processes_of}
use Rattle.rb_machine.proofs.ReadAt.{process_there}
use Rattle.rb_machine.proofs.moves.is_running.Goals as goal

has_ended : (s : ProcessStatus) → (s ≡ status.Running → ⊥) → false ≡ is_running (status_of s)
has_ended status.Running other = absurd (other refl)
has_ended status.Finished other = refl
has_ended (status.Failed cause) other = refl

pub returns-in-None : goal.returns-in-None
returns-in-None g c =
    let procs = c.args.procs.now in
    let test : false ≡ nat_lt c.args.p (length procs) = c.in-None.ensures.lookup.0 in
    let past : length procs ≤ c.args.p = grind (arith, nat_tests) in
    ap runs_there (sym (slice_get_past (processes_of procs) c.args.p (omega (arith, length-map procs (λ (one : Seen). one.process)))))

pub returns-in-Running : goal.returns-in-Running
returns-in-Running g c =
    let found = c.in-Some.ensures.lookup in
    let there = process_there c.args.procs.now c.args.p c.in-Some.proc.now
    (got c.args.procs.now c.args.p c.in-Some.proc.now found.3.0 found.1) in
    ap is_running c.in-Running.ensures ∙ sym (ap runs_there there)

pub returns-in_default : goal.returns-in_default
returns-in_default g c =
    let found = c.in-Some.ensures.lookup in
    let there = process_there c.args.procs.now c.args.p c.in-Some.proc.now
    (got c.args.procs.now c.args.p c.in-Some.proc.now found.3.0 found.1) in
    has_ended c.status.result c.in_default.not-Running ∙ ap is_running c.status.ensures ∙ sym (ap runs_there there)
