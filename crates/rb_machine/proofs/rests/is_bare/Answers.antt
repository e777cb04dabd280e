-- Whether a process has no level.
use Rattle.std.proofs.Common.{◌≡◌, ◌<◌, ◌≤◌, length, slice_get, Some, None, option_map, ap, sym, ◌∙◌, subst, arith}
use Rattle.std.proofs.lemmas.Bool.{eqb-true}
use Rattle.std.proofs.lemmas.List.{nil_from_length}
use Rattle.std.proofs.lemmas.Option.{slice_get-get_or, slice_get-map, slice_get_past}
use Rattle.rb_proc.specs.Process.{Seen}
use Rattle.rb_machine.specs.Resting.{IsBare}
use Rattle.rb_recovery.specs.Worlds.{processes_of}
use Rattle.rb_machine.proofs.rests.is_bare.Goals as goal

pub returns-then-p-procs : goal.returns-then-p-procs
returns-then-p-procs g c e =
    let procs = c.args.procs.now in
    let past : length procs ≤ c.args.p = omega (arith, c.if-p-procs.true) in
    let here : slice_get (processes_of procs) c.args.p ≡ None =
    slice_get-map (λ (seen : Seen). seen.process) procs c.args.p ∙ ap (option_map (λ (seen : Seen). seen.process)) (slice_get_past procs c.args.p past) in
    subst IsBare (sym here) tt

pub returns : goal.returns
returns g c e =
    let procs = c.args.procs.now in
    let one = c.index-procs-p.result in
    let within : c.args.p < length procs = omega (arith, c.if-p-procs.false) in
    let read : slice_get procs c.args.p ≡ Some one =
    slice_get-get_or procs c.args.p one within ∙ ap (λ (x : Seen). Some x) (sym c.index-procs-p.is) in
    let here : slice_get (processes_of procs) c.args.p ≡ Some one.process =
    slice_get-map (λ (seen : Seen). seen.process) procs c.args.p ∙ ap (option_map (λ (seen : Seen). seen.process)) read in
    subst IsBare (sym here) (nil_from_length one.process.levels (sym c.levels.ensures ∙ eqb-true c.levels.result 0 e))
