use Rattle.std.proofs.Common.{◌+◌, ℕ, List, [], ◌∷◌, ◌++◌, map, take, ap, sym, ◌∙◌}
use Rattle.std.proofs.lemmas.List.{map_more, take_all}
use Rattle.rb_proc.specs.Process.{Seen}
use Rattle.rb_recovery.proofs.survivors.last_kept.Goals as goal

pub returns : goal.returns
returns g c =
    c.loop-proc.invariant
    ∙ ap (λ (procs : List Seen). map (λ (one : Seen). one.process.state.last_kept) procs)
    (take_all c.loop-proc.proc-index c.args.procs.now c.loop-proc-test.false)

pub loop-proc-preserved : goal.loop-proc-preserved
loop-proc-preserved g c =
    let i = c.loop-proc.proc-index in
    let so_far = map (λ (one : Seen). one.process.state.last_kept) (take i c.args.procs.now) in
    c.in_ok-push.ensures.items
    ∙ ap (λ (turns : List ℕ). turns ++ c.last_kept.result ∷ []) c.loop-proc.invariant
    ∙ ap (λ (n : ℕ). so_far ++ n ∷ []) c.last_kept.ensures
    ∙ ap (λ (one : Seen). so_far ++ one.process.state.last_kept ∷ []) c.proc-item.is
    ∙ sym (map_more (λ (one : Seen). one.process.state.last_kept) c.args.procs.now i c.proc-item.result c.loop-proc-test.true)
