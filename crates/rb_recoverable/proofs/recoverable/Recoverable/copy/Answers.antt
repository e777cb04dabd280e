use Rattle.std.proofs.Common.{◌≡◌, ◌-◌, ◌<◌, length, ap, sym, subst, arith, refl}
use Rattle.std.specs.Prelude.{slice_get}
use Rattle.rb_recoverable.specs.Contents.{Contents}
use Rattle.rb_recoverable.specs.Views.{IsCopyOf}
use Rattle.rb_recoverable.specs.declared.level_view.CopyView.{CopyView}
use Rattle.rb_recoverable.proofs.Copied.{copy_seen, few_calls}
use Rattle.rb_recoverable.proofs.Tied.{marks_levels}
use Rattle.rb_recoverable.proofs.recoverable.Recoverable.copy.Goals as goal

pub index-mark-requires : goal.index-mark-requires
index-mark-requires g c =
    let levels = marks_levels _ _ _ _ _ _ _ _ _ c.self.invariant in
    let same = ap (λ (r : Contents). length r.levels) c.self.view_is in
    omega arith

pub overflow_sub-result : goal.overflow_sub-result
overflow_sub-result g c =
    let open_now = subst (λ (r : Contents). c.args.k < length r.levels) (sym c.self.view_is) c.requires in
    let few = few_calls _ _ _ _ _ _ _ _ _ c.self.invariant c.args.k open_now c.index-mark.result.now c.index-mark.ensures in
    omega arith

pub returns : goal.returns
returns g c =
    let open_now = subst (λ (r : Contents). c.args.k < length r.levels) (sym c.self.view_is) c.requires in
    let mark = c.index-mark.result.now in
    let view : CopyView = record { at = mark.at; height = mark.height; newer_calls = c.len.result - mark.calls } in
    let newer : c.len.result - mark.calls ≡ length c.self.inside.calls.items - mark.calls = omega arith in
    subst (λ (r : Contents). IsCopyOf (slice_get r.levels c.args.k) r.calls view) c.self.view_is
    (copy_seen _ _ _ _ _ _ _ _ _ c.self.invariant c.args.k open_now mark c.index-mark.ensures view refl refl newer)
