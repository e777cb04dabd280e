use Rattle.std.proofs.Common.{◌<◌, length, ap, sym, ◌∙◌, subst, arith}
use Rattle.std.specs.Prelude.{slice_get, slice_set, vec_capacity}
use Rattle.rb_world.specs.Reject.{next_alternate}
use Rattle.rb_world.specs.World.{change_at}
use Rattle.rb_recoverable.specs.Contents.{Contents, IsBelowLast}
use Rattle.rb_recoverable.specs.Inside.{IsTied, contents}
use Rattle.rb_recoverable.specs.declared.recoverable.LevelMark.{LevelMark}
use Rattle.rb_recoverable.proofs.Leaving.{can_rise, seen_raise, tied_raise}
use Rattle.rb_recoverable.proofs.Tied.{marks_levels}
use Rattle.rb_recoverable.proofs.Timed.{timed_last, timed_next}
use Rattle.rb_recoverable.proofs.recoverable.Recoverable.raise.Goals as goal

pub index-mark-requires : goal.index-mark-requires
index-mark-requires g c =
    let levels = marks_levels _ _ _ _ _ _ _ _ _ c.self.invariant in
    let same = ap (λ (r : Contents). length r.levels) c.self.view_is in
    omega arith

pub next_mark-requires : goal.next_mark-requires
next_mark-requires g c =
    let i = c.self.inside in
    let levels = marks_levels _ _ _ _ _ _ _ _ _ c.self.invariant in
    let same = ap (λ (r : Contents). length r.levels) c.self.view_is in
    can_rise _ _ _ _ _ _ _ _ _ c.self.invariant c.args.level c.index-mark.result.now (omega arith) (sym c.index-mark.ensures)
    (subst (λ (r : Contents). IsBelowLast (slice_get r.levels c.args.level)) (sym c.self.view_is) c.requires.few)

pub index_mut-requires : goal.index_mut-requires
index_mut-requires g c =
    let levels = marks_levels _ _ _ _ _ _ _ _ _ c.self.invariant in
    let same = ap (λ (r : Contents). length r.levels) c.self.view_is in
    omega arith

pub invariant_of-self : goal.invariant_of-self
invariant_of-self g c =
    let i = c.self.inside in
    let t = c.self.invariant in
    let mark = c.index-mark.result.now in
    let levels = marks_levels _ _ _ _ _ _ _ _ _ t in
    let same = ap (λ (r : Contents). length r.levels) c.self.view_is in
    let within : c.args.level < length i.marks.items = omega arith in
    subst
    (λ (m : LevelMark). IsTied i.clock c.sooner-self-inside.result i.cells i.cache i.calls.items (vec_capacity i.calls)
    (slice_set i.marks.items c.args.level m) (vec_capacity i.marks) i.hold)
    (sym c.next_mark.ensures)
    (tied_raise _ _ _ _ _ _ _ _ _ t c.args.level mark within (sym c.index-mark.ensures) c.sooner-self-inside.result (vec_capacity i.marks) (omega arith)
    (timed_last i.clock i.deadline i.marks.items t.timed c.args.level c.sooner-self-inside.result mark (omega arith) (sym c.index-mark.ensures)
    c.sooner-self-inside.ensures.outer c.sooner-self-inside.ensures.own))

pub invariant_of-self-else-level-len : goal.invariant_of-self-else-level-len
invariant_of-self-else-level-len g c =
    let i = c.self.inside in
    let t = c.self.invariant in
    let mark = c.index-mark.result.now in
    let levels = marks_levels _ _ _ _ _ _ _ _ _ t in
    let same = ap (λ (r : Contents). length r.levels) c.self.view_is in
    let within : c.args.level < length i.marks.items = omega arith in
    subst
    (λ (m : LevelMark). IsTied i.clock i.deadline i.cells i.cache i.calls.items (vec_capacity i.calls)
    (slice_set i.marks.items c.args.level m) (vec_capacity i.marks) i.hold)
    (sym c.next_mark.ensures)
    (tied_raise _ _ _ _ _ _ _ _ _ t c.args.level mark within (sym c.index-mark.ensures) i.deadline (vec_capacity i.marks) (omega arith)
    (timed_next i.clock i.deadline i.marks.items t.timed c.args.level mark within (sym c.index-mark.ensures)))

pub returns-then-level-len : goal.returns-then-level-len
returns-then-level-len g c =
    let i = c.self.inside in
    let levels = marks_levels _ _ _ _ _ _ _ _ _ c.self.invariant in
    let same = ap (λ (r : Contents). length r.levels) c.self.view_is in
    ap (λ (m : LevelMark). contents i.clock i.cells.words i.cache i.calls.items (slice_set i.marks.items c.args.level m) i.hold) c.next_mark.ensures
    ∙ seen_raise _ _ _ _ _ _ _ _ _ c.self.invariant c.args.level c.index-mark.result.now (omega arith) (sym c.index-mark.ensures)
    ∙ ap (λ (r : Contents). record r { levels = change_at c.args.level next_alternate r.levels }) c.self.view_is

pub returns-else-level-len : goal.returns-else-level-len
returns-else-level-len g c =
    let i = c.self.inside in
    let levels = marks_levels _ _ _ _ _ _ _ _ _ c.self.invariant in
    let same = ap (λ (r : Contents). length r.levels) c.self.view_is in
    ap (λ (m : LevelMark). contents i.clock i.cells.words i.cache i.calls.items (slice_set i.marks.items c.args.level m) i.hold) c.next_mark.ensures
    ∙ seen_raise _ _ _ _ _ _ _ _ _ c.self.invariant c.args.level c.index-mark.result.now (omega arith) (sym c.index-mark.ensures)
    ∙ ap (λ (r : Contents). record r { levels = change_at c.args.level next_alternate r.levels }) c.self.view_is
