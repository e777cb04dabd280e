use Rattle.std.proofs.Common.{◌≡◌, ◌-◌, ℕ, List, length, take, ap, sym, ◌∙◌, subst, arith, rules}
use Rattle.std.specs.Prelude.{get_or, vec_capacity}
use Rattle.rb_world.specs.World.{without_last}
use Rattle.rb_cache.specs.Copies.{accepted}
use Rattle.rb_recoverable.specs.Contents.{Contents}
use Rattle.rb_recoverable.specs.Inside.{IsTied, contents}
use Rattle.rb_recoverable.specs.declared.recoverable.LevelMark.{LevelMark}
use Rattle.rb_recoverable.proofs.Tied.{marks_levels, marks_open, seen_accept, tied_accept}
use Rattle.rb_recoverable.proofs.recoverable.Recoverable.accept.Goals as goal

pub invariant_of-self : goal.invariant_of-self
invariant_of-self g c =
    let i = c.self.inside in
    let t = c.self.invariant in
    let marks = i.marks.items in
    let top = c.index-mark.result.now in
    let levels = marks_levels _ _ _ _ _ _ _ _ _ t in
    let same = ap (λ (r : Contents). length r.levels) c.self.view_is in
    let n : c.len-last.result ≡ length marks = search rules in
    let top_is : get_or marks (length marks - 1) top ≡ top = sym (c.index-mark.ensures ∙ ap (λ k. get_or marks (k - 1) top) n) in
    let items : c.truncate.new.self.items ≡ take (length marks - 1) marks = c.truncate.ensures.items ∙ ap (λ k. take (k - 1) marks) n in
    subst (λ (ms : List LevelMark). IsTied i.clock top.around i.cells c.accept.new.self i.calls.items (vec_capacity i.calls) ms
    (vec_capacity c.truncate.new.self) i.hold)
    (sym items)
    (subst (λ (room : ℕ). IsTied i.clock top.around i.cells c.accept.new.self i.calls.items (vec_capacity i.calls)
    (take (length marks - 1) marks) room i.hold)
    (sym c.truncate.ensures.capacity)
    (tied_accept _ _ _ _ _ _ _ _ _ t c.accept.new.self c.accept.ensures.copies c.accept.ensures.levels
    (omega arith) top top_is c.accept.ensures.fits c.accept.ensures.limits))

pub returns : goal.returns
returns g c =
    let i = c.self.inside in
    let t = c.self.invariant in
    let marks = i.marks.items in
    let levels = marks_levels _ _ _ _ _ _ _ _ _ t in
    let same = ap (λ (r : Contents). length r.levels) c.self.view_is in
    let n : c.len-last.result ≡ length marks = search rules in
    let items : c.truncate.new.self.items ≡ take (length marks - 1) marks = c.truncate.ensures.items ∙ ap (λ k. take (k - 1) marks) n in
    ap (λ (ms : List LevelMark). contents i.clock i.cells.words c.accept.new.self i.calls.items ms i.hold) items
    ∙ seen_accept _ _ _ _ _ _ _ _ _ t c.accept.new.self c.accept.ensures.copies c.accept.ensures.levels (omega arith)
    ∙ ap (λ (r : Contents). record r { touched = accepted r.touched; levels = without_last r.levels }) c.self.view_is

pub accept-requires-clause-some : goal.accept-requires-clause-some
accept-requires-clause-some g c =
    let t = c.self.invariant in
    let opened = marks_open _ _ _ _ _ _ _ _ _ t in
    let levels = marks_levels _ _ _ _ _ _ _ _ _ t in
    let same = ap (λ (r : Contents). length r.levels) c.self.view_is in
    omega (arith, c.requires)
