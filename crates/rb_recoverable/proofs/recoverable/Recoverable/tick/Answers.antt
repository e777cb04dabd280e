use Rattle.std.proofs.Common.{◌≡◌, ◌-◌, ◌<◌, ◌^◌, List, length, map, ap, sym, ◌∙◌, subst, arith}
use Rattle.std.specs.Prelude.{vec_capacity}
use Rattle.std.specs.List.{AllByRecursion}
use Rattle.std.proofs.lemmas.List.{length-map, with_items_is}
use Rattle.rb_world.specs.Standing.{Each}
use Rattle.rb_world.specs.Turn.{one_used}
use Rattle.rb_world.specs.World.{Level}
use Rattle.rb_code.specs.WordMachine.Turn.{Copy}
use Rattle.rb_recoverable.specs.Contents.{Contents}
use Rattle.rb_recoverable.specs.Inside.{IsTied, contents}
use Rattle.rb_recoverable.specs.Marks.{earlier}
use Rattle.rb_recoverable.specs.declared.recoverable.LevelMark.{LevelMark}
use Rattle.rb_recoverable.proofs.Looked.{IsLater, later_seen, seen_earlier, seen_tick, tied_earlier, tied_tick}
use Rattle.rb_recoverable.proofs.recoverable.Recoverable.tick.Goals as goal

pub invariant_of-self : goal.invariant_of-self
invariant_of-self g c = tied_tick _ _ _ _ _ _ _ _ _ c.self.invariant

pub returns-then-self-lt4294967295 : goal.returns-then-self-lt4294967295
returns-then-self-lt4294967295 g c =
    seen_tick _ _ _ _ _ _ _ _ _ c.self.invariant ∙ ap (λ (r : Contents). record r { levels = map one_used r.levels }) c.self.view_is

pub invariant_of-self-else-self-lt4294967295 : goal.invariant_of-self-else-self-lt4294967295
invariant_of-self-else-self-lt4294967295 g c =
    let i = c.self.inside in
    let begun = c.begin_earlier.ensures ∙ ap (map earlier) c.deref_mut.ensures.value in
    let long = ap length begun ∙ length-map i.marks.items earlier in
    let items = with_items_is i.marks c.begin_earlier.new.marks (omega arith) ∙ begun in
    subst (λ (marks : List LevelMark). IsTied i.clock 0 i.cells i.cache i.calls.items (vec_capacity i.calls) marks (vec_capacity i.marks) i.hold) (sym items)
    (tied_earlier _ _ _ _ _ _ _ _ _ c.self.invariant (vec_capacity i.marks) (omega arith))

pub returns-else-self-lt4294967295 : goal.returns-else-self-lt4294967295
returns-else-self-lt4294967295 g c =
    let i = c.self.inside in
    let begun = c.begin_earlier.ensures ∙ ap (map earlier) c.deref_mut.ensures.value in
    let long = ap length begun ∙ length-map i.marks.items earlier in
    let items = with_items_is i.marks c.begin_earlier.new.marks (omega arith) ∙ begun in
    let few = subst (λ (r : Contents). Each (λ _ (level : Level Copy). level.used < 2 ^ 32 - 1) r.levels) (sym c.self.view_is) c.requires in
    let end : 2 ^ 32 - 1 ≡ i.clock = omega arith in
    let later : AllByRecursion IsLater i.marks.items =
    later_seen _ _ _ _ _ _ _ _ _ c.self.invariant
    (subst (λ n. Each (λ _ (level : Level Copy). level.used < n) (contents i.clock i.cells.words i.cache i.calls.items i.marks.items i.hold).levels) end few) in
    ap (λ (marks : List LevelMark). contents i.clock i.cells.words i.cache i.calls.items marks i.hold) items
    ∙ seen_earlier _ _ _ _ _ _ _ _ _ c.self.invariant later
    ∙ ap (λ (r : Contents). record r { levels = map one_used r.levels }) c.self.view_is
