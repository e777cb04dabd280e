use Rattle.std.proofs.Common.{◌≡◌, ◌<◌, ◌≤◌, ◌++◌, [], ◌∷◌, List, length, take, refl, ap, sym, ◌∙◌, subst, arith}
use Rattle.std.specs.Prelude.{vec_capacity}
use Rattle.rb_world.specs.World.{copy_of, last_of}
use Rattle.rb_code.specs.SoundCode.Safe.{HasCall, StayAbove}
use Rattle.rb_code.specs.SoundCode.Stays.{entry_calls}
use Rattle.rb_recoverable.specs.Contents.{Contents}
use Rattle.rb_recoverable.specs.declared.recoverable.OpenCall.{OpenCall as Held}
use Rattle.rb_recoverable.specs.Inside.{IsTied, call_of, calls_of, contents}
use Rattle.rb_recoverable.proofs.Returns.{seen_back, tied_back, turned}
use Rattle.rb_recoverable.proofs.recoverable.Recoverable.go_back.Goals as goal

abbrev Asked : Contents → Type 0
Asked r = HasCall r.calls (λ one. (one.base ≤ length r.words) × StayAbove r.touched one.base)
    × (entry_calls (copy_of (last_of r.levels)) < length r.calls)

pub invariant_of-self : goal.invariant_of-self
invariant_of-self g c =
    let i = c.self.inside in
    let split : i.calls.items ≡ c.pop.new.self.items ++ c.unwrap-last.result ∷ [] = rw c.unwrap-last.ensures at c.pop.ensures.items in
    let asked : Asked c.args.self.now = (c.requires.call, c.requires.levels) in
    let before =
    subst (λ (cs : List Held). Asked (contents i.clock i.cells.words i.cache cs i.marks.items i.hold)) split
    (subst Asked (sym c.self.view_is) asked) in
    let tied = subst
    (λ (cs : List Held). IsTied i.clock i.deadline i.cells i.cache cs (vec_capacity i.calls) i.marks.items
    (vec_capacity i.marks) i.hold) split c.self.invariant in
    let room = c.pop.ensures.capacity in
    tied_back _ _ _ _ _ _ _ _ _ _ tied before.0 before.1 c.drop_to.new.self c.drop_to.ensures (vec_capacity c.pop.new.self) (omega arith)

pub returns : goal.returns
returns g c =
    let i = c.self.inside in
    let split : i.calls.items ≡ c.pop.new.self.items ++ c.unwrap-last.result ∷ [] = rw c.unwrap-last.ensures at c.pop.ensures.items in
    let asked : Asked c.args.self.now = (c.requires.call, c.requires.levels) in
    let before =
    subst (λ (cs : List Held). Asked (contents i.clock i.cells.words i.cache cs i.marks.items i.hold)) split
    (subst Asked (sym c.self.view_is) asked) in
    let tied = subst
    (λ (cs : List Held). IsTied i.clock i.deadline i.cells i.cache cs (vec_capacity i.calls) i.marks.items
    (vec_capacity i.marks) i.hold) split c.self.invariant in
    let same = ap (λ (cs : List Held). contents i.clock i.cells.words i.cache cs i.marks.items i.hold) (sym split) ∙ c.self.view_is in (
      call_of c.unwrap-last.result,
      calls_of c.pop.new.self.items,
      sym (ap (λ (r : Contents). r.calls) same) ∙ turned _ _ _ _ _ _ _ _ _ _ tied,
      refl,
      seen_back _ _ _ _ _ _ _ _ _ _ tied before.0 before.1 c.drop_to.new.self c.drop_to.ensures
          ∙ ap (λ (r : Contents). record r { words = take c.unwrap-last.result.base r.words; calls = calls_of c.pop.new.self.items }) same,
    )
