-- A turn is taken back.
use Rattle.std.proofs.Common.{◌-◌, ◌<◌, List, slice_range, vec_capacity, ap, sym, ◌∙◌, arith}
use Rattle.rb_back.specs.declared.view.Change.{Change}
use Rattle.rb_back.specs.Course.{Course}
use Rattle.rb_back.specs.Picture.{picture, undone_all}
use Rattle.rb_back.proofs.Kept.{kept_back, named_few}
use Rattle.rb_back.proofs.Noted.{there_is}
use Rattle.rb_back.proofs.session.Session.back.Goals as goal

pub noted-requires-clause-ordered : goal.noted-requires-clause-ordered
noted-requires-clause-ordered g c =
    let inside = c.self.inside in
    let turn = c.index-turn.result.now in
    let there = there_is inside.turns.items (inside.position - 1) turn
    (omega (arith, c.requires, ap (λ (one : Course). one.position) c.self.view_is, c.self.invariant.0.within)) c.index-turn.ensures in
    (c.self.invariant.0.noted (inside.position - 1) turn there).ordered

pub noted-requires-clause-within : goal.noted-requires-clause-within
noted-requires-clause-within g c =
    let inside = c.self.inside in
    let turn = c.index-turn.result.now in
    let there = there_is inside.turns.items (inside.position - 1) turn
    (omega (arith, c.requires, ap (λ (one : Course). one.position) c.self.view_is, c.self.invariant.0.within)) c.index-turn.ensures in
    let within = (c.self.invariant.0.noted (inside.position - 1) turn there).within in
    omega (arith, within, c.deref.ensures.len)

pub invariant_of-self : goal.invariant_of-self
invariant_of-self g c =
    let inside = c.self.inside in
    let turn = c.index-turn.result.now in
    let some : 0 < inside.position = omega (arith, c.requires, ap (λ (one : Course). one.position) c.self.view_is) in
    let there = there_is inside.turns.items (inside.position - 1) turn (omega (arith, some, c.self.invariant.0.within)) c.index-turn.ensures in (
      kept_back inside.machine (picture inside.view) inside.turns.items (vec_capacity inside.turns) inside.changes.items inside.most_changed
          inside.position c.self.invariant.0 turn (picture c.undo_all.new.view) (inside.position - 1) (omega (arith, some)) there
          (c.undo_all.ensures.view
          ∙ ap (λ (changes : List Change). undone_all changes (picture inside.view))
          (c.noted.ensures ∙ ap (λ (changes : List Change). slice_range changes turn.from turn.to) c.deref.ensures.value)),
      c.self.invariant.1,
    )

pub returns-clause-work : goal.returns-clause-work
returns-clause-work g c =
    let inside = c.self.inside in
    let turn = c.index-turn.result.now in
    let same = ap (λ (one : Course). one.position) c.self.view_is in
    let there = there_is inside.turns.items (inside.position - 1) turn (omega (arith, c.requires, same, c.self.invariant.0.within)) c.index-turn.ensures in
    let few = named_few inside.machine (picture inside.view) inside.turns.items (vec_capacity inside.turns) inside.changes.items c.noted.result.now
    inside.most_changed inside.position c.args.self.now (inside.position - 1) (c.args.self.now.position - 1) turn c.self.invariant.0 c.self.view_is
    (ap (λ n. n - 1) (sym same)) there
    (c.noted.ensures ∙ ap (λ (changes : List Change). slice_range changes turn.from turn.to) c.deref.ensures.value) in
    omega (arith, few, c.undo_all.ensures.work)
