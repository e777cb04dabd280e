-- A turn that was taken before is made again.
use Rattle.std.proofs.Common.{List, slice_range, vec_capacity, ap, sym, ◌∙◌, arith}
use Rattle.rb_back.specs.declared.view.Change.{Change}
use Rattle.rb_back.specs.Course.{Course}
use Rattle.rb_back.specs.Picture.{picture, redone_all}
use Rattle.rb_back.proofs.Kept.{found, kept_forth, named_few}
use Rattle.rb_back.proofs.session.Session.step.Goals as goal

pub noted-requires-clause-ordered : goal.noted-requires-clause-ordered
noted-requires-clause-ordered g c =
    let inside = c.self.inside in
    let there = found inside.turns.items c.deref.result.now inside.position c.in-Some.turn.now c.deref.ensures.value c.in-Some.ensures.lookup.0
    c.in-Some.ensures.lookup.1 in
    (c.self.invariant.0.noted inside.position c.in-Some.turn.now there).ordered

pub noted-requires-clause-within : goal.noted-requires-clause-within
noted-requires-clause-within g c =
    let inside = c.self.inside in
    let there = found inside.turns.items c.deref.result.now inside.position c.in-Some.turn.now c.deref.ensures.value c.in-Some.ensures.lookup.0
    c.in-Some.ensures.lookup.1 in
    let within = (c.self.invariant.0.noted inside.position c.in-Some.turn.now there).within in
    omega (arith, within, c.deref-in-Some.ensures.len)

pub invariant_of-self : goal.invariant_of-self
invariant_of-self g c =
    let inside = c.self.inside in
    let there = found inside.turns.items c.deref.result.now inside.position c.in-Some.turn.now c.deref.ensures.value c.in-Some.ensures.lookup.0
    c.in-Some.ensures.lookup.1 in
    let turn = c.in-Some.turn.now in (
      kept_forth inside.machine (picture inside.view) inside.turns.items (vec_capacity inside.turns) inside.changes.items inside.most_changed
          inside.position c.self.invariant.0 turn (picture c.redo_all.new.view) there
          (c.redo_all.ensures.view
          ∙ ap (λ (changes : List Change). redone_all changes (picture inside.view))
          (c.noted.ensures ∙ ap (λ (changes : List Change). slice_range changes turn.from turn.to) c.deref-in-Some.ensures.value)),
      c.self.invariant.1,
    )

pub returns-in-Some-clause-work : goal.returns-in-Some-clause-work
returns-in-Some-clause-work g c behind =
    let inside = c.self.inside in
    let there = found inside.turns.items c.deref.result.now inside.position c.in-Some.turn.now c.deref.ensures.value c.in-Some.ensures.lookup.0
    c.in-Some.ensures.lookup.1 in
    let turn = c.in-Some.turn.now in
    let few = named_few inside.machine (picture inside.view) inside.turns.items (vec_capacity inside.turns) inside.changes.items c.noted.result.now
    inside.most_changed inside.position c.args.self.now inside.position c.args.self.now.position turn c.self.invariant.0 c.self.view_is
    (sym (ap (λ (one : Course). one.position) c.self.view_is)) there
    (c.noted.ensures ∙ ap (λ (changes : List Change). slice_range changes turn.from turn.to) c.deref-in-Some.ensures.value) in
    omega (arith, few, c.redo_all.ensures.work)
