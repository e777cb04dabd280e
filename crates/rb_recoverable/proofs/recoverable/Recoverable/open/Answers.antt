use Rattle.std.proofs.Common.{[], ◌∷◌, ◌++◌, List, length, ap, sym, ◌∙◌, subst, arith, rules}
use Rattle.std.specs.Prelude.{vec_capacity}
use Rattle.rb_cache.specs.Copies.{entered}
use Rattle.rb_recoverable.specs.Contents.{Contents, facts_of}
use Rattle.rb_recoverable.specs.Inside.{IsTied, contents}
use Rattle.rb_recoverable.specs.declared.recoverable.LevelMark.{LevelMark}
use Rattle.rb_recoverable.proofs.Tied.{marks_levels, marks_open, seen_open, tied_open}
use Rattle.rb_recoverable.proofs.recoverable.Recoverable.open.Goals as goal

pub open-requires-clause-room : goal.open-requires-clause-room
open-requires-clause-room g c =
    let t = c.self.invariant in
    let levels = marks_levels _ _ _ _ _ _ _ _ _ t in
    let long = marks_open _ _ _ _ _ _ _ _ _ t in
    let same = ap (λ (r : Contents). length r.levels) c.self.view_is in
    let limit = t.levels_limit in
    omega arith

pub put-requires : goal.put-requires
put-requires g c =
    let t = c.self.invariant in
    let levels = marks_levels _ _ _ _ _ _ _ _ _ t in
    let same = ap (λ (r : Contents). length r.levels) c.self.view_is in
    omega arith

pub invariant_of-self : goal.invariant_of-self
invariant_of-self g c =
    let t = c.self.invariant in
    let levels = marks_levels _ _ _ _ _ _ _ _ _ t in
    let same = ap (λ (r : Contents). length r.levels) c.self.view_is in
    subst (λ (ms : List LevelMark). IsTied c.self.inside.clock c.sooner-self-inside.result c.self.inside.cells c.open.new.self c.self.inside.calls.items
    (vec_capacity c.self.inside.calls) ms (vec_capacity c.put.new.items) c.self.inside.hold)
    (sym c.put.ensures.items)
    (tied_open _ _ _ _ _ _ _ _ _ t c.open.new.self _ c.open.ensures.copies c.open.ensures.levels (search rules) (search rules) _ _
    (search rules) (omega arith) (omega arith) (search rules) c.open.ensures.fits c.open.ensures.limits (omega arith) (omega arith))

pub returns : goal.returns
returns g c =
    let t = c.self.invariant in
    ap (λ (ms : List LevelMark). contents c.self.inside.clock c.self.inside.cells.words c.open.new.self c.self.inside.calls.items ms c.self.inside.hold) c.put.ensures.items
    ∙ seen_open _ _ _ _ _ _ _ _ _ t c.open.new.self _ c.open.ensures.copies c.open.ensures.levels (search rules) (search rules)
    ∙ ap (λ (r : Contents). record r {
      touched = r.touched ++ entered (length r.words) ∷ [];
      levels =
          r.levels
          ++ record {
            facts = facts_of c.args.facts;
            alternate = c.args.alternate;
            used = 0;
            copy =
                record { at = c.args.at; words = r.words; calls = r.calls; last_kept = c.args.last_kept };
          }
          ∷ [];
    }) c.self.view_is
