use Rattle.std.proofs.Common.{◌≡◌, ℕ, ◌≤◌, ◌<◌, [], List, Vec, Global, length, vec_len, get_or, replicate, refl, sym, ◌∙◌, subst, arith, ◌-◌, drop, length-take}
use Rattle.std.proofs.lemmas.List.{length-map}
use Rattle.std.proofs.lemmas.Grind.{common_steps}
use Rattle.rb_domino.specs.declared.line.Line.{Line}
use Rattle.rb_domino.specs.declared.line.Line.TheVariants.{Begin}
use Rattle.rb_domino.specs.declared.state.State.{State}
use Rattle.rb_domino.specs.Board.{PointsKnown, list_at, stack, stacks}
use Rattle.rb_domino.proofs.States.{Stacking, first_known, stacking_none, stacking_step, topped}
use Rattle.rb_domino.proofs.tables.all_states.Goals as goal

-- there are as many stacks as vectors
stacks_long : (vectors : Vec (Vec State Global) Global) (n : ℕ) → length (stacks vectors.items) ≡ n → vec_len vectors ≡ n
stacks_long vectors n long = vectors.ok.0 ∙ sym (length-map vectors.items (λ one. stack one.items)) ∙ long

pub loop-rest-init : goal.loop-rest-init
loop-rest-init g c =
    let story = c.args.history.now in
    let none : stacks c.in_ok-states.states.items ≡ replicate (length story.processes) [] = grind (arith, common_steps) in
    record {
      stacking = subst (λ (ls : List Line). Stacking story 0 ls (stacks c.in_ok-states.states.items)) (sym c.lines-rest.ensures.lines)
          (stacking_none story (stacks c.in_ok-states.states.items) none c.requires.lines c.lines-rest.ensures.whole.few_lines);
      work = grind (arith, common_steps);
    }

pub loop-rest-preserved : goal.loop-rest-preserved
loop-rest-preserved g c =
    let some : 0 < length c.loop-rest.rest.now = omega arith in
    record {
      stacking = stacking_step c.args.history.now c.loop-rest.at _ c.loop-rest.rest.now
          (stacks c.loop-rest.states.items) _ refl some c.loop-rest.invariant.stacking c.in_ok-note_line.ensures;
      work = grind (arith, common_steps);
    }

pub returns-clause-states : goal.returns-clause-states
returns-clause-states g c =
    let none : c.loop-rest.rest.now ≡ [] = grind (arith, common_steps) in
    let all : vec_len c.loop-rest.states ≡ length (stacks c.loop-rest.states.items) = stacks_long c.loop-rest.states _ refl in
    topped c.args.history.now c.loop-rest.at (vec_len c.loop-rest.states) c.loop-rest.rest.now
    (stacks c.loop-rest.states.items) _ c.loop-rest.invariant.stacking none all c.in_ok-add_now.ensures.topped

pub note_line-requires : goal.note_line-requires
note_line-requires g c =
    let some : 0 < length c.loop-rest.rest.now = omega arith in
    let counted : length c.args.history.now.processes ≡ vec_len c.loop-rest.states =
    sym (stacks_long c.loop-rest.states _ c.loop-rest.invariant.stacking.counted) in
    record {
      known = subst (λ (n : ℕ). PointsKnown n (get_or c.loop-rest.rest.now 0 (Begin 0))) counted
          (first_known c.args.history.now c.loop-rest.at c.loop-rest.rest.now (stacks c.loop-rest.states.items) some c.loop-rest.invariant.stacking);
      short = λ p. let up : length (list_at (stacks c.loop-rest.states.items) p) ≤ c.loop-rest.at = c.loop-rest.invariant.stacking.short p in
          let few = c.loop-rest.invariant.stacking.few in omega arith;
    }

pub returns-in_err-add_now-clause-work : goal.returns-in_err-add_now-clause-work
returns-in_err-add_now-clause-work g c =
    let counted : vec_len c.loop-rest.states ≡ length c.args.history.now.processes = stacks_long c.loop-rest.states _ c.loop-rest.invariant.stacking.counted in
    omega (arith, c.add_now.ensures.work, c.loop-rest.invariant.work, counted)

pub returns-clause-work : goal.returns-clause-work
returns-clause-work g c =
    let counted : vec_len c.loop-rest.states ≡ length c.args.history.now.processes = stacks_long c.loop-rest.states _ c.loop-rest.invariant.stacking.counted in
    omega (arith, c.add_now.ensures.work, c.loop-rest.invariant.work, counted)

pub bounds-rest-0 : goal.bounds-rest-0
bounds-rest-0 g c = c.in-len1-up.len_at_least

pub slice_bounds-after-start : goal.slice_bounds-after-start
slice_bounds-after-start g c = c.in-len1-up.len_at_least

pub slice_bounds-after-count : goal.slice_bounds-after-count
slice_bounds-after-count g c = c.in-len1-up.len_at_least

pub loop-rest-smaller : goal.loop-rest-smaller
loop-rest-smaller g c =
    let rest = c.loop-rest.rest.now in
    omega (arith, length-take (length rest - 1) (drop 1 rest), c.in-len1-up.len_at_least)
