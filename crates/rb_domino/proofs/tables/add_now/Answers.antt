use Rattle.std.proofs.Common.{◌≡◌, ◌<◌, ◌++◌, ◌∷◌, [], List, length, slice_set, ap, sym, ◌∙◌, arith}
use Rattle.std.proofs.lemmas.Grind.{common_steps}
use Rattle.rb_domino.specs.declared.state.State.{State}
use Rattle.rb_domino.specs.declared.analysis.TheConstants.{NOW}
use Rattle.rb_domino.specs.Board.{list_at, stack, stacks}
use Rattle.rb_domino.proofs.Stacks.{stack_pushed, stack_read, stacks_set}
use Rattle.rb_domino.proofs.States.{topped_more}
use Rattle.rb_domino.proofs.tables.add_now.Goals as goal

pub loop-p-preserved : goal.loop-p-preserved
loop-p-preserved g c =
    let states = c.loop-p.states.items in
    let p = c.loop-p.p in
    let within : p < length states = grind (arith, common_steps) in
    let read : list_at (stacks states) p ≡ stack c.index_mut.result.now.items =
    stack_read states p c.index_mut.result.now within c.index_mut.ensures.value in
    let now : State = record { number = NOW; place = c.args.end } in
    let items : c.push.new.self.items ≡ c.index_mut.result.now.items ++ now ∷ [] = grind (arith, common_steps) in
    let pushed : stack c.push.new.self.items ≡ now ∷ list_at (stacks states) p =
    ap stack items ∙ stack_pushed c.index_mut.result.now.items now ∙ ap (λ (own : List State). now ∷ own) (sym read) in
    let new : stacks (slice_set states p c.push.new.self) ≡ slice_set (stacks states) p (now ∷ list_at (stacks states) p) =
    stacks_set states p c.push.new.self ∙ ap (slice_set (stacks states) p) pushed in
    let low : p < length (stacks states) = grind (arith, common_steps) in
    record {
      counted = grind (arith, common_steps);
      top = topped_more c.args.end p _ (stacks states) _ low new c.loop-p.invariant.top;
      work = omega (arith, c.tick.ensures, c.loop-p.invariant.work);
    }
