use Rattle.std.proofs.Common.{◌≡◌, ◌<◌, ◌^◌, ◌∷◌, List, length, slice_set, ap, sym, ◌∙◌, subst, arith}
use Rattle.std.proofs.lemmas.Result.{IfOk-weaker}
use Rattle.rb_domino.specs.declared.state.State.{State}
use Rattle.rb_domino.specs.Board.{list_at, stack, stacks}
use Rattle.rb_domino.proofs.Stacks.{stack_read, stacks_set}
use Rattle.rb_domino.proofs.tables.add_to.Goals as goal

pub add_point-requires : goal.add_point-requires
add_point-requires c =
    let states = c.args.states.now.items in
    let within : c.args.process < length states = omega (arith, c.requires.known, c.args.states.now.ok.0) in
    subst (λ (own : List State). length own < 2 ^ 32)
    (stack_read states c.args.process c.index_mut.result.now within c.index_mut.ensures.value) c.requires.short

pub returns : goal.returns
returns c =
    let states = c.args.states.now.items in
    let q = c.args.process in
    let within : q < length states = omega (arith, c.requires.known, c.args.states.now.ok.0) in
    let read : list_at (stacks states) q ≡ stack c.index_mut.result.now.items =
    stack_read states q c.index_mut.result.now within c.index_mut.ensures.value in
    let own = stack c.index_mut.result.now.items in
    IfOk-weaker c.add_point.result
    (λ _. stack c.add_point.new.states.items ≡ record { number = length own; place = c.args.at } ∷ own) _
    (λ _ added. stacks_set states q c.add_point.new.states
    ∙ ap (slice_set (stacks states) q)
    (added ∙ ap (λ (points : List State). record { number = length points; place = c.args.at } ∷ points) (sym read))) c.add_point.ensures
