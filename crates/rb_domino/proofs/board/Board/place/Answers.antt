use Rattle.std.proofs.Common.{◌<◌, List, length, ap, sym, ◌∙◌, arith}
use Rattle.rb_domino.specs.declared.state.State.{State}
use Rattle.rb_domino.specs.Recovery.{latest}
use Rattle.rb_domino.specs.Board.{stack}
use Rattle.rb_domino.proofs.Stacks.{stack_read}
use Rattle.rb_domino.proofs.board.Board.place.Goals as goal

pub returns : goal.returns
returns c =
    let states = c.args.self.now.states in
    let within : c.args.process < length states.items = omega (arith, c.requires, states.ok.0) in
    ap (λ (state : State). state.place) c.latest.ensures
    ∙ ap (λ (own : List State). (latest own).place)
    (ap stack c.as_slice.ensures.value ∙ sym (stack_read states.items c.args.process c.index.result.now within c.index.ensures))
