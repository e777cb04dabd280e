use Rattle.std.proofs.Common.{ℕ, List, ◌∷◌, ap, sym, ◌∙◌, arith}
use Rattle.std.proofs.lemmas.List.{length-reverse}
use Rattle.rb_domino.specs.declared.state.State.{State}
use Rattle.rb_domino.specs.Board.{stack}
use Rattle.rb_domino.proofs.Stacks.{stack_pushed}
use Rattle.rb_domino.proofs.tables.add_point.Goals as goal

pub overflow_cast-number : goal.overflow_cast-number
overflow_cast-number c =
    let states = c.args.states.now in
    omega (arith, c.requires, length-reverse states.items, states.ok.0, c.len-number.ensures)

pub returns : goal.returns
returns c =
    let states = c.args.states.now in
    ap stack c.in_ok-push.ensures.items ∙ stack_pushed states.items _
    ∙ ap (λ (n : ℕ). record { number = n; place = c.args.place } ∷ stack states.items)
    (c.len-number.ensures ∙ states.ok.0 ∙ sym (length-reverse states.items))
