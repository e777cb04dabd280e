use Rattle.rb_code.specs.Instructions.Plain.{code as plain}
use Rattle.rb_conv.specs.Conversations.{memberships, opening}
use Rattle.rb_search.specs.Found.{found}
use Rattle.rb_search.proofs.LoopsStay.{both_stay, of_counter}
use Rattle.rb_search.proofs.staying.loops_stay_open.Goals as goal

pub returns-then-not-stay_open-clause-leave : goal.returns-then-not-stay_open-clause-leave
returns-then-not-stay_open-clause-leave c = λ e stay.
    c.stay_open.ensures.leave c.if-not-stay_open.true
    (of_counter (plain c.args.code.now) (found c.args.lists.now c.args.cells.now) 0 stay)

pub returns-clause-stay : goal.returns-clause-stay
returns-clause-stay c = λ e.
    both_stay (plain c.args.code.now) (memberships (opening c.args.nested.now)) (found c.args.lists.now c.args.cells.now) c.requires.has
    (c.stay_open.ensures.stay c.if-not-stay_open.false) (c.stay_open-2.ensures.stay e)

pub returns-clause-leave : goal.returns-clause-leave
returns-clause-leave c = λ e stay.
    c.stay_open-2.ensures.leave e (of_counter (plain c.args.code.now) (found c.args.lists.now c.args.cells.now) 1 stay)
