use Rattle.rb_code.specs.Instructions.Plain.{code as plain}
use Rattle.rb_conv.specs.Conversations.{memberships, opening}
use Rattle.rb_search.specs.Found.{found as table, pending}
use Rattle.rb_search.proofs.Searching.{found}
use Rattle.rb_search.proofs.search.search.Goals as goal

pub returns-then-not-more-clause-found : goal.returns-then-not-more-clause-found
returns-then-not-more-clause-found c =
    let cells = c.follow.new.cells
    in found (plain c.args.code.now) (memberships (opening c.args.nested.now)) (table c.follow.new.lists cells) (pending cells)
    c.in-Ok.ensures.searching (c.in-Ok.ensures.done c.if-not-more.true)
