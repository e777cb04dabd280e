use Rattle.std.proofs.Common.{◌≤◌, length, arith}
use Rattle.std.proofs.lemmas.List.{length-map}
use Rattle.rb_code.specs.Instructions.Plain.{code as plain, part}
use Rattle.rb_conv.specs.Conversations.{memberships, opening}
use Rattle.rb_search.specs.Found.{found, pending}
use Rattle.rb_search.proofs.Beginning.{begun}
use Rattle.rb_search.proofs.search.begin.Goals as goal

pub returns-clause-searching : goal.returns-clause-searching
returns-clause-searching c =
    let few : length (plain c.args.code.now).processes ≤ c.loop-p.p = omega (arith, length-map c.args.code.now.processes.items part)
    in begun (plain c.args.code.now) (memberships (opening c.args.nested.now)) c.loop-p.p (found c.loop-p.lists c.loop-p.cells)
    (pending c.loop-p.cells) few c.loop-p.invariant.beginning
