use Rattle.std.proofs.Common.{arith}
use Rattle.rb_code.specs.Instructions.Plain.{code as plain}
use Rattle.rb_conv.specs.Conversations.{memberships, opening}
use Rattle.rb_search.specs.Found.{found, pending}
use Rattle.rb_search.proofs.Finding.{goes_on, if_unsound, no_table}
use Rattle.rb_search.proofs.Lightening.{grown_left}
use Rattle.rb_search.proofs.search.follow_from.Goals as goal

pub returns-in-Err-carry-clause-unsound : goal.returns-in-Err-carry-clause-unsound
returns-in-Err-carry-clause-unsound c =
    if_unsound c.in-Err-carry.refused
    (no_table (plain c.args.code.now) (memberships (opening c.args.nested.now)) c.args.lists.now c.flow.new.lists c.args.cells.now
    c.args.work.now c.args.at c.args.held c.in-Ok.way c.requires.well c.requires.is c.requires.following c.in-Ok.ensures c.requires.size)
    c.in-Err-carry.ensures.unsound

pub returns-in-Ok-carry-clause-searching : goal.returns-in-Ok-carry-clause-searching
returns-in-Ok-carry-clause-searching c =
    goes_on (plain c.args.code.now) (memberships (opening c.args.nested.now)) c.args.lists.now c.flow.new.lists c.args.cells.now
    c.args.work.now c.args.at c.args.held c.in-Ok.way c.requires.well c.requires.is c.requires.following c.in-Ok.ensures
    (found c.carry.new.lists c.carry.new.cells) (pending c.carry.new.cells) c.in-Ok-carry.ensures.gains

pub returns-in-Ok-carry-clause-left : goal.returns-in-Ok-carry-clause-left
returns-in-Ok-carry-clause-left c =
    let same = grown_left c.args.lists.now c.flow.new.lists c.args.cells.now c.args.work.now c.requires.well c.in-Ok.ensures.grown
    in let less = c.in-Ok-carry.ensures.left
    in omega arith
