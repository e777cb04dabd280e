use Rattle.std.proofs.Common.{List, sym, ap, subst, arith}
use Rattle.rb_code.specs.Instructions.Plain.{code as plain}
use Rattle.rb_conv.specs.Conversations.{memberships, opening}
use Rattle.rb_search.specs.Search.{IsFollowing}
use Rattle.rb_search.specs.Found.{found, pending, IsWell}
use Rattle.rb_entries.specs.declared.cell.Cell.{Cell}
use Rattle.rb_search.proofs.Finding.{clear_following, clear_well, taking}
use Rattle.rb_search.specs.Weight.{left}
use Rattle.rb_search.proofs.Lightening.{clear_left}
use Rattle.rb_search.proofs.search.follow.Goals as goal

pub follow_from-requires-clause-following : goal.follow_from-requires-clause-following
follow_from-requires-clause-following c =
    let code = plain c.args.code.now
    in let groups = memberships (opening c.args.nested.now)
    in let lists = c.args.lists.now
    in subst (λ (cells : List Cell). IsFollowing code groups (found lists cells) (pending cells) c.in-Some.at) (sym c.in-Some-take.ensures.cells)
    (clear_following lists c.args.cells.now c.in-Some.at c.in-Some-take.held c.in-Some-take.ensures.at c.in-Some-take.ensures.held
    code groups c.requires.searching)

pub follow_from-requires-clause-well : goal.follow_from-requires-clause-well
follow_from-requires-clause-well c =
    let lists = c.args.lists.now
    in let cells = c.args.cells.now
    in subst (λ (after : List Cell). IsWell lists after c.pop.new.self) (sym c.in-Some-take.ensures.cells)
    (clear_well lists cells c.in-Some.at c.in-Some-take.held c.in-Some-take.ensures.at c.in-Some-take.ensures.held c.pop.new.self
    (taking lists cells c.args.work.now c.pop.new.self c.in-Some.at c.requires.well c.in-Some.ensures))

pub returns-in-Ok-clause-left : goal.returns-in-Ok-clause-left
returns-in-Ok-clause-left c = λ more.
    let lists = c.args.lists.now
    in let cells = c.args.cells.now
    in let at = c.in-Some.at
    in let held = c.in-Some-take.held
    in let one = clear_left lists cells at held c.args.work.now c.pop.new.self c.in-Some-take.ensures.at c.in-Some-take.ensures.held c.in-Some.ensures
    in let taken = ap (λ (after : List Cell). left lists after c.pop.new.self) c.in-Some-take.ensures.cells
    in let less = c.in-Ok.ensures.left
    in omega arith
