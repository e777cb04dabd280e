use Rattle.std.proofs.Common.{length}
use Rattle.rb_flow.specs.Held.{entry_of}
use Rattle.rb_search.specs.Found.{found, pending}
use Rattle.rb_flow.proofs.Growing.{grown_entry}
use Rattle.rb_search.proofs.Finding.{both_gain, both_none, if_unsound}
use Rattle.rb_search.proofs.search.arrive_both.Goals as goal

pub returns-in-Err-arrive-clause-unsound : goal.returns-in-Err-arrive-clause-unsound
returns-in-Err-arrive-clause-unsound c =
    let lists = c.args.lists.now
    in let cells = c.args.cells.now
    in let after = c.arrive.new.lists
    in let others = c.arrive.new.cells
    in if_unsound c.in-Err-arrive.refused
    (both_none (length others) (length cells) (found lists cells) (found after others) (pending cells) (pending others) c.args.b c.args.d
    (entry_of lists c.args.x) (entry_of lists c.args.y) (entry_of after c.args.y) c.in-Ok.ensures.gains
    (grown_entry lists after c.args.y c.in-Ok.ensures.grown c.requires.y) c.in-Ok.ensures.size)
    c.in-Err-arrive.ensures.unsound

pub returns-in-Ok-arrive-clause-gains : goal.returns-in-Ok-arrive-clause-gains
returns-in-Ok-arrive-clause-gains c =
    let lists = c.args.lists.now
    in let cells = c.args.cells.now
    in let after = c.arrive.new.lists
    in let others = c.arrive.new.cells
    in both_gain (found lists cells) (found after others) (found c.arrive-in-Ok.new.lists c.arrive-in-Ok.new.cells)
    (pending cells) (pending others) (pending c.arrive-in-Ok.new.cells) c.args.b c.args.d
    (entry_of lists c.args.x) (entry_of lists c.args.y) (entry_of after c.args.y) c.in-Ok.ensures.gains
    (grown_entry lists after c.args.y c.in-Ok.ensures.grown c.requires.y) c.in-Ok-arrive.ensures.gains
