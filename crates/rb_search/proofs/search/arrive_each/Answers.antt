use Rattle.std.proofs.Common.{◌∙◌, length, arith}
use Rattle.rb_flow.specs.Held.{entry_of}
use Rattle.rb_search.specs.Found.{found, pending}
use Rattle.rb_flow.proofs.Growing.{grown_entry}
use Rattle.rb_search.proofs.Finding.{if_unsound}
use Rattle.rb_search.proofs.Alternates.{grown_on, last_gained, next_first, next_more, next_rest}
use Rattle.rb_search.proofs.search.arrive_each.Goals as goal

pub returns-in-Err-clause-unsound : goal.returns-in-Err-clause-unsound
returns-in-Err-clause-unsound c =
    let inv = c.loop-b.invariant
    in let lists = c.args.lists.now
    in let n = length c.args.cells.now
    in let now = c.loop-b.lists
    in let cells = c.loop-b.cells
    in if_unsound c.in-Err.refused
    (λ none. inv.none (next_first (entry_of lists c.args.x)
    (entry_of now c.args.x) (grown_entry lists now c.args.x inv.grown c.requires.x) c.args.list.now c.loop-b.b-index (omega arith)
    (length cells) n inv.size (found now cells) none))
    c.in-Err.ensures.unsound

pub loop-b-preserved : goal.loop-b-preserved
loop-b-preserved c =
    let inv = c.loop-b.invariant
    in let lists = c.args.lists.now
    in let n = length c.args.cells.now
    in let now = c.loop-b.lists
    in let cells = c.loop-b.cells
    in let after = c.arrive.new.lists
    in let others = c.arrive.new.cells
    in record {
      well = c.in-Ok.ensures.well;
      size = c.in-Ok.ensures.size ∙ inv.size;
      grown = grown_on lists now after inv.grown c.in-Ok.ensures.grown;
      left = let before = inv.left in let now = c.in-Ok.ensures.left in omega arith;
      completes = λ g q k. inv.completes g q (next_more (entry_of lists c.args.x) (entry_of now c.args.x)
          (grown_entry lists now c.args.x inv.grown c.requires.x) c.args.list.now c.loop-b.b-index (omega arith)
          (found now cells) (found after others) (pending cells) (pending others) c.in-Ok.ensures.gains g q k);
      none = λ k. inv.none (next_rest (entry_of lists c.args.x) (entry_of now c.args.x)
          (grown_entry lists now c.args.x inv.grown c.requires.x) c.args.list.now c.loop-b.b-index (omega arith)
          (found now cells) (found after others) (pending cells) (pending others) c.in-Ok.ensures.gains n k);
    }

pub returns-clause-gains : goal.returns-clause-gains
returns-clause-gains c =
    let inv = c.loop-b.invariant
    in let lists = c.args.lists.now
    in let now = c.loop-b.lists
    in let f = found now c.loop-b.cells
    in let p = pending c.loop-b.cells
    in inv.completes f p (last_gained (entry_of lists c.args.x)
    (entry_of now c.args.x) (grown_entry lists now c.args.x inv.grown c.requires.x) c.args.list.now c.loop-b.b-index (omega arith) f p)
