use Rattle.std.proofs.Common.{◌≡◌, []}
use Rattle.rb_hall.proofs.Driving.{Reading}
use Rattle.rb_hall.proofs.driver.gather.Given as goal

abbrev pub invariant-loop-slot : goal.invariant-loop-slot
invariant-loop-slot g l = record {
  files : g.F.Shelf.files l.shelf ≡ g.F.Shelf.files l.initial.shelf;
  still : g.C.Command.wanted l.command ≡ [] → l.shelf ≡ l.initial.shelf;
  quiet : (g.F.Shelf.faults l.shelf).count ≡ (g.F.Shelf.faults l.initial.shelf).count;
  count : l.number ≡ l.slot-index;
  reading : Reading (g.F.Shelf.files l.initial.shelf) (g.C.Command.judges l.command) (g.C.Command.wanted l.command) (g.C.Command.holds l.command)
      (g.F.Shelf.starts l.initial.shelf) (g.F.Shelf.starts l.shelf) l.number l.held l.last;
}
