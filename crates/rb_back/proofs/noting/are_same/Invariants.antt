use Rattle.std.proofs.Common.{◌≡◌, true}
use Rattle.rb_base.specs.Lines.{belonging}
use Rattle.rb_back.specs.Noting.{AreSameWithin}
use Rattle.rb_back.specs.Picture.{picture}
use Rattle.rb_back.proofs.noting.are_same.Given as goal

abbrev pub invariant-loop-at : goal.invariant-loop-at
invariant-loop-at g l =
    l.same ≡ true
    → AreSameWithin l.from l.at (belonging (picture l.view).words l.process) (belonging (g.M.Final.words l.machine) l.process)
