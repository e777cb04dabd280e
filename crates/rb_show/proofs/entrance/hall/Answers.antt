use Rattle.rb_show.proofs.Wishes.{wished_without_memory}
use Rattle.rb_asking.specs.Views.{view_of}
use Rattle.rb_show.specs.Entrance.{view_wrong}
use Rattle.rb_show.proofs.entrance.hall.Goals as goal

pub returns-in_default-clause-ends : goal.returns-in_default-clause-ends
returns-in_default-clause-ends g c =
    wished_without_memory (view_of c.args.words.now) (view_wrong c.args.words.now (view_of c.args.words.now))
    (g.F.Shelf.files c.args.shelf.now) (g.F.Shelf.starts c.args.shelf.now)
    (g.F.Shelf.faults c.args.shelf.now) (g.S.Sink.faults c.args.out) (g.S.Sink.written c.args.out) _ _
