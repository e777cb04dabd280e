use Rattle.std.proofs.Common.{sym, subst}
use Rattle.rb_faults.specs.Told.{AreTold}
use Rattle.rb_show.proofs.Faulting.{listed}
use Rattle.rb_show.proofs.faults.list_faults.Goals as goal

pub returns : goal.returns
returns c =
    let source = c.args.source.now in
    listed c.args.file.now source c.as_slice.result.now c.list_of.result
    (subst (AreTold source) (sym c.as_slice.ensures.value) c.in_ok-faults.ensures) c.list_of.ensures
