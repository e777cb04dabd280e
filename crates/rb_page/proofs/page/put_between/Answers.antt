use Rattle.std.proofs.Common.{◌++◌}
use Rattle.rb_outside.proofs.Puts.{puts_both, puts_stopped_at}
use Rattle.rb_page.specs.Escape.{escaped}
use Rattle.rb_page.proofs.page.put_between.Goals as goal

pub returns : goal.returns
returns g c = puts_both (c.args.part.now ++ escaped c.args.text.now) c.args.next.now _ _ _ _ _ _ _ _ c.in_ok-put_with.ensures c.put_all.ensures

pub returns-in_err-put_with : goal.returns-in_err-put_with
returns-in_err-put_with g c =
    puts_stopped_at (c.args.part.now ++ escaped c.args.text.now)
    c.args.next.now _ _ _ _ _ c.from_residual.result c.from_residual.ensures.0 c.in_err-put_with.ensures
