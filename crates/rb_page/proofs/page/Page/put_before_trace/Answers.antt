use Rattle.std.proofs.Common.{◌++◌}
use Rattle.rb_outside.proofs.Puts.{puts_both, puts_stopped_at}
use Rattle.rb_page.specs.Escape.{escaped}
use Rattle.rb_page.proofs.page.Page.put_before_trace.Goals as goal

pub returns : goal.returns
returns g c =
    let page = c.args.self in
    puts_both (page.source.now ++ escaped c.args.source.now) ((page.schedule.now ++ escaped c.args.schedule.now) ++ page.trace.now) _ _ _ _ _ _ _ _
    c.in_ok-put_with.ensures c.put_between.ensures

pub returns-in_err-put_with : goal.returns-in_err-put_with
returns-in_err-put_with g c =
    let page = c.args.self in
    puts_stopped_at (page.source.now ++ escaped c.args.source.now) ((page.schedule.now ++ escaped c.args.schedule.now) ++ page.trace.now) _ _ _ _ _
    c.from_residual.result c.from_residual.ensures.0 c.in_err-put_with.ensures
