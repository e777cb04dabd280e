use Rattle.rb_outside.proofs.Puts.{puts_both, puts_stopped_at}
use Rattle.rb_page.specs.Escape.{escaped}
use Rattle.rb_page.proofs.page.put_with.Goals as goal

pub returns : goal.returns
returns g c = puts_both c.args.part.now (escaped c.args.text.now) _ _ _ _ _ _ _ _ c.in_ok-put_all.ensures c.put_escaped.ensures

pub returns-in_err-put_all : goal.returns-in_err-put_all
returns-in_err-put_all g c =
    puts_stopped_at c.args.part.now
    (escaped c.args.text.now) _ _ _ _ _ c.from_residual.result c.from_residual.ensures.0 c.in_err-put_all.ensures
