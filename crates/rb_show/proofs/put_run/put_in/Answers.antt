use Rattle.std.proofs.Common.{◌≡◌, None}
use Rattle.rb_show.proofs.put_run.put_in.Goals as goal

pub returns-in-Some : goal.returns-in-Some
returns-in-Some g c = rw c.in-Some.is c.put_page.ensures

pub returns-in-None : goal.returns-in-None
returns-in-None g c = let none : c.args.page ≡ None = c.in-None.is in rw none (rw c.as_slice.ensures.value at c.write_trace-written.ensures)
