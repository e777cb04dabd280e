use Rattle.rb_show.proofs.Held.{page_begins}
use Rattle.rb_show.proofs.page.PageCommand.begin.Goals as goal

pub returns : goal.returns
returns c = page_begins c.args.self.now.page.now c.args.self.now.source.now c.args.self.now.schedule.now
