use Rattle.rb_show.proofs.Putting.{put_both}
use Rattle.rb_show.proofs.put_run.put_behind.Goals as goal

pub returns : goal.returns
returns g c bytes start faults put =
    put_both bytes c.args.rest.now start _ _ faults _ _ c.in_ok-written.field-0 c.args.written c.put_all.result c.in_ok-written.was put c.put_all.ensures
