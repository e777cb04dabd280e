use Rattle.rb_code.specs.Instructions.Plain.{code}
use Rattle.rb_conv.specs.Conversations.{memberships, opening}
use Rattle.rb_recovery.specs.Worlds.{counts_of}
use Rattle.rb_picture.specs.Trace.{trace_text}
use Rattle.rb_show.proofs.Putting.{put_filled}
use Rattle.rb_show.proofs.put_run.put_page.Goals as goal

pub returns-in-Ok : goal.returns-in-Ok
returns-in-Ok g c =
    let prepared = c.args.traced.now.prepared in
    let trace =
    trace_text (code prepared.code) (memberships (opening prepared.nested)) (counts_of (opening prepared.nested)) c.args.traced.now.places.items
    c.args.schedule.all in
    put_filled c.args.page.now c.args.source.now c.args.text.now trace _ _ _ _ c.cut-page.ensures.source c.cut-page.ensures.schedule
    c.cut-page.ensures.trace c.cut-page.ensures.rest _ _ _ _ _ _ c.in-Ok.field-0 c.put_behind-ended.result c.in-Ok.ensures
    (c.put_behind-ended.ensures _ _ _ c.put_escaped_trace-out.ensures)
