use Rattle.std.proofs.Common.{◌+◌, take, sym, ◌∙◌}
use Rattle.rb_code.specs.Instructions.Plain.{part}
use Rattle.rb_changes.specs.Noted.{noted_of}
use Rattle.rb_picture.specs.Trace.{process_before}
use Rattle.rb_view.proofs.Filling.{each_pushed, map-map, pushed_more}
use Rattle.rb_view.specs.Noting.{IsReady}
use Rattle.rb_view.proofs.was.opening_processes.Goals as goal

pub loop-process-preserved : goal.loop-process-preserved
loop-process-preserved c = record {
  noted = pushed_more noted_of (λ one. process_before (part one)) c.args.parts.now c.loop-process.process-index c.process-item.result _
      c.loop-process.processes.items c.push.new.self.items c.in_ok-opening_process.field-0 c.loop-process-test.true c.process-item.is
      c.in_ok-push.ensures.items c.in_ok-opening_process.ensures.noted
      (c.loop-process.invariant.noted ∙ map-map process_before part (take c.loop-process.process-index c.args.parts.now))
      ∙ sym (map-map process_before part (take (c.loop-process.process-index + 1) c.args.parts.now));
  ready = each_pushed IsReady c.loop-process.processes.items c.push.new.self.items c.in_ok-opening_process.field-0 c.in_ok-push.ensures.items
      c.loop-process.invariant.ready c.in_ok-opening_process.ensures.ready;
}
