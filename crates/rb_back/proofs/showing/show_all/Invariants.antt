use Rattle.std.proofs.Common.{◌≡◌, ◌≤◌, length, vec_len}
use Rattle.rb_trace.proofs.Written.{Written}
use Rattle.rb_script.specs.Script.{CanFollow}
use Rattle.rb_script.specs.Shown.{all_shown, session_text, word_shown}
use Rattle.rb_back.specs.Showing.{GoesOver}
use Rattle.rb_back.proofs.showing.show_all.Given as goal

-- the orders that are left can be followed, and their texts are left to write
abbrev pub invariant-orders : goal.invariant-orders
invariant-orders g l =
    let s = l.fn.session in
    let all = l.fn.schedule.all in
    record {
      code : l.session.code ≡ s.code;
      groups : l.session.groups ≡ s.groups;
      schedule_is : l.schedule.all ≡ all;
      goes : GoesOver l.session l.schedule;
      within : l.position ≤ length all;
      follows : CanFollow (vec_len l.names.processes) (length all) l.position l.script;
      written : Written (session_text s.code s.groups all l.fn.script) (all_shown (word_shown s.code s.groups all) l.position l.script)
          (g.S.Sink.written l.fn.out) (g.S.Sink.written l.out) (g.S.Sink.faults l.fn.out) (g.S.Sink.faults l.out);
    }

abbrev pub decreases-orders : goal.decreases-orders
decreases-orders g l = length l.script
