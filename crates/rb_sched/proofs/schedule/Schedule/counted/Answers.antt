use Rattle.std.proofs.Common.{◌≡◌, ◌≤◌, length, ◌++◌, refl, sym, ap, subst, ◌∙◌}
use Rattle.std.specs.Result.{IsOk}
use Rattle.rb_base.specs.Naming.{process_names}
use Rattle.rb_base.specs.declared.limits.TheConstants.{MOST_TURNS}
use Rattle.rb_sched.specs.Schedule.{schedule_of}
use Rattle.rb_sched.specs.Walk.{turns_in}
use Rattle.rb_sched.proofs.Walk.{turns_known, turns_known_in}
use Rattle.rb_sched.proofs.schedule.Schedule.counted.Goals as goal

pub invariant_of-result : goal.invariant_of-result
invariant_of-result c =
    let read = c.requires in
    record {
      few_turns = subst (λ n. n ≤ MOST_TURNS) (sym read.2) (turns_known (process_names c.args.names.now) c.args.text.now read.0 read.1).1;
      counted = read.2 ∙ ap (λ answer. length (turns_in answer)) (sym read.1);
      sound = subst IsOk (sym read.1) refl;
    }

pub returns-clause-known : goal.returns-clause-known
returns-clause-known c =
    let read = c.requires in
    turns_known_in c.args.names.now c.args.text.now read.0 c.none.result c.none.ensures read.1

pub returns-clause-few : goal.returns-clause-few
returns-clause-few c =
    let read = c.requires in
    let all = ap (λ answer. turns_in answer) read.1 in
    subst (λ turns. length (turns ++ turns_in (schedule_of (process_names c.args.names.now) c.args.text.now)) ≤ MOST_TURNS) (sym c.none.ensures)
    (subst (λ turns. length turns ≤ MOST_TURNS) (sym all) (turns_known (process_names c.args.names.now) c.args.text.now read.0 read.1).1)
