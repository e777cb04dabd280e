-- What is refused of a text that `rblview` has read is short.
use Rattle.std.proofs.Common.{refl, arith}
use Rattle.rb_hall.specs.Answers.{Scene}
use Rattle.rb_hall.specs.declared.outcome.Outcome.{Outcome}
use Rattle.rb_commands.specs.declared.why.Why.{Why}
use Rattle.rb_verdict.specs.Judging.{TakesWhileWriting}
use Rattle.rb_verdict.specs.Words.{Check, check_of, page_of, trace_of, usage_of}
use Rattle.rb_tell.specs.Telling.{IsShortEnd}
use Rattle.rb_tell.proofs.Short.{short_end, small_end}
use Rattle.rb_show.specs.Explored.{JudgesExplored}
use Rattle.rb_show.specs.Faulted.{JudgesFaults}
use Rattle.rb_show.specs.Wished.{TaskEnds, explain_of, explains_of, task_of}
use Rattle.rb_show.specs.declared.request.Wish.{Wish}
use Rattle.rb_show.specs.declared.request.Wish.TheVariants as given

pub task_short : (wish : Wish) (old new : Scene) (outcome : Outcome Why) → TaskEnds (task_of wish) old new outcome → IsShortEnd outcome
task_short (given.Explain saying) =
    short_end (explain_of saying.text.now) refl (explains_of (explain_of saying.text.now).command) (TakesWhileWriting (explain_of saying.text.now).command)
task_short (given.Tell text) =
    short_end (explain_of text.items) refl (explains_of (explain_of text.items).command) (TakesWhileWriting (explain_of text.items).command)
task_short (given.Trace trace) =
    let request = trace_of trace.source.now trace.schedule.now in
    short_end request refl (explains_of request.command) (TakesWhileWriting request.command)
task_short (given.Page page) =
    let request = page_of page.page.now page.source.now page.schedule.now in
    short_end request refl (explains_of request.command) (TakesWhileWriting request.command)
task_short (given.Explore explore) =
    small_end (check_of explore.source.now).files (omega arith, tt) (JudgesExplored explore.number) (explains_of Check) (TakesWhileWriting Check)
task_short (given.Faults faults) =
    small_end (check_of faults.source.now).files (omega arith, tt) (JudgesFaults faults.source.now) (explains_of Check) (TakesWhileWriting Check)
task_short (given.Usage usage) =
    short_end (usage_of usage.text.now) refl (explains_of (usage_of usage.text.now).command) (TakesWhileWriting (usage_of usage.text.now).command)
