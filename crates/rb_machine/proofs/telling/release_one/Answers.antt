-- Where there is nothing to tell no line waits, and no word is touched.
use Rattle.std.proofs.Common.{ap, ◌∙◌}
use Rattle.rb_proc.specs.Process.{Seen}
use Rattle.rb_machine.proofs.Working.ReleaseWork.{one_release}
use Rattle.rb_recovery.proofs.Beginning.SomeCode.{some_code}
use Rattle.rb_machine.proofs.telling.release_one.Goals as goal

pub returns-clause-none_waits : goal.returns-clause-none_waits
returns-clause-none_waits g c e =
    ap (λ (one : Seen). one.waiting) (c.release_if_free.ensures.freed some_code) ∙ c.may_release-releases.ensures some_code e

pub returns-clause-work : goal.returns-clause-work
returns-clause-work g c =
    one_release some_code c.args.steps.now c.release_if_free.new.steps c.release_if_free.ensures.ticks c.args.proc.now c.release_if_free.new.self
    (c.release_if_free.ensures.freed some_code) c.release_if_free.ensures.quiet c.release_if_free.ensures.within
