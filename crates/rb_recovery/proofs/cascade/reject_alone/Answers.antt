use Rattle.std.proofs.Common.{◌<◌, length, ap, sym, subst, arith}
use Rattle.rb_proc.specs.Process.{Seen, kind_of}
use Rattle.rb_recovery.specs.Work.{touched_by}
use Rattle.rb_recovery.proofs.Rejecting.QuietProcesses.{Rises, back_within, below_last, rises_put_back}
use Rattle.rb_recovery.proofs.Beginning.SomeCode.{some_code}
use Rattle.rb_recovery.proofs.cascade.reject_alone.Goals as goal

pub raise-requires-clause-level : goal.raise-requires-clause-level
raise-requires-clause-level g c =
    subst (λ (one : Seen). c.args.inner < length one.process.levels) (sym (c.put_back.ensures.back some_code))
    (back_within (kind_of some_code) c.args.inner c.args.proc.now.process c.requires.level)

pub raise-requires-clause-few : goal.raise-requires-clause-few
raise-requires-clause-few g c =
    let later : Rises c.put_back.new.self.process =
    subst (λ (one : Seen). Rises one.process) (sym (c.put_back.ensures.back some_code))
    (rises_put_back (kind_of some_code) c.args.inner c.args.proc.now.process c.requires.rise) in
    below_last c.put_back.new.self.process.levels c.args.inner later (raise-requires-clause-level g c)

pub returns-then-level-clause-work : goal.returns-then-level-clause-work
returns-then-level-clause-work g c =
    let same = ap (λ (one : Seen). touched_by one.process) c.raise.ensures in
    omega (arith, c.put_back.ensures.work)
