use Rattle.std.proofs.Common.{◌≡◌, Bool, true, false, map, nat_eq, sym, ap, ◌∙◌, subst, eq-eqb, ne_eqb, arith}
use Rattle.rb_world.specs.Reject.{fallen_inside, put_back, raised, where_inside}
use Rattle.rb_conv.specs.Conversations.{conversation_at}
use Rattle.rb_conv.specs.Reject.{has_next}
use Rattle.rb_proc.specs.Process.{kind_of}
use Rattle.rb_recovery.specs.Cascade.{AreQuiet}
use Rattle.rb_recovery.specs.Rejections.{changed, tried_together}
use Rattle.rb_recovery.specs.Work.{touched_by}
use Rattle.rb_recovery.proofs.Rejecting.QuietProcesses.{quiet_each, rises_inside}
use Rattle.rb_recovery.proofs.Rejecting.RejectedLevels.{map_twice}
use Rattle.rb_recovery.proofs.Beginning.SomeCode.{some_code}
use Rattle.rb_recovery.proofs.Working.UndoingWork.{all_fewer, touched_fallen_inside, touched_raised}
use Rattle.rb_recovery.proofs.cascade.reject_together.Goals as goal

pub raise_inside-requires : goal.raise_inside-requires
raise_inside-requires g c =
    let k = kind_of some_code in
    record {
      quiet = subst AreQuiet (sym (c.put_back_inside.ensures.back some_code))
          (quiet_each (where_inside (put_back k) c.args.conversation) (rises_inside k c.args.conversation) c.args.procs.now c.requires.quiet);
    }

pub returns-then-reject-clause-processes : goal.returns-then-reject-clause-processes
returns-then-reject-clause-processes g c =
    let xs = c.args.procs.now in
    let d = c.args.conversation in
    let left : has_next (conversation_at c.args.table.now d) ≡ true = sym c.reject.ensures.answer ∙ c.if-reject.true in
    λ code. c.raise_inside.ensures
    ∙ ap (map (changed (where_inside raised d))) (c.put_back_inside.ensures.back code)
    ∙ map_twice (changed (where_inside raised d)) (changed (where_inside (put_back (kind_of code)) d)) xs
    ∙ ap (λ (b : Bool). map (changed (tried_together (kind_of code) b (nat_eq c.args.inner 0) d)) xs) (sym left)

pub returns-then-inner-eq0-clause-processes : goal.returns-then-inner-eq0-clause-processes
returns-then-inner-eq0-clause-processes g c =
    let xs = c.args.procs.now in
    let d = c.args.conversation in
    let left : has_next (conversation_at c.args.table.now d) ≡ false = sym c.reject.ensures.answer ∙ c.if-reject.false in
    let lone : nat_eq c.args.inner 0 ≡ true = eq-eqb c.args.inner 0 c.if-inner-eq0.true in
    λ code. c.fail_inside.ensures code
    ∙ ap (map (changed (fallen_inside (kind_of code) d))) (c.put_back_inside.ensures.back code)
    ∙ map_twice (changed (fallen_inside (kind_of code) d)) (changed (where_inside (put_back (kind_of code)) d)) xs
    ∙ ap (λ (b : Bool). map (changed (tried_together (kind_of code) false b d)) xs) (sym lone)
    ∙ ap (λ (b : Bool). map (changed (tried_together (kind_of code) b (nat_eq c.args.inner 0) d)) xs) (sym left)

pub returns-clause-processes : goal.returns-clause-processes
returns-clause-processes g c =
    let xs = c.args.procs.now in
    let d = c.args.conversation in
    let left : has_next (conversation_at c.args.table.now d) ≡ false = sym c.reject.ensures.answer ∙ c.if-reject.false in
    let inner : nat_eq c.args.inner 0 ≡ false = ne_eqb c.args.inner 0 c.if-inner-eq0.false in
    λ code. c.put_back_inside.ensures.back code
    ∙ ap (λ (b : Bool). map (changed (tried_together (kind_of code) false b d)) xs) (sym inner)
    ∙ ap (λ (b : Bool). map (changed (tried_together (kind_of code) b (nat_eq c.args.inner 0) d)) xs) (sym left)

pub returns-then-reject-clause-work : goal.returns-then-reject-clause-work
returns-then-reject-clause-work g c =
    let fewer = all_fewer touched_by (where_inside raised c.args.conversation) (touched_raised c.args.conversation) c.put_back_inside.new.procs
    c.raise_inside.new.procs c.raise_inside.ensures in
    omega (arith, c.put_back_inside.ensures.work)

pub returns-then-inner-eq0-clause-work : goal.returns-then-inner-eq0-clause-work
returns-then-inner-eq0-clause-work g c =
    let fewer = all_fewer touched_by (fallen_inside (kind_of some_code) c.args.conversation) (touched_fallen_inside some_code c.args.conversation)
    c.put_back_inside.new.procs c.fail_inside.new.procs (c.fail_inside.ensures some_code) in
    omega (arith, c.put_back_inside.ensures.work)
