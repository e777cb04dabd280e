use Rattle.std.proofs.Common.{◌≡◌, ℕ, zero, suc, ◌-◌, Bool, true, drop, slice_get, ap, sym, ◌∙◌, subst, arith}
use Rattle.std.specs.List.{list_all}
use Rattle.rb_conv.specs.Conversations.{conversation_at, membership}
use Rattle.rb_world.specs.Turn.{stands_there}
use Rattle.rb_recovery.specs.Worlds.{processes_of}
use Rattle.rb_recovery.proofs.Turning.TestLines.{members_there, not_all, one_more}
use Rattle.rb_recovery.proofs.test_line.all_stand.Goals as goal

pub returns-then-not-stands_there : goal.returns-then-not-stands_there
returns-then-not-stands_there g c = λ code memory.
    let table = c.args.table.now in
    let d = c.args.conversation in
    let f : ℕ → Bool = λ m. stands_there d (slice_get (processes_of c.args.procs.now) m) in
    sym (ap (list_all f) (members_there table d c.requires)
    ∙ not_all f (membership (conversation_at table d)).members (c.loop-left.left - 1) c.member.result c.member.ensures
    (sym c.stands_there.ensures ∙ c.if-not-stands_there.true))

pub loop-left-preserved : goal.loop-left-preserved
loop-left-preserved g c =
    let members = (membership (conversation_at c.args.table.now c.args.conversation)).members in
    let f : ℕ → Bool = λ m. stands_there c.args.conversation (slice_get (processes_of c.args.procs.now) m) in
    let before : c.loop-left.left ≡ suc (c.loop-left.left - 1) = omega (arith, c.loop-left-test.true) in
    record {
      left = omega (arith, c.loop-left.invariant.left);
      stand =
          one_more f members (c.loop-left.left - 1) c.member.result
          (subst (λ n. list_all f (drop n members) ≡ true) before c.loop-left.invariant.stand)
          c.member.ensures (sym c.stands_there.ensures ∙ c.if-not-stands_there.false);
    }

pub returns : goal.returns
returns g c = λ code memory.
    let table = c.args.table.now in
    let d = c.args.conversation in
    let members = (membership (conversation_at table d)).members in
    let f : ℕ → Bool = λ m. stands_there d (slice_get (processes_of c.args.procs.now) m) in
    let none : c.loop-left.left ≡ zero = omega (arith, c.loop-left-test.false) in
    sym (ap (list_all f) (members_there table d c.requires)
    ∙ subst (λ n. list_all f (drop n members) ≡ true) none c.loop-left.invariant.stand)
