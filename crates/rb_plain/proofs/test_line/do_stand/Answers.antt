-- One member after the other.
use Rattle.std.proofs.Common.{ℕ, Bool, map, slice_get, ap, sym, ◌∙◌}
use Rattle.std.specs.List.{list_all}
use Rattle.std.proofs.lemmas.List.{drop_all}
use Rattle.rb_world.specs.Turn.{stands_there}
use Rattle.rb_levels.specs.Worlds.{process_of}
use Rattle.rb_plain.proofs.TestLines.{one_stands, someone_missing}
use Rattle.rb_plain.proofs.test_line.do_stand.Goals as goal

pub returns-then-not-stands_there : goal.returns-then-not-stands_there
returns-then-not-stands_there c =
    let f : ℕ → Bool = λ m. stands_there c.args.conversation (slice_get (map process_of c.args.processes.now) m) in
    sym (someone_missing f c.args.members.now c.loop-member.member-index c.loop-member-test.true
    (sym c.stands_there.ensures ∙ c.if-not-stands_there.true))
    ∙ c.loop-member.invariant

pub loop-member-preserved : goal.loop-member-preserved
loop-member-preserved c =
    let f : ℕ → Bool = λ m. stands_there c.args.conversation (slice_get (map process_of c.args.processes.now) m) in
    sym (one_stands f c.args.members.now c.loop-member.member-index c.loop-member-test.true
    (sym c.stands_there.ensures ∙ c.if-not-stands_there.false))
    ∙ c.loop-member.invariant

pub returns : goal.returns
returns c =
    let f : ℕ → Bool = λ m. stands_there c.args.conversation (slice_get (map process_of c.args.processes.now) m) in
    sym (ap (list_all f) (drop_all c.loop-member.member-index c.args.members.now c.loop-member-test.false)) ∙ c.loop-member.invariant
