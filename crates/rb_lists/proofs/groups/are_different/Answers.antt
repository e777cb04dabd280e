use Rattle.std.proofs.Common.{◌<◌, arith, sym, ◌∙◌}
use Rattle.std.proofs.lemmas.Bool.{false≢true}
use Rattle.std.proofs.lemmas.List.Elements.{All-more}
use Rattle.rb_lists.proofs.Differing.{differs_more, none_differ, repeats}
use Rattle.rb_lists.proofs.groups.are_different.Goals as goal
use Rattle.rb_lists.proofs.groups.are_different.Goals.{then-member-processes-via-then-member-processes, then-member-processes-via-else-member-processes+then-is_member}

pub loop-index-init : goal.loop-index-init
loop-index-init c = record { differ = none_differ; processes = λ k d h. absurd (omega arith) }

pub returns-then-member-processes : goal.returns-then-member-processes
returns-then-member-processes c = (
  (λ e. absurd (false≢true e)),
  (λ all. absurd (elim c.then-member-processes.branch [
    | then-member-processes-via-then-member-processes w ↦ omega (arith, all.1 c.loop-index.index 0 c.loop-index-test.true)
    | then-member-processes-via-else-member-processes+then-is_member w ↦
        repeats c.args.members.now c.loop-index.index c.loop-index-test.true (sym w.is_member.ensures ∙ w.if-is_member.true) all.0
  ])),
)

pub loop-index-preserved : goal.loop-index-preserved
loop-index-preserved c = record {
  differ = differs_more c.args.members.now c.loop-index.index c.loop-index-test.true (sym c.is_member.ensures ∙ c.if-is_member.false) c.loop-index.invariant.differ;
  processes = All-more (λ member. member < c.args.processes) c.args.members.now c.loop-index.index 0 c.loop-index-test.true
      c.loop-index.invariant.processes c.if-member-processes.false;
}
