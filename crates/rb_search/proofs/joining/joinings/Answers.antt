use Rattle.std.proofs.Common.{List, ◌+◌, Vec, Global, sym, ap, ◌∙◌, subst}
use Rattle.rb_code.specs.Instructions.Plain.{code as plain}
use Rattle.rb_search.specs.Found.{found}
use Rattle.rb_search.specs.Joinings.{AreJoinings, joining_at, noted, only_block}
use Rattle.rb_search.specs.declared.joining.Joining.{Joining}
use Rattle.rb_search.proofs.MembersJoin.{one_noted, two_entered}
use Rattle.rb_search.proofs.joining.joinings.Goals.{in-None, in-Some+else-not-is_only_block+in_ok-push-in-Some}
use Rattle.rb_search.proofs.joining.joinings.Goals as goal

pub returns-then-not-is_only_block : goal.returns-then-not-is_only_block
returns-then-not-is_only_block c =
    let one = c.in-Some.one
    in two_entered (plain c.args.code.now) (found c.args.lists.now c.args.cells.now) c.loop-at.at c.loop-at.at c.loop-at.all.items one
    c.loop-at.invariant (sym c.in-Some.ensures)
    (ap (only_block one.conversation one.process one.block) (sym c.deref.ensures.value) ∙ sym c.is_only_block.ensures
    ∙ c.if-not-is_only_block.true)

pub loop-at-preserved : goal.loop-at-preserved
loop-at-preserved c =
    let code = plain c.args.code.now
    in let f = found c.args.lists.now c.args.cells.now
    in let before = c.loop-at.all.items
    in let more : AreJoinings code f (c.loop-at.at + 1) (noted before (joining_at code f c.loop-at.at))
    = one_noted code f c.loop-at.at before c.loop-at.invariant
    in elim c.match-joining_at.branch [
      | in-None w ↦ subst (λ (all : List Joining). AreJoinings code f (c.loop-at.at + 1) all)
          (ap (noted before) (sym w.in-None.ensures) ∙ sym (ap (λ (v : Vec Joining Global). v.items) w.all-is)) more
      | in-Some+else-not-is_only_block+in_ok-push-in-Some w ↦ subst (λ (all : List Joining). AreJoinings code f (c.loop-at.at + 1) all)
          (ap (noted before) (sym w.in-Some.ensures) ∙ sym w.in_ok-push-in-Some.ensures.items
          ∙ sym (ap (λ (v : Vec Joining Global). v.items) w.all-is)) more
    ]
