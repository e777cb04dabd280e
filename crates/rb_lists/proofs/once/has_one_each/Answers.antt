use Rattle.std.proofs.Common.{◌≡◌, ◌↔◌, IsTrue, length, sym, ◌∙◌}
use Rattle.std.proofs.lemmas.Bool.{false≢true}
use Rattle.std.proofs.lemmas.List.{length-map}
use Rattle.std.proofs.lemmas.Result.{IfOk-weaker}
use Rattle.rb_code.specs.Instructions.Plain.{code as plain, block as plain_block}
use Rattle.rb_code.specs.SoundCode.WellFormed.{HasOneEach}
use Rattle.rb_lists.specs.declared.once.Mark.TheVariants.{Entry, Begin, Judge}
use Rattle.rb_lists.proofs.Counted.{HasOne, each_has, has_each, tells_one}
use Rattle.rb_lists.proofs.once.has_one_each.Goals as goal
use Rattle.rb_lists.proofs.once.has_one_each.Goals.{After-len-blocks}

blocks_are : (c : After-len-blocks) → c.len-blocks.result ≡ length (plain c.args.code.now).blocks
blocks_are c = c.len-blocks.ensures ∙ c.args.code.now.blocks.ok.0 ∙ sym (length-map c.args.code.now.blocks.items plain_block)

pub returns-then-not-branch : goal.returns-then-not-branch
returns-then-not-branch c =
    let code = plain c.args.code.now in
    let tells =
    tells_one Entry _ (length code.blocks) _ code.instrs c.in_ok-each_once.field-0
    (blocks_are (goal.at.returns-then-not-branch c).After-len-blocks) c.deref.ensures.value c.in_ok-each_once.ensures in
    ((λ e. absurd (false≢true e)), (λ each. sym c.if-not-branch.true ∙ tells.1 (each_has code each).0))

pub returns-then-not-branch-2 : goal.returns-then-not-branch-2
returns-then-not-branch-2 c =
    let code = plain c.args.code.now in
    let tells =
    tells_one Begin _ (length code.blocks) _ code.instrs c.in_ok-each_once-2.field-0
    (blocks_are (goal.at.returns-then-not-branch-2 c).After-len-blocks) c.deref-2.ensures.value c.in_ok-each_once-2.ensures in
    ((λ e. absurd (false≢true e)), (λ each. sym c.if-not-branch-2.true ∙ tells.1 (each_has code each).1))

pub returns : goal.returns
returns c =
    let code = plain c.args.code.now in
    let blocks = blocks_are (goal.at.returns c).After-len-blocks in
    let entry =
    tells_one Entry _ (length code.blocks) _ code.instrs c.in_ok-each_once.field-0 blocks c.deref.ensures.value c.in_ok-each_once.ensures in
    let start =
    tells_one Begin _ (length code.blocks) _ code.instrs c.in_ok-each_once-2.field-0 blocks c.deref-2.ensures.value
    c.in_ok-each_once-2.ensures in
    IfOk-weaker c.each_once-3.result (λ told. IsTrue told ↔ HasOne Judge c.len-blocks.result c.deref-3.result.now) (λ told. IsTrue told ↔ HasOneEach code)
    (λ told tells_test.
    let test = tells_one Judge _ (length code.blocks) _ code.instrs told blocks c.deref-3.ensures.value tells_test in (
      (λ e. has_each code (entry.0 c.if-not-branch.false) (start.0 c.if-not-branch-2.false) (test.0 e)),
      (λ each. test.1 (each_has code each).2),
    ))
    c.each_once-3.ensures
