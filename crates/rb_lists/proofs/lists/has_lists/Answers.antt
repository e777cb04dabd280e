use Rattle.std.proofs.Common.{◌↔◌, IsTrue, sym, ◌∙◌}
use Rattle.std.proofs.lemmas.Bool.{false≢true}
use Rattle.std.proofs.lemmas.Result.{IfOk-weaker}
use Rattle.rb_code.specs.Instructions.Plain.{code as plain}
use Rattle.rb_code.specs.SoundCode.WellFormed.{HasOneEach}
use Rattle.rb_lists.specs.Lists.{HasLists}
use Rattle.rb_lists.proofs.WholeLists.{differ_by, each_by, lawful_by, lists_by}
use Rattle.rb_lists.proofs.lists.has_lists.Goals as goal

pub returns-then-not-are_lawful : goal.returns-then-not-are_lawful
returns-then-not-are_lawful c = (
  (λ e. absurd (false≢true e)),
  (λ lists. sym c.if-not-are_lawful.true ∙ c.are_lawful.ensures.1 (lawful_by c.args.code.now c.args.nested.now lists)),
)

pub returns-then-not-branch : goal.returns-then-not-branch
returns-then-not-branch c = (
  (λ e. absurd (false≢true e)),
  (λ lists. sym c.if-not-branch.true ∙ c.in_ok-names_differ.ensures.1 (differ_by c.args.code.now c.args.nested.now lists)),
)

pub returns : goal.returns
returns c =
    IfOk-weaker c.has_one_each.result (λ told. IsTrue told ↔ HasOneEach (plain c.args.code.now))
    (λ told. IsTrue told ↔ HasLists c.args.code.now c.args.nested.now)
    (λ told tells. (
      (λ e. lists_by c.args.code.now c.args.nested.now (c.are_lawful.ensures.0 c.if-not-are_lawful.false)
          (c.in_ok-names_differ.ensures.0 c.if-not-branch.false) (tells.0 e)),
      (λ lists. tells.1 (each_by c.args.code.now c.args.nested.now lists)),
    ))
    c.has_one_each.ensures
