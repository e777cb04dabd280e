use Rattle.std.proofs.Common.{subst, ◌∙◌}
use Rattle.rb_code.specs.Instructions.Plain.{code as plain}
use Rattle.rb_recovery.specs.Innermost.{IsInnermost}
use Rattle.rb_view.proofs.Asked.{no_test, test_is}
use Rattle.rb_view.proofs.asking.test_in.Goals as goal

pub returns-in-None : goal.returns-in-None
returns-in-None c o inner = no_test (plain c.args.code.now) o (subst (IsInnermost o) c.in-None.is inner)

pub returns-in-Some : goal.returns-in-Some
returns-in-Some c o inner = c.test_at.ensures ∙ test_is (plain c.args.code.now) o c.in-Some.view (subst (IsInnermost o) c.in-Some.is inner)
