use Rattle.rb_scope.specs.Spelled.{IsNaming}
use Rattle.rb_code.specs.declared.code.ProcedureCode.{ProcedureCode}
use Rattle.rb_lists.proofs.Each.{tells_same}
use Rattle.rb_lists.proofs.names.EditionAllowsProcessCode.allows.Goals as goal

pub returns : goal.returns
returns c =
    let tells =
    tells_same (λ (one : ProcedureCode). IsNaming c.args.self.now one.name) _ _ _ c.deref.ensures.value c.all_allowed.ensures in
    ((λ e. record { each = tells.0 e }), (λ named. tells.1 named.each))
