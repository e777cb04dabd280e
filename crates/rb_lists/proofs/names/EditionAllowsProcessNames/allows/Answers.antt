use Rattle.std.proofs.Common.{List, ℕ, subst}
use Rattle.rb_trace.specs.Naming.{variable_naming}
use Rattle.rb_code.specs.SoundCode.WellFormed.{NamesVariable}
use Rattle.rb_scope.specs.Spelled.{IsNaming}
use Rattle.rb_lists.proofs.Mapped.{tells_of_map}
use Rattle.rb_lists.proofs.names.EditionAllowsProcessNames.allows.Goals as goal

pub returns-then-is_naming : goal.returns-then-is_naming
returns-then-is_naming c =
    let variables =
    tells_of_map (NamesVariable c.args.self.now) variable_naming c.args.process.now.variables.items c.deref.result.now
    c.all_allowed.result c.deref.ensures.value c.all_allowed.ensures in (
      (λ e. record {
        name = subst (λ (name : List ℕ). IsNaming c.args.self.now name) c.as_bytes.ensures (c.is_naming.ensures.0 c.if-is_naming.true);
        variables = variables.0 e;
      }),
      (λ process. variables.1 process.variables),
    )
