use Rattle.std.proofs.Common.{sym, ◌∙◌, arith}
use Rattle.std.proofs.lemmas.Grind.{common_steps}
use Rattle.rb_meaning.specs.Environment.{same_name}
use Rattle.rb_syntax.specs.declared.expression.Name.{Name}
use Rattle.rb_uses.proofs.FromBehind.{last_fails}
use Rattle.rb_uses.proofs.conversations.is_named.Goals as goal

pub names-preserved : goal.names-preserved
names-preserved c =
    let same = λ (name : Name). same_name name.text.now c.args.text.now in
    record {
      fewer = grind (arith, common_steps);
      same =
          last_fails same c.names.rest.now _ c.in-len1-up.len_at_least (sym c.eq.ensures ∙ c.if-eq.false) ∙ c.names.invariant.same;
    }
