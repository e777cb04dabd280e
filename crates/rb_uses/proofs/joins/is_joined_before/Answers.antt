use Rattle.std.proofs.Common.{sym, ◌∙◌, arith}
use Rattle.std.proofs.lemmas.Grind.{common_steps}
use Rattle.rb_uses.specs.declared.usage.Use.{Use}
use Rattle.rb_uses.specs.Memory.{held}
use Rattle.rb_uses.specs.Summary.{joins_like}
use Rattle.rb_uses.proofs.FromBehind.{last_fails}
use Rattle.rb_uses.proofs.joins.is_joined_before.Goals as goal

pub joins-preserved : goal.joins-preserved
joins-preserved c =
    let like = λ (other : Use). joins_like (held c.args.one.now) (held other) in
    record {
      fewer = grind (arith, common_steps);
      same =
          last_fails like c.joins.rest.now _ c.in-len1-up.len_at_least (sym c.joins_like.ensures ∙ c.if-joins_like.false)
          ∙ c.joins.invariant.same;
    }
