use Rattle.std.proofs.Common.{◌≡◌, ◌≤◌, length, reverse}
use Rattle.std.specs.List.{list_any}
use Rattle.rb_uses.specs.declared.usage.Use.{Use}
use Rattle.rb_uses.specs.Memory.{held}
use Rattle.rb_uses.specs.Summary.{joins_like}
use Rattle.rb_uses.proofs.joins.is_joined_before.Given as goal

abbrev pub invariant-joins : goal.invariant-joins
invariant-joins l =
    let like = λ (other : Use). joins_like (held l.one) (held other) in
    record {
      fewer : length l.rest ≤ length l.fn.joins;
      same : list_any like (reverse l.rest) ≡ list_any like (reverse l.fn.joins);
    }

abbrev pub decreases-joins : goal.decreases-joins
decreases-joins l = length l.rest
