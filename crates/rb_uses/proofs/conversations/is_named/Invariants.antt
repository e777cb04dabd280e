use Rattle.std.proofs.Common.{◌≡◌, ◌≤◌, length, reverse}
use Rattle.std.specs.List.{list_any}
use Rattle.rb_meaning.specs.Environment.{same_name}
use Rattle.rb_syntax.specs.declared.expression.Name.{Name}
use Rattle.rb_uses.proofs.conversations.is_named.Given as goal

abbrev pub invariant-names : goal.invariant-names
invariant-names l =
    let same = λ (name : Name). same_name name.text.now l.text in
    record {
      fewer : length l.rest ≤ length l.fn.names;
      same : list_any same (reverse l.rest) ≡ list_any same (reverse l.fn.names);
    }

abbrev pub decreases-names : goal.decreases-names
decreases-names l = length l.rest
