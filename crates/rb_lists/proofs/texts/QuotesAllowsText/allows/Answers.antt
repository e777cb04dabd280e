use Rattle.std.proofs.Common.{◌≤◌, List, ℕ, length, subst}
use Rattle.rb_base.specs.declared.limits.TheConstants.{LONGEST_TEXT}
use Rattle.rb_scope.specs.Spelled.{is_quotable}
use Rattle.rb_lists.proofs.Each.{tells_test}
use Rattle.rb_lists.proofs.texts.QuotesAllowsText.allows.Goals as goal

pub returns-then-as_bytes-le-LONGEST_TEXT : goal.returns-then-as_bytes-le-LONGEST_TEXT
returns-then-as_bytes-le-LONGEST_TEXT c =
    let tells = tells_test is_quotable _ _ _ c.as_bytes-then-as_bytes-le-LONGEST_TEXT.ensures c.all_allowed.ensures in (
      (λ e. (
        tells.0 e,
        subst (λ (bytes : List ℕ). length bytes ≤ LONGEST_TEXT) c.as_bytes.ensures c.if-as_bytes-le-LONGEST_TEXT.true,
      )),
      (λ text. tells.1 text.0),
    )
