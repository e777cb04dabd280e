-- 0 has one digit.
use Rattle.std.proofs.Common.{ℕ, List, [], ◌∷◌, ◌++◌, sym, ap, ◌∙◌, arith}
use Rattle.std.proofs.lemmas.Fmt.{decimal_digit}
use Rattle.rb_run.proofs.rising.Rising.new.Goals as goal

pub invariant_of-result : goal.invariant_of-result
invariant_of-result c =
    c.push.ensures.items ∙ ap (λ (xs : List ℕ). xs ++ 48 ∷ []) c.new-digits.ensures ∙ sym (decimal_digit 0 (omega arith))
