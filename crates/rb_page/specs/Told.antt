-- What contracts see of a sink before which texts are escaped.
use Rattle.std.specs.Prelude.{◌≡◌, ℕ, ◌+◌, ◌-◌, ◌*◌, nat_eq, nat_le, nat_lt, Bool, true, cond, List, [], ◌∷◌, ◌++◌, length, drop, Option, Some, None, option_map}
use Rattle.std.specs.List.{list_all}
use Rattle.rb_outside.specs.Outside.{then_written}
use Rattle.rb_page.specs.Escape.{escaped}

-- the text that stands escaped here, behind what was read of a reference, if one was begun
abbrev pub unescaped : Option ℕ → List ℕ → List ℕ
unescaped None [] = []
unescaped (Some n) [] = []
unescaped None (b ∷ bs) = cond (nat_eq b 38) (unescaped (Some 0) bs) (b ∷ unescaped None bs)
unescaped (Some n) (b ∷ bs) = cond (nat_eq b 59) (n ∷ unescaped None bs) (unescaped (Some (n * 10 + (b - 48))) bs)

-- the text that was put between what was written at the start and now
abbrev pub put_since : Option (List ℕ) → Option (List ℕ) → List ℕ
put_since None now = []
put_since (Some start) None = []
put_since (Some start) (Some now) = unescaped None (drop (length start) now)

-- no less was written now than at the start
abbrev pub has_grown : Option (List ℕ) → Option (List ℕ) → Bool
has_grown None now = true
has_grown (Some start) None = true
has_grown (Some start) (Some now) = nat_le (length start) (length now)

-- a byte is one
abbrev pub are_bytes : List ℕ → Bool
are_bytes text = list_all (λ b. nat_lt b 256) text

-- What such a sink tells: what was written behind it at the start, with its length in front, and then the text that was put. So of
-- two that tell the same both are the same.
abbrev pub told : Option (List ℕ) → List ℕ → Option (List ℕ)
told start text = option_map (λ written. length written ∷ (written ++ text)) start

-- from the start on just this text was put, escaped, but for what is left of its last reference
abbrev pub PassesText : Option (List ℕ) → Option (List ℕ) → List ℕ → List ℕ → Type 0
PassesText start now rest text =
    (then_written now rest ≡ then_written start (escaped text)) × (has_grown start now ≡ true) × (are_bytes text ≡ true)

-- the same of whatever text was put
abbrev pub Passes : Option (List ℕ) → Option (List ℕ) → List ℕ → Type 0
Passes start now rest = PassesText start now rest (put_since start (then_written now rest))
