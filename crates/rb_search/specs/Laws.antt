-- The laws of joins and of weights.
use Rattle.std.specs.Prelude.{◌≡◌, ◌⊎◌, ℕ, ◌<◌, ◌≤◌, length, Some, None}
use Rattle.rb_code.specs.SoundCode.Sound.{Entry, IsWeaker, Table}
use Rattle.rb_entries.specs.Join.{joined}
use Rattle.rb_search.specs.Weight.{total, weight}

-- entries meet in the strongest that is weaker than both
abbrev pub JoinIsWeaker : Type 0
JoinIsWeaker = (e f g : Entry) → joined e f ≡ Some g → IsWeaker e g × IsWeaker f g

abbrev pub JoinIsStrongest : Type 0
JoinIsStrongest = (e f h : Entry) → IsWeaker e h → IsWeaker f h → (g : Entry) × (joined e f ≡ Some g) × IsWeaker g h

-- what is weakened is lighter
abbrev pub WeakerIsLighter : Type 0
WeakerIsLighter = (most : ℕ) (e g : Entry) → IsWeaker e g → (g ≡ e) ⊎ (weight most (Some g) < weight most (Some e))

abbrev pub FirstIsLighter : Type 0
FirstIsLighter = (most : ℕ) (e : Entry) → length e.operands ≤ most → weight most (Some e) < weight most None

-- and so is the whole table, where the others stay
abbrev pub TotalFalls : Type 0
TotalFalls = (most n a : ℕ) (f g : Table) → a < n → weight most (g a) < weight most (f a) → ((b : ℕ) → (b ≡ a) ⊎ (g b ≡ f b))
    → total most n g < total most n f
