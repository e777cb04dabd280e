-- The number of a trial, as a word gives it.
use Rattle.std.specs.Prelude.{ℕ, ◌^◌, nat_le, nat_lt, ◌&&◌, cond, List, length, Option, Some, None}
use Rattle.rb_base.specs.Bytes.{digits_value, is_number}

-- at most so many digits give one
abbrev pub most_digits : ℕ
most_digits = 20

-- the number by its digits, if it has 64 bits
abbrev pub trial_number : List ℕ → Option ℕ
trial_number word =
    cond (is_number word && (nat_le (length word) most_digits && nat_lt (digits_value 0 word) (2 ^ 64))) (Some (digits_value 0 word)) None
