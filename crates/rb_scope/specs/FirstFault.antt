-- The first of several faults of a source: the one with the least place, and of two at one place the one with the least number.
-- All of this crate's definitions are this project's own.
use Rattle.std.specs.Prelude.{◌≡◌, ℕ, nat_eq, nat_lt, Bool, true, false, cond, List}
use Rattle.std.specs.List.{Contains}
use Rattle.rb_base.specs.declared.place.Place.{Place}
use Rattle.rb_base.specs.declared.fault.SourceFault.{SourceFault}
use Rattle.rb_base.specs.declared.fault.FaultName.{FaultName}
use Rattle.rb_base.specs.declared.fault.FaultName.TheVariants.{S1, S2, S3, S4, S5, S6, S7, S8, S9, S10, S11, N1, N2, N3, N4, N5, N6, N7, N8, N9, N10, N11, N12, N13}

-- one place stands before another: on an earlier line, or on its line at an earlier column
abbrev pub is_before : Place → Place → Bool
is_before p q = cond (nat_eq p.line q.line) (nat_lt p.column q.column) (nat_lt p.line q.line)

-- the number of a fault among those of its kind; 0 for kinds that are not told by their number
abbrev pub number_of : FaultName → ℕ
number_of S1 = 1
number_of S2 = 2
number_of S3 = 3
number_of S4 = 4
number_of S5 = 5
number_of S6 = 6
number_of S7 = 7
number_of S8 = 8
number_of S9 = 9
number_of S10 = 10
number_of S11 = 11
number_of N1 = 1
number_of N2 = 2
number_of N3 = 3
number_of N4 = 4
number_of N5 = 5
number_of N6 = 6
number_of N7 = 7
number_of N8 = 8
number_of N9 = 9
number_of N10 = 10
number_of N11 = 11
number_of N12 = 12
number_of N13 = 13
number_of _ = 0

-- one fault comes before another: at an earlier place, or at its place with a lower number
abbrev pub comes_before : SourceFault → SourceFault → Bool
comes_before a b =
    cond (is_before a.place b.place) true
    (cond (is_before b.place a.place) false (nat_lt (number_of a.name) (number_of b.name)))

-- one of these faults, before which none of them comes
pub record IsFirstOf (faults : List SourceFault) (fault : SourceFault) : Type 0 where
  pub is_one : Contains faults fault
  pub first : (other : SourceFault) → Contains faults other → comes_before other fault ≡ false
