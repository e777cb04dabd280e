use Rattle.std.proofs.Common.{◌≡◌, ◌+◌, length}
use Rattle.std.specs.List.{position_or_len}
use Rattle.rb_scope.specs.FirstFault.{is_before}
use Rattle.rb_scope.specs.declared.declared.Declared.{Declared}
use Rattle.rb_faults.proofs.rows.place_for.Given as goal

-- none of those so far stands behind the place
abbrev pub invariant-declared : goal.invariant-declared
invariant-declared l =
    (l.index + length l.rest ≡ length l.fn.declared)
    × (l.index + position_or_len (λ (other : Declared). is_before l.place other.name.place) l.rest
    ≡ position_or_len (λ (other : Declared). is_before l.place other.name.place) l.fn.declared)

abbrev pub decreases-declared : goal.decreases-declared
decreases-declared l = length l.rest
