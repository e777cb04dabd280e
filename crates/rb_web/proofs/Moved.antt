-- An end in memory, in other words for the same files, places and bytes; and bytes that stand at the front of a place.
use Rattle.std.proofs.Common.{◌≡◌, ◌≤◌, ◌++◌, ℕ, List, length, take, drop, sym, ap, ◌∙◌, subst, arith, length-append, length-drop}
use Rattle.std.proofs.Math.Seq.{take-append_seam, drop-append_seam}
use Rattle.rb_outside.specs.Outside.{File}
use Rattle.rb_tell.specs.declared.end.Telling.{Telling}
use Rattle.rb_web.specs.Ending.{EndsInMemory, Ending}

pub same_end : (So : Ending) (telling : Telling) (files files' : List File) (room room' reason reason' number number' : ℕ)
    (bytes bytes' told told' : List ℕ)
    → files ≡ files' → room ≡ room' → reason ≡ reason' → number ≡ number' → bytes ≡ bytes' → told ≡ told'
    → EndsInMemory So files room reason bytes told number telling → EndsInMemory So files' room' reason' bytes' told' number' telling
same_end So telling files files' room room' reason reason' number number' bytes bytes' told told' f r s n b t ends =
    subst (λ x. EndsInMemory So x room' reason' bytes' told' number' telling) f
    (subst (λ x. EndsInMemory So files x reason' bytes' told' number' telling) r
    (subst (λ x. EndsInMemory So files room x bytes' told' number' telling) s
    (subst (λ x. EndsInMemory So files room reason bytes' told' x telling) n
    (subst (λ x. EndsInMemory So files room reason x told' number telling) b
    (subst (λ x. EndsInMemory So files room reason bytes x number telling) t ends)))))

-- bytes that were put at the front of a place stand there, and what is behind them stayed
pub stands_front : (old new bytes : List ℕ) → length bytes ≤ length old → new ≡ bytes ++ drop (length bytes) old
    → (length old ≡ length new) × (drop (length bytes) new ≡ drop (length bytes) old) × (bytes ≡ take (length bytes) new)
stands_front old new bytes fits is = (
  omega (arith, fits, ap length is, length-append bytes (drop (length bytes) old), length-drop (length bytes) old),
  ap (drop (length bytes)) is ∙ drop-append_seam bytes (drop (length bytes) old),
  sym (ap (take (length bytes)) is ∙ take-append_seam bytes (drop (length bytes) old)),
)
