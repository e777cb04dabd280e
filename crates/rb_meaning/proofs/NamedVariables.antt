-- The variables of a process, as lines name them, lie in the order of declaration, within as many words as the process declares.
use Rattle.std.proofs.Common.{◌≡◌, ℕ, ◌+◌, ◌≤◌, List, [], ◌∷◌, length, option_map, pos, Option, Some, None, refl, arith}
use Rattle.std.specs.List.{AllByRecursion}
use Rattle.std.proofs.lemmas.List.{length-replicate}
use Rattle.std.proofs.lemmas.List.Sums.{sum_by-cons}
use Rattle.rb_syntax.specs.Tree.{Declaration}
use Rattle.rb_syntax.specs.declared.expression.Number.{Number}
use Rattle.rb_world.specs.Text.{VariableNaming, size_of as size_named}
use Rattle.rb_meaning.specs.Environment.{Stored, frame_of, frame_words, size_of, zeros}
use Rattle.rb_meaning.specs.Meaning.{variables_named}

-- a variable is named with as many numbers as it has
named_size : (size : Option Number) → size_named (option_map (λ (n : Number). size_of (Some n)) size) ≡ size_of size
named_size None = refl
named_size (Some number) = refl

-- variables that are named from a place on lie within these words, where all that they declare do
pub named_within : (words at : ℕ) (declared : List Declaration) → at + frame_words (frame_of declared) ≤ words
    → AllByRecursion (λ (named : VariableNaming). named.at + size_named named.size ≤ words) (variables_named at declared)
named_within words at [] few = tt
named_within words at (first ∷ declared) few =
    let size = named_size first.size in
    let own = length-replicate (size_of first.size) (pos 0) in
    let all = sum_by-cons (λ (stored : Stored). length stored.values) (zeros first) (frame_of declared) in (
      omega (arith, size, own, all, few),
      named_within words (at + size_of first.size) declared (omega (arith, own, all, few)),
    )
