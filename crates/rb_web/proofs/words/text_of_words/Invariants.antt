use Rattle.std.proofs.Common.{◌≡◌, ℕ, nat_eq, List, ◌++◌, length}
use denote.Text.{Utf8}
use denote.Shadow.{shadow}
use Rattle.std.specs.List.{slice_split}
use Rattle.rb_web.proofs.words.text_of_words.Given as goal

-- the text is cut into some parts, and those of what is left
abbrev pub invariant-loop-word : goal.invariant-loop-word
invariant-loop-word l =
    shadow (Utf8 l.rest) × ((before : List (List ℕ)) × (slice_split (λ b. nat_eq b 0) l.text ≡ before ++ slice_split (λ b. nat_eq b 0) l.rest))

abbrev pub decreases-loop-word : goal.decreases-loop-word
decreases-loop-word l = length l.rest
