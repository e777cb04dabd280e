use Rattle.std.proofs.Common.{◌≡◌, ℕ, List, Bor, false, nat_eq, take}
use Rattle.std.specs.List.{list_any}
use Rattle.std.specs.Cmp.Lexicographic.{pointwise}
use Rattle.rb_lex.proofs.words.is_listed.Given as goal

abbrev pub invariant-loop-word : goal.invariant-loop-word
invariant-loop-word l = list_any (λ (word : Bor (List ℕ)). pointwise nat_eq word.now l.text) (take l.word-index l.words) ≡ false
