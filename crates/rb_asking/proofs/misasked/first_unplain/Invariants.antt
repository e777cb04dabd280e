use Rattle.std.proofs.Common.{◌≡◌, map, length, not, string_bytes}
use Rattle.std.specs.List.{find}
use Rattle.rb_words.specs.Plain.{is_plain_word}
use Rattle.rb_asking.proofs.misasked.first_unplain.Given as goal

-- those before are plain
abbrev pub invariant-loop-rest : goal.invariant-loop-rest
invariant-loop-rest l =
    find (λ word. not (is_plain_word word)) (map string_bytes l.rest) ≡ find (λ word. not (is_plain_word word)) (map string_bytes l.words)

abbrev pub decreases-loop-rest : goal.decreases-loop-rest
decreases-loop-rest l = length l.rest
