use Rattle.std.proofs.Common.{◌≡◌, true, string_bytes, take}
use Rattle.std.specs.List.{list_all}
use Rattle.rb_words.specs.Plain.{is_plain_word}
use Rattle.rb_words.proofs.plain.are_plain.Given as goal

-- the words so far are plain
abbrev pub invariant-loop-word : goal.invariant-loop-word
invariant-loop-word l = list_all (λ word. is_plain_word (string_bytes word)) (take l.word-index l.words) ≡ true
