use Rattle.std.proofs.Common.{◌≡◌, ◌+◌, length, map}
use Rattle.rb_syntax.specs.Plain.{declaration}
use Rattle.rb_meaning.specs.Environment.{frame_of, frame_words}
use Rattle.rb_draft.proofs.frames.words_of.Given as goal

-- the words so far and those of the other variables
abbrev pub invariant-variables : goal.invariant-variables
invariant-variables l = l.total + frame_words (frame_of (map declaration l.rest)) ≡ frame_words (frame_of (map declaration l.fn.variables))

abbrev pub decreases-variables : goal.decreases-variables
decreases-variables l = length l.rest
