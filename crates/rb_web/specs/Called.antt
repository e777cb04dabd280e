-- How a call ends that is given words, texts and places of the caller.
use Rattle.std.specs.Prelude.{◌≡◌, ◌≤◌, ℕ, List, length, take, drop}
use Rattle.rb_tell.specs.declared.end.Telling.{Telling}
use Rattle.rb_web.specs.Asked.{AreWords, files_named}
use Rattle.rb_web.specs.Ending.{EndsInMemory, EndsOf}
use Rattle.rb_web.specs.declared.asked.Ended.{Ended}
use Rattle.rb_web.specs.declared.over_texts.Program.{Program}

-- so many bytes stand at the front of a place, and behind them what stood there
abbrev pub IsFront : ℕ → List ℕ → List ℕ → Type 0
IsFront n old new = (n ≤ length new) × (drop n new ≡ drop n old)

-- the status alone: nothing was written or told
abbrev pub SaysOnly : ℕ → Ended → Type 0
SaysOnly status ended = (ended.status ≡ status) × (ended.written ≡ 0) × (ended.told ≡ 0)

-- A call of a program ends so, with these places for what is written and what is told: the bytes are no words; or memory was wanting for words,
-- files or places; or it is an end of the program over the files that the words name, and what it wrote and told is at the front of the places.
pub data CallEnds (program : Program) (bytes : List ℕ) (texts : List (List ℕ)) (out reason : List ℕ) (ended : Ended) : Type 0 where
  no_words : ((words : List (List ℕ)) → AreWords bytes words → ⊥) → SaysOnly 6 ended → CallEnds program bytes texts out reason ended
  no_memory : (words : List (List ℕ)) → AreWords bytes words → SaysOnly 5 ended → CallEnds program bytes texts out reason ended
  carried_out : (words : List (List ℕ)) (telling : Telling) → AreWords bytes words
      → EndsInMemory (EndsOf program words) (files_named words texts) (length out) (length reason) (take ended.written out) (take ended.told reason)
      ended.status telling
      → CallEnds program bytes texts out reason ended
