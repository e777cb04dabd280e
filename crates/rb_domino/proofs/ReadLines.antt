-- A history that is read up to a line.
use Rattle.std.proofs.Common.{◌≡◌, ℕ, ◌+◌, ◌≤◌, ◌<◌, cond, List, [], ◌∷◌, length, vec_len, Ok, Err, ap, ◌∙◌, arith}
use Rattle.rb_base.specs.declared.fault.FaultName.{FaultName}
use Rattle.rb_base.specs.declared.fault.FaultName.TheVariants.{H5}
use Rattle.rb_base.specs.declared.limits.TheConstants.{MOST_BYTES}
use Rattle.rb_sched.specs.Schedule.{lines_of, words_of}
use Rattle.rb_domino.specs.declared.reader.Reader.{Reader}
use Rattle.rb_domino.specs.History.{after_line, has_failed, history_of, read_lines, read_words}
use Rattle.rb_domino.specs.Reading.{Stands, story_of}

-- the rest completes the history of the whole text
pub record ReadUpTo (text : List ℕ) (reader : Reader) (at : ℕ) (rest : List ℕ) : Type 0 where
  pub goes_on : history_of text ≡ read_lines (story_of reader) at (lines_of rest)
  pub stands : Stands reader
  pub few : vec_len reader.lines + length rest ≤ MOST_BYTES
  pub few_lines : at + length rest ≤ MOST_BYTES + 1

-- a line more, up to its fault
pub goes_on_by : (text : List ℕ) (reader : Reader) (at : ℕ) (rest line after : List ℕ) → ReadUpTo text reader at rest
    → lines_of rest ≡ line ∷ lines_of after
    → history_of text ≡ after_line (read_words (story_of reader) (words_of line)) at (λ new. read_lines new (at + 1) (lines_of after))
goes_on_by text reader at rest line after read cut = read.goes_on ∙ ap (read_lines (story_of reader) at) cut

-- a line more was read
pub read_more : (text : List ℕ) (old new : Reader) (at : ℕ) (rest line after : List ℕ) → ReadUpTo text old at rest
    → lines_of rest ≡ line ∷ lines_of after → length after < length rest
    → read_words (story_of old) (words_of line) ≡ Ok (story_of new) → Stands new → vec_len new.lines ≤ vec_len old.lines + 1
    → ReadUpTo text new (at + 1) after
read_more text old new at rest line after read cut shorter told stands grows = record {
  goes_on = goes_on_by text old at rest line after read cut ∙ ap (λ r. after_line r at (λ story. read_lines story (at + 1) (lines_of after))) told;
  stands = stands;
  few = omega (arith, read.few);
  few_lines = omega (arith, read.few_lines);
}

-- a line's fault is the text's
pub read_fault : (text : List ℕ) (old : Reader) (at : ℕ) (rest line after : List ℕ) (name : FaultName) → ReadUpTo text old at rest
    → lines_of rest ≡ line ∷ lines_of after → read_words (story_of old) (words_of line) ≡ Err name
    → history_of text ≡ Err (record { name = name; at = at })
read_fault text old at rest line after name read cut told =
    goes_on_by text old at rest line after read cut ∙ ap (λ r. after_line r at (λ story. read_lines story (at + 1) (lines_of after))) told

-- at the end
pub read_end : (text : List ℕ) (old : Reader) (at : ℕ) (rest : List ℕ) → ReadUpTo text old at rest → rest ≡ []
    → history_of text ≡ cond (has_failed (story_of old)) (Ok (story_of old)) (Err (record { name = H5; at = at }))
read_end text old at rest read none = read.goes_on ∙ ap (λ (bytes : List ℕ). read_lines (story_of old) at (lines_of bytes)) none
