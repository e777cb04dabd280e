-- What a session shows: how each process stands, and the words of its variables; and changes, by which one such picture becomes another.
use Rattle.std.specs.Prelude.{ℕ, ℤ, Bool, true, false, List, [], ◌∷◌, map, slice_set}
use Rattle.rb_base.specs.declared.event.State.{State}
use Rattle.rb_base.specs.Lines.{belonging}
use Rattle.rb_cell.specs.Store.{Store}
use Rattle.rb_back.specs.declared.view.Change.{Change}
use Rattle.rb_back.specs.declared.view.Change.TheVariants.{Word, Standing}
use Rattle.rb_back.specs.declared.view.View.{View}

pub record Picture : Type 0 where
  pub states : List State
  pub words : List (List ℤ)

-- the words of lists of cells
abbrev pub words_in : List Store → List (List ℤ)
words_in cells = map (λ (one : Store). one.words) cells

abbrev pub picture : {L : Type 0} → View L → Picture
picture view = record { states = view.states.items; words = words_in view.words.items }

-- one word of a process is another
abbrev pub with_word : ℕ → ℕ → ℤ → List (List ℤ) → List (List ℤ)
with_word p at value words = slice_set words p (slice_set (belonging words p) at value)

-- a change that is made, and one that is taken back
abbrev pub redone : Change → Picture → Picture
redone (Word p at before after) shown = record shown { words = with_word p at after shown.words }
redone (Standing p before after) shown = record shown { states = slice_set shown.states p after }

abbrev pub undone : Change → Picture → Picture
undone (Word p at before after) shown = record shown { words = with_word p at before shown.words }
undone (Standing p before after) shown = record shown { states = slice_set shown.states p before }

-- changes that are made in their order, and taken back with the last one first
abbrev pub redone_all : List Change → Picture → Picture
redone_all [] shown = shown
redone_all (change ∷ changes) shown = redone_all changes (redone change shown)

abbrev pub undone_all : List Change → Picture → Picture
undone_all [] shown = shown
undone_all (change ∷ changes) shown = undone change (undone_all changes shown)

-- a change of a word
abbrev pub is_word : Change → Bool
is_word (Word p at before after) = true
is_word (Standing p before after) = false
