-- A state of the tree's meaning and what the word machine has of the same process.
use Rattle.std.specs.Prelude.{◌≡◌, ◌≤◌, ℕ, ℤ, pos, List, length, slice_get, Some}
use Rattle.rb_base.specs.Limits.{most_words}
use Rattle.rb_syntax.specs.Tree.{Tree}
use Rattle.rb_world.specs.Kind.{Ends}
use Rattle.rb_meaning.specs.Environment.{words}
use Rattle.rb_meaning.specs.State.{State}
use Rattle.rb_meaning.specs.Step.{held_bytes}
use Rattle.rb_meaning.specs.Meaning.{sent_on, taken_on}
use Rattle.rb_scope.specs.Frames.{shape_of}
use Rattle.rb_scope.specs.declared.slot.Slot.{Slot}
use Rattle.rb_code.specs.Instructions.Plain.{Code}
use Rattle.rb_code.specs.WordMachine.Workspace.{OpenCall, cursor_place, held_place, part_of, word_at}
use Rattle.rb_code.proofs.InWords.LaidOut.{Laid, stacks_of}
use Rattle.rb_code.proofs.Agreeing.TextLeft.{Left, own_shape}

-- The words of process number p are those of the state: its variables, its held length, and a cursor for each channel of which it is
-- an end.
pub record WordsMeet (tree : Tree) (c : Code) (p : ℕ) (s : State) (all : List ℤ) (calls : List OpenCall) : Type 0 where
  pub front : List ℤ
  pub laid : Laid (part_of c p) front s.environment all calls
  pub globals : shape_of s.environment.globals ≡ own_shape tree p
  pub few : words s.environment ≤ most_words c.edition
  pub held : word_at all held_place ≡ pos (held_bytes s.held)
  pub sent : (channel : ℕ) (ends : Ends) → slice_get c.channels channel ≡ Some ends → ends.sender ≡ p
      → word_at all (cursor_place (part_of c p) channel) ≡ pos (length (sent_on s channel))
  pub taken : (channel : ℕ) (ends : Ends) → slice_get c.channels channel ≡ Some ends → ends.receiver ≡ p
      → word_at all (cursor_place (part_of c p) channel) ≡ pos (taken_on s channel)

-- The same, and what is left of its text stands at the address.
pub record Meets (tree : Tree) (slots : List Slot) (c : Code) (p : ℕ) (s : State) (at : ℕ) (all : List ℤ) (calls : List OpenCall) : Type 0 where
  pub words_meet : WordsMeet tree c p s all calls
  pub left : Left tree slots c p (stacks_of s.environment.calls) s.items calls at

-- where a copy was made, whose words `prior` reads: in the same frames and calls
pub record IsPrior (tree : Tree) (c : Code) (p : ℕ) (s : State) (calls : List OpenCall) (copy : State) (copied : List ℤ)
    (called : List OpenCall) : Type 0 where
  pub words_meet : WordsMeet tree c p copy copied called
  pub calls_are : called ≡ calls
  pub stacks_are : stacks_of copy.environment.calls ≡ stacks_of s.environment.calls
