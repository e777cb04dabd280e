-- What contracts see of what a process can recover.
use Rattle.std.specs.Prelude.{◌≡◌, ℕ, ◌+◌, ◌-◌, ◌<◌, ◌^◌, ℤ, pos, Bool, MatchBool, List, [], ◌∷◌, ◌++◌, length, take, slice_set, Option, Some, None}
use Rattle.rb_meaning.specs.Environment.{natural}
use Rattle.rb_world.specs.Kind.{Facts}
use Rattle.rb_world.specs.World.{Level}
use Rattle.rb_cache.specs.Copies.{Level as Touched, change_last, entered, joined}
use Rattle.rb_code.specs.WordMachine.Workspace.{OpenCall, cut_held, held_place, word_at}
use Rattle.rb_code.specs.WordMachine.Turn.{Copy}
use Rattle.rb_recoverable.specs.declared.recoverable.BlockFacts.{BlockFacts}
use Rattle.rb_recoverable.specs.declared.recoverable.LevelMark.{LevelMark}

-- the words, the open calls with the running one first, the held lines, the touched places of each open level, the open levels with their
-- copies, and the released lines that wait
pub record Contents : Type 0 where
  pub words : List ℤ
  pub calls : List OpenCall
  pub held : List (List ℕ)
  pub touched : List Touched
  pub levels : List (Level Copy)
  pub waiting : List (List ℕ)

-- the facts of a recovery block
abbrev pub facts_of : BlockFacts → Facts
facts_of one = record {
  number = one.number;
  line = one.line;
  conversation = one.conversation;
  bound = one.bound;
  alternates = one.alternates;
}

-- a line joins the held ones, and the held length is written, which is word 0
abbrev pub line_added : ℕ → List ℕ → Contents → Contents
line_added bytes line r = record r {
  words = slice_set r.words held_place (pos bytes);
  touched = change_last (joined (held_place ∷ [])) r.touched;
  held = r.held ++ line ∷ [];
}

-- lines are held; or none is, and the held length is 0 as it stands
abbrev pub TellsHeld : Bool → List (List ℕ) → List ℤ → Type 0
TellsHeld some lines words = MatchBool some (0 < length lines) ((lines ≡ []) × (slice_set words held_place (pos 0) ≡ words))

-- where no level is open, the held lines are released, which is what waits then; else nothing is
abbrev pub released_by : List (Level Copy) → Contents → Contents
released_by [] r = record r { words = slice_set r.words held_place (pos 0); held = []; waiting = r.held }
released_by (level ∷ levels) r = record r { waiting = [] }

-- the copy of a level is put back: the levels inside it go, nothing is touched in it, and the lines that were held at its entry stay
abbrev pub back_at : ℕ → Contents → Level Copy → Contents
back_at k r level = record {
  words = level.copy.words;
  calls = level.copy.calls;
  held = cut_held (natural (word_at level.copy.words held_place)) r.held;
  touched = change_last (λ touched. entered touched.height) (take (k + 1) r.touched);
  levels = take (k + 1) r.levels;
  waiting = r.waiting;
}

abbrev pub PutBack : ℕ → Contents → Option (Level Copy) → Contents → Type 0
PutBack k old None new = ⊥
PutBack k old (Some level) new = new ≡ back_at k old level

-- a mark has the address and the last kept turn of a level's copy
abbrev pub IsMarkOf : Option (Level Copy) → LevelMark → Type 0
IsMarkOf None mark = ⊥
IsMarkOf (Some level) mark = (mark.at ≡ level.copy.at) × (mark.last_kept ≡ level.copy.last_kept)

-- a level is there, and its alternate can rise
abbrev pub IsBelowLast : Option (Level Copy) → Type 0
IsBelowLast None = ⊥
IsBelowLast (Some level) = level.alternate < 2 ^ 32 - 1
