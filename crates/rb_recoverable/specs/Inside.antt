-- What the parts of a process stand for, and what ties them.
use Rattle.std.specs.Prelude.{◌≡◌, ℕ, ◌+◌, ◌<◌, ◌≤◌, ℤ, pos, List, [], ◌∷◌, map, length, take, reverse}
use Rattle.std.specs.List.{AllByRecursion}
use Rattle.rb_base.specs.declared.limits.TheConstants.{MOST_OPEN_CALLS, MOST_OPEN_LEVELS}
use Rattle.rb_meaning.specs.Environment.{natural}
use Rattle.rb_world.specs.World.{Level}
use Rattle.rb_cell.specs.Store.{Store}
use Rattle.rb_cache.specs.Copies.{RecoveryCache, Fits, copies, open_levels}
use Rattle.rb_hold.specs.Held.{TwoLists, held_bytes}
use Rattle.rb_code.specs.WordMachine.Workspace.{OpenCall, cut_held, held_place, word_at}
use Rattle.rb_code.specs.WordMachine.Turn.{Copy}
use Rattle.rb_recoverable.specs.Places.{most_places}
use Rattle.rb_recoverable.specs.Contents.{Contents, facts_of}
use Rattle.rb_recoverable.specs.Marks.{mark_used}
use Rattle.rb_recoverable.specs.declared.recoverable.LevelMark.{LevelMark}
use Rattle.rb_recoverable.specs.declared.recoverable.OpenCall.{OpenCall as Held}

-- an open call, and all of them with the running one first
abbrev pub call_of : Held → OpenCall
call_of one = record { back = one.back; base = one.base }

abbrev pub calls_of : List Held → List OpenCall
calls_of calls = reverse (map call_of calls)

-- a level by its mark and the clock, with the words of its copy
abbrev pub level_of : ℕ → LevelMark → List ℤ → List Held → Level Copy
level_of clock mark words calls = record {
  facts = facts_of mark.facts;
  alternate = mark.alternate;
  used = mark_used clock mark;
  copy = record { at = mark.at; words = words; calls = calls_of (take mark.calls calls); last_kept = mark.last_kept };
}

abbrev pub levels_of : ℕ → List LevelMark → List (List ℤ) → List Held → List (Level Copy)
levels_of clock [] copied calls = []
levels_of clock (mark ∷ marks) [] calls = []
levels_of clock (mark ∷ marks) (words ∷ copied) calls = level_of clock mark words calls ∷ levels_of clock marks copied calls

abbrev pub contents : ℕ → List ℤ → RecoveryCache → List Held → List LevelMark → TwoLists → Contents
contents clock words cache calls marks lines = record {
  words = words;
  calls = calls_of calls;
  held = lines.held;
  touched = open_levels cache;
  levels = levels_of clock marks (copies words cache) calls;
  waiting = lines.released;
}

-- numbers that do not fall, up to a last one
abbrev pub first_or : List ℕ → ℕ → ℕ
first_or [] last = last
first_or (n ∷ ns) last = n

abbrev pub Rise : List ℕ → ℕ → Type 0
Rise [] last = Unit {0}
Rise (n ∷ ns) last = (n ≤ first_or ns last) × Rise ns last

-- how many bytes of held lines words tell of
abbrev pub told : List ℤ → ℕ
told words = natural (word_at words held_place)

-- the held length of a copy is that of the first of these lines, which are more for a level further in
pub record IsFront (lines : List (List ℕ)) (words : List ℤ) : Type 0 where
  pub some : 0 < length words
  pub bytes : word_at words held_place ≡ pos (held_bytes (cut_held (told words) lines))

abbrev pub Fronts : List (List ℕ) → List (List ℤ) → Type 0
Fronts lines [] = Unit {0}
Fronts lines (words ∷ outer) = IsFront lines words × Fronts (cut_held (told words) lines) outer

abbrev pub calls_at : LevelMark → ℕ
calls_at mark = mark.calls

abbrev pub height_at : LevelMark → ℕ
height_at mark = mark.height

-- a mark's level began no later than the clock stands
abbrev pub HasBegun : ℕ → LevelMark → Type 0
HasBegun clock mark = mark.since ≤ clock

-- a mark's level is not beyond its bound before the clock is beyond a deadline
abbrev pub IsWithin : ℕ → LevelMark → Type 0
IsWithin deadline mark = deadline ≤ mark.since + mark.facts.bound

-- each deadline that a mark keeps is one of the levels around it
abbrev pub KeepDeadlines : List LevelMark → Type 0
KeepDeadlines [] = Unit {0}
KeepDeadlines (mark ∷ marks) = AllByRecursion (λ inner. IsWithin inner.around mark) marks × KeepDeadlines marks

-- What ties the marks to the clock, and to the deadline up to which it counts turns without a look at them.
pub record IsTimed (clock deadline : ℕ) (marks : List LevelMark) : Type 0 where
  pub begun : AllByRecursion (HasBegun clock) marks
  pub within : AllByRecursion (IsWithin deadline) marks
  pub around : KeepDeadlines marks

-- What ties the parts. The words are no fewer than at the entry of each level, whose mark tells how many there were, and so are the
-- calls; the held length is that of the held lines, and in each copy that of the lines that were held then; and no call has the held
-- length among its words.
pub record IsTied (clock deadline : ℕ) (store : Store) (cache : RecoveryCache) (calls : List Held) (room : ℕ) (marks : List LevelMark) (marks_room : ℕ)
    (lines : TwoLists) : Type 0 where
  pub limit_is : store.limit ≡ most_places
  pub few_words : length store.words ≤ most_places
  pub levels_limit : cache.limits.levels ≡ MOST_OPEN_LEVELS
  pub words_limit : cache.limits.words ≡ most_places
  pub few_calls : length calls ≤ MOST_OPEN_CALLS
  pub many_calls : MOST_OPEN_CALLS ≤ room
  pub few_levels : length marks ≤ MOST_OPEN_LEVELS
  pub many_levels : MOST_OPEN_LEVELS ≤ marks_room
  pub levels_are : length marks ≡ length cache.regions
  pub fits : Fits store.words cache
  pub heights : Rise (map length (copies store.words cache)) (length store.words)
  pub tall : map height_at marks ≡ map length (copies store.words cache)
  pub entries : Rise (map calls_at marks) (length calls)
  pub some : 0 < length store.words
  pub held : word_at store.words held_place ≡ pos (held_bytes lines.held)
  pub fronts : Fronts lines.held (reverse (copies store.words cache))
  pub bases : AllByRecursion (λ (call : Held). 0 < call.base) calls
  pub timed : IsTimed clock deadline marks
