-- Three small kinds of process state, on which a clause can state what is proved of every kind: a process does deeds in
-- their order and prints lines. One kind copies all at an entry; one counts steps in its memory beside that; and one copies
-- the number of held lines alone, and cuts them when a copy is put back.
use Rattle.std.specs.Prelude.{◌≡◌, ◌≤◌, ◌<◌, ℕ, ℤ, ◌+◌, Bool, List, [], ◌∷◌, ◌++◌, length, slice_get, take, Option, Some, None}
use Rattle.rb_base.specs.declared.event.Cause.TheVariants.{Fail, Overrun}
use Rattle.rb_world.specs.Kind.{Facts, Kind, Membership, Want, NothingLeft, Enters, Starts, Acts, Stepped, Trapped, Went, Held}
use Rattle.rb_world.specs.World.{World, Level, Running, with_process}
use Rattle.rb_world.specs.Reject.{reject}
use Rattle.rb_world.specs.Turn.{Told, move, opening, run, turn_used, undone}
use Rattle.rb_base.specs.declared.kept.Kept.{Kept}
use Rattle.rb_world.specs.Plain.{PlainEnd, Ended, StuckAt, plain_run}
use Rattle.rb_world.specs.Standing.{Each, IsStanding}

-- a deed: to print a line, enter a recovery block, start an alternate, end it, or give up
pub data Deed : Type 0 where
  Prints : (line : List ℕ) → Deed
  EntersAt : (facts : Facts) → Deed
  Begins : Deed
  Ends : Deed
  GivesUp : Deed

-- what is left to do, and the lines that are held
pub record Doing : Type 0 where
  pub deeds : List Deed
  pub lines : List (List ℕ)

-- what is left to do, and how many lines were held
pub record Marked : Type 0 where
  pub deeds : List Deed
  pub held : ℕ

-- what stands first, by the first deed that is left
abbrev pub first_want : List Deed → Want
first_want [] = NothingLeft
first_want (Prints line ∷ deeds) = Acts
first_want (EntersAt facts ∷ deeds) = Enters facts
first_want (Begins ∷ deeds) = Starts
first_want (Ends ∷ deeds) = Acts
first_want (GivesUp ∷ deeds) = Acts

-- a start stands in the place of an entry
abbrev pub entered : List Deed → List Deed
entered [] = []
entered (deed ∷ deeds) = Begins ∷ deeds

-- the same process with these deeds left to do
abbrev pub with_deeds : List Deed → Doing → Doing
with_deeds deeds s = record { deeds = deeds; lines = s.lines }

-- a line joins the held lines, and these deeds are left to do
abbrev pub print_line : List ℕ → List Deed → Doing → Doing
print_line line deeds s = record { deeds = deeds; lines = s.lines ++ line ∷ [] }

-- the first deed is done: an end is an acceptance test that holds, and to give up is a trap
abbrev pub do_first : {M : Type 0} → List Deed → Doing → M → Stepped Doing M
do_first [] s m = Went s m
do_first (Prints line ∷ deeds) s m = Went (print_line line deeds s) m
do_first (EntersAt facts ∷ deeds) s m = Went s m
do_first (Begins ∷ deeds) s m = Went (with_deeds deeds s) m
do_first (Ends ∷ deeds) s m = Held (with_deeds deeds s)
do_first (GivesUp ∷ deeds) s m = Trapped Fail

-- the same process with no line held
abbrev pub without_lines : Doing → Doing
without_lines s = record { deeds = s.deeds; lines = [] }

-- all is copied; `more` is done to the memory in each step
abbrev pub copies_all : {M : Type 0} → List Membership → (M → M) → Kind Doing Doing M
copies_all groups more = record {
  channels = [];
  groups = groups;
  want = λ s. first_want s.deeds;
  settle = λ copy s. s;
  enter = λ s. with_deeds (entered s.deeds) s;
  copy = λ s. s;
  restore = λ s copy. copy;
  cut = λ n s. s;
  accept = λ s. s;
  step = λ alternate copy s message m. do_first s.deeds s (more m);
  sent = λ s c. 0;
  taken = λ s c. 0;
  sent_then = λ s copy c. 0;
  taken_then = λ s copy c. 0;
  message = λ m s c n. ℤ.pos 0;
  message_then = λ m s copy c n. ℤ.pos 0;
  held = λ s. s.lines;
  release = λ s. without_lines s;
  keep = λ t alternate s m. (s, m);
}

-- what a recovery point keeps, which is what is left to do and how many lines are held.
abbrev pub marked : Doing → Marked
marked s = record { deeds = s.deeds; held = length s.lines }

-- such a recovery point is put back: the lines that were held since are cut off
abbrev pub back_to_mark : Doing → Marked → Doing
back_to_mark s mark = record { deeds = mark.deeds; lines = take mark.held s.lines }

-- the kind whose recovery points keep the number of held lines alone
abbrev pub copies_marks : List Membership → Kind Doing Marked (Unit {0})
copies_marks groups = record {
  channels = [];
  groups = groups;
  want = λ s. first_want s.deeds;
  settle = λ copy s. s;
  enter = λ s. with_deeds (entered s.deeds) s;
  copy = marked;
  restore = back_to_mark;
  cut = λ n s. s;
  accept = λ s. s;
  step = λ alternate copy s message m. do_first s.deeds s m;
  sent = λ s c. 0;
  taken = λ s c. 0;
  sent_then = λ s copy c. 0;
  taken_then = λ s copy c. 0;
  message = λ m s c n. ℤ.pos 0;
  message_then = λ m s copy c n. ℤ.pos 0;
  held = λ s. s.lines;
  release = λ s. without_lines s;
  keep = λ t alternate s m. (s, m);
}

-- the kind whose recovery points are whole copies, and which has no memory
abbrev pub copies_whole : List Membership → Kind Doing Doing (Unit {0})
copies_whole groups = copies_all groups (λ m. m)

-- the kind whose recovery points are whole copies, and whose memory counts steps
abbrev pub counts_steps : List Membership → Kind Doing Doing ℕ
counts_steps groups = copies_all groups (λ m. m + 1)

-- what is told of a run from the opening
abbrev pub told_of_run : {S C M : Type 0} → Kind S C M → List ℕ → List S → M → List Told
told_of_run k turns states m = (run k 1 turns (opening k states m)).1

-- the world that a run ends in
abbrev pub world_of_run : {S C M : Type 0} → Kind S C M → List ℕ → List S → M → World S C M
world_of_run k turns states m = (run k 1 turns (opening k states m)).0

-- what is told of the plain run of a record, or nothing where it is stuck
abbrev pub told_of_end : {S C M : Type 0} → PlainEnd S C M → Option (List (ℕ × Told))
told_of_end (Ended w lines) = Some lines
told_of_end (StuckAt t) = None

-- what is told of the plain run of a record from the opening, or nothing where it is stuck
abbrev pub told_of_record : {S C M : Type 0} → Kind S C M → List Kept → List S → M → Option (List (ℕ × Told))
told_of_record k turns states m = told_of_end (plain_run k turns (opening k states m))

-- to count steps changes nothing that is told
abbrev pub CountsAreUnseen : Type 0
CountsAreUnseen =
    (groups : List Membership) (turns : List ℕ) (states : List Doing) (n : ℕ)
    → told_of_run (counts_steps groups) turns states n ≡ told_of_run (copies_whole groups) turns states (tt {0})

-- nor does it to copy the number of held lines in place of the lines; in a run, and in the plain run of a record
abbrev pub MarksAreUnseen : Type 0
MarksAreUnseen =
    (groups : List Membership) (turns : List ℕ) (states : List Doing)
    → told_of_run (copies_whole groups) turns states (tt {0}) ≡ told_of_run (copies_marks groups) turns states (tt {0})

-- the plain run of a record tells the same where the number of held lines is copied as where all is
abbrev pub MarksAreUnseenInRecords : Type 0
MarksAreUnseenInRecords =
    (groups : List Membership) (turns : List Kept) (states : List Doing)
    → told_of_record (copies_whole groups) turns states (tt {0}) ≡ told_of_record (copies_marks groups) turns states (tt {0})

-- every world of a run with counted steps keeps its size, has no level too many, and none for who has failed
abbrev pub CountedRunsStand : Type 0
CountedRunsStand =
    (groups : List Membership) (turns : List ℕ) (states : List Doing) (n : ℕ)
    → IsStanding (counts_steps groups) states (world_of_run (counts_steps groups) turns states n)

-- Of the levels of a process that are beyond their bounds, a turn rejects the outermost: every level outside it has a turn
-- left, it has none, and of the levels inside it nothing is asked.
abbrev pub OutermostIsRejected : Type 0
OutermostIsRejected =
    (groups : List Membership) (t p : ℕ) (w : World Doing Doing (Unit {0}))
    (s : Doing) (outside : List (Level Doing)) (over : Level Doing) (inside : List (Level Doing)) (at_line : Bool)
    → slice_get w.processes p ≡ Some (record { state = s; levels = outside ++ over ∷ inside; at_line = at_line; status = Running })
    → Each (λ _ level. level.used < level.facts.bound) outside
    → over.facts.bound ≤ over.used
    → move (copies_whole groups) t p w
    ≡ undone (reject (copies_whole groups) p (length outside + 1) Overrun
    (with_process p (λ _. turn_used (record { state = s; levels = outside ++ over ∷ inside; at_line = at_line; status = Running })) w))
