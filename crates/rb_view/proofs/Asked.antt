-- What a process asks of its next turn, and where that stands, by what is read of it.
use Rattle.std.proofs.Common.{◌≡◌, ℕ, Bool, true, false, cond, List, [], ◌∷◌, length, slice_get, option_map, Option, Some, None, refl, ap, ◌∙◌, arith}
use Rattle.rb_world.specs.Kind.{Membership, Want, NothingLeft, SendsOn, ReceivesOn, MayReceiveOn, Enters, Starts, Acts}
use Rattle.rb_world.specs.World.{Level, Process, ProcessStatus, Running, Finished, FailedWith, last_of}
use Rattle.rb_code.specs.Instructions.Plain.{Block, Code}
use Rattle.rb_code.specs.WordMachine.Turn.{Copy, Standing, want}
use Rattle.rb_code.specs.WordMachine.WordKind.{word_kind}
use Rattle.rb_proc.specs.Process.{wanted_by, wanted_now, wanted_of}
use Rattle.rb_recoverable.specs.declared.level_view.LevelView.{LevelView}
use Rattle.rb_proc.specs.declared.answers.Wanted.{Wanted}
use Rattle.rb_proc.specs.declared.answers.Wanted.TheVariants as wanted
use Rattle.rb_recovery.specs.Channels.{conversation_in}
use Rattle.rb_recovery.specs.Reading.{line_stood_at}
use Rattle.rb_recovery.specs.Innermost.{IsInnermost}
use Rattle.rb_picture.specs.Trace.{test_of}
use Rattle.rb_picture.specs.Turns.{asked_first, asked_now, asked_of, line_asked, start_asked}
use Rattle.rb_picture.specs.declared.asked.Asked.{Asked}
use Rattle.rb_view.specs.Asking.{asked_by, is_line, start_seen}

-- the start that an innermost level is seen to try
pub start_is : (o : Option (Level Copy)) (seen : Option LevelView) → IsInnermost o seen → start_seen seen ≡ start_asked o
start_is None None h = refl
start_is None (Some view) h = absurd h
start_is (Some level) None h = absurd h
start_is (Some level) (Some view) h = λ j. start_asked (Some (record level { facts = h.0 j; alternate = h.1 j }))

asked_first_is : (want : Want) (line : Option ℕ) (o : Option (Level Copy)) → asked_by (wanted_by want) line (start_asked o) ≡ asked_first want o
asked_first_is NothingLeft line o = refl
asked_first_is (SendsOn c) line o = refl
asked_first_is (ReceivesOn c) line o = refl
asked_first_is (MayReceiveOn c) line o = refl
asked_first_is (Enters facts) line o = refl
asked_first_is Starts line o = refl
asked_first_is Acts line o = refl

line_is : (o : Option (Level Copy)) (start : Asked) → asked_by wanted.Line (conversation_in o) start ≡ line_asked o
line_is None start = refl
line_is (Some level) start = refl

asked_now_is : (c : Code) (status : ProcessStatus) (at_line : Bool) (s : Standing) (o : Option (Level Copy))
    → asked_by (wanted_now c status at_line s) (cond at_line (conversation_in o) None) (start_asked o) ≡ asked_now status at_line (want c s) o
asked_now_is c Running true s o = line_is o (start_asked o)
asked_now_is c Running false s o = asked_first_is (want c s) None o
asked_now_is c Finished at_line s o = refl
asked_now_is c (FailedWith cause) at_line s o = refl

pub asked_is : (c : Code) (groups : List Membership) (q : Process Standing Copy) (w : Wanted) (line : Option ℕ) (seen : Option LevelView)
    → w ≡ wanted_of c q → line ≡ line_stood_at q → IsInnermost (last_of q.levels) seen → asked_by w line (start_seen seen) ≡ asked_of (word_kind c groups) q
asked_is c groups q w line seen is stood inner =
    (λ j. asked_by (is j) (stood j) (start_is (last_of q.levels) seen inner j)) ∙ asked_now_is c q.status q.at_line q.state (last_of q.levels)

-- a process that runs stands at a test line where that is wanted
wanted_no_line : (want : Want) → is_line (wanted_by want) ≡ false
wanted_no_line NothingLeft = refl
wanted_no_line (SendsOn c) = refl
wanted_no_line (ReceivesOn c) = refl
wanted_no_line (MayReceiveOn c) = refl
wanted_no_line (Enters facts) = refl
wanted_no_line Starts = refl
wanted_no_line Acts = refl

at_line_now : (c : Code) (at_line : Bool) (s : Standing) → is_line (wanted_now c Running at_line s) ≡ at_line
at_line_now c true s = refl
at_line_now c false s = wanted_no_line (want c s)

pub at_line_is : (c : Code) (q : Process Standing Copy) (w : Wanted) → w ≡ wanted_of c q → q.status ≡ Running → is_line w ≡ q.at_line
at_line_is c q w is runs =
    ap is_line is ∙ ap (λ (status : ProcessStatus). is_line (wanted_now c status q.at_line q.state)) runs ∙ at_line_now c q.at_line q.state

-- the innermost of no levels
pub none_innermost : (levels : List (Level Copy)) → 0 ≡ length levels → IsInnermost (last_of levels) None
none_innermost [] e = tt
none_innermost (level ∷ levels) e = absurd (omega (arith, e))

-- the address of the test of a level that is seen
pub test_is : (c : Code) (o : Option (Level Copy)) (view : LevelView) → IsInnermost o (Some view)
    → option_map (λ (one : Block). one.test) (slice_get c.blocks view.block) ≡ test_of c o
test_is c None view h = absurd h
test_is c (Some level) view h = λ j. option_map (λ (one : Block). one.test) (slice_get c.blocks (h.0 j).number)

pub no_test : (c : Code) (o : Option (Level Copy)) → IsInnermost o None → None ≡ test_of c o
no_test c None h = refl
no_test c (Some level) h = absurd h
