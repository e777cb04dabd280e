-- The plain run of a record over a tree. A recovery point keeps only the lengths of the sent lists, the numbers taken and
-- the environment at entry, which `prior` reads; it is never put back.
use Rattle.std.specs.Prelude.{ℕ, List, [], ◌++◌, length, map, slice_get, Option, Result, Ok, Err}
use Rattle.std.specs.Option.{option_map, unwrap_or}
use Rattle.rb_syntax.specs.Tree.{Tree}
use Rattle.rb_world.specs.Kind.{Kind}
use Rattle.rb_world.specs.World.{World}
use Rattle.rb_world.specs.Turn.{opening}
use Rattle.rb_base.specs.declared.kept.Kept.{Kept}
use Rattle.rb_world.specs.Plain.{PlainEnd, Ended, StuckAt, plain_run}
use Rattle.rb_world.specs.Text.{outs_text, values_text}
use Rattle.rb_meaning.specs.Environment.{Environment}
use Rattle.rb_meaning.specs.State.{State, settle, with_held}
use Rattle.rb_meaning.specs.Step.{Nothing, step, wants_first, enter}
use Rattle.rb_meaning.specs.Groups.{channels_of, groups_of}
use Rattle.rb_meaning.specs.Meaning.{sent_on, taken_on, message_number, keep, opening_states, naming_of, final_of}

-- what a level of a plain run keeps
pub record EntryPoint : Type 0 where
  pub sent : List ℕ
  pub taken : List ℕ
  pub environment : Environment

-- what the entry of a block keeps of a state
abbrev pub entry_point : State → EntryPoint
entry_point s = record { sent = map length s.sent; taken = s.taken; environment = s.environment }

-- the variables at the entry of the innermost block, if there is one
abbrev pub environment_at : Option EntryPoint → Option Environment
environment_at point = option_map (λ e. e.environment) point

-- the kind of state that a plain run has, in which nothing is ever put back
abbrev pub plain_kind : Tree → Kind State EntryPoint Nothing
plain_kind tree = record {
  channels = channels_of tree;
  groups = groups_of tree;
  want = λ s. wants_first tree s.items;
  settle = λ point s. settle s;
  enter = enter;
  copy = entry_point;
  restore = λ s point. s;
  cut = λ n s. s;
  accept = λ s. s;
  step = λ alternate point s message memory. step tree alternate (environment_at point) s message;
  sent = λ s c. length (sent_on s c);
  taken = taken_on;
  sent_then = λ s point c. unwrap_or (slice_get point.sent c) 0;
  taken_then = λ s point c. unwrap_or (slice_get point.taken c) 0;
  message = λ memory s c n. message_number s c n;
  message_then = λ memory s point c n. message_number s c n;
  held = λ s. s.held;
  release = with_held [];
  keep = keep;
}

-- a world of a plain run
abbrev pub PlainWorld : Type 0
PlainWorld = World State EntryPoint Nothing

-- the world in which each plain run of a program begins
abbrev pub plain_opening : Tree → PlainWorld
plain_opening tree = opening (plain_kind tree) (opening_states tree 0 tree.processes) tt

-- the plain run of a record: its last world and its lines, or the turn at which it is stuck
abbrev pub plain_of : Tree → List Kept → PlainEnd State EntryPoint Nothing
plain_of tree turns = plain_run (plain_kind tree) turns (plain_opening tree)

-- its text, or the turn at which it is stuck
abbrev pub plain_text_at : Tree → PlainEnd State EntryPoint Nothing → Result (List ℕ) ℕ
plain_text_at tree (Ended w lines) = Ok (outs_text (naming_of tree) lines ++ values_text (naming_of tree) (final_of tree w))
plain_text_at tree (StuckAt turn) = Err turn

-- the text of the plain run of a record, or the turn at which it is stuck
abbrev pub plain_text : Tree → List Kept → Result (List ℕ) ℕ
plain_text tree turns = plain_text_at tree (plain_of tree turns)
