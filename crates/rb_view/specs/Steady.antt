-- What is known of a machine between two turns of its run, and of what is kept in mind of it.
use Rattle.std.specs.Prelude.{◌≡◌, ◌<◌, ◌^◌, ℕ, zero, suc, ℤ, pos, List, [], length, map}
use Rattle.rb_world.specs.Kind.{Ends, Membership}
use Rattle.rb_world.specs.Slots.{Slots, slot_of}
use Rattle.rb_world.specs.Standing.{Each, IsShallow}
use Rattle.rb_code.specs.Instructions.Plain.{Code, Part}
use Rattle.rb_code.specs.SoundCode.WellFormed.{JoinsTwo}
use Rattle.rb_code.specs.WordMachine.WordRun.{variable_words, word_run}
use Rattle.rb_code.specs.WordMachine.Workspace.{part_of}
use Rattle.rb_machine.specs.Machine.{Seen}
use Rattle.rb_changes.specs.Noted.{WorldNoted, world_noted}
use Rattle.rb_changes.specs.Shown.{WorldShown, world_shown}
use Rattle.rb_picture.specs.Trace.{word_reading}
use Rattle.rb_view.specs.Noting.{words_long}

-- what is shown of its world, and what is kept in mind of that
abbrev pub shown_now : Seen → WorldShown
shown_now m = world_shown (word_reading m.code m.groups []) m.world

abbrev pub noted_now : Seen → WorldNoted
noted_now m = world_noted (shown_now m)

-- It has come to the world of a run, by as many turns as it has taken.
pub record IsOfRun (m : Seen) : Type 0 where
  pub turns : List ℕ
  pub world : m.world ≡ (word_run m.code m.groups turns).0
  pub taken : m.taken ≡ length turns

-- As many processes as the code has, each with the words of its own variables and with few levels; as many conversations as there are;
-- and channels between processes that are there.
pub record IsSteady (m : Seen) : Type 0 where
  pub processes : length m.world.processes ≡ length m.code.processes
  pub few : length m.code.processes < 2 ^ 32
  pub talks : length m.world.talks ≡ length m.groups
  pub shallow : Each IsShallow m.world.processes
  pub words : Each (λ p q. length (variable_words m.code q.state) ≡ (part_of m.code p).words) m.world.processes
  pub short : Each (λ _ (part : Part). part.words < 2 ^ 32) m.code.processes
  pub channels : Each (λ _ ends. JoinsTwo m.code ends) m.code.channels
  pub few_channels : length m.code.channels < 2 ^ 32
  pub few_talks : length m.groups < 2 ^ 32

-- What is kept in mind has the sizes of a code's lists.
pub record IsSized (c : Code) (groups : List Membership) (n : WorldNoted) : Type 0 where
  pub processes : map words_long n.processes ≡ map (λ (part : Part). part.words) c.processes
  pub channels : length n.channels ≡ length c.channels
  pub talks : length n.talks ≡ length groups

-- the value that was sent last on a channel, where so many were sent
abbrev pub last_in : List Ends → Slots → ℕ → ℕ → ℤ
last_in channels slots c zero = pos 0
last_in channels slots c (suc n) = slot_of channels slots c n
