-- What a kept turn makes of the world.
use Rattle.std.specs.Prelude.{◌≡◌, ◌⊎◌, ℕ, nat_eq, Bool, true, Option, Some, None, option_map}
use Rattle.rb_syntax.specs.Tree.{Tree, Command, Recovering}
use Rattle.rb_syntax.specs.Plain.{recovery_block}
use Rattle.rb_world.specs.Kind.{SendsOn, ReceivesOn, MayReceiveOn, Acts}
use Rattle.rb_world.specs.World.{with_process}
use Rattle.rb_base.specs.declared.kept.Kept.{Kept}
use Rattle.rb_world.specs.Plain.{plain_acts}
use Rattle.rb_meaning.specs.Step.{wants, wants_first}
use Rattle.rb_meaning.specs.PlainRun.{PlainWorld}
use Rattle.rb_walk.specs.declared.items.First.{First}
use Rattle.rb_walk.specs.declared.items.First.TheVariants as first
use Rattle.rb_levels.specs.declared.process.Process.{Process}
use Rattle.rb_plain.specs.declared.want.Want.{Want}
use Rattle.rb_plain.specs.declared.want.Want.TheVariants as asks
use Rattle.rb_walk.specs.Items.{IsFirst}
use Rattle.rb_walk.specs.States.{state_of}
use Rattle.rb_levels.specs.Worlds.{unkept_kind}
use Rattle.rb_levels.specs.Moves.{PlainProcess, IsReady}

-- the world in which a process has become this one
abbrev pub with_moved : ℕ → PlainWorld → Option PlainProcess → Option PlainWorld
with_moved p w moved = option_map (λ q. with_process p (λ _. q) w) moved

-- the world after a running process acted, if the turn is not stuck
abbrev pub acted_world : Tree → Kept → PlainProcess → PlainWorld → Option PlainWorld
acted_world tree kept q w =
    option_map (λ moved. moved.world) (plain_acts (unkept_kind tree) kept q w (wants_first tree q.state.items))

-- an alternate is given for a start alone
abbrev pub may_give : First → ℕ → Bool
may_give (first.Start block) alternate = true
may_give first.Nothing alternate = nat_eq alternate 0
may_give (first.Statement statement) alternate = nat_eq alternate 0
may_give (first.Test block) alternate = nat_eq alternate 0
may_give first.BlockEnd alternate = nat_eq alternate 0
may_give first.CallEnd alternate = nat_eq alternate 0

-- this is what a statement asks of the turn
abbrev pub IsWanted : Tree → Command → Want → Type 0
IsWanted tree command (asks.Room channel) = wants tree command ≡ SendsOn channel
IsWanted tree command (asks.Message channel) = wants tree command ≡ ReceivesOn channel
IsWanted tree command (asks.MessageOrElse channel) = wants tree command ≡ MayReceiveOn channel
IsWanted tree command (asks.Level block) = command ≡ Recovering (recovery_block block.now)
IsWanted tree command asks.Nothing = wants tree command ≡ Acts

-- a process that may not exist runs, away from every test line, and this stands first in it; or it does not
abbrev pub IsFirstReady : Option Process → Option First → Type 0
IsFirstReady None None = Unit {0}
IsFirstReady None (Some first) = ⊥
IsFirstReady (Some one) None = (one.is_done ≡ true) ⊎ (one.at_line ≡ true)
IsFirstReady (Some one) (Some first) = IsReady one × IsFirst (state_of one.state).items first
