-- A machine that has run.
use Rattle.std.specs.Prelude.{◌≡◌, ◌+◌, ℕ, List, [], length, replicate}
use Rattle.std.specs.List.{AllZip}
use Rattle.rb_base.specs.declared.event.Report.{Report}
use Rattle.rb_base.specs.declared.names.Names.{Names}
use Rattle.rb_world.specs.Turn.{run}
use Rattle.rb_code.specs.Instructions.Plain.{Code}
use Rattle.rb_code.specs.Instructions.Variables.{VariablesLie}
use Rattle.rb_code.specs.WordMachine.WordKind.{word_kind}
use Rattle.rb_machine.specs.Machine.{Seen}

-- no released line waits
abbrev pub NoneWaits : Seen → Type 0
NoneWaits m = m.waiting ≡ replicate (length m.world.processes) []

-- the machine once these turns were taken and their lines written
abbrev pub ran : Seen → List ℕ → Seen
ran m turns = record m {
  world = (run (word_kind m.code m.groups) (m.taken + 1) turns m.world).0;
  taken = m.taken + length turns;
}

-- Names fit a code: so it is of each process, and each channel has a name.
pub record NamesFit (c : Code) (names : Names) : Type 0 where
  pub processes : AllZip VariablesLie names.processes.items c.processes
  pub channels : length names.channels.items ≡ length c.channels

-- a turn told no event, and no line that it released waits
pub record HasNoLines (report : Report) (m : Seen) : Type 0 where
  pub events : report.events.items ≡ []
  pub waits : NoneWaits m
