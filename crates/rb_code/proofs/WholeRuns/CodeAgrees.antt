-- Code that stands for a tree and has a table agrees with the tree's meaning.
use Rattle.std.proofs.Common.{ℕ, List}
use Rattle.rb_syntax.specs.Tree.{Tree}
use Rattle.rb_meaning.specs.Groups.{groups_of}
use Rattle.rb_meaning.specs.Nesting.{IsNested}
use Rattle.rb_scope.specs.InFrames.{Resolved}
use Rattle.rb_scope.specs.Limits.{IsWithinLimits}
use Rattle.rb_scope.specs.declared.slot.Slot.{Slot}
use Rattle.rb_code.specs.Agreement.Laws.{Agrees}
use Rattle.rb_code.specs.Instructions.Plain.{Code}
use Rattle.rb_code.specs.SoundCode.Sound.{HasTable, Table}
use Rattle.rb_code.specs.Agreement.StandsFor.{StandsFor}
use Rattle.rb_code.proofs.Agreeing.Callees.{has_callees}
use Rattle.rb_code.proofs.Agreeing.StepComes.{steps_come}
use Rattle.rb_code.proofs.Agreeing.StepOutcomes.{HasCursors}
use Rattle.rb_code.proofs.WholeRuns.ChannelsOfProcesses.{has_cursors, lists_channels}
use Rattle.rb_code.proofs.WholeRuns.TogetherLaws.{code_agrees}
use Rattle.rb_code.proofs.WholeRuns.UprightByTable.{StandsInTable, table_upright}

pub agrees_by_table : (tree : Tree) (slots : List Slot) (c : Code) (t : Table) → Resolved tree slots → IsWithinLimits tree
    → IsNested tree → StandsFor tree slots c
    → HasTable c (groups_of tree) t → (turns : List ℕ) → Agrees tree c turns
agrees_by_table tree slots c t resolved limits nested stands has turns =
    let lists = lists_channels tree slots c stands nested resolved in
    let cursors : (p : ℕ) → HasCursors c p = has_cursors tree slots c stands nested resolved in
    code_agrees tree slots c resolved limits nested stands cursors
    (steps_come tree slots c cursors stands.edition_is stands.channels_are (has_callees tree slots c stands resolved))
    (StandsInTable c (groups_of tree) t has lists) (table_upright c (groups_of tree) t has lists) turns
