-- The laws of runs of the code of accepted sources.
use Rattle.std.specs.Prelude.{◌≡◌, ◌≤◌, ℕ, List, slice_get, Some}
use Rattle.rb_syntax.specs.Tree.{Tree}
use Rattle.rb_world.specs.Channels.{seen_copy, seen_count}
use Rattle.rb_world.specs.Kind.{Ends}
use Rattle.rb_world.specs.World.{Process}
use Rattle.rb_meaning.specs.Groups.{groups_of}
use Rattle.rb_code.specs.Instructions.Plain.{Code}
use Rattle.rb_code.specs.WordMachine.Turn.{Copy, Standing}
use Rattle.rb_code.specs.WordMachine.WordKind.{taken_by, word_kind}
use Rattle.rb_code.specs.WordMachine.WordRun.{word_run}
use Rattle.rb_prepare.specs.Laws.{OfEveryCode}

-- process number p of the world of the word machine after these turns
abbrev pub IsIn : Tree → Code → List ℕ → ℕ → Process Standing Copy → Type 0
IsIn tree c turns p q = slice_get (word_run c (groups_of tree) turns).0.processes p ≡ Some q

-- No receipt stands of a message that was taken back: by its cursor a receiver has never taken more than it can see, which is what the
-- sender had sent at the entry of its outermost level that the two do not share, or by now where there is none.
abbrev pub ReceiptsStand : Tree → Code → Type 0
ReceiptsStand tree c = (turns : List ℕ) (channel : ℕ) (ends : Ends) (sender receiver : Process Standing Copy)
    → slice_get c.channels channel ≡ Some ends → IsIn tree c turns ends.sender sender → IsIn tree c turns ends.receiver receiver
    → taken_by c receiver.state.process receiver.state.words channel (slice_get c.channels channel)
    ≤ seen_count (word_kind c (groups_of tree)) sender.state (seen_copy sender.levels receiver.levels) channel

-- so it is of the code of every accepted source
abbrev pub NothingTakenBack : Type 0
NothingTakenBack = OfEveryCode ReceiptsStand
