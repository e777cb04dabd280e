-- Code that stands for an accepted tree: what is known of it, each of its processes and each of its addresses.
use Rattle.std.proofs.Common.{◌≡◌, ℕ, ◌+◌, Bool, false, List, [], length, slice_get, Option, Some, refl, ap, ◌∙◌, arith}
use Rattle.std.proofs.lemmas.List.{length-map}
use Rattle.rb_syntax.specs.Numbered.{IsNumbered}
use Rattle.rb_syntax.specs.Tree.{Identifier, Tree}
use Rattle.rb_meaning.specs.Groups.{conversation_of, ends_of, groups_of}
use Rattle.rb_meaning.specs.Nesting.{IsNested}
use Rattle.rb_scope.specs.InFrames.{Resolved}
use Rattle.rb_scope.specs.Limits.{HasDistinctNames, IsWithinLimits}
use Rattle.rb_scope.specs.Rules.{faults_of}
use Rattle.rb_scope.specs.Spelled.{IsSpelled}
use Rattle.rb_scope.specs.declared.slot.Slot.{Slot}
use Rattle.rb_scope.proofs.DistinctNames.{have_distinct_names}
use Rattle.rb_scope.proofs.WithinLimits.{within_limits}
use Rattle.rb_nest.specs.Rules.{nesting_faults}
use Rattle.rb_nest.proofs.Accepted.{accepted_are_nested}
use Rattle.rb_code.specs.Instructions.Plain.{Block, Code}
use Rattle.rb_code.specs.Agreement.RoomInTree.{FewOperands}
use Rattle.rb_code.specs.SoundCode.Sound.{HasTable, Table}
use Rattle.rb_code.specs.Agreement.StandsFor.{StandsFor}
use Rattle.rb_code.specs.declared.instr.Instr.{Instr}
use Rattle.rb_code.specs.declared.instr.Instr.TheVariants.{Enter, Start, Test}
use Rattle.rb_code.proofs.Tables.CodeTables.{code_has_table}
use Rattle.rb_judge.specs.HasAlternates.{HasAlternates}
use Rattle.rb_prepare.proofs.Walking.Laid.{one_if}
use Rattle.rb_prepare.proofs.Walking.Walked.{IsPlain}
use Rattle.rb_prepare.proofs.Joining.Weights.{Weight}
use Rattle.rb_prepare.proofs.Walking.WholeWalk.{Spread, ends_of as places_of, spread, whole_entrances}

-- Code that stands for an accepted tree.
pub record IsCodeOf (tree : Tree) (slots : List Slot) (c : Code) : Type 0 where
  pub resolved : Resolved tree slots
  pub scoped : faults_of tree ≡ []
  pub nested : nesting_faults tree ≡ []
  pub spelled : IsSpelled tree
  pub numbered : IsNumbered tree
  pub alternates : HasAlternates tree
  pub few : FewOperands tree
  pub stands : StandsFor tree slots c

module _ (tree : Tree) (slots : List Slot) (c : Code) (code : IsCodeOf tree slots c) where
  pub limits : IsWithinLimits tree
  limits = within_limits tree code.scoped

  pub distinct : HasDistinctNames tree
  distinct = have_distinct_names tree code.scoped

  pub is_nested : IsNested tree
  is_nested = accepted_are_nested tree code.nested

  pub some_table : (t : Table) × HasTable c (groups_of tree) t
  some_table = code_has_table c tree slots code.resolved limits is_nested code.few code.stands

  pub as_many_channels : length c.channels ≡ length tree.channels
  as_many_channels = ap length code.stands.channels_are ∙ length-map tree.channels (ends_of tree)

  -- where its processes end
  pub places : List ℕ
  places = places_of c tree slots 0 tree.processes c.processes 0 (length c.instrs) code.stands.instrs_are

  -- Its processes, with instructions that are counted by a test.
  pub spread_by : (f : Instr → Bool) (w : Weight) → ((instr : Instr) → IsPlain instr → f instr ≡ false)
      → ((number : ℕ) (conversation : Option Identifier) (block : Block) → slice_get c.blocks number ≡ Some block
      → block.conversation ≡ conversation_of tree conversation
      → one_if (f (Enter number)) + (one_if (f (Start number)) + one_if (f (Test number))) ≡ w number conversation)
      → Spread c tree f w 0 tree.processes c.processes places 0 (length c.instrs)
  unfolding places
  spread_by f w plain weighs =
      spread c tree slots f w plain as_many_channels weighs
      (whole_entrances c tree slots code.stands.instrs_are) 0 tree.processes c.processes 0 (length c.instrs)
      (λ i n e. let same : n ≡ i =
      omega (arith, e) in ap (slice_get tree.processes) same) code.resolved limits.processes code.spelled.processes code.alternates
      is_nested.n5 code.stands.instrs_are

  -- a test that nothing passes
  abbrev pub nothing : Instr → Bool
  nothing instr = false

  abbrev pub weightless : Weight
  weightless number conversation = 0

  pub plain_spread : Spread c tree nothing weightless 0 tree.processes c.processes places 0 (length c.instrs)
  plain_spread = spread_by nothing weightless (λ instr plain. refl) (λ number conversation block at is. refl)
