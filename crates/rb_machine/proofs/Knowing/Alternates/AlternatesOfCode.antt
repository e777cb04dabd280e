-- The alternates of sound code: those of its blocks and of its conversations, and so those that are tried in every turn of the word machine.
use Rattle.std.proofs.Common.{◌≡◌, inl, ◌<◌, ◌≤◌, ℕ, false, List, [], ◌∷◌, length, slice_get, Some, refl, sym, ◌∙◌, subst, not-suc-le-zero, arith}
use Rattle.std.proofs.lemmas.Option.{slice_get_within}
use Rattle.rb_world.specs.Kind.{Enters, Facts, Membership}
use Rattle.rb_world.specs.World.{Level, Process, Running}
use Rattle.rb_world.specs.Turn.{turn}
use Rattle.rb_world.specs.Standing.{Each}
use Rattle.rb_world.specs.Slots.{zero_slots}
use Rattle.rb_world.proofs.Keeping.Invariant.{IsInvariantUnder, both_kept}
use Rattle.rb_world.proofs.Keeping.Induction.{turn-keeps}
use Rattle.rb_world.proofs.Keeping.EachProcess.{KeepsEach, each_kept}
use Rattle.rb_world.proofs.ListFacts.{slice_get-there, some_same}
use Rattle.rb_world.proofs.Members.PresentKept.{AreOrdered}
use Rattle.rb_code.specs.Instructions.Plain.{Code}
use Rattle.rb_code.specs.SoundCode.Sound.{IsMember}
use Rattle.rb_code.specs.WordMachine.Turn.{Copy, Standing, want}
use Rattle.rb_code.specs.SoundCode.WellFormed.{IsBlock, IsGroup, IsSound}
use Rattle.rb_code.specs.WordMachine.WordKind.{word_kind}
use Rattle.rb_code.specs.WordMachine.WordRun.{WordWorld, opening_of, opening_standings}
use Rattle.rb_code.proofs.WholeRuns.ProcessesBegin.{all_there}
use Rattle.rb_recovery.specs.Known.{IsKnown, IsPlaced}
use Rattle.rb_machine.proofs.Knowing.Alternates.AlternatesKept.{AlternatesFit, AlternatesMayFit, alternates_kept, opening_fits}
use Rattle.rb_machine.proofs.Knowing.Alternates.EnteredBlocks.{IsCountedBlock, is_block, level_counted, want_counted}

-- a conversation has a first member
first_member : (members : List ℕ) → 2 ≤ length members → (m : ℕ) × IsMember m members
first_member [] two = absurd (not-suc-le-zero two)
first_member (m ∷ members) two = (m, inl refl)

module _ (c : Code) (groups : List Membership) (counts : List ℕ) (sound : IsSound c groups counts) where
  -- Each conversation that is counted has an alternate, since its members have blocks of it.
  counts_some : (d n : ℕ) → slice_get counts d ≡ Some n → 1 ≤ n
  counts_some d n e =
      let within : d < length groups = subst (λ (m : ℕ). d < m) sound.as_many (slice_get_within counts d n e) in
      let found = slice_get-there groups d within in
      let group : IsGroup c groups found.0 = all_there (IsGroup c groups) groups d found.0 sound.well.conversations found.1 in
      let member = first_member found.0.members group.two in
      let own = sound.joins d member.0 found.0 found.1 member.1 in
      let block : IsBlock c groups own.1.0 = is_block c groups counts sound own.0 own.1.0 own.1.3 in
      let many : length own.1.0.alternates ≡ n = some_same (sym own.2 ∙ e) in
      omega (arith, many, block.some)

  -- What is tried in every turn, where each process is placed.
  abbrev Placed : ℕ → Process Standing Copy → Type 0
  Placed = IsPlaced c groups sound.table

  placed_ordered : (r : ℕ) (q : Process Standing Copy) → Placed r q → AreOrdered groups r q.levels
  placed_ordered r q is = record { nested = is.nested; members = is.members }

  placed_counted : (r : ℕ) (q : Process Standing Copy) → Placed r q
      → Each (λ _ (level : Level Copy). IsCountedBlock counts level.facts) q.levels
  placed_counted r q is i level e = level_counted c groups counts sound q i level is.stands e

  placed_enters : (r : ℕ) (q : Process Standing Copy) (facts : Facts) → Placed r q → q.status ≡ Running → q.at_line ≡ false
      → want c q.state ≡ Enters facts → IsCountedBlock counts facts
  placed_enters r q facts is running away wants = want_counted c groups counts sound q facts is.stands running away wants

  pub word_alternates_kept : IsInvariantUnder (word_kind c groups)
      (λ _ _ w. Each Placed w.processes)
      (λ _ _ _ _ w. Each Placed w.processes)
      (λ _ _ w. Each Placed w.processes)
      (λ _ _ w. AlternatesFit (word_kind c groups) counts w)
      (AlternatesMayFit (word_kind c groups) counts)
      (λ _ _ w. AlternatesFit (word_kind c groups) counts w)
  word_alternates_kept =
      alternates_kept (word_kind c groups) counts Placed placed_ordered placed_counted placed_enters counts_some

  -- a world of which all is known
  pub known_fits : (t : ℕ) (w : WordWorld) → IsKnown c groups counts sound.table t w → AlternatesFit (word_kind c groups) counts w
  known_fits t w known = record { tried = known.tried; present = known.present; talked = known.talked }

  -- the next world, where turns keep each process placed
  pub word_turn_fits : KeepsEach (word_kind c groups) Placed → (t p : ℕ) (w : WordWorld)
      → Each Placed w.processes → AlternatesFit (word_kind c groups) counts w
      → AlternatesFit (word_kind c groups) counts (turn (word_kind c groups) t p w).0
  word_turn_fits placed t p w each fit = (turn-keeps (both_kept (each_kept placed) word_alternates_kept) t [] p w (each, fit)).1

  -- the first world
  pub word_opening_fits : AlternatesFit (word_kind c groups) counts (opening_of c groups)
  word_opening_fits =
      opening_fits (word_kind c groups) counts counts_some (opening_standings 0 c.processes) (record { slots = zero_slots c.channels; links = [] })
