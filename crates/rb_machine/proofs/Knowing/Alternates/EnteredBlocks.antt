-- Blocks that are entered: each has an alternate, and as many as are counted of its conversation, since a member has one block of each. So
-- it is of each open level, and of what comes to be entered next.
use Rattle.std.proofs.Common.{◌≡◌, ◌≤◌, ◌+◌, ℕ, false, List, [], ◌∷◌, length, take, slice_get, Option, Some, None, refl, sym, ap, ◌∙◌, subst, arith}
use Rattle.rb_world.specs.Kind.{Enters, Facts, Membership, Want}
use Rattle.rb_world.specs.World.{Level, Process, Running}
use Rattle.rb_world.specs.Turn.{members_of}
use Rattle.rb_world.proofs.ListFacts.{some_same}
use Rattle.rb_code.specs.Instructions.Plain.{Block, Code}
use Rattle.rb_code.specs.WordMachine.Workspace.{OpenCall}
use Rattle.rb_code.specs.SoundCode.Sound.{Entry, Fine, FineAt, IsMember, MayEnter, OpenBlock, Within, conversation_of}
use Rattle.rb_code.specs.SoundCode.Stands.{BodyFits, EntersWithin, LevelFits, Levels, Opened, inside_out, opened}
use Rattle.rb_code.specs.SoundCode.StandsInRuns.{ProcessStands}
use Rattle.rb_code.specs.WordMachine.Turn.{Copy, Standing, block_facts, enters, want, wants_by}
use Rattle.rb_code.specs.SoundCode.WellFormed.{IsBlock, IsSound, Joins}
use Rattle.rb_code.specs.declared.instr.Instr.{Instr}
use Rattle.rb_code.specs.declared.instr.Instr.TheVariants.{Enter}
use Rattle.rb_code.proofs.Executing.InsideOut.{inside_taken}
use Rattle.rb_code.proofs.Executing.OpenLevels.{at_back}
use Rattle.rb_code.proofs.Executing.ProcessesStand.{copy_stands, stands_to_step}
use Rattle.rb_code.proofs.WholeRuns.ProcessesBegin.{all_there}
use Rattle.rb_machine.proofs.Knowing.Placed.Behind.{IsBusy, behind}

-- a block has an alternate, and as many as are counted of its conversation
pub record IsCountedBlock (counts : List ℕ) (facts : Facts) : Type 0 where
  pub some : 1 ≤ facts.alternates
  pub as_many : (d : ℕ) → facts.conversation ≡ Some d → slice_get counts d ≡ Some facts.alternates

module _ (c : Code) (groups : List Membership) (counts : List ℕ) (sound : IsSound c groups counts) where
  pub is_block : (b : ℕ) (block : Block) → slice_get c.blocks b ≡ Some block → IsBlock c groups block
  is_block b block e = all_there (IsBlock c groups) c.blocks b block sound.well.blocks e

  -- who joins a conversation is one of its members
  joins_member : (d m b : ℕ) → Joins c sound.table d m b → IsMember m (members_of (slice_get groups d))
  joins_member d m b joins =
      let fine : Fine c groups sound.table (Enter b) joins.1 joins.2 =
      subst (λ o. FineAt c groups sound.table o joins.1 joins.2) joins.5 (sound.has.each joins.1 joins.2 joins.6).fine in
      let may : MayEnter c groups sound.table (Some d) joins.2 =
      subst (λ o. MayEnter c groups sound.table o joins.2) (ap conversation_of joins.3 ∙ joins.4) fine.4 in
      subst (λ (n : ℕ). IsMember n (members_of (slice_get groups d))) joins.7 may.1

  -- and its block is the one that is counted
  joins_counted : (d m b : ℕ) (joins : Joins c sound.table d m b) → slice_get counts d ≡ Some (length joins.0.alternates)
  joins_counted d m b joins = by (slice_get groups d) refl (joins_member d m b joins)
    where
      by : (o : Option Membership) → slice_get groups d ≡ o → IsMember m (members_of o) → slice_get counts d ≡ Some (length joins.0.alternates)
      by None q member = absurd member
      by (Some group) q member =
          let own = sound.joins d m group q member in
          let same : own.1.0 ≡ joins.0 =
          some_same (sym own.1.3 ∙ (ap (λ (n : ℕ). slice_get c.blocks n) (sym (own.3 b joins)) ∙ joins.3)) in
          own.2 ∙ ap (λ (one : Block). Some (length one.alternates)) same

  entered_counted : (b : ℕ) (block : Block) (within : Within) → slice_get c.blocks b ≡ Some block → EntersWithin c sound.table within b
      → IsCountedBlock counts (block_facts b block)
  entered_counted b block within e enters = record {
    some = (is_block b block e).some;
    as_many = λ d of_d.
        joins_counted d within.process b
        (block, enters.at, enters.entry, e, of_d, enters.instr, enters.there, ap (λ (w : Within). w.process) enters.within_is);
  }

  -- a level of an open block, and so the innermost one of a body
  fits_counted : (within : Within) (block : OpenBlock) (around : List OpenBlock) (words : ℕ) (calls : List OpenCall) (level : Opened)
      → LevelFits c sound.table within block around words calls level → IsCountedBlock counts level.facts
  fits_counted within block around words calls level fits =
      subst (IsCountedBlock counts) (sym fits.facts) (entered_counted block.number fits.one within fits.is_block fits.entered)

  body_counted : (p : ℕ) (calls : List OpenCall) (within : Within) (blocks : List OpenBlock) (level : Opened) (around : Levels)
      → BodyFits c sound.table p calls within blocks (level ∷ around) → IsCountedBlock counts level.facts
  body_counted p [] within [] level around h = absurd (let n = ap length h.1 in omega arith)
  body_counted p [] within (block ∷ blocks) level around h = fits_counted within block blocks _ [] level h.1.0
  body_counted p (call ∷ calls) within [] level around h =
      at_back c sound.table p (IsCountedBlock counts level.facts) call.back _ h.2
      (λ g q k. body_counted p calls g.within g.blocks level around k.1)
  body_counted p (call ∷ calls) within (block ∷ blocks) level around h = fits_counted within block blocks _ (call ∷ calls) level h.2.0

  -- each level of a process that stands
  pub level_counted : (q : Process Standing Copy) (i : ℕ) (level : Level Copy) → ProcessStands c sound.table q → slice_get q.levels i ≡ Some level
      → IsCountedBlock counts level.facts
  level_counted q i level stands there =
      let back = copy_stands c groups sound.table sound.has sound.well.lists q i level there stands in
      body_counted q.state.process level.copy.calls back.entry.within back.entry.blocks (opened level) (inside_out (take i q.levels))
      (subst (BodyFits c sound.table q.state.process level.copy.calls back.entry.within back.entry.blocks) (inside_taken q.levels i level there)
      back.layout.body)

  -- and the block that a running process at no line enters
  abbrev EntersCounted : Want → Type 0
  EntersCounted (Enters facts) = IsCountedBlock counts facts
  EntersCounted other = Unit {0}

  block_counted : (b : ℕ) (within : Within) (o : Option Block) → slice_get c.blocks b ≡ o → EntersWithin c sound.table within b
      → EntersCounted (enters b o)
  block_counted b within None e enters = tt
  block_counted b within (Some block) e enters = entered_counted b block within e enters

  wanted_by : (instr : Instr) (a : ℕ) (e : Entry) → slice_get c.instrs a ≡ Some instr → sound.table a ≡ Some e → EntersCounted (wants_by c instr)
  wanted_by (Enter b) a e instr there =
      block_counted b e.within (slice_get c.blocks b) refl
      (record { at = a; instr = instr; entry = e; there = there; within_is = refl })
  wanted_by _ a e instr there = tt

  pub want_counted : (q : Process Standing Copy) (facts : Facts) → ProcessStands c sound.table q → q.status ≡ Running → q.at_line ≡ false
      → want c q.state ≡ Enters facts → IsCountedBlock counts facts
  want_counted q facts stands running away wants =
      let now = stands_to_step c groups sound.table sound.has sound.well.lists q stands running away in
      let one = behind c groups sound.table sound.has sound.well.lists q.state q.levels now (subst IsBusy (sym wants) tt) in
      subst EntersCounted (sym one.wants ∙ wants) (wanted_by one.instr (q.state.at + 1) one.entry one.instr_there one.there)
