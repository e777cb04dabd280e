-- A process that stands in the table of sound code gets what it asks for, where it is served.
use Rattle.std.proofs.Common.{◌≡◌, ℕ, zero, suc, ◌+◌, ◌≤◌, ℤ, List, [], ◌∷◌, length, slice_get, Option, Some, None, option_map, refl, ap, sym, ◌∙◌, subst, arith}
use Rattle.std.proofs.lemmas.Option.{slice_get-get_or}
use Rattle.rb_world.specs.Kind.{Membership}
use Rattle.rb_world.specs.World.{Level, copy_of, last_of}
use Rattle.rb_world.proofs.ListFacts.{none_some, some_same}
use Rattle.rb_code.specs.Instructions.Plain.{Block, Code}
use Rattle.rb_code.specs.WordMachine.Act.{alternate_address}
use Rattle.rb_code.specs.WordMachine.Turn.{Copy, Standing, block_facts, enters, sight, want, wants_behind, wants_there}
use Rattle.rb_code.specs.SoundCode.Sound.{Fresh, Entry, Fine, FineAt, Has, HasTable, InnermostIs, OpenBlock, RestartIs, Table, at_address}
use Rattle.rb_code.specs.SoundCode.Safe.{IsThere}
use Rattle.rb_code.specs.SoundCode.Stands.{BodyFits, IsAlternate, IsMet, Opened, inside_out, opened, RestsAt, Serves, Stands}
use Rattle.rb_code.specs.SoundCode.WellFormed.{ListsChannels}
use Rattle.rb_code.specs.declared.instr.Instr.{Instr}
use Rattle.rb_code.specs.declared.instr.Instr.TheVariants.{Turn, There, Enter, Start, Done}
use Rattle.rb_code.proofs.Executing.LastOf.{last_level}
use Rattle.rb_code.proofs.Executing.OpenLevels.{innermost}
use Rattle.rb_code.proofs.Executing.StandingSteps.{at_turn}

module _ (c : Code) (groups : List Membership) (t : Table) (has : HasTable c groups t) (lists : ListsChannels c) where
  -- the block of a level has an alternate that is among them
  has_alternate : (o : Option Block) (block : Block) (k : ℕ) → o ≡ Some block → 1 ≤ k → k ≤ length block.alternates
      → IsThere (alternate_address o k)
  has_alternate o block zero e some few = absurd (omega arith)
  has_alternate o block (suc k) e some few =
      subst (λ p. IsThere (alternate_address p (suc k))) (sym e)
      (subst IsThere (sym (slice_get-get_or block.alternates k 0 (omega arith))) tt)

  -- a served process gets what the instruction behind its `turn` asks for
  module _ (s : Standing) (levels : List (Level Copy)) (stands : Stands c t s levels) (alternate : ℕ) (message : Option ℤ)
      (serves : Serves (want c s) alternate message levels) where
    pub is_turn : slice_get c.instrs s.at ≡ Some Turn
    is_turn = by (slice_get c.instrs s.at) refl stands.rests serves
      where
        by : (o : Option Instr) → slice_get c.instrs s.at ≡ o → RestsAt o
            → Serves (wants_there c o (slice_get c.instrs (s.at + 1))) alternate message levels → slice_get c.instrs s.at ≡ Some Turn
        by None e h k = absurd h
        by (Some Turn) e h k = e
        by (Some Done) e h k = absurd k
        by (Some i) e h k = absurd h

    serves_behind : Serves (wants_behind c (slice_get c.instrs (s.at + 1))) alternate message levels
    serves_behind = subst (λ o. Serves (wants_there c o (slice_get c.instrs (s.at + 1))) alternate message levels) is_turn serves

    -- the entry behind the `turn`, by the table alone
    pub record Behind : Type 0 where
      pub entry : Entry
      pub there : t (s.at + 1) ≡ Some entry
      pub words_are : entry.words ≡ stands.entry.words
      pub within_is : entry.within ≡ stands.entry.within
      pub blocks_are : entry.blocks ≡ stands.entry.blocks

    pub known_behind : Behind
    known_behind = by (t (s.at + 1)) refl (at_turn c groups t has lists s levels stands is_turn).3
      where
        by : (o : Option Entry) → t (s.at + 1) ≡ o → Has o (at_address (s.at + 1) (record stands.entry { mode = Fresh })) → Behind
        by None e h = absurd h
        by (Some g) e h = record { entry = g; there = e; words_are = h.words; within_is = h.within; blocks_are = h.blocks }

    -- the block of a `start` is that of the innermost level
    starts : (b : ℕ) → slice_get c.instrs (s.at + 1) ≡ Some (Start b) → IsAlternate alternate (last_of levels)
        → IsThere (alternate_address (slice_get c.blocks b) alternate)
    starts b at is =
        let g = known_behind in
        let fine : Fine c groups t (Start b) (s.at + 1) g.entry =
        subst (λ o. FineAt c groups t o (s.at + 1) g.entry) at (has.each (s.at + 1) g.entry g.there).fine in
        by g.entry.words g.entry.blocks g.blocks_are fine.2
      where
        of_level : (o : Option (Level Copy)) → IsAlternate alternate o → (x : Opened) (one : Block) (number : ℕ)
            → option_map opened o ≡ Some x → x.facts ≡ block_facts number one → (1 ≤ alternate) × (alternate ≤ length one.alternates)
        of_level None h x one number e f = absurd (none_some e)
        of_level (Some level) h x one number e f =
            let same : level.facts.alternates ≡ length one.alternates = ap (λ y. y.facts.alternates) (some_same e) ∙ ap (λ y. y.alternates) f in
            (h.0, subst (λ n. alternate ≤ n) same h.1)

        by : (words : ℕ) (blocks : List OpenBlock) → blocks ≡ stands.entry.blocks
            → InnermostIs blocks (λ block around. (block.number ≡ b) × (block.words ≡ words))
            → IsThere (alternate_address (slice_get c.blocks b) alternate)
        by words [] e h = absurd h
        by words (block ∷ around) e h =
            let i = innermost c t s.process s.calls stands.entry.within block around (inside_out levels)
            (subst (λ bs. BodyFits c t s.process s.calls stands.entry.within bs (inside_out levels)) (sym e) stands.layout.body) in
            let k = of_level (last_of levels) is i.level i.fits.one block.number (last_level levels i.level i.others i.levels_are) i.fits.facts in
            has_alternate (slice_get c.blocks b) i.fits.one alternate
            (subst (λ n. slice_get c.blocks n ≡ Some i.fits.one) h.0 i.fits.is_block) k.0 k.1

    enters_none : (b : ℕ) → slice_get c.instrs (s.at + 1) ≡ Some (Enter b) → Serves (enters b (slice_get c.blocks b)) alternate message levels → ⊥
    enters_none b at h =
        let g = known_behind in
        let fine : Fine c groups t (Enter b) (s.at + 1) g.entry =
        subst (λ o. FineAt c groups t o (s.at + 1) g.entry) at (has.each (s.at + 1) g.entry g.there).fine in
        by (slice_get c.blocks b) fine.2 h
      where
        by : (o : Option Block) → RestartIs o ((s.at + 1) + 1) → Serves (enters b o) alternate message levels → ⊥
        by None r h = r
        by (Some block) r h = h

    pub met : IsMet c (sight s alternate (copy_of (last_of levels)) message) (slice_get c.instrs (s.at + 1))
    met = by (slice_get c.instrs (s.at + 1)) refl serves_behind
      where
        by : (o : Option Instr) → slice_get c.instrs (s.at + 1) ≡ o → Serves (wants_behind c o) alternate message levels
            → IsMet c (sight s alternate (copy_of (last_of levels)) message) o
        by None e h = tt
        by (Some (There channel)) e h = h
        by (Some (Start b)) e h = starts b e h
        by (Some (Enter b)) e h = enters_none b e h
        by (Some i) e h = tt
