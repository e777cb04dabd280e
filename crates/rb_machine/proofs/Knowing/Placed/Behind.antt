-- What stands behind the `turn` at which a process stands, and what the table says by it of what the process wants.
use Rattle.std.proofs.Common.{◌≡◌, ℕ, ◌+◌, ◌<◌, true≢false, List, length, slice_get, Option, Some, None, refl, ap, sym, ◌∙◌, subst}
use Rattle.std.proofs.lemmas.Option.{slice_get_within}
use Rattle.rb_world.specs.Kind.{Facts, Membership, Want, NothingLeft, SendsOn, ReceivesOn, MayReceiveOn, Enters, Starts, Acts}
use Rattle.rb_world.specs.World.{Level}
use Rattle.rb_code.specs.Instructions.Plain.{Block, Code}
use Rattle.rb_code.specs.WordMachine.Turn.{Copy, Standing, block_facts, enters, want, wants_behind, wants_by, wants_there}
use Rattle.rb_code.specs.SoundCode.Sound.{Entry, Fine, FineAt, Fresh, Has, HasTable, IsReceiver, IsSender, IsWeaker, MayEnter, Table, at_address, conversation_of}
use Rattle.rb_code.specs.SoundCode.Stands.{BodyFits, RestsAt, Stands, inside_out}
use Rattle.rb_code.specs.SoundCode.WellFormed.{ListsChannels}
use Rattle.rb_code.specs.declared.instr.Instr.{Instr}
use Rattle.rb_code.specs.declared.instr.Instr.TheVariants.{Turn, Room, There, Enter, Start, Done, Absent}
use Rattle.rb_code.proofs.Executing.StandingSteps.{at_turn}
use Rattle.rb_proc.specs.Executable.{HasNext}

-- something is left
abbrev pub IsBusy : Want → Type 0
IsBusy NothingLeft = ⊥
IsBusy _ = Unit {0}

module _ (c : Code) (groups : List Membership) (t : Table) where
  -- a block is entered where the table lets it be
  pub record EntersBlock (e : Entry) (facts : Facts) : Type 0 where
    pub number : ℕ
    pub block : Block
    pub there : slice_get c.blocks number ≡ Some block
    pub facts_are : facts ≡ block_facts number block
    pub may : MayEnter c groups t block.conversation e

  -- what is wanted at an entry may be
  abbrev pub MayWant : Entry → Want → Type 0
  MayWant e NothingLeft = Unit {0}
  MayWant e (SendsOn channel) = IsSender (slice_get c.channels channel) e.within.process
  MayWant e (ReceivesOn channel) = IsReceiver (slice_get c.channels channel) e.within.process
  MayWant e (MayReceiveOn channel) = IsReceiver (slice_get c.channels channel) e.within.process
  MayWant e (Enters facts) = EntersBlock e facts
  MayWant e Starts = Unit {0}
  MayWant e Acts = Unit {0}

  entered : (b : ℕ) (e : Entry) (o : Option Block) → slice_get c.blocks b ≡ o → MayEnter c groups t (conversation_of o) e
      → MayWant e (enters b o)
  entered b e None q may = tt
  entered b e (Some block) q may = record { number = b; block = block; there = q; facts_are = refl; may = may }

  -- what an instruction that keeps its rule asks for may be wanted
  fine_may : (instr : Instr) (a : ℕ) (e : Entry) → Fine c groups t instr a e → MayWant e (wants_by c instr)
  fine_may (Room channel) a e fine = fine.2
  fine_may (There channel) a e fine = fine.2
  fine_may (Absent channel b) a e fine = fine.2
  fine_may (Enter b) a e fine = entered b e (slice_get c.blocks b) refl fine.4
  fine_may (Start b) a e fine = tt
  fine_may _ a e fine = tt

module _ (c : Code) (groups : List Membership) (t : Table) (has : HasTable c groups t) (lists : ListsChannels c) (s : Standing)
    (levels : List (Level Copy)) (stands : Stands c t s levels) where
  -- the instruction behind the `turn`, and what the table knows there
  pub record IsBehind : Type 0 where
    pub instr : Instr
    pub instr_there : slice_get c.instrs (s.at + 1) ≡ Some instr
    pub wants : want c s ≡ wants_by c instr
    pub entry : Entry
    pub there : t (s.at + 1) ≡ Some entry
    pub body : BodyFits c t s.process s.calls entry.within entry.blocks (inside_out levels)
    pub fine : Fine c groups t instr (s.at + 1) entry

  pub behind : IsBusy (want c s) → IsBehind
  behind busy = by (slice_get c.instrs s.at) refl stands.rests
    where
      found : slice_get c.instrs s.at ≡ Some Turn → (g : Entry) → t (s.at + 1) ≡ Some g
          → IsWeaker (at_address (s.at + 1) (record stands.entry { mode = Fresh })) g → (o : Option Instr) → slice_get c.instrs (s.at + 1) ≡ o
          → FineAt c groups t o (s.at + 1) g → IsBehind
      found turn g there weaker None q fine = absurd fine
      found turn g there weaker (Some instr) q fine = record {
        instr = instr;
        instr_there = q;
        wants = ap (λ o. wants_there c o (slice_get c.instrs (s.at + 1))) turn ∙ ap (wants_behind c) q;
        entry = g;
        there = there;
        body = subst (λ within. BodyFits c t s.process s.calls within g.blocks (inside_out levels)) (sym weaker.within)
            (subst (λ blocks. BodyFits c t s.process s.calls stands.entry.within blocks (inside_out levels)) (sym weaker.blocks)
            stands.layout.body);
        fine = fine;
      }

      led : slice_get c.instrs s.at ≡ Some Turn → (o : Option Entry) → t (s.at + 1) ≡ o
          → Has o (at_address (s.at + 1) (record stands.entry { mode = Fresh })) → IsBehind
      led turn None q h = absurd h
      led turn (Some g) q h = found turn g q h (slice_get c.instrs (s.at + 1)) refl (has.each (s.at + 1) g q).fine

      by : (o : Option Instr) → slice_get c.instrs s.at ≡ o → RestsAt o → IsBehind
      by None q r = absurd r
      by (Some Turn) q r = led q (t (s.at + 1)) refl (at_turn c groups t has lists s levels stands q).3
      by (Some Done) q r = absurd (subst IsBusy (ap (λ o. wants_there c o (slice_get c.instrs (s.at + 1))) q) busy)
      by (Some i) q r = absurd r

  -- what a process wants it may want, by the entry behind its `turn`
  pub behind_may : (w : Want) → want c s ≡ w → (one : IsBehind) → MayWant c groups t one.entry w
  behind_may w e one =
      subst (MayWant c groups t one.entry) (sym one.wants ∙ e) (fine_may c groups t one.instr (s.at + 1) one.entry one.fine)

  -- there is an instruction behind a `turn`
  turned : slice_get c.instrs s.at ≡ Some Turn → s.at + 1 < length c.instrs
  turned turn = led (t (s.at + 1)) refl (at_turn c groups t has lists s levels stands turn).3
    where
      fine_there : (g : Entry) (o : Option Instr) → slice_get c.instrs (s.at + 1) ≡ o → FineAt c groups t o (s.at + 1) g
          → s.at + 1 < length c.instrs
      fine_there g None q fine = absurd fine
      fine_there g (Some instr) q fine = slice_get_within c.instrs (s.at + 1) instr q

      led : (o : Option Entry) → t (s.at + 1) ≡ o → Has o (at_address (s.at + 1) (record stands.entry { mode = Fresh }))
          → s.at + 1 < length c.instrs
      led None q h = absurd h
      led (Some g) q h = fine_there g (slice_get c.instrs (s.at + 1)) refl (has.each (s.at + 1) g q).fine

  pub has_next : HasNext c s.at
  has_next = by (slice_get c.instrs s.at) refl stands.rests
    where
      by : (o : Option Instr) → slice_get c.instrs s.at ≡ o → RestsAt o → HasNext c s.at
      by None q r = absurd r
      by (Some Turn) q r = record { instr = Turn; there = q; next = λ e. turned q }
      by (Some Done) q r = record { instr = Done; there = q; next = λ e. absurd (true≢false e) }
      by (Some i) q r = absurd r
