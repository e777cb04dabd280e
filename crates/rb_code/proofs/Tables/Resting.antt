-- What is known between two statements, and the entries of tests and jumps around it.
use Rattle.std.proofs.Common.{◌≡◌, inl, ℕ, ◌+◌, ◌<◌, ◌≤◌, List, [], ◌∷◌, Option, Some, None, refl, ap, sym, subst, arith}
use Rattle.rb_world.specs.Kind.{Membership}
use Rattle.rb_code.specs.Instructions.Plain.{Code}
use Rattle.rb_code.specs.SoundCode.Sound.{Changed, Entry, Free, Fresh, Has, IsAbove, IsAhead, LeadsTo, Loop, Mode, OpenBlock, Table, WeakerMode, Within}
use Rattle.rb_code.specs.Agreement.Template.{One}
use Rattle.rb_code.specs.declared.instr.Instr.{Instr}
use Rattle.rb_code.specs.declared.instr.Instr.TheVariants.{Turn}
use Rattle.rb_code.proofs.Tables.Tabled.{Around}
use Rattle.rb_code.proofs.Tables.Stretches.{Stretch, begins_with}
use Rattle.rb_code.proofs.Executing.Weaker.{weaker_changed, weaker_none}

-- between statements nothing is on the stack, no loop over a counter is open, and no line is begun
abbrev pub resting : Within → ℕ → List OpenBlock → Mode → Entry
resting within words blocks mode =
    record { within = within; operands = []; words = words; blocks = blocks; loops = []; pieces = 0; mode = mode }

-- behind the expression of a test its value is on the stack
abbrev pub judged : Within → ℕ → List OpenBlock → Entry
judged within words blocks =
    record { within = within; operands = None ∷ []; words = words; blocks = blocks; loops = []; pieces = 0; mode = Free }

changed_is_weakest : (mode other : Mode) → WeakerMode Changed other → WeakerMode mode other
changed_is_weakest mode other w = subst (WeakerMode mode) (sym (weaker_changed other w)) tt

has_weaker : (o : Option Entry) (within : Within) (words : ℕ) (blocks : List OpenBlock) (mode : Mode) → Has o (resting within words blocks Changed)
    → Has o (resting within words blocks mode)
has_weaker None within words blocks mode h = absurd h
has_weaker (Some g) within words blocks mode h = record {
  within = h.within;
  operands = h.operands;
  words = h.words;
  blocks = h.blocks;
  loops = h.loops;
  pieces = h.pieces;
  mode = changed_is_weakest mode g.mode h.mode;
}

abbrev entry_by : Within → List (Option ℕ) → ℕ → List OpenBlock → List Loop → ℕ → Mode → Entry
entry_by within operands words blocks loops pieces mode =
    record { within = within; operands = operands; words = words; blocks = blocks; loops = loops; pieces = pieces; mode = mode }

same_entry : (w v : Within) (os ps : List (Option ℕ)) (i j : ℕ) (bs ds : List OpenBlock) (ls ks : List Loop) (m n : ℕ) (x y : Mode) → w ≡ v → os ≡ ps
    → i ≡ j → bs ≡ ds → ls ≡ ks → m ≡ n → x ≡ y → entry_by w os i bs ls m x ≡ entry_by v ps j ds ks n y
same_entry w v os ps i j bs ds ls ks m n x y within operands words blocks loops pieces mode = cc

-- what is known where nothing weaker can be is just that
has_changed : (o : Option Entry) (within : Within) (words : ℕ) (blocks : List OpenBlock) → Has o (resting within words blocks Changed)
    → o ≡ Some (resting within words blocks Changed)
has_changed None within words blocks h = absurd h
has_changed (Some g) within words blocks h =
    ap Some (same_entry g.within within g.operands [] g.words words g.blocks blocks g.loops [] g.pieces 0 g.mode Changed h.within
    (weaker_none g.operands h.operands) h.words h.blocks h.loops h.pieces (weaker_changed g.mode h.mode))

module _ (c : Code) (groups : List Membership) where
  -- where a changed turn goes on any other does
  pub rests_weaker : (t : Table) (a : ℕ) (within : Within) (words : ℕ) (blocks : List OpenBlock) (mode : Mode)
      → LeadsTo c groups t a (resting within words blocks Changed) → LeadsTo c groups t a (resting within words blocks mode)
  rests_weaker t a within words blocks mode h = has_weaker (t a) within words blocks mode h

  pub rests_as : (t : Table) (a : ℕ) (within : Within) (words : ℕ) (blocks : List OpenBlock)
      → LeadsTo c groups t a (resting within words blocks Changed)
      → t a ≡ Some (resting within words blocks Changed)
  rests_as t a within words blocks h = has_changed (t a) within words blocks h

  -- the address behind an instruction
  pub behind_it : (t : Table) (instr : Instr) (a b : ℕ) (e : Entry) → One instr c a b → LeadsTo c groups t b e → LeadsTo c groups t (a + 1) e
  behind_it t instr a b e (there, next) h = subst (λ x. LeadsTo c groups t x e) next h

  pub ahead_of : (t : Table) (instr : Instr) (a m b : ℕ) → One instr c a m → m ≤ b → IsAhead c groups t a b
  ahead_of t instr a m b (there, next) h =
      let further : a < b = omega (arith, next) in
      inl further

  -- A statement begins with a `turn`, and may come back to it.
  pub turn_first : (P asks asked_there behind : Around) (a m b : ℕ) (within : Within) (words : ℕ) (blocks : List OpenBlock) → IsAbove blocks words
      → One Turn c a m → Stretch c groups P asked_there behind m b
      → ((t : Table) → behind t → LeadsTo c groups t m (resting within words blocks Fresh))
      → ((t : Table) → LeadsTo c groups t a (resting within words blocks Changed) → asks t → asked_there t)
      → Stretch c groups P asks (λ t. LeadsTo c groups t a (resting within words blocks Changed) × behind t) a b
  turn_first P asks asked_there behind a m b within words blocks above turn rest onward enough =
      begins_with c groups P asks behind asked_there Turn a m b (resting within words blocks Changed) turn refl above rest enough
      (λ t all here known asked. (refl, refl, refl, behind_it t Turn a m (resting within words blocks Fresh) turn (onward t known)))
