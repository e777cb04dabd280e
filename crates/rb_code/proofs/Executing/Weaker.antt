-- A process that stands at an entry stands at each weaker one.
use Rattle.std.proofs.Common.{◌≡◌, ℕ, ◌+◌, ◌≤◌, ℤ, List, [], ◌∷◌, Option, Some, None, refl, ap, sym, ◌∙◌, subst, arith}
use Rattle.rb_code.specs.Instructions.Plain.{Code}
use Rattle.rb_code.specs.WordMachine.Workspace.{Workspace, base_of, part_of}
use Rattle.rb_code.specs.WordMachine.Act.{Sight}
use Rattle.rb_code.specs.SoundCode.Sound.{Mode, Fresh, MayPut, MayTake, Begun, Free, Changed, Entry, Has, IsWeaker, MayTrap, MayFrame, Table, WeakerMode, WeakerOperand, WeakerOperands, freed}
use Rattle.rb_code.specs.SoundCode.Stands.{BodyFits, Fits, Levels, LoopsFit, ModeFits, OperandFits, OperandsFit}

weaker_operand : (o p : Option ℕ) (x : ℤ) → WeakerOperand o p → OperandFits o x → OperandFits p x
weaker_operand None None x w h = tt
weaker_operand (Some k) None x w h = tt
weaker_operand None (Some n) x w h = absurd w
weaker_operand (Some k) (Some n) x w h = subst (λ j. OperandFits (Some j) x) w h

weaker_operands : (os ps : List (Option ℕ)) (xs : List ℤ) → WeakerOperands os ps → OperandsFit os xs → OperandsFit ps xs
weaker_operands [] [] xs w h = h
weaker_operands [] (p ∷ ps) xs w h = absurd w
weaker_operands (o ∷ os) [] xs w h = absurd w
weaker_operands (o ∷ os) (p ∷ ps) [] w h = absurd h
weaker_operands (o ∷ os) (p ∷ ps) (x ∷ xs) w h = (weaker_operand o p x w.0 h.0, weaker_operands os ps xs w.1 h.1)

pub weaker_none : (ps : List (Option ℕ)) → WeakerOperands [] ps → ps ≡ []
weaker_none [] h = refl
weaker_none (p ∷ ps) h = absurd h

-- 3 right behind a `turn`, 0 once something was changed, and else 2: a turn never goes up, and what it gives up is worth more than a call
abbrev pub rank : Mode → ℕ
rank Fresh = 3
rank Changed = 0
rank mode = 2

pub rank_most : (mode : Mode) → rank mode ≤ 3
rank_most Fresh = omega arith
rank_most Changed = omega arith
rank_most mode = omega arith

pub rank_zero : (mode : Mode) → rank mode ≤ 0 → mode ≡ Changed
rank_zero Changed h = refl
rank_zero Fresh h = absurd (omega arith)
rank_zero (MayPut channel) h = absurd (omega arith)
rank_zero (MayTake channel) h = absurd (omega arith)
rank_zero Begun h = absurd (omega arith)
rank_zero Free h = absurd (omega arith)

pub rank_freed : (mode : Mode) → rank (freed mode) ≤ rank mode
rank_freed Fresh = omega arith
rank_freed Changed = omega arith
rank_freed mode = omega arith

rank_weaker : (mode other : Mode) → WeakerMode mode other → rank other ≤ rank mode
rank_weaker mode Changed w = omega arith
rank_weaker mode Fresh w = omega (arith, ap rank w)
rank_weaker mode (MayPut channel) w = omega (arith, ap rank w)
rank_weaker mode (MayTake channel) w = omega (arith, ap rank w)
rank_weaker mode Begun w = omega (arith, ap rank w)
rank_weaker mode Free w = omega (arith, ap rank w)

pub weaker_changed : (mode : Mode) → WeakerMode Changed mode → mode ≡ Changed
weaker_changed Changed h = refl
weaker_changed Fresh h = sym h
weaker_changed (MayPut channel) h = sym h
weaker_changed (MayTake channel) h = sym h
weaker_changed Begun h = sym h
weaker_changed Free h = sym h

-- where a trap may come nothing was changed
pub may_trap : (mode : Mode) → MayTrap mode → 2 ≤ rank mode
may_trap Begun h = absurd h
may_trap Changed h = absurd h
may_trap Fresh h = omega arith
may_trap (MayPut channel) h = omega arith
may_trap (MayTake channel) h = omega arith
may_trap Free h = omega arith

pub may_frame : (mode : Mode) → MayFrame mode → 2 ≤ rank mode
may_frame Changed h = absurd h
may_frame Fresh h = omega arith
may_frame mode h = omega arith

module _ (c : Code) (see : Sight) where
  -- behind an instruction that left the memory as it is the turn has come as far
  pub mode_freed : (a b : ℕ) (mode : Mode) → ModeFits c see a mode → ModeFits c see b (freed mode)
  mode_freed a b Fresh h = tt
  mode_freed a b (MayPut channel) h = h
  mode_freed a b (MayTake channel) h = h
  mode_freed a b Begun h = tt
  mode_freed a b Free h = tt
  mode_freed a b Changed h = tt

  mode_weaker : (a : ℕ) (mode other : Mode) → WeakerMode mode other → ModeFits c see a mode → ModeFits c see a other
  mode_weaker a mode Changed w h = tt
  mode_weaker a mode Fresh w h = subst (ModeFits c see a) w h
  mode_weaker a mode (MayPut channel) w h = subst (ModeFits c see a) w h
  mode_weaker a mode (MayTake channel) w h = subst (ModeFits c see a) w h
  mode_weaker a mode Begun w h = tt
  mode_weaker a mode Free w h = tt

module _ (c : Code) (t : Table) (see : Sight) (levels : Levels) where
  weaker_fits : (b : ℕ) (e g : Entry) (operands : List ℤ) (m : Workspace) → IsWeaker e g → Fits c t see levels b e operands m
      → Fits c t see levels b g operands m
  weaker_fits b e g operands m w h = record {
    operands_fit = weaker_operands e.operands g.operands operands w.operands h.operands_fit;
    layout = record {
      words_are = h.layout.words_are ∙ ap (λ n. base_of (part_of c see.process) m.calls + n) (sym w.words);
      calls_few = h.layout.calls_few;
      body = subst (λ blocks. BodyFits c t see.process m.calls g.within blocks levels) (sym w.blocks)
          (subst (λ within. BodyFits c t see.process m.calls within e.blocks levels) (sym w.within) h.layout.body);
      heights = h.layout.heights;
    };
    pieces_are = h.pieces_are ∙ sym w.pieces;
    counters_two = h.counters_two;
    loops_fit = subst (LoopsFit m) (sym w.loops) h.loops_fit;
    mode_fits = mode_weaker c see b e.mode g.mode w.mode h.mode_fits;
  }

  -- the process stands at this address, at an entry with these loops and of no higher rank
  pub record Arrives (e : Entry) (b : ℕ) (operands : List ℤ) (m : Workspace) : Type 0 where
    pub entry : Entry
    pub there : t b ≡ Some entry
    pub fits : Fits c t see levels b entry operands m
    pub low : rank entry.mode ≤ rank e.mode
    pub loops_are : entry.loops ≡ e.loops

  pub arrives : (b : ℕ) (e : Entry) (operands : List ℤ) (m : Workspace) → Has (t b) e → Fits c t see levels b e operands m
      → Arrives e b operands m
  arrives b e operands m has h = by (t b) refl has
    where
      by : (o : Option Entry) → t b ≡ o → Has o e → Arrives e b operands m
      by None q w = absurd w
      by (Some g) q w = record {
        entry = g;
        there = q;
        fits = weaker_fits b e g operands m w h;
        low = rank_weaker e.mode g.mode w.mode;
        loops_are = w.loops;
      }
