-- Tables of instructions that leave the memory as it is, at entries that differ in their operands, loops and modes alone.
use Rattle.std.proofs.Common.{◌≡◌, inl, ℕ, ◌+◌, ◌<◌, ◌≤◌, ℤ, false, List, ◌∷◌, length, Option, None, refl, sym, subst, arith}
use Rattle.rb_base.specs.declared.limits.TheConstants.{MOST_OPERANDS}
use Rattle.rb_world.specs.Kind.{Membership}
use Rattle.rb_code.specs.Instructions.Plain.{Code}
use Rattle.rb_code.specs.SoundCode.Sound.{Mode, Fresh, MayPut, MayTake, Begun, Free, Changed, Entry, Fine, Has, IsAbove, LeadsTo, Loop, MayTrap, Table, freed, is_in}
use Rattle.rb_code.specs.Agreement.Template.{One}
use Rattle.rb_code.specs.declared.instr.Instr.{Instr}
use Rattle.rb_code.specs.declared.instr.Instr.TheVariants.{Jump, JumpZero, Push}
use Rattle.rb_code.proofs.Looping.LoopSteps.{drops_first}
use Rattle.rb_code.proofs.Tables.Tabled.{Around, LieAround, TabledFirst, one_tabled}

-- the entry with other operands, loops and mode
abbrev pub point : Entry → List (Option ℕ) → List Loop → Mode → Entry
point e os loops mode = record e { operands = os; loops = loops; mode = mode }

-- loops lie around all addresses from one up to another
abbrev pub Cover : ℕ → ℕ → List Loop → Type 0
Cover a b loops = (x : ℕ) → a ≤ x → x ≤ b → LieAround x loops

pub cover_within : (a b d f : ℕ) (loops : List Loop) → a ≤ d → f ≤ b → Cover a b loops → Cover d f loops
cover_within a b d f loops low high cover x p q = cover x (omega arith) (omega arith)

-- From one mode, in which a trap may come, what leaves the memory as it is goes on to the other, and stays there.
pub record Quiet (mode after : Mode) : Type 0 where
  pub is : freed mode ≡ after
  pub stays : freed after ≡ after
  pub traps : MayTrap mode
  pub traps_after : MayTrap after

pub quiet_on : (mode after : Mode) → Quiet mode after → Quiet after after
quiet_on mode after q = record { is = q.stays; stays = q.stays; traps = q.traps_after; traps_after = q.traps_after }

pub quiet : (mode : Mode) → MayTrap mode → Quiet mode (freed mode)
quiet Fresh h = record { is = refl; stays = refl; traps = tt; traps_after = tt }
quiet (MayPut channel) h = record { is = refl; stays = refl; traps = tt; traps_after = tt }
quiet (MayTake channel) h = record { is = refl; stays = refl; traps = tt; traps_after = tt }
quiet Begun h = absurd h
quiet Free h = record { is = refl; stays = refl; traps = tt; traps_after = tt }
quiet Changed h = absurd h

module _ (c : Code) (groups : List Membership) where
  -- one instruction that leads to the next address
  pub step_tabled : (R : Around) (instr : Instr) (a b : ℕ) (e f : Entry) → One instr c a b → LieAround a e.loops → IsAbove e.blocks e.words
      → ((t : Table) → R t → LeadsTo c groups t (a + 1) f → Fine c groups t instr a e)
      → ((t : Table) → R t → LeadsTo c groups t b f) → TabledFirst c groups R a b e
  step_tabled R instr a b e f one lies above fine next =
      one_tabled c groups R instr a b e one lies above (λ t r. fine t r (subst (λ x. LeadsTo c groups t x f) one.1 (next t r)))

  -- outside the innermost loop its counter goes
  pub leads_outside : (t : Table) (x : ℕ) (e : Entry) (loop : Loop) (loops : List Loop) → is_in x loop ≡ false
      → LeadsTo c groups t x (record e { loops = loops }) → LeadsTo c groups t x (record e { loops = loop ∷ loops })
  leads_outside t x e loop loops out leads =
      subst (λ ls. Has (t x) (record e { loops = ls })) (sym (drops_first (is_in x) loop loops out)) leads

  module _ (e : Entry) (above : IsAbove e.blocks e.words) (loops : List Loop) (mode after : Mode) (q : Quiet mode after) where
    -- one that leaves the memory as it is
    pub plain_tabled : (R : Around) (instr : Instr) (a b : ℕ) (os ps : List (Option ℕ)) → One instr c a b → LieAround a loops
        → ((t : Table) → R t → LeadsTo c groups t (a + 1) (point e ps loops (freed mode)) → Fine c groups t instr a (point e os loops mode))
        → ((t : Table) → R t → LeadsTo c groups t b (point e ps loops after)) → TabledFirst c groups R a b (point e os loops mode)
    plain_tabled R instr a b os ps one lies fine next =
        step_tabled R instr a b (point e os loops mode) (point e ps loops (freed mode)) one lies above fine
        (λ t r. subst (λ m. LeadsTo c groups t b (point e ps loops m)) (sym q.is) (next t r))

    -- a number is pushed
    pub push_tabled : (R : Around) (v : ℤ) (a b : ℕ) (os : List (Option ℕ)) → One (Push v) c a b → LieAround a loops → length os < MOST_OPERANDS
        → ((t : Table) → R t → LeadsTo c groups t b (point e (None ∷ os) loops after)) → TabledFirst c groups R a b (point e os loops mode)
    push_tabled R v a b os one lies room next = plain_tabled R (Push v) a b os (None ∷ os) one lies (λ t r leads. (room, leads)) next

    -- a jump ahead, with the same operands
    pub jump_tabled : (R : Around) (to : ℕ) (a b : ℕ) (os : List (Option ℕ)) → One (Jump to) c a b → LieAround a loops → a < to
        → ((t : Table) → R t → LeadsTo c groups t to (point e os loops after)) → TabledFirst c groups R a b (point e os loops mode)
    jump_tabled R to a b os one lies ahead there =
        one_tabled c groups R (Jump to) a b (point e os loops mode) one lies above
        (λ t r. (inl ahead, subst (λ m. LeadsTo c groups t to (point e os loops m)) (sym q.is) (there t r)))

    -- a jump ahead where the top operand is 0; elsewhere it goes on
    pub jump_zero_tabled : (R : Around) (to : ℕ) (a b : ℕ) (o : Option ℕ) (os : List (Option ℕ)) → One (JumpZero to) c a b → LieAround a loops
        → a < to → ((t : Table) → R t → LeadsTo c groups t to (point e os loops after))
        → ((t : Table) → R t → LeadsTo c groups t b (point e os loops after)) → TabledFirst c groups R a b (point e (o ∷ os) loops mode)
    jump_zero_tabled R to a b o os one lies ahead there next =
        plain_tabled R (JumpZero to) a b (o ∷ os) os one lies
        (λ t r leads. (inl ahead, subst (λ m. LeadsTo c groups t to (point e os loops m)) (sym q.is) (there t r), leads)) next
