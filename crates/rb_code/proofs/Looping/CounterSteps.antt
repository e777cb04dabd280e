-- `range` and `again`: a process stands again, in a loop or out of it.
use Rattle.std.proofs.Common.{◌≡◌, ℕ, zero, suc, ◌+◌, ◌<◌, ◌≤◌, ℤ, pos, ◌+ℤ◌, ◌-ℤ◌, int_lt, nat_lt, Bool, true, false, cond, List, ◌∷◌, length, filter, slice_get, slice_set, Option, Some, None, Result, Ok, Err, refl, ap, ◌∙◌, subst, arith, ltb-false}
use Rattle.std.proofs.lemmas.List.{length-set}
use Rattle.rb_base.specs.declared.event.Cause.{Cause}
use Rattle.rb_base.specs.declared.event.Cause.TheVariants.{Range as RangeCause}
use Rattle.rb_base.specs.declared.limits.TheConstants.{MOST_QUANTIFIED}
use Rattle.rb_world.specs.Kind.{Membership}
use Rattle.rb_meaning.specs.Environment.{natural}
use Rattle.rb_meaning.specs.Value.{span}
use Rattle.rb_code.specs.Instructions.Plain.{Code}
use Rattle.rb_code.specs.WordMachine.Workspace.{Counting, Workspace}
use Rattle.rb_code.specs.WordMachine.Act.{Going, Outcome, Sight, act, counted_on, counter_at, counting, or_trap, ranged}
use Rattle.rb_code.specs.SoundCode.Sound.{EndIs, Entry, Fine, IsAhead, IsSet, LeadsTo, Loop, Table, at_address, end_of_loop, is_in, with_operands}
use Rattle.rb_code.specs.SoundCode.Safe.{IsThere}
use Rattle.rb_code.specs.SoundCode.Stands.{BeganBefore, Counts, Fits, Levels, LoopsFit, OperandsFit}
use Rattle.rb_code.specs.declared.instr.Instr.TheVariants.{Range, Again}
use Rattle.rb_code.proofs.Looping.OpenLoops.{fit_less, nearer, open_counts, times_left}
use Rattle.rb_code.proofs.Looping.LoopEnds.{end_goes, loop_end_is}
use Rattle.rb_code.proofs.Looping.LoopSteps.{again_fits, begins, ended_fits, ends, goes_back, innermost_fits, left_at}
use Rattle.rb_code.proofs.Executing.PlainSteps.{there_goes}
use Rattle.rb_code.proofs.Executing.Weaker.{may_trap, mode_freed, rank, rank_freed}
use Rattle.rb_code.proofs.Executing.Progress.{Most, Progress, goes_on, left_from_most, onward, or_trap_goes, two_go}

-- where a loop begins it goes over few numbers
span_few : (x y : ℤ) (n : ℕ) → span x y ≡ Ok (suc n) → natural (y -ℤ x) < MOST_QUANTIFIED
span_few x y n e = by (int_lt y x) (nat_lt MOST_QUANTIFIED (natural (y -ℤ x) + 1)) refl e
  where
    none : {A : Type 0} → (r s : Result ℕ Cause) (k : ℕ) → r ≡ Ok 0 → r ≡ Ok (suc k) → A
    none r s k e f = absurd (let g : 0 ≡ suc k = cc in omega arith)

    wrong : {A : Type 0} → (r : Result ℕ Cause) (k : ℕ) → r ≡ Err RangeCause → r ≡ Ok k → A
    wrong r k e f = absurd (let g : ⊥ = cc in g)

    by : (b d : Bool) → nat_lt MOST_QUANTIFIED (natural (y -ℤ x) + 1) ≡ d
        → cond b (Ok 0) (cond d (Err RangeCause) (Ok (natural (y -ℤ x) + 1))) ≡ Ok (suc n) → natural (y -ℤ x) < MOST_QUANTIFIED
    by true d q e = none (Ok 0) (Ok 0) n refl e
    by false true q e = wrong (Err RangeCause) (suc n) refl e
    by false false q e = let h = ltb-false MOST_QUANTIFIED (natural (y -ℤ x) + 1) q in omega arith

module _ (c : Code) (groups : List Membership) (t : Table) (see : Sight) (levels : Levels) (P : Workspace → Type 0)
    (keeps : (m : Workspace) (pieces : List (List ℕ)) (counters : List (Option Counting)) → P m → P (record m { pieces = pieces; counters = counters }))
    (a : ℕ) (e : Entry) (operands : List ℤ) (m : Workspace) (in_code : a < length c.instrs)
    (fits : Fits c t see levels a e operands m) (began : BeganBefore (a + 1) e.loops) (clean : 2 ≤ rank e.mode → P m) where
  abbrev Goes : Outcome → Type 0
  Goes = Progress c groups t see levels P m (Most c groups t see levels P a e operands m in_code fits began)

  -- with a counter that is set or goes, on to an address that is nearer to the end
  counts : (b k : ℕ) (v : Option Counting) (os : List (Option ℕ)) (xs : List ℤ) (loops : List Loop)
      → LeadsTo c groups t b (record (with_operands os e) { loops = loops }) → OperandsFit os xs
      → LoopsFit (counting k v m) (filter (is_in b) loops)
      → left_at (length c.instrs) (counting k v m) (filter (is_in b) loops) b < left_at (length c.instrs) m e.loops a
      → Goes (Going b xs (counting k v m))
  counts b k v os xs loops leads fit loops_fit near =
      let later = counting k v m in
      let e1 = at_address b (record (with_operands os e) { loops = loops }) in
      let stands : Fits c t see levels b e1 xs later = record {
        operands_fit = fit;
        layout = record {
          words_are = fits.layout.words_are;
          calls_few = fits.layout.calls_few;
          body = fits.layout.body;
          heights = fits.layout.heights;
        };
        pieces_are = fits.pieces_are;
        counters_two = length-set m.counters k v ∙ fits.counters_two;
        loops_fit = loops_fit;
        mode_fits = mode_freed c see a b e.mode fits.mode_fits;
      } in
      goes_on c groups t see levels P a e operands m in_code fits began b e1 xs later leads stands
      (rank_freed e.mode) refl
      (let most = left_from_most (slice_get c.instrs b) (left_at (length c.instrs) later (filter (is_in b) loops) b) in omega arith)
      (λ r. keeps m m.pieces (slice_set m.counters k v) (clean (omega (arith, rank_freed e.mode, r))))

  -- a loop over numbers begins
  loop_begins : (k last : ℕ) (x y : ℤ) (os : List (Option ℕ)) (xs : List ℤ) → k < 2 → (IsSet k e.loops → ⊥) → a < last
      → natural (y -ℤ x) < MOST_QUANTIFIED
      → LeadsTo c groups t (a + 1) (record (with_operands os e) { loops = record { counter = k; first = a + 1; last = last } ∷ e.loops })
      → OperandsFit os xs → Goes (Going (a + 1) xs (counting k (Some (record { now = x; end = y })) m))
  loop_begins k last x y os xs low unset behind few leads fit =
      let v : Counting = record { now = x; end = y } in
      let loop : Loop = record { counter = k; first = a + 1; last = last } in
      counts (a + 1) k (Some v) os xs (loop ∷ e.loops) leads fit
      (fit_less (is_in (a + 1)) (counting k (Some v) m) (loop ∷ e.loops)
      (innermost_fits (length c.instrs) m k v fits.counters_two low loop e.loops refl few unset began fits.loops_fit))
      (begins (length c.instrs) m k v fits.counters_two low loop e.loops a refl refl behind few unset fits.loops_fit began in_code)

  ranges : (k b : ℕ) (x y : ℤ) (ps : List (Option ℕ)) (xs : List ℤ) (n : ℕ) → span x y ≡ Ok n → k < 2 → (IsSet k e.loops → ⊥)
      → IsAhead c groups t a b × LeadsTo c groups t b (with_operands ps e)
      × EndIs (end_of_loop c k (a + 1)) (λ last.
      LeadsTo c groups t (a + 1) (record (with_operands ps e) { loops = record { counter = k; first = a + 1; last = last } ∷ e.loops }))
      → OperandsFit ps xs → Goes (ranged k b (a + 1) x y xs m n)
  ranges k b x y ps xs zero q low unset h fit =
      onward c groups t see levels P a e operands m in_code fits began clean b ps xs h.0 h.1 fit
  ranges k b x y ps xs (suc n) q low unset h fit =
      end_goes c k (a + 1) (Goes (ranged k b (a + 1) x y xs m (suc n)))
      (λ last. LeadsTo c groups t (a + 1) (record (with_operands ps e) { loops = record { counter = k; first = a + 1; last = last } ∷ e.loops }))
      h.2
      (λ last is leads. loop_begins k last x y ps xs low unset (let l = (loop_end_is c k (a + 1) last is).0 in omega arith) (span_few x y n q)
      leads fit)

  pub range_goes : (k b : ℕ) → Fine c groups t (Range k b) a e → Goes (act c see (Range k b) a operands m)
  range_goes k b fine =
      two_go c groups t see levels P m _ e.operands operands _ (λ y x rest. or_trap (span x y) (ranged k b (a + 1) x y rest m)) fine.3
      fits.operands_fit
      (λ o os p ps y x rest h h1 h2. or_trap_goes c groups t see levels P m _ (span x y) (ranged k b (a + 1) x y rest m)
      (clean (may_trap e.mode fine.0)) (λ n q. ranges k b x y ps rest n q fine.1 fine.2 h h2))

  -- at the end of a loop it goes back, or on
  again_in : (k b : ℕ) (v : Counting) → counter_at k m ≡ Some v → Fine c groups t (Again k b) a e
      → Goes (counted_on k b (a + 1) v operands m)
  again_in k b v is fine = by (int_lt v.now v.end) refl
    where
      loop : Loop
      loop = record { counter = k; first = b; last = a }

      after : Counting
      after = record { now = v.now +ℤ pos 1; end = v.end }

      by : (d : Bool) → int_lt v.now v.end ≡ d
          → Goes (cond d (Going b operands (counting k (Some after) m)) (Going (a + 1) operands (counting k None m)))
      by true q =
          let counted = open_counts m loop e.loops fine.1 fits.loops_fit in
          let less : times_left (counter_at k m) ≡ suc (times_left (Some after)) = ap times_left is ∙ nearer v.now v.end q in
          let most : times_left (Some v) < MOST_QUANTIFIED = subst Counts is counted.1 in
          let few : Counts (Some after) = let l = nearer v.now v.end q in omega arith in
          counts b k (Some after) e.operands operands e.loops fine.2 fits.operands_fit
          (fit_less (is_in b) (counting k (Some after) m) e.loops
          (again_fits (length c.instrs) m k after fits.counters_two counted.0 loop e.loops refl few fine.1 fits.loops_fit))
          (goes_back (length c.instrs) m k after fits.counters_two counted.0 loop e.loops a refl fine.1 fits.loops_fit fine.0
          (let l = fine.0 in omega arith) less)
      by false q =
          counts (a + 1) k None e.operands operands e.loops fine.3 fits.operands_fit
          (ended_fits m k loop e.loops a refl refl fine.1 fits.loops_fit)
          (ends m k loop e.loops a refl refl fine.1 fits.loops_fit (length c.instrs) began in_code)

  pub again_goes : (k b : ℕ) → IsThere (counter_at k m) → Fine c groups t (Again k b) a e → Goes (act c see (Again k b) a operands m)
  again_goes k b set fine =
      there_goes (counter_at k m) (λ v. counted_on k b (a + 1) v operands m) Goes set (λ v q. again_in k b v q fine)
