-- Instructions that go on in the same body and leave the memory as it is, but for the pieces of the line: a process stands again.
use Rattle.std.proofs.Common.{◌≡◌, inl, ℕ, zero, suc, ◌+◌, ◌<◌, ◌≤◌, ℤ, pos, negsuc, neg_ℤ, nat_lt, cond, List, [], ◌∷◌, ◌++◌, length, slice_get, Option, Some, None, Result, Ok, refl, ap, sym, ◌∙◌, subst, arith, ltb-true, length-append}
use Rattle.std.specs.Fmt.{signed_decimal}
use Rattle.std.proofs.lemmas.Option.{slice_get-get_or}
use Rattle.rb_base.specs.declared.event.Cause.{Cause}
use Rattle.rb_base.specs.declared.event.Cause.TheVariants.{Index}
use Rattle.rb_world.specs.Kind.{Membership}
use Rattle.rb_meaning.specs.Value.{is_zero, fitting}
use Rattle.rb_code.specs.Instructions.Plain.{Block, Code}
use Rattle.rb_code.specs.WordMachine.Workspace.{Counting, Workspace}
use Rattle.rb_code.specs.WordMachine.Act.{Going, Outcome, Sight, Trapped, act, alternate_address, counter_at, here, if_there, on_top, operate, or_trap, within}
use Rattle.rb_code.specs.SoundCode.Sound.{Mode, Fresh, MayPut, MayTake, Begun, Free, Each, Entry, Fine, IsAhead, IsReceiver, IsSender, LeadsTo, MayTrap, Table, Takes2, TopIs, alternates_at, at_address, freed, is_in, with_operands}
use Rattle.rb_code.specs.SoundCode.Safe.{IsThere}
use Rattle.rb_code.specs.SoundCode.Stands.{BeganBefore, Fits, IsAmong, IsMet, Levels, ModeFits, OperandsFit}
use Rattle.rb_code.specs.declared.instr.Instr.TheVariants.{Bound, JumpZero, Text, Item, Room, There, Start, Counter, Absent}
use Rattle.rb_code.proofs.Looping.OpenLoops.{fit_less}
use Rattle.rb_code.proofs.Executing.Weaker.{may_trap, mode_freed, rank, rank_freed, rank_most}
use Rattle.rb_code.proofs.Executing.Progress.{Most, Progress, cond_goes, falls, moves, next, onward, or_trap_goes, top_goes, two_go}

-- what an option that is there holds
pub there_goes : {A : Type 0} (o : Option A) (go : A → Outcome) (Q : Outcome → Type 0) → IsThere o → ((x : A) → o ≡ Some x → Q (go x))
    → Q (if_there o go)
there_goes None go Q h k = absurd h
there_goes (Some x) go Q h k = k x refl

none_some : (o : Option ℕ) (x : ℕ) → o ≡ None → o ≡ Some x → ⊥
none_some o x e f = cc

each_at : (xs : List ℕ) (k x : ℕ) (Q : ℕ → Type 0) → slice_get xs k ≡ Some x → Each xs Q → Q x
each_at [] k x Q e all = absurd (none_some None x refl e)
each_at (y ∷ xs) zero x Q e all = subst Q (some_same e) all.0
  where
    some_same : Some y ≡ Some x → y ≡ x
    some_same e = cc
each_at (y ∷ xs) (suc k) x Q e all = each_at xs k x Q e all.1

alternate_at : (o : Option Block) (k x : ℕ) (Q : ℕ → Type 0) → alternate_address o k ≡ Some x → Each (alternates_at o) Q → Q x
alternate_at None k x Q e all = absurd (none_some None x refl e)
alternate_at (Some block) zero x Q e all = absurd (none_some None x refl e)
alternate_at (Some block) (suc k) x Q e all = each_at block.alternates k x Q e all

module _ (c : Code) (groups : List Membership) (t : Table) (see : Sight) (levels : Levels) (P : Workspace → Type 0)
    (keeps : (m : Workspace) (pieces : List (List ℕ)) (counters : List (Option Counting)) → P m → P (record m { pieces = pieces; counters = counters }))
    (a : ℕ) (e : Entry) (operands : List ℤ) (m : Workspace) (in_code : a < length c.instrs)
    (fits : Fits c t see levels a e operands m) (began : BeganBefore (a + 1) e.loops) (clean : 2 ≤ rank e.mode → P m) where
  abbrev pub Goes : Outcome → Type 0
  Goes = Progress c groups t see levels P m (Most c groups t see levels P a e operands m in_code fits began)

  on : (b : ℕ) (os : List (Option ℕ)) (xs : List ℤ) → IsAhead c groups t a b → LeadsTo c groups t b (with_operands os e) → OperandsFit os xs
      → Goes (Going b xs m)
  on = onward c groups t see levels P a e operands m in_code fits began clean

  -- on to the next address
  pub next_goes : (os : List (Option ℕ)) (xs : List ℤ) → LeadsTo c groups t (a + 1) (with_operands os e) → OperandsFit os xs
      → Goes (Going (a + 1) xs m)
  next_goes = next c groups t see levels P a e operands m in_code fits began clean

  pub push_goes : (x : ℤ) → LeadsTo c groups t (a + 1) (with_operands (None ∷ e.operands) e) → Goes (Going (a + 1) (x ∷ operands) m)
  push_goes x leads = next_goes (None ∷ e.operands) (x ∷ operands) leads (tt, fits.operands_fit)

  -- the top operand becomes another
  pub top_becomes : (f : ℤ → ℤ) (Q : Option ℕ → List (Option ℕ) → Type 0)
      → ((o : Option ℕ) (os : List (Option ℕ)) → Q o os → LeadsTo c groups t (a + 1) (with_operands (None ∷ os) e)) → TopIs e.operands Q
      → Goes (on_top operands (λ x rest. Going (a + 1) (f x ∷ rest) m))
  top_becomes f Q leads fine =
      top_goes c groups t see levels P m _ e.operands operands Q (λ x rest. Going (a + 1) (f x ∷ rest) m) fine fits.operands_fit
      (λ o os x rest q h1 h2. next_goes (None ∷ os) (f x ∷ rest) (leads o os q) (tt, h2))

  -- an operator that may trap, and one that does not
  pub operates : (f : ℤ → ℤ → Result ℤ Cause) → MayTrap e.mode → Takes2 c groups t a e → Goes (operate c see f a operands m)
  operates f trap fine =
      two_go c groups t see levels P m _ e.operands operands (λ o os p ps. LeadsTo c groups t (a + 1) (with_operands (None ∷ ps) e))
      (λ y x rest. or_trap (f x y) (λ z. Going (a + 1) (z ∷ rest) m)) fine fits.operands_fit
      (λ o os p ps y x rest leads h1 h2. or_trap_goes c groups t see levels P m _ (f x y) (λ z. Going (a + 1) (z ∷ rest) m)
      (clean (may_trap e.mode trap)) (λ z is. next_goes (None ∷ ps) (z ∷ rest) leads (tt, h2)))

  pub compares : (f : ℤ → ℤ → ℤ) → Takes2 c groups t a e → Goes (operate c see (λ x y. Ok (f x y)) a operands m)
  compares f fine =
      two_go c groups t see levels P m _ e.operands operands (λ o os p ps. LeadsTo c groups t (a + 1) (with_operands (None ∷ ps) e))
      (λ y x rest. Going (a + 1) (f x y ∷ rest) m) fine fits.operands_fit
      (λ o os p ps y x rest leads h1 h2. next_goes (None ∷ ps) (f x y ∷ rest) leads (tt, h2))

  pub negates : MayTrap e.mode → TopIs e.operands (λ o os. LeadsTo c groups t (a + 1) (with_operands (None ∷ os) e))
      → Goes (on_top operands (λ x rest. or_trap (fitting (neg_ℤ x)) (λ z. Going (a + 1) (z ∷ rest) m)))
  negates trap fine =
      top_goes c groups t see levels P m _ e.operands operands _ (λ x rest. or_trap (fitting (neg_ℤ x)) (λ z. Going (a + 1) (z ∷ rest) m))
      fine fits.operands_fit
      (λ o os x rest leads h1 h2. or_trap_goes c groups t see levels P m _ (fitting (neg_ℤ x)) (λ z. Going (a + 1) (z ∷ rest) m)
      (clean (may_trap e.mode trap)) (λ z is. next_goes (None ∷ os) (z ∷ rest) leads (tt, h2)))

  bounded : (n : ℕ) (os : List (Option ℕ)) (x : ℤ) (rest : List ℤ) → P m → LeadsTo c groups t (a + 1) (with_operands (Some n ∷ os) e)
      → OperandsFit os rest → Goes (cond (within n x) (Going (a + 1) (x ∷ rest) m) (Trapped Index))
  bounded n os (negsuc i) rest same leads h = same
  bounded n os (pos i) rest same leads h =
      cond_goes c groups t see levels P m _ (nat_lt i n) (Going (a + 1) (pos i ∷ rest) m) (Trapped Index)
      (λ q. next_goes (Some n ∷ os) (pos i ∷ rest) leads ((i, refl, ltb-true i n q), h)) (λ q. same)

  pub bound_goes : (n : ℕ) → Fine c groups t (Bound n) a e → Goes (act c see (Bound n) a operands m)
  bound_goes n fine =
      top_goes c groups t see levels P m _ e.operands operands _
      (λ x rest. cond (within n x) (Going (a + 1) (x ∷ rest) m) (Trapped Index)) fine.1 fits.operands_fit
      (λ o os x rest leads h1 h2. bounded n os x rest (clean (may_trap e.mode fine.0)) leads h2)

  pub jump_goes : (b : ℕ) → IsAhead c groups t a b → LeadsTo c groups t b (with_operands e.operands e) → Goes (Going b operands m)
  jump_goes b is_ahead leads = on b e.operands operands is_ahead leads fits.operands_fit

  pub branch_goes : (b : ℕ) → Fine c groups t (JumpZero b) a e → Goes (act c see (JumpZero b) a operands m)
  branch_goes b fine =
      top_goes c groups t see levels P m _ e.operands operands _ (λ x rest. cond (is_zero x) (Going b rest m) (Going (a + 1) rest m)) fine
      fits.operands_fit
      (λ o os x rest q h1 h2. cond_goes c groups t see levels P m _ (is_zero x) (Going b rest m) (Going (a + 1) rest m)
      (λ z. on b os rest q.0 q.1 h2) (λ z. next_goes os rest q.2 h2))

  -- one piece more
  piece : (os : List (Option ℕ)) (xs : List ℤ) (one : List ℕ)
      → LeadsTo c groups t (a + 1) (record (with_operands os e) { pieces = e.pieces + 1 }) → OperandsFit os xs
      → Goes (Going (a + 1) xs (record m { pieces = m.pieces ++ one ∷ [] }))
  piece os xs one leads fit =
      moves c groups t see levels P a e operands m in_code fits began (a + 1) os e.words (e.pieces + 1) (freed e.mode) xs m.words m.touched
      m.held m.slots (m.pieces ++ one ∷ []) (inl (omega arith)) leads fit fits.layout.words_are refl
      (length-append m.pieces (one ∷ []) ∙ ap (λ n. n + 1) fits.pieces_are) (mode_freed c see a (a + 1) e.mode fits.mode_fits)
      (rank_freed e.mode) (λ k. keeps m (m.pieces ++ one ∷ []) m.counters (clean (omega (arith, rank_freed e.mode, k))))

  pub text_goes : (k : ℕ) → Fine c groups t (Text k) a e → Goes (act c see (Text k) a operands m)
  text_goes k fine =
      there_goes (slice_get c.texts k) (λ text. Going (a + 1) operands (record m { pieces = m.pieces ++ text ∷ [] })) Goes
      (subst IsThere (sym (slice_get-get_or c.texts k [] fine.0)) tt) (λ text q. piece e.operands operands text fine.2 fits.operands_fit)

  pub item_goes : Fine c groups t Item a e → Goes (act c see Item a operands m)
  item_goes fine =
      top_goes c groups t see levels P m _ e.operands operands _
      (λ x rest. Going (a + 1) rest (record m { pieces = m.pieces ++ signed_decimal x ∷ [] })) fine.1 fits.operands_fit
      (λ o os x rest leads h1 h2. piece os rest (signed_decimal x) leads h2)

  pub counter_goes : (k : ℕ) → IsThere (counter_at k m) → Fine c groups t (Counter k) a e → Goes (act c see (Counter k) a operands m)
  counter_goes k set fine =
      there_goes (counter_at k m) (λ counter. Going (a + 1) (counter.now ∷ operands) m) Goes set
      (λ counter q. push_goes counter.now fine.1.1)

  -- how far the turn has come changes, and nothing else
  comes : (b : ℕ) (mode : Mode) → IsAhead c groups t a b → LeadsTo c groups t b (record e { mode = mode }) → ModeFits c see b mode
      → e.mode ≡ Fresh → Goes (Going b operands m)
  comes b mode is_ahead leads mode_fits fresh =
      moves c groups t see levels P a e operands m in_code fits began b e.operands e.words e.pieces mode operands m.words m.touched m.held
      m.slots m.pieces is_ahead leads fits.operands_fit fits.layout.words_are refl fits.pieces_are mode_fits
      (let r = ap rank fresh in omega (arith, rank_most mode)) (λ k. clean (let r = ap rank fresh in omega arith))

  -- an instruction behind a `turn` gets what it asks for
  met : (o : Option _) → slice_get c.instrs a ≡ o → e.mode ≡ Fresh → IsMet c see o
  met o at fresh = subst (IsMet c see) at (subst (ModeFits c see a) fresh fits.mode_fits)

  -- an alternate may stand anywhere
  begins : (b : ℕ) → LeadsTo c groups t b (record e { mode = Begun }) → e.mode ≡ Fresh → Goes (Going b operands m)
  begins b leads fresh =
      let e1 : Entry = at_address b (record e { mode = Begun }) in
      let stands : Fits c t see levels b e1 operands m = record {
        operands_fit = fits.operands_fit;
        layout = record {
          words_are = fits.layout.words_are;
          calls_few = fits.layout.calls_few;
          body = fits.layout.body;
          heights = fits.layout.heights;
        };
        pieces_are = fits.pieces_are;
        counters_two = fits.counters_two;
        loops_fit = fit_less (is_in b) m e.loops fits.loops_fit;
        mode_fits = tt;
      } in
      falls c groups t see levels P a e operands m in_code fits began b e1 operands m leads stands (let r = ap rank fresh in omega arith) refl
      (λ k. clean (let r = ap rank fresh in omega arith))

  pub start_goes : (b : ℕ) → slice_get c.instrs a ≡ Some (Start b) → Fine c groups t (Start b) a e → Goes (act c see (Start b) a operands m)
  start_goes b at fine =
      there_goes (alternate_address (slice_get c.blocks b) see.alternate) (λ x. Going x operands m) Goes (met (Some (Start b)) at fine.0)
      (λ x q. begins x (alternate_at (slice_get c.blocks b) see.alternate x (λ x. LeadsTo c groups t x (record e { mode = Begun })) q fine.3)
      fine.0)

  -- a channel of which the process is an end is among its channels
  module _ (sends : (channel : ℕ) → IsSender (slice_get c.channels channel) e.within.process → IsAmong channel (here c see).channels)
      (receives : (channel : ℕ) → IsReceiver (slice_get c.channels channel) e.within.process → IsAmong channel (here c see).channels) where
    pub room_goes : (channel : ℕ) → Fine c groups t (Room channel) a e → Goes (act c see (Room channel) a operands m)
    room_goes channel fine = comes (a + 1) (MayPut channel) (inl (omega arith)) fine.3 (sends channel fine.2) fine.0

    pub message_goes : (channel : ℕ) → slice_get c.instrs a ≡ Some (There channel) → Fine c groups t (There channel) a e
        → Goes (act c see (There channel) a operands m)
    message_goes channel at fine =
        comes (a + 1) (MayTake channel) (inl (omega arith)) fine.3 (receives channel fine.2, met (Some (There channel)) at fine.0) fine.0

    pub absent_goes : (channel b : ℕ) → Fine c groups t (Absent channel b) a e → Goes (act c see (Absent channel b) a operands m)
    absent_goes channel b fine = by see.message refl
      where
        by : (o : Option ℤ) → see.message ≡ o → Goes (act c (record see { message = o }) (Absent channel b) a operands m)
        by None q = comes b Free fine.3 fine.4 tt fine.0
        by (Some v) q =
            comes (a + 1) (MayTake channel) (inl (omega arith)) fine.5 (receives channel fine.2, subst IsThere (sym q) tt) fine.0
