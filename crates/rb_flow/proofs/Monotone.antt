-- A stronger entry leads to stronger ones: a table that takes what an instruction leads to from the weaker entry takes what it leads to
-- from the stronger one.
use Rattle.std.proofs.Common.{◌≡◌, ℕ, suc, ◌+◌, ◌-◌, nat_eq, nat_lt, nat_le, not, Bool, true, false, List, [], ◌∷◌, length, slice_get, Option, Some, None, refl, sym, ap, ◌∙◌, subst}
use Rattle.rb_code.specs.Instructions.Plain.{Code}
use Rattle.rb_world.specs.Kind.{Membership}
use Rattle.rb_code.specs.SoundCode.Sound.{Entry, Has, IsWeaker, Table, WeakerMode, WeakerOperand, WeakerOperands, alternates_at, at_address, end_of_loop, freed, with_operands, Mode, OpenBlock, Fresh, MayPut, MayTake, Begun, Free, Changed}
use Rattle.rb_base.specs.declared.limits.TheConstants.{MOST_OPERANDS, MOST_ITEMS}
use Rattle.rb_flow.specs.Flow.{Keeps, Steps, and_to, below_in_range, flow, flow_at, flow_by, goes, goes_both, goes_to_each, in_main, in_range, is_above, is_ahead, is_entered, is_fresh, is_loop, is_none, is_receiver, is_sender, is_set, last_of, may_frame, may_put, may_take, may_trap, no_loops, prior_in_range, pushes, takes_one, takes_two, top, when, words_at}
use Rattle.rb_flow.proofs.Weaker.{alike, arrives_weaker, has_stronger, mode_freed}
use Rattle.rb_code.specs.declared.instr.Spot.{Spot}
use Rattle.rb_code.specs.declared.instr.Instr.{Instr}
use Rattle.rb_code.specs.declared.instr.Instr.TheVariants.{Turn, Push, Load, Prior, Bound, LoadAt, PriorAt, Store, StoreAt, Add, Sub, Mul, Div, Rem, Eq, Ne, Lt, Le, Gt, Ge, Neg, Not, Bool as ToBool, Jump, JumpZero, Frame, Drop, Text, Item, Print, Room, Put, There, Take, Call, Return, Fail, Enter, Start, Test, Done, Range, Again, Counter, Absent}

-- what a test of the weaker says, the test of the stronger says
abbrev pub Implies : Bool → Bool → Type 0
Implies d b = d ≡ true → b ≡ true

mode_test : (f : Mode → Bool) (m n : Mode) → f Changed ≡ false → WeakerMode m n → Implies (f n) (f m)
mode_test f m Changed c h k = let wrong : ⊥ = cc in absurd wrong
mode_test f m Fresh c h k = ap f h ∙ k
mode_test f m (MayPut d) c h k = ap f h ∙ k
mode_test f m (MayTake d) c h k = ap f h ∙ k
mode_test f m Begun c h k = ap f h ∙ k
mode_test f m Free c h k = ap f h ∙ k

pub trap_test : (m n : Mode) → WeakerMode m n → Implies (may_trap n) (may_trap m)
trap_test m n h = mode_test may_trap m n refl h

pub frame_test : (m n : Mode) → WeakerMode m n → Implies (may_frame n) (may_frame m)
frame_test m n h = mode_test may_frame m n refl h

pub fresh_test : (m n : Mode) → WeakerMode m n → Implies (is_fresh n) (is_fresh m)
fresh_test m n h = mode_test is_fresh m n refl h

pub put_test : (channel : ℕ) (m n : Mode) → WeakerMode m n → Implies (may_put channel n) (may_put channel m)
put_test channel m n h = mode_test (may_put channel) m n refl h

pub take_test : (channel : ℕ) (m n : Mode) → WeakerMode m n → Implies (may_take channel n) (may_take channel m)
take_test channel m n h = mode_test (may_take channel) m n refl h

pub none_test : (os ps : List (Option ℕ)) → WeakerOperands os ps → Implies (is_none ps) (is_none os)
none_test [] [] h k = k
none_test [] (p ∷ ps) h k = absurd h
none_test (o ∷ os) [] h k = absurd h
none_test (o ∷ os) (p ∷ ps) h k = k

pub as_many : (os ps : List (Option ℕ)) → WeakerOperands os ps → length os ≡ length ps
as_many [] [] h = refl
as_many [] (p ∷ ps) h = absurd h
as_many (o ∷ os) [] h = absurd h
as_many (o ∷ os) (p ∷ ps) h = ap suc (as_many os ps h.1)

pub few_test : (os ps : List (Option ℕ)) → WeakerOperands os ps → Implies (nat_lt (length ps) MOST_OPERANDS) (nat_lt (length os) MOST_OPERANDS)
few_test os ps h k = subst (λ n. nat_lt n MOST_OPERANDS ≡ true) (sym (as_many os ps h)) k

pub count_test : (os ps : List (Option ℕ)) (n : ℕ) → WeakerOperands os ps → Implies (nat_eq (length ps) n) (nat_eq (length os) n)
count_test os ps n h k = subst (λ m. nat_eq m n ≡ true) (sym (as_many os ps h)) k

pub below_test : (globals words : ℕ) (v : Spot) (o p : Option ℕ) → WeakerOperand o p
    → Implies (below_in_range globals words v p) (below_in_range globals words v o)
below_test globals words v o None h k = let wrong : ⊥ = cc in absurd wrong
below_test globals words v None (Some n) h k = absurd h
below_test globals words v (Some m) (Some n) h k = subst (λ x. in_range globals words v x ≡ true) (sym h) k

pub prior_test : (globals : ℕ) (blocks : List OpenBlock) (v : Spot) (o p : Option ℕ) → WeakerOperand o p
    → Implies (prior_in_range globals blocks v p) (prior_in_range globals blocks v o)
prior_test globals [] v o p h k = k
prior_test globals (block ∷ around) v o p h k = below_test globals block.words v o p h k

module _ (t : Table) where
  -- a table that takes the second steps takes the first
  pub record Leads (s r : Steps) : Type 0 where
    pub by : Keeps t r → Keeps t s

  pub unchanged : (s : Steps) → Leads s s
  unchanged s = record { by = λ x. x }

  when_stronger : (b d : Bool) (s r : Steps) → Implies d b → (Keeps t r → Keeps t s) → Keeps t (when d r) → Keeps t (when b s)
  when_stronger b false s r h k x = absurd x
  when_stronger false true s r h k x = let wrong : ⊥ = (let e = h refl in cc) in absurd wrong
  when_stronger true true s r h k x = k x

  pub tested : (b d : Bool) (s r : Steps) → Implies d b → Leads s r → Leads (when b s) (when d r)
  tested b d s r h k = record { by = when_stronger b d s r h k.by }

  pub same : (b : Bool) (s r : Steps) → Leads s r → Leads (when b s) (when b r)
  same b s r k = tested b b s r (λ h. h) k

  pub tops : (os ps : List (Option ℕ)) (f g : Option ℕ → List (Option ℕ) → Steps) → WeakerOperands os ps
      → ((o p : Option ℕ) (qs rs : List (Option ℕ)) → WeakerOperand o p → WeakerOperands qs rs → Leads (f o qs) (g p rs))
      → Leads (top os f) (top ps g)
  tops [] [] f g h k = record { by = λ x. x }
  tops [] (p ∷ ps) f g h k = absurd h
  tops (o ∷ os) [] f g h k = absurd h
  tops (o ∷ os) (p ∷ ps) f g h k = k o p os ps h.0 h.1

  pub lasts : (o : Option ℕ) (f g : ℕ → Steps) → ((last : ℕ) → Leads (f last) (g last)) → Leads (last_of o f) (last_of o g)
  lasts None f g k = record { by = λ x. x }
  lasts (Some last) f g k = k last

  stronger : (b : ℕ) (x y : Entry) → IsWeaker x y → Has (t b) (at_address b y) → Has (t b) (at_address b x)
  stronger b x y h k = has_stronger (t b) (at_address b x) (at_address b y) (arrives_weaker b x y h) k

  pub once : (b : ℕ) (x y : Entry) → IsWeaker x y → Leads (goes b x) (goes b y)
  once b x y h = record { by = λ k. (stronger b x y h k.0, tt) }

  pub twice : (b : ℕ) (x y : Entry) (d : ℕ) (v w : Entry) → IsWeaker x y → IsWeaker v w → Leads (goes_both b x d v) (goes_both b y d w)
  twice b x y d v w h k = record { by = λ z. (stronger b x y h z.0, (stronger d v w k z.1.0, tt)) }

  and_stronger : (b : ℕ) (x y : Entry) (s r : Steps) → IsWeaker x y → (Keeps t r → Keeps t s) → Keeps t (and_to b y r) → Keeps t (and_to b x s)
  and_stronger b x y s None h k z = absurd z
  and_stronger b x y None (Some rs) h k z = absurd (k z.1)
  and_stronger b x y (Some ss) (Some rs) h k z = (stronger b x y h z.0, k z.1)

  pub more : (b : ℕ) (x y : Entry) (s r : Steps) → IsWeaker x y → Leads s r → Leads (and_to b x s) (and_to b y r)
  more b x y s r h k = record { by = and_stronger b x y s r h k.by }

module _ (c : Code) (groups : List Membership) (t : Table) where
  each : (x y : Entry) (bs : List ℕ) → IsWeaker x y → Leads t (goes_to_each x bs) (goes_to_each y bs)
  each x y [] h = record { by = λ k. k }
  each x y (b ∷ bs) h = more t b x y (goes_to_each x bs) (goes_to_each y bs) h (each x y bs h)

  -- two entries that are alike in all but operands and mode
  module _ (e : Entry) (os ps : List (Option ℕ)) (m n : Mode) (h : WeakerOperands os ps) (k : WeakerMode m n) where
    abbrev former : Entry
    former = record e { operands = os; mode = m }

    abbrev weak : Entry
    weak = record e { operands = ps; mode = n }

    quiet : (qs rs : List (Option ℕ)) → WeakerOperands qs rs → IsWeaker (with_operands qs former) (with_operands rs weak)
    quiet qs rs w = alike e qs rs (freed m) (freed n) w (mode_freed m n k)

    pushing : (a : ℕ) → Leads t (pushes a former) (pushes a weak)
    pushing a = tested t _ _ _ _ (few_test os ps h) (once t (a + 1) _ _ (quiet (None ∷ os) (None ∷ ps) (tt, h)))

    taking_one : (a : ℕ) → Leads t (takes_one a former) (takes_one a weak)
    taking_one a = tops t os ps _ _ h (λ o p qs rs x w. once t (a + 1) _ _ (quiet (None ∷ qs) (None ∷ rs) (tt, w)))

    taking_two : (a : ℕ) → Leads t (takes_two a former) (takes_two a weak)
    taking_two a =
        tops t os ps _ _ h (λ o p qs rs x w. tops t qs rs _ _ w (λ o2 p2 qs2 rs2 x2 w2.
        once t (a + 1) _ _ (quiet (None ∷ qs2) (None ∷ rs2) (tt, w2))))

    trapping : (s r : Steps) → Leads t s r → Leads t (when (may_trap m) s) (when (may_trap n) r)
    trapping s r l = tested t _ _ s r (trap_test m n k) l

    freshly : (s r : Steps) → Leads t s r → Leads t (when (is_fresh m) s) (when (is_fresh n) r)
    freshly s r l = tested t _ _ s r (fresh_test m n k) l

    cleared : (s r : Steps) → Leads t s r → Leads t (when (is_none os) s) (when (is_none ps) r)
    cleared s r l = tested t _ _ s r (none_test os ps h) l

    pub flows : (instr : Instr) (a : ℕ) → Leads t (flow c groups instr a former) (flow c groups instr a weak)
    flows Turn a =
        cleared _ _ (same t (nat_eq e.pieces 0) _ _ (same t (no_loops e.loops) _ _ (once t (a + 1) _ _ (alike e os ps Fresh Fresh h refl))))
    flows (Push v) a = pushing a
    flows (Load v) a = same t (in_range (words_at c e) e.words v 1) _ _ (pushing a)
    flows (Prior v) a = same t (prior_in_range (words_at c e) e.blocks v (Some 1)) _ _ (pushing a)
    flows (Bound b) a = trapping _ _ (tops t os ps _ _ h (λ o p qs rs x w. once t (a + 1) _ _ (quiet (Some b ∷ qs) (Some b ∷ rs) (refl, w))))
    flows (LoadAt v) a =
        tops t os ps _ _ h (λ o p qs rs x w. tested t _ _ _ _ (below_test (words_at c e) e.words v o p x)
        (once t (a + 1) _ _ (quiet (None ∷ qs) (None ∷ rs) (tt, w))))
    flows (PriorAt v) a =
        tops t os ps _ _ h (λ o p qs rs x w. tested t _ _ _ _ (prior_test (words_at c e) e.blocks v o p x)
        (once t (a + 1) _ _ (quiet (None ∷ qs) (None ∷ rs) (tt, w))))
    flows (Store v) a =
        tops t os ps _ _ h (λ o p qs rs x w. same t (in_range (words_at c e) e.words v 1) _ _
        (once t (a + 1) _ _ (alike e qs rs Changed Changed w tt)))
    flows (StoreAt v) a =
        tops t os ps _ _ h (λ o p qs rs x w. tops t qs rs _ _ w (λ o2 p2 qs2 rs2 x2 w2.
        tested t _ _ _ _ (below_test (words_at c e) e.words v o2 p2 x2) (once t (a + 1) _ _ (alike e qs2 rs2 Changed Changed w2 tt))))
    flows Add a = trapping _ _ (taking_two a)
    flows Sub a = trapping _ _ (taking_two a)
    flows Mul a = trapping _ _ (taking_two a)
    flows Div a = trapping _ _ (taking_two a)
    flows Rem a = trapping _ _ (taking_two a)
    flows Eq a = taking_two a
    flows Ne a = taking_two a
    flows Lt a = taking_two a
    flows Le a = taking_two a
    flows Gt a = taking_two a
    flows Ge a = taking_two a
    flows Neg a = trapping _ _ (taking_one a)
    flows Not a = taking_one a
    flows ToBool a = taking_one a
    flows (Jump b) a = same t (is_ahead c a b) _ _ (once t b _ _ (quiet os ps h))
    flows (JumpZero b) a =
        tops t os ps _ _ h (λ o p qs rs x w. same t (is_ahead c a b) _ _ (twice t b _ _ (a + 1) _ _ (quiet qs rs w) (quiet qs rs w)))
    flows (Frame v) a =
        tested t _ _ _ _ (frame_test m n k) (once t (a + 1) _ _ (alike (record e { words = e.words + v }) os ps Changed Changed h tt))
    flows (Drop v) a =
        same t (nat_le v e.words) _ _ (same t (is_above e.blocks (e.words - v)) _ _ (once t (a + 1) _ _ (alike
        (record e { words = e.words - v }) os ps Changed Changed h tt)))
    flows (Text v) a =
        same t (nat_lt v (length c.texts)) _ _ (same t (nat_lt e.pieces MOST_ITEMS) _ _ (once t (a + 1) _ _ (alike
        (record e { pieces = e.pieces + 1 }) os ps (freed m) (freed n) h (mode_freed m n k))))
    flows Item a =
        same t (nat_lt e.pieces MOST_ITEMS) _ _ (tops t os ps _ _ h (λ o p qs rs x w.
        once t (a + 1) _ _ (alike (record e { pieces = e.pieces + 1 }) qs rs (freed m) (freed n) w (mode_freed m n k))))
    flows Print a = trapping _ _ (once t (a + 1) _ _ (alike (record e { pieces = 0 }) os ps Changed Changed h tt))
    flows (Room d) a =
        freshly _ _ (same t (in_main e.within.procedure) _ _ (same t (is_sender (slice_get c.channels d) e.within.process) _ _ (once t (a + 1) _ _
        (alike e os ps (MayPut d) (MayPut d) h refl))))
    flows (There d) a =
        freshly _ _ (same t (in_main e.within.procedure) _ _ (same t (is_receiver (slice_get c.channels d) e.within.process) _ _ (once t (a + 1) _ _
        (alike e os ps (MayTake d) (MayTake d) h refl))))
    flows (Absent d b) a =
        freshly _ _ (same t (in_main e.within.procedure) _ _ (same t (is_receiver (slice_get c.channels d) e.within.process) _ _ (same t
        (is_ahead c a b) _ _
        (twice t b _ _ (a + 1) _ _ (alike e os ps Free Free h refl) (alike e os ps (MayTake d) (MayTake d) h refl)))))
    flows (Put d) a =
        tested t _ _ _ _ (put_test d m n k) (tops t os ps _ _ h (λ o p qs rs x w. once t (a + 1) _ _ (alike e qs rs Changed Changed w tt)))
    flows (Take d) a =
        tested t _ _ _ _ (take_test d m n k) (tested t _ _ _ _ (few_test os ps h)
        (once t (a + 1) _ _ (alike e (None ∷ os) (None ∷ ps) Changed Changed (tt, h) tt)))
    flows (Call b p v) a =
        trapping _ _ (tested t _ _ _ _ (count_test os ps p h) (same t (nat_eq e.pieces 0) _ _ (same t (no_loops e.loops) _ _ (unchanged t _))))
    flows Return a = same t (not (in_main e.within.procedure)) _ _ (cleared _ _ (unchanged t _))
    flows Fail a = trapping _ _ (once t (a + 1) _ _ (alike e os ps m n h k))
    flows (Enter b) a = freshly _ _ (cleared _ _ (unchanged t _))
    flows (Start b) a =
        freshly _ _ (cleared _ _ (same t (is_entered b e.words e.blocks) _ _ (each _ _ (alternates_at (slice_get c.blocks b))
        (alike e os ps Begun Begun h refl))))
    flows (Test b) a =
        trapping _ _ (same t (nat_eq e.pieces 0) _ _ (same t (no_loops e.loops) _ _ (tops t os ps _ _ h (λ o p qs rs x w.
        tested t _ _ _ _ (none_test qs rs w) (unchanged t _)))))
    flows Done a = same t (in_main e.within.procedure) _ _ (cleared _ _ (unchanged t _))
    flows (Range j b) a =
        trapping _ _ (same t (nat_lt j 2) _ _ (same t (not (is_set j e.loops)) _ _ (tops t os ps _ _ h (λ o p qs rs x w. tops t qs rs _ _ w
        (λ o2 p2 qs2 rs2 x2 w2.
        same t (is_ahead c a b) _ _ (lasts t (end_of_loop c j (a + 1)) _ _ (λ last. twice t b _ _ (a + 1) _ _ (quiet qs2 rs2 w2)
        (alike (record e { loops = record { counter = j; first = a + 1; last = last } ∷ e.loops }) qs2 rs2 (freed m) (freed n) w2
        (mode_freed m n k)))))))))
    flows (Again j b) a =
        same t (nat_le b a) _ _ (same t (is_loop j b a e.loops) _ _ (twice t b _ _ (a + 1) _ _ (quiet os ps h) (quiet os ps h)))
    flows (Counter j) a = same t (is_set j e.loops) _ _ (pushing a)

    flows_by : (o : Option Instr) (a : ℕ) → Leads t (flow_by c groups o a former) (flow_by c groups o a weak)
    flows_by None a = unchanged t None
    flows_by (Some instr) a = same t (is_above e.blocks e.words) _ _ (flows instr a)

  -- the same of any two entries
  weaker_is : (e g : Entry) → IsWeaker e g → record e { operands = g.operands; mode = g.mode } ≡ g
  weaker_is e g h =
      let p = sym h.within in let w = sym h.words in let b = sym h.blocks in let l = sym h.loops in let n = sym h.pieces
      in λ i. record {
        within = p i;
        operands = g.operands;
        words = w i;
        blocks = b i;
        loops = l i;
        pieces = n i;
        mode = g.mode;
      }

  pub flow_is_monotone : (a : ℕ) (e g : Entry) → IsWeaker e g → Keeps t (flow_at c groups a g) → Keeps t (flow_at c groups a e)
  flow_is_monotone a e g h x =
      (flows_by e e.operands g.operands e.mode g.mode h.operands h.mode (slice_get c.instrs a) a).by
      (subst (λ f. Keeps t (flow_at c groups a f)) (sym (weaker_is e g h)) x)
