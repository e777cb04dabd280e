-- The steps of an instruction lead to its successors, each to one.
use Rattle.std.proofs.Common.{◌≡◌, ℕ, ◌+◌, ◌-◌, nat_lt, nat_eq, Bool, true, false, List, [], ◌∷◌, map, length, slice_get, Option, Some, None, refl, ap}
use Rattle.rb_base.specs.declared.limits.TheConstants.{MOST_ITEMS, MOST_OPERANDS}
use Rattle.rb_world.specs.Kind.{Membership}
use Rattle.rb_code.specs.Instructions.Plain.{Code}
use Rattle.rb_code.specs.WordMachine.Workspace.{part_of}
use Rattle.rb_code.specs.SoundCode.Sound.{Begun, Entry, Free, Fresh, MayPut, MayTake, OpenBlock, Table, alternates_at, changed, conversation_of, end_of_loop, with_operands}
use Rattle.rb_code.specs.SoundCode.Reached.{successors}
use Rattle.rb_code.specs.declared.instr.Instr.{Instr}
use Rattle.rb_code.specs.declared.instr.Instr.TheVariants.{Turn, Push, Load, Prior, Bound, LoadAt, PriorAt, Store, StoreAt, Add, Sub, Mul, Div, Rem, Eq, Ne, Lt, Le, Gt, Ge, Neg, Not, Bool as ToBool, Jump, JumpZero, Frame, Drop, Text, Item, Print, Room, Put, There, Take, Call, Return, Fail, Enter, Start, Test, Done, Range, Again, Counter, Absent}
use Rattle.rb_flow.specs.Flow.{Step, Steps, is_none, no_loops, and_to, begins, flow, goes, goes_both, goes_to_each, innermost, is_ahead, last_of, pushes, takes_one, takes_two, top, when, words_at}
use Rattle.rb_flow.proofs.Tests.{Tells, above_tells, ahead_tells, below_tells, denies, enter_tells, entered_tells, eq_tells, frame_tells, fresh_tells, le_tells, loop_tells, lt_tells, main_tells, no_blocks_tells, no_loops_tells, none_tells, not_main_tells, prior_tells, procedure_tells, put_tells, range_tells, receiver_tells, restart_tells, sender_tells, set_tells, take_tells, trap_tells, turn_tells}

abbrev pub addresses : List Step → List ℕ
addresses steps = map (λ (step : Step). step.at) steps

-- where there are steps, they lead to these addresses
abbrev pub GoTo : List ℕ → Steps → Type 0
GoTo xs None = Unit {0}
GoTo xs (Some steps) = addresses steps ≡ xs

pub record Goes (xs : List ℕ) (s : Steps) : Type 0 where
  pub to : GoTo xs s

module _ (xs : List ℕ) where
  pub tested : (b : Bool) (s : Steps) → Goes xs s → Goes xs (when b s)
  tested false s h = record { to = tt }
  tested true s h = h

  when1 : {X : Type 0} (b : Bool) (s : Steps) → Tells b X → Goes xs s → Goes xs (when b s)
  when1 b s x h = tested b s h

  when2 : {X Y : Type 0} (b d : Bool) (s : Steps) → Tells b X → Tells d Y → Goes xs s → Goes xs (when b (when d s))
  when2 b d s x y h = tested b _ (tested d s h)

  when3 : {X Y Z : Type 0} (b d f : Bool) (s : Steps) → Tells b X → Tells d Y → Tells f Z → Goes xs s → Goes xs (when b (when d (when f s)))
  when3 b d f s x y z h = tested b _ (when2 d f s y z h)

  when4 : {X Y Z V : Type 0} (b d f g : Bool) (s : Steps) → Tells b X → Tells d Y → Tells f Z → Tells g V → Goes xs s
      → Goes xs (when b (when d (when f (when g s))))
  when4 b d f g s x y z v h = tested b _ (when3 d f g s y z v h)

  when5 : {X Y Z V U : Type 0} (b d f g k : Bool) (s : Steps) → Tells b X → Tells d Y → Tells f Z → Tells g V → Tells k U → Goes xs s
      → Goes xs (when b (when d (when f (when g (when k s)))))
  when5 b d f g k s x y z v u h = tested b _ (when4 d f g k s y z v u h)

  top_is : (os : List (Option ℕ)) (f : Option ℕ → List (Option ℕ) → Steps) → ((o : Option ℕ) (ps : List (Option ℕ)) → Goes xs (f o ps))
      → Goes xs (top os f)
  top_is [] f h = record { to = tt }
  top_is (o ∷ os) f h = h o os

  innermost_is : (blocks : List OpenBlock) (f : OpenBlock → List OpenBlock → Steps)
      → ((block : OpenBlock) (around : List OpenBlock) → Goes xs (f block around)) → Goes xs (innermost blocks f)
  innermost_is [] f h = record { to = tt }
  innermost_is (block ∷ around) f h = h block around

  lasted : (o : Option ℕ) (f : ℕ → Steps) → ((last : ℕ) → Goes xs (f last)) → Goes xs (last_of o f)
  lasted None f h = record { to = tt }
  lasted (Some last) f h = h last

one : (b : ℕ) (e : Entry) → Goes (b ∷ []) (goes b e)
one b e = record { to = refl }

two : (b : ℕ) (e : Entry) (d : ℕ) (f : Entry) → Goes (b ∷ d ∷ []) (goes_both b e d f)
two b e d f = record { to = refl }

ends4 : {X Y Z V : Type 0} (b d f g : Bool) → Tells b X → Tells d Y → Tells f Z → Tells g V
    → Goes [] (when b (when d (when f (when g (Some [])))))
ends4 b d f g x y z v = when4 [] b d f g (Some []) x y z v (record { to = refl })

each_more : (b : ℕ) (e : Entry) (xs : List ℕ) (s : Steps) → Goes xs s → Goes (b ∷ xs) (and_to b e s)
each_more b e xs None h = record { to = tt }
each_more b e xs (Some steps) h = record { to = ap (λ ys. b ∷ ys) h.to }

each_goes : (e : Entry) (xs : List ℕ) → Goes xs (goes_to_each e xs)
each_goes e [] = record { to = refl }
each_goes e (x ∷ xs) = each_more x e xs (goes_to_each e xs) (each_goes e xs)

pushing : (a : ℕ) (e : Entry) → Goes ((a + 1) ∷ []) (pushes a e)
pushing a e = tested _ (nat_lt (length e.operands) MOST_OPERANDS) _ (one (a + 1) (with_operands (None ∷ e.operands) e))

one_taken : (a : ℕ) (e : Entry) → Goes ((a + 1) ∷ []) (takes_one a e)
one_taken a e = top_is _ e.operands _ (λ o os. one (a + 1) (with_operands (None ∷ os) e))

two_taken : (a : ℕ) (e : Entry) → Goes ((a + 1) ∷ []) (takes_two a e)
two_taken a e = top_is _ e.operands _ (λ o os. top_is _ os _ (λ p ps. one (a + 1) (with_operands (None ∷ ps) e)))

module _ (c : Code) (groups : List Membership) (a : ℕ) (e : Entry) where
  -- laws of tests are laws of every table
  abbrev t : Table
  t = λ x. None

  ranging : (k b : ℕ) (ps : List (Option ℕ))
      → Goes (b ∷ (a + 1) ∷ []) (when (is_ahead c a b) (last_of (end_of_loop c k (a + 1)) (λ last. goes_both b (with_operands ps e) (a + 1)
      (record (with_operands ps e) { loops = record { counter = k; first = a + 1; last = last } ∷ e.loops }))))
  ranging k b ps = tested _ (is_ahead c a b) _ (lasted _ (end_of_loop c k (a + 1)) _ (λ last. two b (with_operands ps e) (a + 1)
      (record (with_operands ps e) { loops = record { counter = k; first = a + 1; last = last } ∷ e.loops })))

  pub flow_goes : (instr : Instr) → Goes (successors c instr a) (flow c groups instr a e)
  flow_goes Turn =
      when3 _ (is_none e.operands) (nat_eq e.pieces 0) (no_loops e.loops) _ (none_tells e.operands) (eq_tells e.pieces 0)
      (no_loops_tells e.loops) (one (a + 1) (record e { mode = Fresh }))
  flow_goes (Push n) = pushing a e
  flow_goes (Load v) = when1 _ _ _ (range_tells (words_at c e) e.words v 1) (pushing a e)
  flow_goes (Prior v) = when1 _ _ _ (prior_tells (words_at c e) e.blocks v (Some 1)) (pushing a e)
  flow_goes (Bound n) =
      when1 _ _ _ (trap_tells e.mode) (top_is _ e.operands _ (λ o os. one (a + 1) (with_operands (Some n ∷ os) e)))
  flow_goes (LoadAt v) =
      top_is _ e.operands _ (λ o os. when1 _ _ _ (below_tells (words_at c e) e.words v o) (one (a + 1) (with_operands (None ∷ os) e)))
  flow_goes (PriorAt v) =
      top_is _ e.operands _ (λ o os. when1 _ _ _ (prior_tells (words_at c e) e.blocks v o) (one (a + 1) (with_operands (None ∷ os) e)))
  flow_goes (Store v) =
      top_is _ e.operands _ (λ o os. when1 _ _ _ (range_tells (words_at c e) e.words v 1) (one (a + 1) (changed os e.words e)))
  flow_goes (StoreAt v) =
      top_is _ e.operands _ (λ o os. top_is _ os _ (λ p ps.
      when1 _ _ _ (below_tells (words_at c e) e.words v p) (one (a + 1) (changed ps e.words e))))
  flow_goes Add = when1 _ _ _ (trap_tells e.mode) (two_taken a e)
  flow_goes Sub = when1 _ _ _ (trap_tells e.mode) (two_taken a e)
  flow_goes Mul = when1 _ _ _ (trap_tells e.mode) (two_taken a e)
  flow_goes Div = when1 _ _ _ (trap_tells e.mode) (two_taken a e)
  flow_goes Rem = when1 _ _ _ (trap_tells e.mode) (two_taken a e)
  flow_goes Eq = two_taken a e
  flow_goes Ne = two_taken a e
  flow_goes Lt = two_taken a e
  flow_goes Le = two_taken a e
  flow_goes Gt = two_taken a e
  flow_goes Ge = two_taken a e
  flow_goes Neg = when1 _ _ _ (trap_tells e.mode) (one_taken a e)
  flow_goes Not = one_taken a e
  flow_goes ToBool = one_taken a e
  flow_goes (Jump b) = when1 _ _ _ (ahead_tells c groups t a b) (one b (with_operands e.operands e))
  flow_goes (JumpZero b) =
      top_is _ e.operands _ (λ o os. when1 _ _ _ (ahead_tells c groups t a b) (two b (with_operands os e) (a + 1) (with_operands os e)))
  flow_goes (Frame n) = when1 _ _ _ (frame_tells e.mode) (one (a + 1) (changed e.operands (e.words + n) e))
  flow_goes (Drop n) =
      when2 _ _ _ _ (le_tells n e.words) (above_tells e.blocks (e.words - n)) (one (a + 1) (changed e.operands (e.words - n) e))
  flow_goes (Text k) =
      when2 _ _ _ _ (lt_tells k (length c.texts)) (lt_tells e.pieces MOST_ITEMS)
      (one (a + 1) (record (with_operands e.operands e) { pieces = e.pieces + 1 }))
  flow_goes Item =
      when1 _ _ _ (lt_tells e.pieces MOST_ITEMS) (top_is _ e.operands _ (λ o os.
      one (a + 1) (record (with_operands os e) { pieces = e.pieces + 1 })))
  flow_goes Print = when1 _ _ _ (trap_tells e.mode) (one (a + 1) (record (changed e.operands e.words e) { pieces = 0 }))
  flow_goes (Room channel) =
      when3 _ _ _ _ _ (fresh_tells e.mode) (main_tells e.within.procedure) (sender_tells (slice_get c.channels channel) e.within.process)
      (one (a + 1) (record e { mode = MayPut channel }))
  flow_goes (There channel) =
      when3 _ _ _ _ _ (fresh_tells e.mode) (main_tells e.within.procedure) (receiver_tells (slice_get c.channels channel) e.within.process)
      (one (a + 1) (record e { mode = MayTake channel }))
  flow_goes (Absent channel b) =
      when4 _ _ _ _ _ _ (fresh_tells e.mode) (main_tells e.within.procedure) (receiver_tells (slice_get c.channels channel) e.within.process)
      (ahead_tells c groups t a b) (two b (record e { mode = Free }) (a + 1) (record e { mode = MayTake channel }))
  flow_goes (Put channel) =
      when1 _ _ _ (put_tells channel e.mode) (top_is _ e.operands _ (λ o os. one (a + 1) (changed os e.words e)))
  flow_goes (Take channel) =
      when2 _ _ _ _ (take_tells channel e.mode) (lt_tells (length e.operands) MOST_OPERANDS)
      (one (a + 1) (changed (None ∷ e.operands) e.words e))
  flow_goes (Call b p n) =
      when5 _ _ _ _ _ _ _ (trap_tells e.mode) (eq_tells (length e.operands) p) (eq_tells e.pieces 0) (no_loops_tells e.loops)
      (procedure_tells (part_of c e.within.process).procedures b)
      (two b (begins e.within.process (Some b) (p + n)) (a + 1) (changed [] e.words e))
  flow_goes Return =
      ends4 _ _ _ _ (not_main_tells e.within.procedure) (none_tells e.operands) (eq_tells e.pieces 0) (no_blocks_tells e.blocks)
  flow_goes Fail = when1 _ _ _ (trap_tells e.mode) (one (a + 1) e)
  flow_goes (Enter b) =
      when5 _ _ _ _ _ _ _ (fresh_tells e.mode) (none_tells e.operands) (restart_tells (slice_get c.blocks b) (a + 1))
      (turn_tells (slice_get c.instrs (a + 1))) (enter_tells c groups t (conversation_of (slice_get c.blocks b)) e)
      (one (a + 1) (record (changed [] e.words e) { blocks = record { number = b; words = e.words } ∷ e.blocks }))
  flow_goes (Start b) =
      when3 _ _ _ _ _ (fresh_tells e.mode) (none_tells e.operands) (entered_tells b e.words e.blocks)
      (each_goes (record e { mode = Begun }) (alternates_at (slice_get c.blocks b)))
  flow_goes (Test b) =
      when3 _ _ _ _ _ (trap_tells e.mode) (eq_tells e.pieces 0) (no_loops_tells e.loops) (top_is _ e.operands _ (λ o os.
      when1 _ _ _ (none_tells os) (innermost_is _ e.blocks _ (λ block around.
      when2 _ _ _ _ (eq_tells block.number b) (eq_tells block.words e.words)
      (one (a + 1) (record (changed [] e.words e) { blocks = around }))))))
  flow_goes Done =
      ends4 _ _ _ _ (main_tells e.within.procedure) (none_tells e.operands) (eq_tells e.pieces 0) (no_blocks_tells e.blocks)
  flow_goes (Range k b) =
      when3 _ _ _ _ _ (trap_tells e.mode) (lt_tells k 2) (denies _ (set_tells k e.loops)) (top_is _ e.operands _ (λ o os.
      top_is _ os _ (λ p ps. ranging k b ps)))
  flow_goes (Again k b) =
      when2 _ _ _ _ (le_tells b a) (loop_tells k b a e.loops) (two b (with_operands e.operands e) (a + 1) (with_operands e.operands e))
  flow_goes (Counter k) = when1 _ _ _ (set_tells k e.loops) (pushing a e)
