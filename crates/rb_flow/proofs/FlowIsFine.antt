-- The rule of each instruction is kept in a table exactly if the table takes the steps that the instruction leads to.
use Rattle.std.proofs.Common.{◌≡◌, ◌↔◌, ℕ, ◌+◌, ◌-◌, ◌<◌, nat_eq, nat_lt, Bool, true, false, List, [], ◌∷◌, length, slice_get, Option, Some, None, refl}
use Rattle.rb_code.specs.Instructions.Plain.{Code}
use Rattle.rb_world.specs.Kind.{Membership}
use Rattle.rb_code.specs.WordMachine.Workspace.{part_of}
use Rattle.rb_code.specs.SoundCode.Sound.{BeginsAs, Each, Entry, Fine, Has, InnermostIs, IsAhead, EndIs, LeadsTo, Table, TopIs, MayTrap, changed, with_operands, alternates_at, at_address, conversation_of, end_of_loop, OpenBlock, Fresh, MayPut, MayTake, Free, Begun}
use Rattle.rb_base.specs.declared.limits.TheConstants.{MOST_OPERANDS, MOST_ITEMS}
use Rattle.rb_flow.specs.Flow.{Keeps, Steps, and_to, begins, flow, goes, goes_both, goes_to_each, innermost, is_ahead, is_none, last_of, may_trap, no_loops, pushes, takes_one, takes_two, top, when, words_at}
use Rattle.rb_flow.proofs.Weaker.{begins_as}
use Rattle.rb_flow.proofs.Tests.{Tells, above_tells, ahead_tells, entered_tells, below_tells, denies, enter_tells, eq_tells, frame_tells, fresh_tells, main_tells, not_main_tells, le_tells, loop_tells, lt_tells, no_blocks_tells, no_loops_tells, none_tells, prior_tells, procedure_tells, put_tells, range_tells, receiver_tells, restart_tells, sender_tells, set_tells, take_tells, trap_tells, turn_tells}
use Rattle.rb_code.specs.declared.instr.Instr.{Instr}
use Rattle.rb_code.specs.declared.instr.Instr.TheVariants.{Turn, Push, Load, Prior, Bound, LoadAt, PriorAt, Store, StoreAt, Add, Sub, Mul, Div, Rem, Eq, Ne, Lt, Le, Gt, Ge, Neg, Not, Bool as ToBool, Jump, JumpZero, Frame, Drop, Text, Item, Print, Room, Put, There, Take, Call, Return, Fail, Enter, Start, Test, Done, Range, Again, Counter, Absent}

module _ (t : Table) where
  when_in : (b : Bool) (s : Steps) → b ≡ true → Keeps t s → Keeps t (when b s)
  when_in false s h k = let wrong : ⊥ = cc in absurd wrong
  when_in true s h k = k

  when_out : (b : Bool) (s : Steps) → Keeps t (when b s) → (b ≡ true) × Keeps t s
  when_out false s k = absurd k
  when_out true s k = (refl, k)

  pub when1 : {X Y : Type 0} (b : Bool) (s : Steps) → Tells b X → Y ↔ Keeps t s → (X × Y) ↔ Keeps t (when b s)
  when1 b s x y = (λ p. when_in b s (x.0 p.0) (y.0 p.1), λ k. let o = when_out b s k in (x.1 o.0, y.1 o.1))

  pub when2 : {X Y Z : Type 0} (b d : Bool) (s : Steps) → Tells b X → Tells d Y → Z ↔ Keeps t s → (X × Y × Z) ↔ Keeps t (when b (when d s))
  when2 b d s x y z =
      let r = when1 b (when d s) x (when1 d s y z) in (λ p. r.0 (p.0, (p.1, p.2)), λ k. let p = r.1 k in (p.0, p.1.0, p.1.1))

  pub when3 : {X Y Z V : Type 0} (b d f : Bool) (s : Steps) → Tells b X → Tells d Y → Tells f Z → V ↔ Keeps t s
      → (X × Y × Z × V) ↔ Keeps t (when b (when d (when f s)))
  when3 b d f s x y z v =
      let r = when1 b (when d (when f s)) x (when2 d f s y z v)
      in (λ p. r.0 (p.0, (p.1, p.2, p.3)), λ k. let p = r.1 k in (p.0, p.1.0, p.1.1, p.1.2))

  pub when4 : {X Y Z V U : Type 0} (b d f g : Bool) (s : Steps) → Tells b X → Tells d Y → Tells f Z → Tells g V → U ↔ Keeps t s
      → (X × Y × Z × V × U) ↔ Keeps t (when b (when d (when f (when g s))))
  when4 b d f g s x y z v u =
      let r = when1 b (when d (when f (when g s))) x (when3 d f g s y z v u)
      in (λ p. r.0 (p.0, (p.1, p.2, p.3, p.4)), λ k. let p = r.1 k in (p.0, p.1.0, p.1.1, p.1.2, p.1.3))

  pub when5 : {X Y Z V U W : Type 0} (b d f g h : Bool) (s : Steps) → Tells b X → Tells d Y → Tells f Z → Tells g V → Tells h U
      → W ↔ Keeps t s → (X × Y × Z × V × U × W) ↔ Keeps t (when b (when d (when f (when g (when h s)))))
  when5 b d f g h s x y z v u w =
      let r = when1 b (when d (when f (when g (when h s)))) x (when4 d f g h s y z v u w)
      in (λ p. r.0 (p.0, (p.1, p.2, p.3, p.4, p.5)), λ k. let p = r.1 k in (p.0, p.1.0, p.1.1, p.1.2, p.1.3, p.1.4))

  -- a test that is the last
  pub ends : {X : Type 0} (b : Bool) → Tells b X → X ↔ Keeps t (when b (Some []))
  ends b x = (λ p. when_in b (Some []) (x.0 p) tt, λ k. x.1 (when_out b (Some []) k).0)

  pub one : (b : ℕ) (e : Entry) → Has (t b) (at_address b e) ↔ Keeps t (goes b e)
  one b e = (λ h. (h, tt), λ k. k.0)

  pub two : (b : ℕ) (e : Entry) (d : ℕ) (f : Entry) → (Has (t b) (at_address b e) × Has (t d) (at_address d f)) ↔ Keeps t (goes_both b e d f)
  two b e d f = (λ h. (h.0, (h.1, tt)), λ k. (k.0, k.1.0))

  pub top_is : (os : List (Option ℕ)) (P : Option ℕ → List (Option ℕ) → Type 0) (f : Option ℕ → List (Option ℕ) → Steps)
      → ((o : Option ℕ) (ps : List (Option ℕ)) → P o ps ↔ Keeps t (f o ps)) → TopIs os P ↔ Keeps t (top os f)
  top_is [] P f h = (λ k. k, λ k. k)
  top_is (o ∷ os) P f h = h o os

  pub innermost_is : (blocks : List OpenBlock) (P : OpenBlock → List OpenBlock → Type 0) (f : OpenBlock → List OpenBlock → Steps)
      → ((block : OpenBlock) (around : List OpenBlock) → P block around ↔ Keeps t (f block around))
      → InnermostIs blocks P ↔ Keeps t (innermost blocks f)
  innermost_is [] P f h = (λ k. k, λ k. k)
  innermost_is (block ∷ around) P f h = h block around

  -- a step, and one into a loop whose end is there
  pub last_both : (o : Option ℕ) (b : ℕ) (e : Entry) (d : ℕ) (f : ℕ → Entry)
      → (Has (t b) (at_address b e) × EndIs o (λ last. Has (t d) (at_address d (f last)))) ↔ Keeps t (last_of o (λ last. goes_both b e d (f last)))
  last_both None b e d f = (λ h. absurd h.1, λ k. absurd k)
  last_both (Some last) b e d f = two b e d (f last)

  -- one step more
  pub and_to_is : {Y : Type 0} (b : ℕ) (e : Entry) (X : Type 0) (s : Steps) → X ↔ Has (t b) (at_address b e) → Y ↔ Keeps t s
      → (X × Y) ↔ Keeps t (and_to b e s)
  and_to_is b e X None x y = (λ p. y.0 p.1, λ k. absurd k)
  and_to_is b e X (Some steps) x y = (λ p. (x.0 p.0, y.0 p.1), λ k. (x.1 k.0, y.1 k.1))

  -- tests before two steps
  pub both1 : {X P Q : Type 0} (b : Bool) (s : Steps) → Tells b X → (P × Q) ↔ Keeps t s → (X × P × Q) ↔ Keeps t (when b s)
  both1 b s x p =
      let r = when1 b s x p in (λ h. r.0 (h.0, (h.1, h.2)), λ k. let h = r.1 k in (h.0, h.1.0, h.1.1))

  pub both2 : {X Y P Q : Type 0} (b d : Bool) (s : Steps) → Tells b X → Tells d Y → (P × Q) ↔ Keeps t s
      → (X × Y × P × Q) ↔ Keeps t (when b (when d s))
  both2 b d s x y p =
      let r = when2 b d s x y p in (λ h. r.0 (h.0, h.1, (h.2, h.3)), λ k. let h = r.1 k in (h.0, h.1, h.2.0, h.2.1))

  pub both4 : {X Y Z V P Q : Type 0} (b d f g : Bool) (s : Steps) → Tells b X → Tells d Y → Tells f Z → Tells g V → (P × Q) ↔ Keeps t s
      → (X × Y × Z × V × P × Q) ↔ Keeps t (when b (when d (when f (when g s))))
  both4 b d f g s x y z v p =
      let r = when4 b d f g s x y z v p
      in (λ h. r.0 (h.0, h.1, h.2, h.3, (h.4, h.5)), λ k. let h = r.1 k in (h.0, h.1, h.2, h.3, h.4.0, h.4.1))

  pub both5 : {X Y Z V U P Q : Type 0} (b d f g h : Bool) (s : Steps) → Tells b X → Tells d Y → Tells f Z → Tells g V → Tells h U
      → (P × Q) ↔ Keeps t s → (X × Y × Z × V × U × P × Q) ↔ Keeps t (when b (when d (when f (when g (when h s)))))
  both5 b d f g h s x y z v u p =
      let r = when5 b d f g h s x y z v u p
      in (λ q. r.0 (q.0, q.1, q.2, q.3, q.4, (q.5, q.6)), λ k. let q = r.1 k in (q.0, q.1, q.2, q.3, q.4, q.5.0, q.5.1))

  pub ends4 : {X Y Z V : Type 0} (b d f g : Bool) → Tells b X → Tells d Y → Tells f Z → Tells g V
      → (X × Y × Z × V) ↔ Keeps t (when b (when d (when f (when g (Some [])))))
  ends4 b d f g x y z v = when3 b d f (when g (Some [])) x y z (ends g v)

module _ (c : Code) (groups : List Membership) (t : Table) where
  pushes_fine : (a : ℕ) (e : Entry) → (length e.operands < MOST_OPERANDS) × LeadsTo c groups t (a + 1) (with_operands (None ∷ e.operands) e)
      ↔ Keeps t (pushes a e)
  pushes_fine a e =
      when1 t (nat_lt (length e.operands) MOST_OPERANDS) _ (lt_tells (length e.operands) MOST_OPERANDS)
      (one t (a + 1) (with_operands (None ∷ e.operands) e))

  takes_one_fine : (a : ℕ) (e : Entry) → TopIs e.operands (λ o os. LeadsTo c groups t (a + 1) (with_operands (None ∷ os) e))
      ↔ Keeps t (takes_one a e)
  takes_one_fine a e = top_is t e.operands _ _ (λ o os. one t (a + 1) (with_operands (None ∷ os) e))

  takes_two_fine : (a : ℕ) (e : Entry) → TopIs e.operands (λ o os. TopIs os (λ p ps. LeadsTo c groups t (a + 1) (with_operands (None ∷ ps) e)))
      ↔ Keeps t (takes_two a e)
  takes_two_fine a e = top_is t e.operands _ _ (λ o os. top_is t os _ _ (λ p ps. one t (a + 1) (with_operands (None ∷ ps) e)))

  -- an operator that may trap
  trapping : (a : ℕ) (e : Entry)
      → (MayTrap e.mode × TopIs e.operands (λ o os. TopIs os (λ p ps. LeadsTo c groups t (a + 1) (with_operands (None ∷ ps) e))))
      ↔ Keeps t (when (may_trap e.mode) (takes_two a e))
  trapping a e = when1 t (may_trap e.mode) _ (trap_tells e.mode) (takes_two_fine a e)

  -- the entries of a procedure and of a main body can't be weakened
  begins_is : (b process words : ℕ) → BeginsAs (t b) process b words ↔ Has (t b) (begins process (Some b) words)
  begins_is b process words = begins_as (t b) process b words

  to_each : (e : Entry) (xs : List ℕ) → Each xs (λ x. LeadsTo c groups t x e) ↔ Keeps t (goes_to_each e xs)
  to_each e [] = (λ h. tt, λ k. tt)
  to_each e (x ∷ xs) = and_to_is t x e (LeadsTo c groups t x e) (goes_to_each e xs) (λ h. h, λ h. h) (to_each e xs)

  called : (a b words : ℕ) (e : Entry) → (BeginsAs (t b) e.within.process b words × LeadsTo c groups t (a + 1) (changed [] e.words e))
      ↔ Keeps t (goes_both b (begins e.within.process (Some b) words) (a + 1) (changed [] e.words e))
  called a b words e =
      let r = begins_is b e.within.process words
      in let s = two t b (begins e.within.process (Some b) words) (a + 1) (changed [] e.words e)
      in (λ h. s.0 (r.0 h.0, h.1), λ k. let h = s.1 k in (r.1 h.0, h.1))

  ranging : (a k b : ℕ) (e : Entry) (ps : List (Option ℕ)) → (IsAhead c groups t a b × LeadsTo c groups t b (with_operands ps e)
      × EndIs (end_of_loop c k (a + 1)) (λ last.
      LeadsTo c groups t (a + 1) (record (with_operands ps e) { loops = record { counter = k; first = a + 1; last = last } ∷ e.loops })))
      ↔ Keeps t (when (is_ahead c a b) (last_of (end_of_loop c k (a + 1)) (λ last. goes_both b (with_operands ps e) (a + 1)
      (record (with_operands ps e) { loops = record { counter = k; first = a + 1; last = last } ∷ e.loops }))))
  ranging a k b e ps =
      both1 t _ _ (ahead_tells c groups t a b) (last_both t (end_of_loop c k (a + 1)) b (with_operands ps e) (a + 1)
      (λ last. record (with_operands ps e) { loops = record { counter = k; first = a + 1; last = last } ∷ e.loops }))

  pub fine_is_flow : (instr : Instr) (a : ℕ) (e : Entry) → Fine c groups t instr a e ↔ Keeps t (flow c groups instr a e)
  fine_is_flow Turn a e =
      when3 t (is_none e.operands) (nat_eq e.pieces 0) (no_loops e.loops) _ (none_tells e.operands) (eq_tells e.pieces 0)
      (no_loops_tells e.loops) (one t (a + 1) (record e { mode = Fresh }))
  fine_is_flow (Push n) a e = pushes_fine a e
  fine_is_flow (Load v) a e = when1 t _ _ (range_tells (words_at c e) e.words v 1) (pushes_fine a e)
  fine_is_flow (Prior v) a e = when1 t _ _ (prior_tells (words_at c e) e.blocks v (Some 1)) (pushes_fine a e)
  fine_is_flow (Bound n) a e =
      when1 t _ _ (trap_tells e.mode) (top_is t e.operands _ _ (λ o os. one t (a + 1) (with_operands (Some n ∷ os) e)))
  fine_is_flow (LoadAt v) a e =
      top_is t e.operands _ _ (λ o os. when1 t _ _ (below_tells (words_at c e) e.words v o) (one t (a + 1) (with_operands (None ∷ os) e)))
  fine_is_flow (PriorAt v) a e =
      top_is t e.operands _ _ (λ o os. when1 t _ _ (prior_tells (words_at c e) e.blocks v o) (one t (a + 1) (with_operands (None ∷ os) e)))
  fine_is_flow (Store v) a e =
      top_is t e.operands _ _ (λ o os. when1 t _ _ (range_tells (words_at c e) e.words v 1) (one t (a + 1) (changed os e.words e)))
  fine_is_flow (StoreAt v) a e =
      top_is t e.operands _ _ (λ o os. top_is t os _ _ (λ p ps.
      when1 t _ _ (below_tells (words_at c e) e.words v p) (one t (a + 1) (changed ps e.words e))))
  fine_is_flow Add a e = trapping a e
  fine_is_flow Sub a e = trapping a e
  fine_is_flow Mul a e = trapping a e
  fine_is_flow Div a e = trapping a e
  fine_is_flow Rem a e = trapping a e
  fine_is_flow Eq a e = takes_two_fine a e
  fine_is_flow Ne a e = takes_two_fine a e
  fine_is_flow Lt a e = takes_two_fine a e
  fine_is_flow Le a e = takes_two_fine a e
  fine_is_flow Gt a e = takes_two_fine a e
  fine_is_flow Ge a e = takes_two_fine a e
  fine_is_flow Neg a e = when1 t _ _ (trap_tells e.mode) (takes_one_fine a e)
  fine_is_flow Not a e = takes_one_fine a e
  fine_is_flow ToBool a e = takes_one_fine a e
  fine_is_flow (Jump b) a e = when1 t _ _ (ahead_tells c groups t a b) (one t b (with_operands e.operands e))
  fine_is_flow (JumpZero b) a e =
      top_is t e.operands _ _ (λ o os. both1 t _ _ (ahead_tells c groups t a b) (two t b (with_operands os e) (a + 1) (with_operands os e)))
  fine_is_flow (Frame n) a e = when1 t _ _ (frame_tells e.mode) (one t (a + 1) (changed e.operands (e.words + n) e))
  fine_is_flow (Drop n) a e =
      when2 t _ _ _ (le_tells n e.words) (above_tells e.blocks (e.words - n)) (one t (a + 1) (changed e.operands (e.words - n) e))
  fine_is_flow (Text k) a e =
      when2 t _ _ _ (lt_tells k (length c.texts)) (lt_tells e.pieces MOST_ITEMS)
      (one t (a + 1) (record (with_operands e.operands e) { pieces = e.pieces + 1 }))
  fine_is_flow Item a e =
      when1 t _ _ (lt_tells e.pieces MOST_ITEMS) (top_is t e.operands _ _ (λ o os.
      one t (a + 1) (record (with_operands os e) { pieces = e.pieces + 1 })))
  fine_is_flow Print a e = when1 t _ _ (trap_tells e.mode) (one t (a + 1) (record (changed e.operands e.words e) { pieces = 0 }))
  fine_is_flow (Room channel) a e =
      when3 t _ _ _ _ (fresh_tells e.mode) (main_tells e.within.procedure) (sender_tells (slice_get c.channels channel) e.within.process)
      (one t (a + 1) (record e { mode = MayPut channel }))
  fine_is_flow (There channel) a e =
      when3 t _ _ _ _ (fresh_tells e.mode) (main_tells e.within.procedure) (receiver_tells (slice_get c.channels channel) e.within.process)
      (one t (a + 1) (record e { mode = MayTake channel }))
  fine_is_flow (Absent channel b) a e =
      both4 t _ _ _ _ _ (fresh_tells e.mode) (main_tells e.within.procedure) (receiver_tells (slice_get c.channels channel) e.within.process)
      (ahead_tells c groups t a b) (two t b (record e { mode = Free }) (a + 1) (record e { mode = MayTake channel }))
  fine_is_flow (Put channel) a e =
      when1 t _ _ (put_tells channel e.mode) (top_is t e.operands _ _ (λ o os. one t (a + 1) (changed os e.words e)))
  fine_is_flow (Take channel) a e =
      when2 t _ _ _ (take_tells channel e.mode) (lt_tells (length e.operands) MOST_OPERANDS)
      (one t (a + 1) (changed (None ∷ e.operands) e.words e))
  fine_is_flow (Call b p n) a e =
      both5 t _ _ _ _ _ _ (trap_tells e.mode) (eq_tells (length e.operands) p) (eq_tells e.pieces 0) (no_loops_tells e.loops)
      (procedure_tells (part_of c e.within.process).procedures b)
      (called a b (p + n) e)
  fine_is_flow Return a e =
      ends4 t _ _ _ _ (not_main_tells e.within.procedure) (none_tells e.operands) (eq_tells e.pieces 0) (no_blocks_tells e.blocks)
  fine_is_flow Fail a e = when1 t _ _ (trap_tells e.mode) (one t (a + 1) e)
  fine_is_flow (Enter b) a e =
      when5 t _ _ _ _ _ _ (fresh_tells e.mode) (none_tells e.operands) (restart_tells (slice_get c.blocks b) (a + 1))
      (turn_tells (slice_get c.instrs (a + 1))) (enter_tells c groups t (conversation_of (slice_get c.blocks b)) e)
      (one t (a + 1) (record (changed [] e.words e) { blocks = record { number = b; words = e.words } ∷ e.blocks }))
  fine_is_flow (Start b) a e =
      when3 t _ _ _ _ (fresh_tells e.mode) (none_tells e.operands) (entered_tells b e.words e.blocks)
      (to_each (record e { mode = Begun }) (alternates_at (slice_get c.blocks b)))
  fine_is_flow (Test b) a e =
      when3 t _ _ _ _ (trap_tells e.mode) (eq_tells e.pieces 0) (no_loops_tells e.loops) (top_is t e.operands _ _ (λ o os.
      when1 t _ _ (none_tells os) (innermost_is t e.blocks _ _ (λ block around.
      when2 t _ _ _ (eq_tells block.number b) (eq_tells block.words e.words)
      (one t (a + 1) (record (changed [] e.words e) { blocks = around }))))))
  fine_is_flow Done a e =
      ends4 t _ _ _ _ (main_tells e.within.procedure) (none_tells e.operands) (eq_tells e.pieces 0) (no_blocks_tells e.blocks)
  fine_is_flow (Range k b) a e =
      when3 t _ _ _ _ (trap_tells e.mode) (lt_tells k 2) (denies _ (set_tells k e.loops)) (top_is t e.operands _ _ (λ o os.
      top_is t os _ _ (λ p ps. ranging a k b e ps)))
  fine_is_flow (Again k b) a e =
      both2 t _ _ _ (le_tells b a) (loop_tells k b a e.loops) (two t b (with_operands e.operands e) (a + 1) (with_operands e.operands e))
  fine_is_flow (Counter k) a e = when1 t _ _ (set_tells k e.loops) (pushes_fine a e)
