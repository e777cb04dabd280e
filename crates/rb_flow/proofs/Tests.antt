-- What the tests of rules tell.
use Rattle.std.proofs.Common.{◌≡◌, ◌⊎◌, inl, inr, ◌↔◌, ℕ, ◌+◌, ◌<◌, ◌≤◌, ◌&&◌, nat_eq, nat_lt, nat_le, not, Bool, true, false, List, [], ◌∷◌, slice_get, Option, Some, None, refl, ap, eq-eqb, eqb-true, lt-ltb, ltb-true, le-leb, leb-true}
use Rattle.rb_code.specs.Instructions.Plain.{Block, Code, Procedure}
use Rattle.rb_world.specs.Kind.{Ends, Membership}
use Rattle.rb_world.specs.Turn.{members_of}
use Rattle.rb_world.specs.Reject.{parent_of}
use Rattle.rb_code.specs.SoundCode.Sound.{Entry, InRange, IsAbove, IsAhead, IsBelow, InnermostIs, IsMember, IsOpen, IsProcedureAt, IsOfProcedure, IsReceiver, IsSender, IsSet, LiesIn, MayEnter, MayFrame, MayTrap, RestartIs, Table, conversation_of, Loop, Mode, OpenBlock, Fresh, MayPut, MayTake, Begun, Free, Changed}
use Rattle.rb_flow.specs.Flow.{below_in_range, either, in_range, is_above, is_ahead, in_main, is_among, is_conversation, is_entered, is_fresh, is_loop, is_none, is_receiver, is_sender, is_set, is_start_among, is_this_loop, is_turn, lies_in, may_enter, may_frame, may_put, may_take, may_trap, no_blocks, no_loops, prior_in_range, restarts_at}
use Rattle.rb_code.specs.declared.instr.Spot.{Spot}
use Rattle.rb_code.specs.declared.instr.Spot.TheVariants.{Global, Local}
use Rattle.rb_code.specs.declared.instr.Instr.{Instr}
use Rattle.rb_code.specs.declared.instr.Instr.TheVariants.{Turn}

-- a test tells whether this holds
abbrev pub Tells : Bool → Type 0 → Type 0
Tells b X = X ↔ (b ≡ true)

pub always : {X : Type 0} → X → Tells true X
always x = (λ h. refl, λ h. x)

pub never : {X : Type 0} → (X → ⊥) → Tells false X
never wrong = (λ x. absurd (wrong x), λ h. let wrong : ⊥ = cc in absurd wrong)

pub unit_tells : Tells true (Unit {0})
unit_tells = always tt

pub itself : (b : Bool) → Tells b (b ≡ true)
itself b = (λ h. h, λ h. h)

pub not_tells : (b : Bool) → Tells (not b) (b ≡ false)
not_tells true = never (λ h. cc)
not_tells false = always refl

pub eq_tells : (m n : ℕ) → Tells (nat_eq m n) (m ≡ n)
eq_tells m n = (eq-eqb m n, eqb-true m n)

pub lt_tells : (m n : ℕ) → Tells (nat_lt m n) (m < n)
lt_tells m n = (lt-ltb m n, ltb-true m n)

pub le_tells : (m n : ℕ) → Tells (nat_le m n) (m ≤ n)
le_tells m n = (le-leb m n, leb-true m n)

pub either_tells : {X Y : Type 0} (b d : Bool) → Tells b X → Tells d Y → Tells (either b d) (X ⊎ Y)
either_tells true d x y = always (inl (x.1 refl))
either_tells false d x y = (λ p. elim p [ inl h ↦ (let wrong : ⊥ = (let e = x.0 h in cc) in absurd wrong) | inr h ↦ y.0 h ], λ h. inr (y.1 h))

pub both_tell : {X Y : Type 0} (b d : Bool) → Tells b X → Tells d Y → Tells (b && d) (X × Y)
both_tell true d x y = (λ p. y.0 p.1, λ h. (x.1 refl, y.1 h))
both_tell false d x y = never (λ p. let e = x.0 p.0 in cc)

pub denies : {X : Type 0} (b : Bool) → Tells b X → Tells (not b) (X → ⊥)
denies true x = never (λ wrong. wrong (x.1 refl))
denies false x = always (λ h. let e = x.0 h in cc)

pub none_tells : (os : List (Option ℕ)) → Tells (is_none os) (os ≡ [])
none_tells [] = always refl
none_tells (o ∷ os) = never (λ h. cc)

pub no_blocks_tells : (blocks : List OpenBlock) → Tells (no_blocks blocks) (blocks ≡ [])
no_blocks_tells [] = always refl
no_blocks_tells (b ∷ bs) = never (λ h. cc)

pub no_loops_tells : (loops : List Loop) → Tells (no_loops loops) (loops ≡ [])
no_loops_tells [] = always refl
no_loops_tells (l ∷ ls) = never (λ h. cc)

pub trap_tells : (m : Mode) → Tells (may_trap m) (MayTrap m)
trap_tells Fresh = unit_tells
trap_tells (MayPut d) = unit_tells
trap_tells (MayTake d) = unit_tells
trap_tells Begun = never (λ h. h)
trap_tells Free = unit_tells
trap_tells Changed = never (λ h. h)

pub frame_tells : (m : Mode) → Tells (may_frame m) (MayFrame m)
frame_tells Fresh = unit_tells
frame_tells (MayPut d) = unit_tells
frame_tells (MayTake d) = unit_tells
frame_tells Begun = unit_tells
frame_tells Free = unit_tells
frame_tells Changed = never (λ h. h)

pub fresh_tells : (m : Mode) → Tells (is_fresh m) (m ≡ Fresh)
fresh_tells Fresh = always refl
fresh_tells (MayPut d) = never (λ h. cc)
fresh_tells (MayTake d) = never (λ h. cc)
fresh_tells Begun = never (λ h. cc)
fresh_tells Free = never (λ h. cc)
fresh_tells Changed = never (λ h. cc)

pub put_tells : (channel : ℕ) (m : Mode) → Tells (may_put channel m) (m ≡ MayPut channel)
put_tells channel Fresh = never (λ h. cc)
put_tells channel (MayPut d) = (λ h. let e : d ≡ channel = cc in eq-eqb d channel e, λ h. ap MayPut (eqb-true d channel h))
put_tells channel (MayTake d) = never (λ h. cc)
put_tells channel Begun = never (λ h. cc)
put_tells channel Free = never (λ h. cc)
put_tells channel Changed = never (λ h. cc)

pub take_tells : (channel : ℕ) (m : Mode) → Tells (may_take channel m) (m ≡ MayTake channel)
take_tells channel Fresh = never (λ h. cc)
take_tells channel (MayPut d) = never (λ h. cc)
take_tells channel (MayTake d) = (λ h. let e : d ≡ channel = cc in eq-eqb d channel e, λ h. ap MayTake (eqb-true d channel h))
take_tells channel Begun = never (λ h. cc)
take_tells channel Free = never (λ h. cc)
take_tells channel Changed = never (λ h. cc)

pub range_tells : (globals words : ℕ) (v : Spot) (n : ℕ) → Tells (in_range globals words v n) (InRange globals words v n)
range_tells globals words (Global k) n = le_tells (k + n) globals
range_tells globals words (Local k) n = le_tells (k + n) words

pub below_tells : (globals words : ℕ) (v : Spot) (o : Option ℕ)
    → Tells (below_in_range globals words v o) (IsBelow o (λ n. InRange globals words v n))
below_tells globals words v None = never (λ h. h)
below_tells globals words v (Some n) = range_tells globals words v n

pub prior_tells : (globals : ℕ) (blocks : List OpenBlock) (v : Spot) (o : Option ℕ)
    → Tells (prior_in_range globals blocks v o) (InnermostIs blocks (λ block around. IsBelow o (λ n. InRange globals block.words v n)))
prior_tells globals [] v o = never (λ h. h)
prior_tells globals (block ∷ around) v o = below_tells globals block.words v o

pub above_tells : (blocks : List OpenBlock) (words : ℕ) → Tells (is_above blocks words) (IsAbove blocks words)
above_tells [] words = unit_tells
above_tells (block ∷ around) words = le_tells block.words words

pub entered_tells : (b words : ℕ) (blocks : List OpenBlock)
    → Tells (is_entered b words blocks) (InnermostIs blocks (λ block around. (block.number ≡ b) × (block.words ≡ words)))
entered_tells b words [] = never (λ h. h)
entered_tells b words (block ∷ around) =
    both_tell (nat_eq block.number b) (nat_eq block.words words) (eq_tells block.number b) (eq_tells block.words words)

this_tells : (k first last : ℕ) (loop : Loop)
    → Tells (is_this_loop k first last loop) (loop ≡ record { counter = k; first = first; last = last })
this_tells k first last loop =
    let r = both_tell (nat_eq loop.counter k) (nat_eq loop.first first && nat_eq loop.last last) (eq_tells loop.counter k)
    (both_tell (nat_eq loop.first first) (nat_eq loop.last last) (eq_tells loop.first first) (eq_tells loop.last last))
    in (λ h. r.0 (ap (λ l. l.counter) h, (ap (λ l. l.first) h, ap (λ l. l.last) h)), λ h. let p = r.1 h in same loop p.0 p.1.0 p.1.1)
  where
    same : (l : Loop) → l.counter ≡ k → l.first ≡ first → l.last ≡ last → l ≡ record { counter = k; first = first; last = last }
    same l x y z = λ i. record { counter = x i; first = y i; last = z i }

pub loop_tells : (k first last : ℕ) (loops : List Loop)
    → Tells (is_loop k first last loops) (IsOpen (record { counter = k; first = first; last = last }) loops)
loop_tells k first last [] = never (λ h. h)
loop_tells k first last (loop ∷ around) =
    either_tells (is_this_loop k first last loop) (is_loop k first last around) (this_tells k first last loop)
    (loop_tells k first last around)

pub set_tells : (k : ℕ) (loops : List Loop) → Tells (is_set k loops) (IsSet k loops)
set_tells k [] = never (λ h. h)
set_tells k (loop ∷ around) = either_tells (nat_eq loop.counter k) (is_set k around) (eq_tells loop.counter k) (set_tells k around)

pub restart_tells : (o : Option Block) (a : ℕ) → Tells (restarts_at o a) (RestartIs o a)
restart_tells None a = never (λ h. h)
restart_tells (Some block) a = eq_tells block.restart a

pub main_tells : (o : Option ℕ) → Tells (in_main o) (o ≡ None)
main_tells None = always refl
main_tells (Some start) = never (λ h. cc)

pub not_main_tells : (o : Option ℕ) → Tells (not (in_main o)) (IsOfProcedure o)
not_main_tells None = never (λ h. h)
not_main_tells (Some start) = unit_tells

pub procedure_tells : (starts : List Procedure) (a : ℕ) → Tells (is_start_among starts a) (IsProcedureAt starts a)
procedure_tells [] a = never (λ h. h)
procedure_tells (b ∷ bs) a = either_tells (nat_eq b.start a) (is_start_among bs a) (eq_tells b.start a) (procedure_tells bs a)

pub member_tells : (members : List ℕ) (p : ℕ) → Tells (is_among members p) (IsMember p members)
member_tells [] p = never (λ h. h)
member_tells (b ∷ bs) p = either_tells (nat_eq b p) (is_among bs p) (eq_tells b p) (member_tells bs p)

pub sender_tells : (o : Option Ends) (p : ℕ) → Tells (is_sender o p) (IsSender o p)
sender_tells None p = never (λ h. h)
sender_tells (Some ends) p = eq_tells ends.sender p

pub receiver_tells : (o : Option Ends) (p : ℕ) → Tells (is_receiver o p) (IsReceiver o p)
receiver_tells None p = never (λ h. h)
receiver_tells (Some ends) p = eq_tells ends.receiver p

pub turn_tells : (o : Option Instr) → Tells (is_turn o) (o ≡ Some Turn)
turn_tells None = never (λ h. cc)
turn_tells (Some Turn) = always refl
turn_tells (Some other) = never (λ h. cc)

pub conversation_tells : (o : Option ℕ) (d : ℕ) → Tells (is_conversation o d) (o ≡ Some d)
conversation_tells None d = never (λ h. cc)
conversation_tells (Some c) d = (λ h. let e : c ≡ d = cc in eq-eqb c d e, λ h. ap Some (eqb-true c d h))

module _ (c : Code) (groups : List Membership) (t : Table) where
  pub lies_tells : (parent : Option ℕ) (blocks : List OpenBlock) → Tells (lies_in c parent blocks) (LiesIn c groups t parent blocks)
  lies_tells None [] = unit_tells
  lies_tells None (block ∷ around) = never (λ h. h)
  lies_tells (Some parent) [] = never (λ h. h)
  lies_tells (Some parent) (block ∷ around) = conversation_tells (conversation_of (slice_get c.blocks block.number)) parent

  pub enter_tells : (o : Option ℕ) (e : Entry) → Tells (may_enter c groups o e.within e.blocks) (MayEnter c groups t o e)
  enter_tells None e = unit_tells
  enter_tells (Some d) e =
      let among = is_among (members_of (slice_get groups d)) e.within.process
      in let lies = lies_in c (parent_of (slice_get groups d)) e.blocks
      in let r = both_tell (in_main e.within.procedure) (among && lies) (main_tells e.within.procedure)
      (both_tell among lies (member_tells (members_of (slice_get groups d)) e.within.process)
      (lies_tells (parent_of (slice_get groups d)) e.blocks))
      in (λ p. r.0 (p.0, (p.1, p.2)), λ h. let p = r.1 h in (p.0, p.1.0, p.1.1))

  pub ahead_tells : (a b : ℕ) → Tells (is_ahead c a b) (IsAhead c groups t a b)
  ahead_tells a b = either_tells (nat_lt a b) (is_turn (slice_get c.instrs b)) (lt_tells a b) (turn_tells (slice_get c.instrs b))
