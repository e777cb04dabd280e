-- Each instruction of sound code leads to where the process stands again, with less left to do.
use Rattle.std.proofs.Common.{◌≡◌, ℕ, ◌+◌, ◌<◌, ◌≤◌, ℤ, int_lt, int_le, not, List, length, slice_get, Option, Some, ap, sym, subst, arith}
use Rattle.std.specs.Ordering.{int_eq}
use Rattle.rb_syntax.specs.declared.expression.Op.TheVariants as op
use Rattle.rb_world.specs.Kind.{Membership}
use Rattle.rb_meaning.specs.Value.{applied, is_zero, truth}
use Rattle.rb_code.specs.Instructions.Plain.{Code}
use Rattle.rb_code.specs.WordMachine.Workspace.{Counting, Workspace}
use Rattle.rb_code.specs.WordMachine.Act.{Outcome, Sight, act, here}
use Rattle.rb_code.specs.SoundCode.Sound.{Entry, Fine, IsReceiver, IsSender, Table}
use Rattle.rb_code.specs.SoundCode.Stands.{BeganBefore, Fits, IsAmong, Levels, RestsAt}
use Rattle.rb_code.specs.declared.instr.Instr.{Instr}
use Rattle.rb_code.specs.declared.instr.Instr.TheVariants.{Turn, Push, Load, Prior, Bound, LoadAt, PriorAt, Store, StoreAt, Add, Sub, Mul, Div, Rem, Eq, Ne, Lt, Le, Gt, Ge, Neg, Not, Bool as ToBool, Jump, JumpZero, Frame, Drop, Text, Item, Print, Room, Put, There, Take, Call, Return, Fail, Enter, Start, Test, Done, Range, Again, Counter, Absent}
use Rattle.rb_code.proofs.Executing.OpenLevels.{body_process}
use Rattle.rb_code.proofs.Executing.Needs.{set_there}
use Rattle.rb_code.proofs.Executing.Weaker.{may_trap, rank}
use Rattle.rb_code.proofs.Executing.Progress.{Most, Progress, StopsAt}
use Rattle.rb_code.proofs.Executing.PlainSteps as plain
use Rattle.rb_code.proofs.Executing.ChangingSteps as changing
use Rattle.rb_code.proofs.Executing.CallSteps as calls
use Rattle.rb_code.proofs.Looping.OpenLoops.{open_set}
use Rattle.rb_code.proofs.Looping.CounterSteps as counters

module _ (c : Code) (groups : List Membership) (t : Table) (see : Sight) (levels : Levels) (P : Workspace → Type 0)
    (keeps : (m : Workspace) (pieces : List (List ℕ)) (counters : List (Option Counting)) → P m → P (record m { pieces = pieces; counters = counters }))
    (sends : (channel : ℕ) → IsSender (slice_get c.channels channel) see.process → IsAmong channel (here c see).channels)
    (receives : (channel : ℕ) → IsReceiver (slice_get c.channels channel) see.process → IsAmong channel (here c see).channels)
    (a : ℕ) (e : Entry) (operands : List ℤ) (m : Workspace) (in_code : a < length c.instrs) (known : t a ≡ Some e)
    (fits : Fits c t see levels a e operands m) (began : BeganBefore (a + 1) e.loops) (clean : 2 ≤ rank e.mode → P m) where
  abbrev Goes : Outcome → Type 0
  Goes = Progress c groups t see levels P m (Most c groups t see levels P a e operands m in_code fits began)

  same : e.within.process ≡ see.process
  same = body_process c t see.process m.calls e.within e.blocks levels fits.layout.body

  sends_here : (channel : ℕ) → IsSender (slice_get c.channels channel) e.within.process → IsAmong channel (here c see).channels
  sends_here channel h = sends channel (subst (IsSender (slice_get c.channels channel)) same h)

  receives_here : (channel : ℕ) → IsReceiver (slice_get c.channels channel) e.within.process → IsAmong channel (here c see).channels
  receives_here channel h = receives channel (subst (IsReceiver (slice_get c.channels channel)) same h)

  -- a process rests here
  stops : (i : Instr) → slice_get c.instrs a ≡ Some i → RestsAt (Some i) → StopsAt c groups t see levels P a m
  stops i at rests = record { entry = e; there = known; rests = subst RestsAt (sym at) rests; layout = fits.layout }

  pub goes : (i : Instr) → slice_get c.instrs a ≡ Some i → Fine c groups t i a e → Goes (act c see i a operands m)
  goes Turn at fine = stops Turn at tt
  goes Done at fine = stops Done at tt
  goes (Push n) at fine = plain.push_goes c groups t see levels P keeps a e operands m in_code fits began clean n fine.1
  goes (Load v) at fine = plain.push_goes c groups t see levels P keeps a e operands m in_code fits began clean _ fine.1.1
  goes (Prior v) at fine = plain.push_goes c groups t see levels P keeps a e operands m in_code fits began clean _ fine.1.1
  goes (Bound n) at fine = plain.bound_goes c groups t see levels P keeps a e operands m in_code fits began clean n fine
  goes (LoadAt v) at fine =
      plain.top_becomes c groups t see levels P keeps a e operands m in_code fits began clean _ _ (λ o os q. q.1) fine
  goes (PriorAt v) at fine =
      plain.top_becomes c groups t see levels P keeps a e operands m in_code fits began clean _ _ (λ o os q. q.1) fine
  goes (Store v) at fine = changing.store_goes c groups t see levels P a e operands m in_code fits began clean v fine
  goes (StoreAt v) at fine = changing.store_at_goes c groups t see levels P a e operands m in_code fits began clean v fine
  goes Add at fine = plain.operates c groups t see levels P keeps a e operands m in_code fits began clean (applied op.Add) fine.0 fine.1
  goes Sub at fine = plain.operates c groups t see levels P keeps a e operands m in_code fits began clean (applied op.Sub) fine.0 fine.1
  goes Mul at fine = plain.operates c groups t see levels P keeps a e operands m in_code fits began clean (applied op.Mul) fine.0 fine.1
  goes Div at fine = plain.operates c groups t see levels P keeps a e operands m in_code fits began clean (applied op.Div) fine.0 fine.1
  goes Rem at fine = plain.operates c groups t see levels P keeps a e operands m in_code fits began clean (applied op.Rem) fine.0 fine.1
  goes Eq at fine =
      plain.compares c groups t see levels P keeps a e operands m in_code fits began clean (λ x y. truth (int_eq x y)) fine
  goes Ne at fine =
      plain.compares c groups t see levels P keeps a e operands m in_code fits began clean (λ x y. truth (not (int_eq x y))) fine
  goes Lt at fine =
      plain.compares c groups t see levels P keeps a e operands m in_code fits began clean (λ x y. truth (int_lt x y)) fine
  goes Le at fine =
      plain.compares c groups t see levels P keeps a e operands m in_code fits began clean (λ x y. truth (int_le x y)) fine
  goes Gt at fine =
      plain.compares c groups t see levels P keeps a e operands m in_code fits began clean (λ x y. truth (int_lt y x)) fine
  goes Ge at fine =
      plain.compares c groups t see levels P keeps a e operands m in_code fits began clean (λ x y. truth (int_le y x)) fine
  goes Neg at fine = plain.negates c groups t see levels P keeps a e operands m in_code fits began clean fine.0 fine.1
  goes Not at fine =
      plain.top_becomes c groups t see levels P keeps a e operands m in_code fits began clean (λ x. truth (is_zero x)) _ (λ o os q. q) fine
  goes ToBool at fine =
      plain.top_becomes c groups t see levels P keeps a e operands m in_code fits began clean (λ x. truth (not (is_zero x))) _ (λ o os q. q)
      fine
  goes (Jump b) at fine = plain.jump_goes c groups t see levels P keeps a e operands m in_code fits began clean b fine.0 fine.1
  goes (JumpZero b) at fine = plain.branch_goes c groups t see levels P keeps a e operands m in_code fits began clean b fine
  goes (Frame n) at fine = changing.frame_goes c groups t see levels P a e operands m in_code fits began clean n fine
  goes (Drop n) at fine = changing.drop_goes c groups t see levels P a e operands m in_code fits began clean n fine
  goes (Text k) at fine = plain.text_goes c groups t see levels P keeps a e operands m in_code fits began clean k fine
  goes Item at fine = plain.item_goes c groups t see levels P keeps a e operands m in_code fits began clean fine
  goes Print at fine = changing.print_goes c groups t see levels P a e operands m in_code fits began clean fine
  goes (Room channel) at fine =
      plain.room_goes c groups t see levels P keeps a e operands m in_code fits began clean sends_here receives_here channel fine
  goes (Put channel) at fine = changing.put_goes c groups t see levels P a e operands m in_code fits began clean channel fine
  goes (There channel) at fine =
      plain.message_goes c groups t see levels P keeps a e operands m in_code fits began clean sends_here receives_here channel at fine
  goes (Take channel) at fine = changing.take_goes c groups t see levels P a e operands m in_code fits began clean channel fine
  goes (Call b p n) at fine = calls.call_goes c groups t see levels P a e operands m in_code fits began clean b p n fine
  goes Return at fine = calls.return_goes c groups t see levels P a e operands m in_code fits began clean fine
  goes Fail at fine = clean (may_trap e.mode fine.0)
  goes (Enter b) at fine = clean (let r = ap rank fine.0 in omega arith)
  goes (Start b) at fine = plain.start_goes c groups t see levels P keeps a e operands m in_code fits began clean b at fine
  goes (Test b) at fine = changing.test_goes c groups t see levels P a e operands m in_code fits began clean b fine
  goes (Range k b) at fine = counters.range_goes c groups t see levels P keeps a e operands m in_code fits began clean k b fine
  goes (Again k b) at fine =
      counters.again_goes c groups t see levels P keeps a e operands m in_code fits began clean k b
      (set_there m k e.loops (open_set _ e.loops fine.1) fits.loops_fit) fine
  goes (Counter k) at fine =
      plain.counter_goes c groups t see levels P keeps a e operands m in_code fits began clean k (set_there m k e.loops fine.0 fits.loops_fit)
      fine
  goes (Absent channel b) at fine =
      plain.absent_goes c groups t see levels P keeps a e operands m in_code fits began clean sends_here receives_here channel b fine
