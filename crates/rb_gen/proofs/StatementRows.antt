-- The code of statements, as it is put together.
use Rattle.std.proofs.Common.{◌≡◌, ℕ, ◌+◌, List, length, refl, sym, subst, arith}
use Rattle.rb_syntax.specs.Tree.{Identifier, Expression, Reference, PrintItem, Declaration, Command, Assignment, Printing, Sending, Receiving, Conditional, Loop, Invocation, Failure, Commands, NoCommand, Then, Body, Scope, Otherwise, NoElse, Else}
use Rattle.rb_syntax.specs.Numbered.{blocks_in, blocks_in_body, blocks_in_command}
use Rattle.rb_meaning.specs.Environment.{frame_of, frame_words}
use Rattle.rb_scope.specs.declared.slot.Slot.{Slot}
use Rattle.rb_code.specs.declared.instr.Instr.TheVariants.{Turn, There, Take, Room, Put, Absent, Jump, JumpZero, Print, Fail}
use Rattle.rb_code.specs.Agreement.Slots.{channel_of}
use Rattle.rb_code.specs.Agreement.Template.{One, ◌⨾◌, At, Label}
use Rattle.rb_code.specs.Agreement.Forms.{BodyCode, BodyForm, BranchesForm, CallCode, CommandForm, CommandsForm, DropCode, ExpressionCode, FrameCode, ItemsCode, ReceiptForm, StoreCode}
use Rattle.rb_draft.specs.Output.{Output, added, linked, patched}
use Rattle.rb_draft.specs.Emits.{Adds, Emits}
use Rattle.rb_gen.specs.InMemory.{LeavesTest}
use Rattle.rb_gen.specs.Writes.{Setting, WritesBody, WritesCommand, WritesCommands, WritesElse, WritesOtherwise, WritesThen}
use Rattle.rb_draft.proofs.Emits.{as_if, at, both, empty, filled, labelled, upto}
use Rattle.rb_gen.proofs.Rows.{then_adds}

module _ (slots : List Slot) (words : List ℕ) where
  -- a statement that is known to be another
  pub same_command : {t u : Command} {c d : Output} → t ≡ u → WritesCommand slots words u c d → WritesCommand slots words t c d
  same_command {c = c} {d = d} e h = subst (λ x. WritesCommand slots words x c d) (sym e) h

  pub assigned : {t : Command} {to : Reference} {value : Expression} {c d : Output} → t ≡ Assignment to value
      → Adds (One Turn ⨾ StoreCode slots to (ExpressionCode slots value)) c d → WritesCommand slots words t c d
  unfolding CommandForm
  assigned is p = same_command is (λ s n g. upto (p s.owner.number n) (omega arith))

  pub printing : {t : Command} {items : List PrintItem} {c d : Output} → t ≡ Printing items → Adds (One Turn ⨾ ItemsCode slots items ⨾ One Print) c d
      → WritesCommand slots words t c d
  unfolding CommandForm
  printing is p = same_command is (λ s n g. upto (p s.owner.number n) (omega arith))

  pub sending : {t : Command} {channel : Identifier} {value : Expression} {c d : Output} → t ≡ Sending channel value
      → Adds (One Turn ⨾ One (Room (channel_of slots channel.id)) ⨾ ExpressionCode slots value ⨾ One (Put (channel_of slots channel.id))) c d
      → WritesCommand slots words t c d
  unfolding CommandForm
  sending is p = same_command is (λ s n g. upto (p s.owner.number n) (omega arith))

  pub called : {t : Command} {name : Identifier} {arguments : List Expression} {c d : Output} → t ≡ Invocation name arguments
      → ((s : Setting words) (n : ℕ) → Emits (linked s.owner.number) n n (CallCode slots s.owner name arguments) c d)
      → WritesCommand slots words t c d
  unfolding CommandForm
  called is p = same_command is (λ s n g. upto (p s n) (omega arith))

  pub failed : {t : Command} {c d : Output} → t ≡ Failure → Adds (One Turn ⨾ One Fail) c d → WritesCommand slots words t c d
  unfolding CommandForm
  failed is p = same_command is (λ s n g. upto (p s.owner.number n) (omega arith))

  pub received : {t : Command} {channel : Identifier} {to : Reference} {number : ℕ} {c d e f : Output} → t ≡ Receiving channel to NoElse
      → number ≡ channel_of slots channel.id → Adds (One Turn) c d → Adds (One (There number)) d e → Adds (StoreCode slots to (One (Take number))) e f
      → WritesCommand slots words t c f
  unfolding CommandForm ReceiptForm
  received {channel = channel} {to = to} {c = c} {f = f} is same p q r =
      let all : Adds (One Turn ⨾ One (There (channel_of slots channel.id)) ⨾ StoreCode slots to (One (Take (channel_of slots channel.id)))) c f =
      subst (λ (k : ℕ). Adds (One Turn ⨾ One (There k) ⨾ StoreCode slots to (One (Take k))) c f) same (then_adds p (then_adds q r)) in
      same_command is (λ s n g. upto (all s.owner.number n) (omega arith))

  -- an `else` behind a receipt; its label comes to the front
  pub received_else : {t : Command} {channel : Identifier} {to : Reference} {other : Body} {number absent none : ℕ} {c d e f g h : Output}
      → t ≡ Receiving channel to (Else other) → number ≡ channel_of slots channel.id → Adds (One Turn) c d
      → (absent ≡ length d.instrs) × (e ≡ added (Jump 0) d) → Adds (StoreCode slots to (One (Take number))) e f
      → WritesElse slots words none other f g
      → h ≡ patched g absent (Absent number none) → WritesCommand slots words t c h
  unfolding CommandForm ReceiptForm BodyForm
  received_else {channel = channel} {to = to} {other = other} {number = number} {absent = absent} {none = none} {c = c} {h =
      h} is same p left q r end =
      same_command is (λ s n given.
      let all : Emits (linked s.owner.number) n (n + blocks_in_body other)
      (Label (λ gone. Label
      (λ end. One Turn ⨾ One (Absent number gone) ⨾ StoreCode slots to (One (Take number)) ⨾ One
      (Jump end) ⨾ At gone ⨾ BodyCode s.tree slots s.owner other ⨾ At end))) c h =
      as_if (λ w a b (m, turn, (k, jump, (l, taken, (end, rest)))). (none, (end, (m, turn, (k, jump, (l, taken, rest))))))
      (both (p s.owner.number n) (filled (Absent number none) refl left end (both (q s.owner.number n) (r s n given)))) in
      subst
      (λ (k : ℕ). Emits (linked s.owner.number) n (n + blocks_in_body other)
      (Label (λ gone. Label
      (λ end. One Turn ⨾ One (Absent k gone) ⨾ StoreCode slots to (One (Take k)) ⨾ One
      (Jump end) ⨾ At gone ⨾ BodyCode s.tree slots s.owner other ⨾ At end))) c h) same all)

  pub conditional : {t : Command} {test : Expression} {then : Body} {over end : ℕ} {c d e f : Output} → t ≡ Conditional test then NoElse
      → LeavesTest slots test over c d → WritesBody slots words then d e → end ≡ length e.instrs → f ≡ patched e over (JumpZero end)
      → WritesCommand slots words t c f
  unfolding CommandForm BranchesForm BodyForm
  conditional {then = then} {end = end} {e = e} is (o, tested, left) p here patches =
      same_command is (λ s n (given, unit).
      upto (labelled end (as_if (λ w a b (m, (k, turn, value), rest). (k, turn, (m, value, rest)))
      (both (tested s.owner.number n) (filled (JumpZero end) refl left patches (both (p s n given) (at (n + blocks_in_body then) e here))))))
      (omega arith))

  pub conditional_else : {t : Command} {test : Expression} {then other : Body} {over gone : ℕ} {c d e f g : Output}
      → t ≡ Conditional test then (Else other) → LeavesTest slots test over c d → WritesBody slots words then d e
      → WritesElse slots words gone other e f
      → g ≡ patched f over (JumpZero gone) → WritesCommand slots words t c g
  unfolding CommandForm BranchesForm BodyForm
  conditional_else {then = then} {other = other} {gone = gone} is (o, tested, left) p q patches =
      same_command is (λ s n (given, more).
      upto (as_if
      (λ w a b (m, (k, turn, value), (l, jump, (i, first, (end, rest)))). (gone, (end, (k, turn, (m, value, (l, jump, (i, first, rest)))))))
      (both (tested s.owner.number n) (filled (JumpZero gone) refl left patches (both (p s n given) (q s (n + blocks_in_body then) more)))))
      (omega arith))

  -- a test and its block, and what stands behind them
  pub branched : {t : Command} {test : Expression} {then : Body} {other : Otherwise} {over : ℕ} {c d e : Output}
      → t ≡ Conditional test then other → WritesThen slots words test then over c d → WritesOtherwise slots words over other d e
      → WritesCommand slots words t c e
  branched {other = NoElse} is (o, tested, p) patches = conditional is tested p refl patches
  branched {other = Else x} is (o, tested, p) (address, f, q, patches) = conditional_else is tested p q patches

  -- no `else`, and one
  pub no_else : (place : ℕ) (c : Output) {other : Otherwise} {address : ℕ} {d : Output} → other ≡ NoElse → address ≡ length c.instrs
      → d ≡ patched c place (JumpZero address) → WritesOtherwise slots words place other c d
  no_else place c {d = d} is here patches =
      subst (λ x. WritesOtherwise slots words place x c d) (sym is) (subst (λ a. d ≡ patched c place (JumpZero a)) here patches)

  pub some_else : (place : ℕ) {other : Otherwise} {x : Body} {address : ℕ} {c d e : Output} → other ≡ Else x
      → WritesElse slots words address x c d → e ≡ patched d place (JumpZero address) → WritesOtherwise slots words place other c e
  some_else place {address = address} {c = c} {d = d} {e = e} is p patches =
      subst (λ x. WritesOtherwise slots words place x c e) (sym is) (address, d, p, patches)

  pub looped : {t : Command} {test : Expression} {over_again : Body} {loop over end : ℕ} {c d e f g : Output} → t ≡ Loop test over_again
      → loop ≡ length c.instrs → LeavesTest slots test over c d → WritesBody slots words over_again d e → Adds (One (Jump loop)) e f
      → end ≡ length f.instrs → g ≡ patched f over (JumpZero end) → WritesCommand slots words t c g
  unfolding CommandForm BodyForm
  looped {over_again = x} {loop = loop} {end = end} {c = c} {f = f} is first (o, tested, left) p q here patches =
      same_command is (λ s n given.
      labelled loop (labelled end (both (at n c first) (as_if (λ w a b (m, (k, turn, value), rest). (k, turn, (m, value, rest)))
      (both (tested s.owner.number n)
      (filled (JumpZero end) refl left patches
      (both (p s n given) (both (q s.owner.number (n + blocks_in_body x)) (at (n + blocks_in_body x) f here)))))))))

  pub no_command : {l : Commands} (c : Output) → l ≡ NoCommand → WritesCommands slots words l c c
  unfolding CommandsForm
  no_command c is = subst (λ x. WritesCommands slots words x c c) (sym is) (λ s n g. upto (empty n c) (omega arith))

  pub one_command : {l rest : Commands} {first : Command} {c d e : Output} → l ≡ Then first rest → WritesCommand slots words first c d
      → WritesCommands slots words rest d e → WritesCommands slots words l c e
  unfolding CommandsForm
  one_command {first = first} {c = c} {e = e} is p q =
      subst (λ x. WritesCommands slots words x c e) (sym is) (λ s n (g, h). upto (both (p s n g) (q s (n + blocks_in_command first) h)) (omega arith))

  pub body_row : (variables : List Declaration) (l : Commands) {k : Commands} {size : ℕ} {c d e f : Output} → k ≡ l
      → size ≡ frame_words (frame_of variables) → Adds (FrameCode size) c d → WritesCommands slots words k d e → Adds (DropCode size) e f
      → WritesBody slots words (Scope variables l) c f
  unfolding BodyForm CommandsForm
  body_row variables l {c = c} {d = d} {e = e} {f = f} is same p q r =
      let frame : Adds (FrameCode (frame_words (frame_of variables))) c d = subst (λ (i : ℕ). Adds (FrameCode i) c d) same p in
      let drops : Adds (DropCode (frame_words (frame_of variables))) e f = subst (λ (i : ℕ). Adds (DropCode i) e f) same r in
      let inside : WritesCommands slots words l d e = subst (λ x. WritesCommands slots words x d e) is q in
      λ s n g. both (frame s.owner.number n) (both (inside s n g) (drops s.owner.number (n + blocks_in l)))

  pub else_row : (other : Body) {skip start end : ℕ} {c d e f : Output} → (skip ≡ length c.instrs) × (d ≡ added (Jump 0) c) → start ≡ length d.instrs
      → WritesBody slots words other d e → end ≡ length e.instrs → f ≡ patched e skip (Jump end) → WritesElse slots words start other c f
  else_row other {end = end} {d = d} {e = e} left first p last patches =
      λ s n g. labelled end (filled (Jump end) refl left patches (both (at n d first) (both (p s n g) (at (n + blocks_in_body other) e last))))
