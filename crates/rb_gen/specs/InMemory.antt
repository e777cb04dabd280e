-- Templates of places, quantified expressions, tests and operators, as code in memory comes to them.
use Rattle.std.specs.Prelude.{◌≡◌, ℕ, List, length, pos}
use Rattle.rb_syntax.specs.declared.expression.Op.{Op}
use Rattle.rb_syntax.specs.declared.expression.Op.TheVariants as op
use Rattle.rb_syntax.specs.declared.expression.Quantified.{Quantified}
use Rattle.rb_syntax.specs.declared.expression.Target.{Target}
use Rattle.rb_syntax.specs.Plain.{expression, subscript}
use Rattle.rb_syntax.specs.Tree.{Expression}
use Rattle.rb_scope.specs.declared.slot.Slot.{Slot}
use Rattle.rb_code.specs.Agreement.Slots.{counter_of, elements_of, quantified_of, spot_of}
use Rattle.rb_code.specs.Agreement.Template.{Template, One, ◌⨾◌}
use Rattle.rb_code.specs.Agreement.Forms.{ExpressionCode, ScalarCode, SubscriptCode}
use Rattle.rb_code.specs.declared.instr.Instr.{Instr}
use Rattle.rb_code.specs.declared.instr.Instr.TheVariants.{Add, Sub, Mul, Div, Rem, Eq, Ne, Lt, Le, Gt, Ge, Bool, Enter, Jump, LoadAt, Prior, PriorAt, Push, Put, Room, Start, Test, Turn}
use Rattle.rb_draft.specs.Output.{Output, added, patched}
use Rattle.rb_draft.specs.Emits.{Adds}

-- the code of a place, as it is, and as it was before the recovery block
abbrev pub ValueCode : List Slot → Target → Template
ValueCode slots target =
    SubscriptCode slots (ScalarCode (counter_of slots target.name.id) (spot_of slots target.name.id)) (One (LoadAt (spot_of slots target.name.id)))
    (elements_of slots target.name.id) (subscript target.index)

abbrev pub PriorCode : List Slot → Target → Template
PriorCode slots target =
    SubscriptCode slots (One (Prior (spot_of slots target.name.id))) (One (PriorAt (spot_of slots target.name.id)))
    (elements_of slots target.name.id) (subscript target.index)

-- one form of quantified expression, over the counter, the limits and the body of one in memory
abbrev pub over : (ℕ → Template → Template → Template → Template) → List Slot → Quantified → Template
over Form slots quantified =
    Form (quantified_of slots quantified.name.id) (ExpressionCode slots (expression quantified.low.value))
    (ExpressionCode slots (expression quantified.high.value)) (ExpressionCode slots (expression quantified.body.value))

-- the turn and the test of an `if` or a `while`, and behind them a place that is left
abbrev pub LeavesTest : List Slot → Expression → ℕ → Output → Output → Type 0
LeavesTest slots test place old new =
    (o : Output) × Adds (One Turn ⨾ ExpressionCode slots test) old o × ((place ≡ length o.instrs) × (new ≡ added (Jump 0) o))

-- a place that was left
abbrev pub Left : ℕ → Output → Output → Type 0
Left place old new = (place ≡ length old.instrs) × (new ≡ added (Jump 0) old)

-- the limits of a quantified expression, and behind them a place that is left
abbrev pub LeavesRange : List Slot → Quantified → ℕ → Output → Output → Type 0
LeavesRange slots quantified place old new =
    (c : Output) × (d : Output) × Adds (ExpressionCode slots (expression quantified.low.value)) old c
    × Adds (ExpressionCode slots (expression quantified.high.value)) c d × Left place d new

-- a zero at this address, over which the code before it leads
abbrev pub PutsZero : ℕ → Output → Output → Type 0
PutsZero address old new =
    (skip : ℕ) × (end : ℕ) × (c : Output) × (d : Output) × Left skip old c × (address ≡ length c.instrs) × Adds (One (Push (pos 0))) c d
    × (end ≡ length d.instrs) × (new ≡ patched d skip (Jump end))

-- a `send` of a value
abbrev pub SendCode : ℕ → Template → Template
SendCode channel value = One Turn ⨾ One (Room channel) ⨾ value ⨾ One (Put channel)

-- the entry of a recovery block, and a start of it at this address
abbrev pub PutsEntry : ℕ → ℕ → Output → Output → Type 0
PutsEntry number restart old new =
    (c : Output) × (d : Output) × (e : Output) × Adds (One Turn) old c × Adds (One (Enter number)) c d × (restart ≡ length d.instrs)
    × Adds (One Turn) d e × Adds (One (Start number)) e new

-- the acceptance test of a recovery block
abbrev pub AcceptanceCode : ℕ → Template → Template
AcceptanceCode number value = One Turn ⨾ value ⨾ One (Test number)

-- the instruction of an operator that evaluates both of its operands
abbrev pub operator : Op → Instr
operator op.Or = Bool
operator op.And = Bool
operator op.Eq = Eq
operator op.Ne = Ne
operator op.Lt = Lt
operator op.Le = Le
operator op.Gt = Gt
operator op.Ge = Ge
operator op.Add = Add
operator op.Sub = Sub
operator op.Mul = Mul
operator op.Div = Div
operator op.Rem = Rem
