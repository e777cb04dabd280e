use Rattle.std.proofs.Common.{◌≡◌, ◌≢◌, ℕ, ℤ, Bool, List, ◌∷◌, length, Some, refl, ap, sym, ◌∙◌, rules}
use Rattle.std.specs.Prelude.{Option}
use Rattle.std.proofs.lemmas.Option.{slice_get_read}
use Rattle.rb_meaning.specs.Value.{truth}
use Rattle.rb_code.specs.WordMachine.Workspace.{Workspace}
use Rattle.rb_code.specs.WordMachine.Act.{Going}
use Rattle.rb_code.specs.declared.instr.Instr.{Instr}
use Rattle.rb_code.specs.declared.instr.Instr.TheVariants.{JumpZero}
use Rattle.rb_operands.specs.Comparing.{decided}
use Rattle.rb_operands.proofs.deciding.decide.Goals as goal

-- before any other instruction the truth is pushed
pushed : (i : Instr) (next : ℕ) (holds : Bool) (operands : List ℤ) (m : Workspace) → ((to : ℕ) → i ≢ JumpZero to)
    → Going next (truth holds ∷ operands) m ≡ decided (Some i) next holds operands m
pushed (JumpZero to) next holds operands m other = absurd (other to refl)
pushed i next holds operands m other = refl

pub returns-in_default : goal.returns-in_default
returns-in_default c m =
    let value : c.push.new.self ≡ truth c.args.holds ∷ c.args.operands.now = search rules in
    let there = slice_get_read c.args.instrs.now (length c.args.instrs.now) c.args.next c.instr_at.result.now refl c.requires.there c.instr_at.ensures in
    ap (λ (operands : List ℤ). Going c.args.next operands m) value
    ∙ pushed c.instr_at.result.now c.args.next c.args.holds c.args.operands.now m c.in_default.not-JumpZero
    ∙ ap (λ (o : Option Instr). decided o c.args.next c.args.holds c.args.operands.now m) (sym there)
