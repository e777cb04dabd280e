use Rattle.std.proofs.Common.{ℤ, ◌∷◌, ap, sym, ◌∙◌, arith, rules, w64}
use Rattle.std.proofs.lemmas.Int.{to_z-of_z}
use Rattle.rb_outside.proofs.Puts.{puts_same}
use Rattle.rb_image.specs.Pieces.{number}
use Rattle.rb_image.specs.declared.write.instr.Operands.TheVariants.{Nothing, Integer, Word, One, Two, Three}
use Rattle.rb_image.proofs.WriteInstrs.{fits, integer_code, spelled, three_code}
use Rattle.rb_image.proofs.write.instr.put_instr.Goals as goal

pub returns-in-Nothing-clause-text : goal.returns-in-Nothing-clause-text
returns-in-Nothing-clause-text g c =
    puts_same _ _ _ _ _ _ _ (spelled c.args.instr.now _ Nothing c.number_of-number.ensures (sym c.operands_in.ensures ∙ c.in-Nothing.is)) c.put.ensures

pub returns-in-Nothing-clause-ranges : goal.returns-in-Nothing-clause-ranges
returns-in-Nothing-clause-ranges g c = fits c.args.instr.now Nothing c.put.result (sym c.operands_in.ensures ∙ c.in-Nothing.is) tt

pub returns-in-Integer-clause-text : goal.returns-in-Integer-clause-text
returns-in-Integer-clause-text g c =
    puts_same _ _ _ _ _ _ _ (ap (λ (n : ℤ). 1 ∷ number n) (to_z-of_z w64 c.in-Integer.n (search rules)) ∙ spelled c.args.instr.now _ (Integer c.in-Integer.n) (integer_code c.args.instr.now c.in-Integer.n (sym c.operands_in.ensures ∙ c.in-Integer.is)) (sym c.operands_in.ensures ∙ c.in-Integer.is))
    c.put_push.ensures

pub returns-in-Integer-clause-ranges : goal.returns-in-Integer-clause-ranges
returns-in-Integer-clause-ranges g c = fits c.args.instr.now (Integer c.in-Integer.n) c.put_push.result (sym c.operands_in.ensures ∙ c.in-Integer.is) (search rules)

pub returns-in-Word-clause-text : goal.returns-in-Word-clause-text
returns-in-Word-clause-text g c =
    puts_same _ _ _ _ _ _ _ (spelled c.args.instr.now _ (Word c.in-Word.word) c.number_of-number.ensures (sym c.operands_in.ensures ∙ c.in-Word.is)) c.put_spot.ensures.text

pub returns-in-Word-clause-ranges : goal.returns-in-Word-clause-ranges
returns-in-Word-clause-ranges g c = fits c.args.instr.now (Word c.in-Word.word) c.put_spot.result (sym c.operands_in.ensures ∙ c.in-Word.is) c.put_spot.ensures.ranges

pub returns-in-One-clause-text : goal.returns-in-One-clause-text
returns-in-One-clause-text g c =
    puts_same _ _ _ _ _ _ _ (spelled c.args.instr.now _ (One c.in-One.n) c.number_of-number.ensures (sym c.operands_in.ensures ∙ c.in-One.is)) c.put_one.ensures

pub returns-in-One-clause-ranges : goal.returns-in-One-clause-ranges
returns-in-One-clause-ranges g c = fits c.args.instr.now (One c.in-One.n) c.put_one.result (sym c.operands_in.ensures ∙ c.in-One.is) (omega arith)

pub returns-in-Two-clause-text : goal.returns-in-Two-clause-text
returns-in-Two-clause-text g c =
    puts_same _ _ _ _ _ _ _ (spelled c.args.instr.now _ (Two c.in-Two.m c.in-Two.n) c.number_of-number.ensures (sym c.operands_in.ensures ∙ c.in-Two.is)) c.put_two.ensures

pub returns-in-Two-clause-ranges : goal.returns-in-Two-clause-ranges
returns-in-Two-clause-ranges g c = fits c.args.instr.now (Two c.in-Two.m c.in-Two.n) c.put_two.result (sym c.operands_in.ensures ∙ c.in-Two.is) (omega arith, omega arith)

pub returns-in-Three-clause-text : goal.returns-in-Three-clause-text
returns-in-Three-clause-text g c =
    puts_same _ _ _ _ _ _ _ (spelled c.args.instr.now _ (Three c.in-Three.a c.in-Three.p c.in-Three.n) (three_code c.args.instr.now c.in-Three.a c.in-Three.p c.in-Three.n (sym c.operands_in.ensures ∙ c.in-Three.is)) (sym c.operands_in.ensures ∙ c.in-Three.is)) c.put_call.ensures

pub returns-in-Three-clause-ranges : goal.returns-in-Three-clause-ranges
returns-in-Three-clause-ranges g c = fits c.args.instr.now (Three c.in-Three.a c.in-Three.p c.in-Three.n) c.put_call.result (sym c.operands_in.ensures ∙ c.in-Three.is) (omega arith, (omega arith, omega arith))
