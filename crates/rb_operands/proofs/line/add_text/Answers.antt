use Rattle.std.proofs.Common.{List, ℕ, length, ap, arith}
use Rattle.rb_operands.proofs.Joins.{text_there}
use Rattle.rb_operands.proofs.line.add_text.Goals as goal

pub add-requires : goal.add-requires
add-requires c =
    let t = text_there c.args.texts.now c.args.k c.requires.texts in
    let short = t.short in
    let same = ap (λ (l : List ℕ). length l) c.text_at.ensures in
    omega arith

pub returns-clause-text : goal.returns-clause-text
returns-clause-text c = text_there c.args.texts.now c.args.k c.requires.texts
