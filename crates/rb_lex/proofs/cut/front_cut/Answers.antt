use Rattle.std.proofs.Common.{◌∙◌}
use Rattle.rb_lex.proofs.Choosing.{front_word, front_text, front_mark}
use Rattle.rb_lex.proofs.cut.front_cut.Goals as goal

pub returns-then-is_letter-clause-value : goal.returns-then-is_letter-clause-value
returns-then-is_letter-clause-value c =
    c.name_cut.ensures.value ∙ front_word c.args.edition c.args.bytes.now c.in-len1-up.len_at_least c.if-is_letter.ensures

pub returns-then-b-eq34-clause-value : goal.returns-then-b-eq34-clause-value
returns-then-b-eq34-clause-value c =
    c.text_cut.ensures.value
    ∙ front_text c.args.edition c.args.bytes.now c.in-len1-up.len_at_least c.if-is_letter.ensures c.if-is_digit.ensures c.if-b-eq34.true

pub returns-else-b-eq34-clause-value : goal.returns-else-b-eq34-clause-value
returns-else-b-eq34-clause-value c =
    c.mark_cut.ensures.value
    ∙ front_mark c.args.edition c.args.bytes.now c.in-len1-up.len_at_least c.if-is_letter.ensures c.if-is_digit.ensures c.if-b-eq34.false
