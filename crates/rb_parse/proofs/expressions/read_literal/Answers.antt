use Rattle.std.proofs.Common.{refl, sym}
use Rattle.rb_grammar.proofs.Accepting.Forms.{atom_literal}
use Rattle.rb_grammar.proofs.Reaching.{begins, by_part, complete, exit_within, same_value}
use Rattle.rb_grammar.specs.ExpressionTable.{literal_after}
use Rattle.rb_grammar.specs.Parts.{Part}
use Rattle.rb_syntax.proofs.Bridge.{expression_number}
use Rattle.rb_parse.proofs.expressions.read_literal.Goals as goal

pub returns-in_err-number-clause-err : goal.returns-in_err-number-clause-err
returns-in_err-number-clause-err c =
    exit_within c.from_residual.result c.from_residual.ensures.1 refl
    (begins Part.Number c.args.cursor.now.point literal_after
    (atom_literal _ c.requires.no_name c.requires.no_prior c.requires.no_open_paren) refl refl) c.in_err-number.ensures.err

pub returns-clause-ok : goal.returns-clause-ok
returns-clause-ok c =
    same_value (sym (expression_number c.in_ok-number.number))
    (complete (by_part (begins Part.Number c.args.cursor.now.point literal_after
    (atom_literal _ c.requires.no_name c.requires.no_prior c.requires.no_open_paren) refl refl) c.in_ok-number.ensures.ok))
