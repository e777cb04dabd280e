use Rattle.rb_grammar.proofs.Spelled.{number_kind}
use Rattle.rb_grammar.proofs.cursor.Cursor.take_number.Goals as goal

pub unreachable-requires : goal.unreachable-requires
unreachable-requires c =
    let token = c.in_ok-token.token in
    let number = number_kind token.kind token.text.now c.in_ok-token.ensures.ok.is in
    c.in_default.not-Number number.0 number.1

pub returns-clause-shorter : goal.returns-clause-shorter
returns-clause-shorter c = c.in_ok-token.ensures.shorter
