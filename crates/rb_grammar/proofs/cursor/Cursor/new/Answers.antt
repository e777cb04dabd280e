use Rattle.std.proofs.Common.{◌≡◌, [], ap, sym, subst, ◌∙◌, ◌≤◌, length, IfErr}
use Rattle.std.proofs.lemmas.Result.{err_from_is_err_and}
use Rattle.rb_lex.proofs.Answered.{answers_fault}
use Rattle.rb_lex.specs.Tokens.{AtFault}
use Rattle.rb_lex.specs.TokenList.{tokens_of, tokens_left, ending_of, ending_left}
use Rattle.rb_grammar.proofs.Ahead.{begins, begins_sound}
use Rattle.rb_grammar.proofs.cursor.Cursor.new.Goals as goal

pub returns-in_err-ahead-clause-err : goal.returns-in_err-ahead-clause-err
returns-in_err-ahead-clause-err c =
    let p = err_from_is_err_and c.from_residual.result c.from_residual.ensures.1 in
    let told = answers_fault c.new-lexer.result c.next.new.self c.in_err-ahead.field-0.0 c.in_err-ahead.ensures in
    let none : tokens_of c.args.source.now ≡ [] = ap (λ r. tokens_left r) (sym c.new-lexer.ensures) ∙ told.0 in
    let same : ending_of c.args.source.now ≡ AtFault c.in_err-ahead.field-0.0 = ap (λ r. ending_left r) (sym c.new-lexer.ensures) ∙ told.1 in
    subst (λ r. IfErr r (λ fault. (tokens_of c.args.source.now ≡ []) × (ending_of c.args.source.now ≡ AtFault fault))) (sym p.1)
    (none, same ∙ ap AtFault (sym p.2))

pub invariant_of-result : goal.invariant_of-result
invariant_of-result c =
    begins_sound c.new-lexer.result c.next.new.self c.in_ok-ahead.ahead c.in_ok-ahead.ensures
    (subst (λ r. length r.left ≤ 1048576) (sym c.new-lexer.ensures) c.requires) c.terminal_ahead.result c.terminal_ahead.ensures

pub returns-clause-ok : goal.returns-clause-ok
returns-clause-ok c =
    begins c.args.source.now c.new-lexer.result c.next.new.self c.in_ok-ahead.ahead c.new-lexer.ensures c.in_ok-ahead.ensures
