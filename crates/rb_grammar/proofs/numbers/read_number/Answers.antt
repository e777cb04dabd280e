use Rattle.std.proofs.lemmas.Result.{IfOk-weaker}
use Rattle.std.proofs.Common.{refl, sym, pos}
use Rattle.rb_grammar.proofs.Accepting.Complete.{number_read}
use Rattle.rb_grammar.proofs.Reaching.{complete, exit_sure, handed_first, last_start, same_value, starts}
use Rattle.rb_grammar.proofs.Accepting.Starts.{no_number}
use Rattle.rb_grammar.proofs.Takes.{two_is}
use Rattle.rb_grammar.specs.Parts.{Part}
use Rattle.rb_lex.specs.Reader.{lexeme_of}
use Rattle.std.specs.Ordering.{int_eq}
use Rattle.rb_grammar.proofs.numbers.read_number.Goals as goal

pub returns-in_err-token-clause-err : goal.returns-in_err-token-clause-err
returns-in_err-token-clause-err c =
    exit_sure _ c.from_residual.result c.from_residual.ensures.1 refl (sym c.if-stands_at.ensures) (last_start _ refl) c.in_err-token.ensures.err

pub returns-in_ok-token-clause-ok : goal.returns-in_ok-token-clause-ok
returns-in_ok-token-clause-ok c =
    same_value (two_is (lexeme_of c.in_ok-token.token) (c.in_ok-token.ensures.ok).is) (complete (starts _ refl c.in_ok-token.ensures.ok))

pub returns-else-stands_at-clause-ok : goal.returns-else-stands_at-clause-ok
returns-else-stands_at-clause-ok c =
    IfOk-weaker c.take_number.result _ _ (λ _ taken. number_read taken (int_eq taken.value (pos 2)) refl) c.take_number.ensures.ok

pub returns-else-stands_at-clause-err : goal.returns-else-stands_at-clause-err
returns-else-stands_at-clause-err c =
    handed_first Part.Number _ _ _ _ refl (no_number _ (sym c.if-stands_at.ensures)) refl c.take_number.result refl c.take_number.ensures.err

pub returns-in_ok-token-clause-shorter : goal.returns-in_ok-token-clause-shorter
returns-in_ok-token-clause-shorter c = c.in_ok-token.ensures.shorter
