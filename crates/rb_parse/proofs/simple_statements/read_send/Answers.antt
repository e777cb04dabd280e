use Rattle.std.proofs.Common.{refl, sym, ap, ◌∙◌}
use Rattle.rb_grammar.proofs.Pairs.{by_named, exit_two, opens_sure}
use Rattle.rb_grammar.specs.Parts.{Part}
use Rattle.rb_grammar.proofs.Reaching.{by_part, by_terminal, complete, exit_within, same_value}
use Rattle.rb_syntax.proofs.Bridge.{command_send}
use Rattle.rb_syntax.specs.Plain.{command, expression}
use Rattle.rb_syntax.specs.Tree.{Sending}
use Rattle.rb_parse.proofs.Closing.{last_closed, last_missed}
use Rattle.rb_parse.proofs.Shorter.{and_fewer, call_fewer}
use Rattle.rb_parse.proofs.simple_statements.read_send.Goals as goal

pub returns-in_err-channel-clause-err : goal.returns-in_err-channel-clause-err
returns-in_err-channel-clause-err c =
    λ edition. exit_two c.from_residual.result c.from_residual.ensures.1 refl
    (opens_sure (Part.Statement edition) c.args.cursor.now.point _ refl c.requires) c.in_err-channel.ensures.err

pub returns-in_err-value-clause-err : goal.returns-in_err-value-clause-err
returns-in_err-value-clause-err c =
    λ edition. exit_within c.from_residual-in_err-value.result c.from_residual-in_err-value.ensures.1
    (c.in_ok-channel.ensures.ending) (by_named (opens_sure (Part.Statement edition) c.args.cursor.now.point _ refl c.requires)
    c.in_ok-channel.ensures.ok) c.in_err-value.ensures.err

pub returns-clause-err : goal.returns-clause-err
returns-clause-err c =
    λ edition. last_missed _ _ c.closed.result
    (c.in_ok-value.ensures.ending ∙ c.in_ok-channel.ensures.ending)
    (by_part (by_named (opens_sure (Part.Statement edition) c.args.cursor.now.point _ refl c.requires) c.in_ok-channel.ensures.ok)
    c.in_ok-value.ensures.ok) c.closed.ensures.err

pub returns-clause-ok : goal.returns-clause-ok
returns-clause-ok c =
    λ edition. last_closed _ c.closed.result command _ (λ token taken. same_value (ap (λ name. Sending name (expression c.in_ok-value.value)) (sym (c.in_ok-channel.ensures.ok).named.is)
    ∙ sym (command_send c.in_ok-channel.channel c.in_ok-value.value))
    (complete (by_terminal (by_part (by_named (opens_sure (Part.Statement edition) c.args.cursor.now.point _ refl c.requires)
    c.in_ok-channel.ensures.ok) c.in_ok-value.ensures.ok) taken))) c.closed.ensures.same
    c.closed.ensures.taken

pub returns-in_err-channel-clause-ending : goal.returns-in_err-channel-clause-ending
returns-in_err-channel-clause-ending c = c.in_err-channel.ensures.ending

pub returns-in_err-value-clause-ending : goal.returns-in_err-value-clause-ending
returns-in_err-value-clause-ending c = c.in_err-value.ensures.ending ∙ c.in_ok-channel.ensures.ending

pub returns-clause-ending : goal.returns-clause-ending
returns-clause-ending c = c.closed.ensures.ending ∙ c.in_ok-value.ensures.ending ∙ c.in_ok-channel.ensures.ending

pub returns-clause-shorter : goal.returns-clause-shorter
returns-clause-shorter c =
    call_fewer _ _ c.closed.result c.closed.ensures.shorter (and_fewer c.in_ok-value.ensures.shorter c.in_ok-channel.ensures.shorter)
