use Rattle.std.proofs.Common.{refl, sym, ◌∙◌}
use Rattle.rb_grammar.proofs.Made.{channel_of}
use Rattle.rb_grammar.proofs.Pairs.{by_named, exit_two, opens}
use Rattle.rb_grammar.proofs.Reaching.{by_part, by_terminal, complete, exit_missed, exit_within, same_value}
use Rattle.rb_grammar.proofs.Accepting.Starts.{no_channel}
use Rattle.rb_grammar.specs.Parts.{Part}
use Rattle.rb_syntax.specs.Plain.{channel_declaration}
use Rattle.rb_parse.proofs.Closing.{last_closed, last_missed}
use Rattle.rb_parse.proofs.Shorter.{and_fewer, call_fewer}
use Rattle.rb_parse.proofs.connections.read_channel.Goals as goal

pub returns-in_err-name-clause-err : goal.returns-in_err-name-clause-err
returns-in_err-name-clause-err c =
    exit_two c.from_residual.result c.from_residual.ensures.1 refl
    (opens Part.Channel c.args.cursor.now.point _ refl (no_channel _) refl) c.in_err-name.ensures.err

pub returns-in_err-sender-clause-err : goal.returns-in_err-sender-clause-err
returns-in_err-sender-clause-err c =
    exit_two c.from_residual-in_err-sender.result c.from_residual-in_err-sender.ensures.1 (c.in_ok-name.ensures.ending)
    (by_named (opens Part.Channel c.args.cursor.now.point _ refl (no_channel _) refl) c.in_ok-name.ensures.ok)
    c.in_err-sender.ensures.err

pub returns-in_err-receiver-clause-err : goal.returns-in_err-receiver-clause-err
returns-in_err-receiver-clause-err c =
    exit_two c.from_residual-in_err-receiver.result c.from_residual-in_err-receiver.ensures.1
    (c.in_ok-sender.ensures.ending ∙ c.in_ok-name.ensures.ending)
    (by_named (by_named (opens Part.Channel c.args.cursor.now.point _ refl (no_channel _) refl) c.in_ok-name.ensures.ok)
    c.in_ok-sender.ensures.ok) c.in_err-receiver.ensures.err

pub returns-in_err-take-clause-err : goal.returns-in_err-take-clause-err
returns-in_err-take-clause-err c =
    exit_missed c.from_residual-in_err-take.result c.from_residual-in_err-take.ensures.1
    (c.in_ok-receiver.ensures.ending ∙ c.in_ok-sender.ensures.ending ∙ c.in_ok-name.ensures.ending)
    (by_named (by_named (by_named (opens Part.Channel c.args.cursor.now.point _ refl (no_channel _) refl) c.in_ok-name.ensures.ok)
    c.in_ok-sender.ensures.ok) c.in_ok-receiver.ensures.ok) c.in_err-take.ensures.err

pub returns-in_err-size-clause-err : goal.returns-in_err-size-clause-err
returns-in_err-size-clause-err c =
    exit_within c.from_residual-in_err-size.result c.from_residual-in_err-size.ensures.1
    (c.in_ok-take.ensures.ending ∙ c.in_ok-receiver.ensures.ending ∙ c.in_ok-sender.ensures.ending ∙ c.in_ok-name.ensures.ending)
    (by_terminal (by_named (by_named (by_named (opens Part.Channel c.args.cursor.now.point _ refl (no_channel _) refl)
    c.in_ok-name.ensures.ok) c.in_ok-sender.ensures.ok) c.in_ok-receiver.ensures.ok) c.in_ok-take.ensures.ok)
    c.in_err-size.ensures.err

pub returns-clause-err : goal.returns-clause-err
returns-clause-err c =
    last_missed _ _ c.closed.result
    (c.in_ok-size.ensures.ending ∙ c.in_ok-take.ensures.ending ∙ c.in_ok-receiver.ensures.ending ∙ c.in_ok-sender.ensures.ending ∙
    c.in_ok-name.ensures.ending) (by_part (by_terminal (by_named
    (by_named (by_named (opens Part.Channel c.args.cursor.now.point _ refl (no_channel _) refl) c.in_ok-name.ensures.ok)
    c.in_ok-sender.ensures.ok) c.in_ok-receiver.ensures.ok) c.in_ok-take.ensures.ok) c.in_ok-size.ensures.ok)
    c.closed.ensures.err

pub returns-clause-ok : goal.returns-clause-ok
returns-clause-ok c =
    last_closed _ c.closed.result channel_declaration _ (λ token taken. same_value (λ j. channel_of c.in_ok-size.size (sym (c.in_ok-name.ensures.ok).named.is j)
    (sym (c.in_ok-sender.ensures.ok).named.is j) (sym (c.in_ok-receiver.ensures.ok).named.is j))
    (complete (by_terminal (by_part (by_terminal (by_named (by_named
    (by_named (opens Part.Channel c.args.cursor.now.point _ refl (no_channel _) refl) c.in_ok-name.ensures.ok)
    c.in_ok-sender.ensures.ok) c.in_ok-receiver.ensures.ok) c.in_ok-take.ensures.ok) c.in_ok-size.ensures.ok)
    taken))) c.closed.ensures.same c.closed.ensures.taken

pub returns-in_err-name-clause-ending : goal.returns-in_err-name-clause-ending
returns-in_err-name-clause-ending c = c.in_err-name.ensures.ending

pub returns-in_err-sender-clause-ending : goal.returns-in_err-sender-clause-ending
returns-in_err-sender-clause-ending c = c.in_err-sender.ensures.ending ∙ c.in_ok-name.ensures.ending

pub returns-in_err-receiver-clause-ending : goal.returns-in_err-receiver-clause-ending
returns-in_err-receiver-clause-ending c =
    c.in_err-receiver.ensures.ending ∙ c.in_ok-sender.ensures.ending ∙ c.in_ok-name.ensures.ending

pub returns-in_err-take-clause-ending : goal.returns-in_err-take-clause-ending
returns-in_err-take-clause-ending c =
    c.in_err-take.ensures.ending ∙ c.in_ok-receiver.ensures.ending ∙ c.in_ok-sender.ensures.ending ∙ c.in_ok-name.ensures.ending

pub returns-in_err-size-clause-ending : goal.returns-in_err-size-clause-ending
returns-in_err-size-clause-ending c =
    c.in_err-size.ensures.ending ∙ c.in_ok-take.ensures.ending ∙ c.in_ok-receiver.ensures.ending ∙ c.in_ok-sender.ensures.ending ∙ c.in_ok-name.ensures.ending

pub returns-clause-ending : goal.returns-clause-ending
returns-clause-ending c =
    c.closed.ensures.ending ∙ c.in_ok-size.ensures.ending ∙ c.in_ok-take.ensures.ending ∙ c.in_ok-receiver.ensures.ending ∙ c.in_ok-sender.ensures.ending ∙ c.in_ok-name.ensures.ending

pub returns-clause-shorter : goal.returns-clause-shorter
returns-clause-shorter c =
    call_fewer _ _ c.closed.result c.closed.ensures.shorter (and_fewer c.in_ok-size.ensures.shorter (and_fewer c.in_ok-take.ensures.shorter (and_fewer c.in_ok-receiver.ensures.shorter (and_fewer c.in_ok-sender.ensures.shorter c.in_ok-name.ensures.shorter))))
