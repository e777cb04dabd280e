use Rattle.std.proofs.Common.{refl, ◌∙◌}
use Rattle.rb_grammar.proofs.Made.{made_program}
use Rattle.rb_grammar.proofs.Pairs.{by_named, by_two, exit_two, opens}
use Rattle.rb_grammar.proofs.Reaching.{by_part, by_terminal, complete, exit_missed, exit_within, same_value}
use Rattle.rb_grammar.proofs.Accepting.Starts.{no_unmarked}
use Rattle.rb_grammar.specs.Parts.{Part}
use Rattle.rb_parse.proofs.Shorter.{and_fewer, no_more}
use Rattle.rb_parse.proofs.program.read_unmarked.Goals as goal

pub returns-in_err-name-clause-err : goal.returns-in_err-name-clause-err
returns-in_err-name-clause-err c =
    exit_two c.from_residual.result c.from_residual.ensures.1 refl
    (opens (Part.Unmarked c.args.edition) c.args.cursor.now.point _ refl (no_unmarked c.args.edition _) refl)
    c.in_err-name.ensures.err

pub returns-in_err-take-clause-err : goal.returns-in_err-take-clause-err
returns-in_err-take-clause-err c =
    exit_missed c.from_residual-in_err-take.result c.from_residual-in_err-take.ensures.1 (c.in_ok-name.ensures.ending)
    (by_named (opens (Part.Unmarked c.args.edition) c.args.cursor.now.point _ refl (no_unmarked c.args.edition _) refl)
    c.in_ok-name.ensures.ok) c.in_err-take.ensures.err

pub returns-in_err-connections-clause-err : goal.returns-in_err-connections-clause-err
returns-in_err-connections-clause-err c =
    exit_within c.from_residual-in_err-connections.result c.from_residual-in_err-connections.ensures.1
    (c.in_ok-take.ensures.ending ∙ c.in_ok-name.ensures.ending)
    (by_terminal (by_named (opens (Part.Unmarked c.args.edition) c.args.cursor.now.point _ refl (no_unmarked c.args.edition _)
    refl) c.in_ok-name.ensures.ok) c.in_ok-take.ensures.ok) c.in_err-connections.ensures.err

pub returns-in_err-processes-clause-err : goal.returns-in_err-processes-clause-err
returns-in_err-processes-clause-err c =
    exit_within c.from_residual-in_err-processes.result c.from_residual-in_err-processes.ensures.1
    (c.in_ok-connections.ensures.ending ∙ c.in_ok-take.ensures.ending ∙ c.in_ok-name.ensures.ending)
    (by_part (by_terminal (by_named (opens (Part.Unmarked c.args.edition) c.args.cursor.now.point _ refl
    (no_unmarked c.args.edition _) refl) c.in_ok-name.ensures.ok) c.in_ok-take.ensures.ok) c.in_ok-connections.ensures.ok)
    c.in_err-processes.ensures.err

pub returns-in_err-take_two-clause-err : goal.returns-in_err-take_two-clause-err
returns-in_err-take_two-clause-err c =
    exit_two c.from_residual-in_err-take_two.result c.from_residual-in_err-take_two.ensures.1
    (c.in_ok-processes.ensures.ending ∙ c.in_ok-connections.ensures.ending ∙ c.in_ok-take.ensures.ending ∙
    c.in_ok-name.ensures.ending) (by_part (by_part (by_terminal
    (by_named (opens (Part.Unmarked c.args.edition) c.args.cursor.now.point _ refl (no_unmarked c.args.edition _) refl)
    c.in_ok-name.ensures.ok) c.in_ok-take.ensures.ok) c.in_ok-connections.ensures.ok) c.in_ok-processes.ensures.ok)
    c.in_err-take_two.ensures.err

pub returns-clause-ok : goal.returns-clause-ok
returns-clause-ok c =
    same_value (made_program c.args.edition (c.in_ok-name.ensures.ok).named.is c.names.ensures c.recoveries.ensures
    (c.in_ok-take_two.ensures.ok).behind) (complete (by_two
    (by_part (by_part (by_terminal (by_named (opens (Part.Unmarked c.args.edition) c.args.cursor.now.point _ refl
    (no_unmarked c.args.edition _) refl) c.in_ok-name.ensures.ok) c.in_ok-take.ensures.ok) c.in_ok-connections.ensures.ok)
    c.in_ok-processes.ensures.ok) c.in_ok-take_two.ensures.ok))

pub returns-in_err-name-clause-ending : goal.returns-in_err-name-clause-ending
returns-in_err-name-clause-ending c = c.in_err-name.ensures.ending

pub returns-in_err-take-clause-ending : goal.returns-in_err-take-clause-ending
returns-in_err-take-clause-ending c = c.in_err-take.ensures.ending ∙ c.in_ok-name.ensures.ending

pub returns-in_err-connections-clause-ending : goal.returns-in_err-connections-clause-ending
returns-in_err-connections-clause-ending c =
    c.in_err-connections.ensures.ending ∙ c.in_ok-take.ensures.ending ∙ c.in_ok-name.ensures.ending

pub returns-in_err-processes-clause-ending : goal.returns-in_err-processes-clause-ending
returns-in_err-processes-clause-ending c =
    c.in_err-processes.ensures.ending ∙ c.in_ok-connections.ensures.ending ∙ c.in_ok-take.ensures.ending ∙ c.in_ok-name.ensures.ending

pub returns-in_err-take_two-clause-ending : goal.returns-in_err-take_two-clause-ending
returns-in_err-take_two-clause-ending c =
    c.in_err-take_two.ensures.ending ∙ c.in_ok-processes.ensures.ending ∙ c.in_ok-connections.ensures.ending ∙ c.in_ok-take.ensures.ending ∙ c.in_ok-name.ensures.ending

pub returns-clause-ending : goal.returns-clause-ending
returns-clause-ending c =
    c.in_ok-take_two.ensures.ending ∙ c.in_ok-processes.ensures.ending ∙ c.in_ok-connections.ensures.ending ∙ c.in_ok-take.ensures.ending ∙ c.in_ok-name.ensures.ending

pub returns-clause-shorter : goal.returns-clause-shorter
returns-clause-shorter c =
    and_fewer c.in_ok-take_two.ensures.shorter (and_fewer c.in_ok-processes.ensures.shorter (no_more c.in_ok-connections.ensures.shorter (and_fewer c.in_ok-take.ensures.shorter c.in_ok-name.ensures.shorter)))
