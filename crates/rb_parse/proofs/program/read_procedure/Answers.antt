use Rattle.std.proofs.Common.{refl, sym, ap, ◌∙◌, map}
use Rattle.rb_grammar.proofs.Made.{procedure_of}
use Rattle.rb_grammar.proofs.Pairs.{by_named, exit_two, opens}
use Rattle.rb_grammar.proofs.Reaching.{by_part, by_terminal, complete, exit_missed, exit_within, same_value}
use Rattle.rb_grammar.proofs.Accepting.Starts.{no_procedure}
use Rattle.rb_grammar.specs.Parts.{Part}
use Rattle.rb_syntax.specs.Plain.{body, identifier}
use Rattle.rb_parse.proofs.Shorter.{and_fewer, no_more}
use Rattle.rb_parse.proofs.program.read_procedure.Goals as goal

pub returns-in_err-name-clause-err : goal.returns-in_err-name-clause-err
returns-in_err-name-clause-err c =
    exit_two c.from_residual.result c.from_residual.ensures.1 refl
    (opens (Part.Procedure c.args.edition) c.args.cursor.now.point _ refl (no_procedure c.args.edition _) refl)
    c.in_err-name.ensures.err

pub returns-in_err-take-clause-err : goal.returns-in_err-take-clause-err
returns-in_err-take-clause-err c =
    exit_missed c.from_residual-in_err-take.result c.from_residual-in_err-take.ensures.1 (c.in_ok-name.ensures.ending)
    (by_named (opens (Part.Procedure c.args.edition) c.args.cursor.now.point _ refl (no_procedure c.args.edition _) refl)
    c.in_ok-name.ensures.ok) c.in_err-take.ensures.err

pub returns-in_err-params-clause-err : goal.returns-in_err-params-clause-err
returns-in_err-params-clause-err c =
    exit_within c.from_residual-in_err-params.result c.from_residual-in_err-params.ensures.1
    (c.in_ok-take.ensures.ending ∙ c.in_ok-name.ensures.ending)
    (by_terminal (by_named (opens (Part.Procedure c.args.edition) c.args.cursor.now.point _ refl (no_procedure c.args.edition _)
    refl) c.in_ok-name.ensures.ok) c.in_ok-take.ensures.ok) c.in_err-params.ensures.err

pub returns-in_err-take-2-clause-err : goal.returns-in_err-take-2-clause-err
returns-in_err-take-2-clause-err c =
    exit_missed c.from_residual-in_err-take-2.result c.from_residual-in_err-take-2.ensures.1
    (c.in_ok-params.ensures.ending ∙ c.in_ok-take.ensures.ending ∙ c.in_ok-name.ensures.ending)
    (by_part (by_terminal (by_named (opens (Part.Procedure c.args.edition) c.args.cursor.now.point _ refl
    (no_procedure c.args.edition _) refl) c.in_ok-name.ensures.ok) c.in_ok-take.ensures.ok) c.in_ok-params.ensures.ok)
    c.in_err-take-2.ensures.err

pub returns-in_err-block-clause-err : goal.returns-in_err-block-clause-err
returns-in_err-block-clause-err c =
    exit_within c.from_residual-in_err-block.result c.from_residual-in_err-block.ensures.1
    (c.in_ok-take-2.ensures.ending ∙ c.in_ok-params.ensures.ending ∙ c.in_ok-take.ensures.ending ∙ c.in_ok-name.ensures.ending)
    (by_terminal (by_part (by_terminal (by_named (opens (Part.Procedure c.args.edition) c.args.cursor.now.point _ refl
    (no_procedure c.args.edition _) refl) c.in_ok-name.ensures.ok) c.in_ok-take.ensures.ok) c.in_ok-params.ensures.ok)
    c.in_ok-take-2.ensures.ok) c.in_err-block.ensures.err

pub returns-clause-ok : goal.returns-clause-ok
returns-clause-ok c =
    same_value (ap (procedure_of (map identifier c.in_ok-params.params.items) (body c.in_ok-block.block))
    (sym (c.in_ok-name.ensures.ok).named.is)) (complete (by_part
    (by_terminal (by_part (by_terminal (by_named (opens (Part.Procedure c.args.edition) c.args.cursor.now.point _ refl
    (no_procedure c.args.edition _) refl) c.in_ok-name.ensures.ok) c.in_ok-take.ensures.ok) c.in_ok-params.ensures.ok)
    c.in_ok-take-2.ensures.ok) c.in_ok-block.ensures.ok))

pub returns-in_err-name-clause-ending : goal.returns-in_err-name-clause-ending
returns-in_err-name-clause-ending c = c.in_err-name.ensures.ending

pub returns-in_err-take-clause-ending : goal.returns-in_err-take-clause-ending
returns-in_err-take-clause-ending c = c.in_err-take.ensures.ending ∙ c.in_ok-name.ensures.ending

pub returns-in_err-params-clause-ending : goal.returns-in_err-params-clause-ending
returns-in_err-params-clause-ending c =
    c.in_err-params.ensures.ending ∙ c.in_ok-take.ensures.ending ∙ c.in_ok-name.ensures.ending

pub returns-in_err-take-2-clause-ending : goal.returns-in_err-take-2-clause-ending
returns-in_err-take-2-clause-ending c =
    c.in_err-take-2.ensures.ending ∙ c.in_ok-params.ensures.ending ∙ c.in_ok-take.ensures.ending ∙ c.in_ok-name.ensures.ending

pub returns-in_err-block-clause-ending : goal.returns-in_err-block-clause-ending
returns-in_err-block-clause-ending c =
    c.in_err-block.ensures.ending ∙ c.in_ok-take-2.ensures.ending ∙ c.in_ok-params.ensures.ending ∙ c.in_ok-take.ensures.ending ∙ c.in_ok-name.ensures.ending

pub returns-clause-ending : goal.returns-clause-ending
returns-clause-ending c =
    c.in_ok-block.ensures.ending ∙ c.in_ok-take-2.ensures.ending ∙ c.in_ok-params.ensures.ending ∙ c.in_ok-take.ensures.ending ∙ c.in_ok-name.ensures.ending

pub returns-clause-shorter : goal.returns-clause-shorter
returns-clause-shorter c =
    and_fewer c.in_ok-block.ensures.shorter (and_fewer c.in_ok-take-2.ensures.shorter (no_more c.in_ok-params.ensures.shorter (and_fewer c.in_ok-take.ensures.shorter c.in_ok-name.ensures.shorter)))
