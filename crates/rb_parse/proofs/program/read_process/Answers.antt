use Rattle.std.proofs.Common.{refl, sym, ap, ◌∙◌, map}
use Rattle.rb_grammar.proofs.Made.{process_of}
use Rattle.rb_grammar.proofs.Pairs.{by_named, exit_two, opens}
use Rattle.rb_grammar.proofs.Reaching.{by_part, by_terminal, complete, exit_missed, exit_within, same_value}
use Rattle.rb_grammar.proofs.Accepting.Starts.{no_process}
use Rattle.rb_grammar.specs.Parts.{Part}
use Rattle.rb_syntax.specs.Plain.{commands_of, declaration, procedure_declaration, process_declaration}
use Rattle.rb_parse.proofs.Closing.{last_closed, last_missed}
use Rattle.rb_parse.proofs.Shorter.{and_fewer, call_fewer, no_more}
use Rattle.rb_parse.proofs.program.read_process.Goals as goal

pub returns-in_err-name-clause-err : goal.returns-in_err-name-clause-err
returns-in_err-name-clause-err c =
    exit_two c.from_residual.result c.from_residual.ensures.1 refl
    (opens (Part.Process c.args.edition) c.args.cursor.now.point _ refl (no_process c.args.edition _) refl)
    c.in_err-name.ensures.err

pub returns-in_err-take-clause-err : goal.returns-in_err-take-clause-err
returns-in_err-take-clause-err c =
    exit_missed c.from_residual-in_err-take.result c.from_residual-in_err-take.ensures.1 (c.in_ok-name.ensures.ending)
    (by_named (opens (Part.Process c.args.edition) c.args.cursor.now.point _ refl (no_process c.args.edition _) refl)
    c.in_ok-name.ensures.ok) c.in_err-take.ensures.err

pub returns-in_err-vars-clause-err : goal.returns-in_err-vars-clause-err
returns-in_err-vars-clause-err c =
    exit_within c.from_residual-in_err-vars.result c.from_residual-in_err-vars.ensures.1
    (c.in_ok-take.ensures.ending ∙ c.in_ok-name.ensures.ending)
    (by_terminal (by_named (opens (Part.Process c.args.edition) c.args.cursor.now.point _ refl (no_process c.args.edition _) refl)
    c.in_ok-name.ensures.ok) c.in_ok-take.ensures.ok) c.in_err-vars.ensures.err

pub returns-in_err-procedures-clause-err : goal.returns-in_err-procedures-clause-err
returns-in_err-procedures-clause-err c =
    exit_within c.from_residual-in_err-procedures.result c.from_residual-in_err-procedures.ensures.1
    (c.in_ok-vars.ensures.ending ∙ c.in_ok-take.ensures.ending ∙ c.in_ok-name.ensures.ending)
    (by_part (by_terminal (by_named (opens (Part.Process c.args.edition) c.args.cursor.now.point _ refl
    (no_process c.args.edition _) refl) c.in_ok-name.ensures.ok) c.in_ok-take.ensures.ok) c.in_ok-vars.ensures.ok)
    c.in_err-procedures.ensures.err

pub returns-in_err-body-clause-err : goal.returns-in_err-body-clause-err
returns-in_err-body-clause-err c =
    exit_within c.from_residual-in_err-body.result c.from_residual-in_err-body.ensures.1
    (c.in_ok-procedures.ensures.ending ∙ c.in_ok-vars.ensures.ending ∙ c.in_ok-take.ensures.ending ∙ c.in_ok-name.ensures.ending)
    (by_part (by_part (by_terminal (by_named (opens (Part.Process c.args.edition) c.args.cursor.now.point _ refl
    (no_process c.args.edition _) refl) c.in_ok-name.ensures.ok) c.in_ok-take.ensures.ok) c.in_ok-vars.ensures.ok)
    c.in_ok-procedures.ensures.ok) c.in_err-body.ensures.err

pub returns-clause-err : goal.returns-clause-err
returns-clause-err c =
    last_missed _ _ c.closed.result
    (c.in_ok-body.ensures.ending ∙ c.in_ok-procedures.ensures.ending ∙ c.in_ok-vars.ensures.ending ∙ c.in_ok-take.ensures.ending ∙
    c.in_ok-name.ensures.ending) (by_part (by_part (by_part
    (by_terminal (by_named (opens (Part.Process c.args.edition) c.args.cursor.now.point _ refl (no_process c.args.edition _) refl)
    c.in_ok-name.ensures.ok) c.in_ok-take.ensures.ok) c.in_ok-vars.ensures.ok) c.in_ok-procedures.ensures.ok)
    c.in_ok-body.ensures.ok) c.closed.ensures.err

pub returns-clause-ok : goal.returns-clause-ok
returns-clause-ok c =
    last_closed _ c.closed.result process_declaration _ (λ token taken. same_value (ap (process_of (map declaration c.in_ok-vars.vars.items)
    (map procedure_declaration c.in_ok-procedures.procedures.items) (commands_of c.in_ok-body.body.items))
    (sym (c.in_ok-name.ensures.ok).named.is)) (complete (by_terminal
    (by_part (by_part (by_part (by_terminal (by_named (opens (Part.Process c.args.edition) c.args.cursor.now.point _ refl
    (no_process c.args.edition _) refl) c.in_ok-name.ensures.ok) c.in_ok-take.ensures.ok) c.in_ok-vars.ensures.ok)
    c.in_ok-procedures.ensures.ok) c.in_ok-body.ensures.ok) taken)))
    c.closed.ensures.same c.closed.ensures.taken

pub returns-in_err-name-clause-ending : goal.returns-in_err-name-clause-ending
returns-in_err-name-clause-ending c = c.in_err-name.ensures.ending

pub returns-in_err-take-clause-ending : goal.returns-in_err-take-clause-ending
returns-in_err-take-clause-ending c = c.in_err-take.ensures.ending ∙ c.in_ok-name.ensures.ending

pub returns-in_err-vars-clause-ending : goal.returns-in_err-vars-clause-ending
returns-in_err-vars-clause-ending c =
    c.in_err-vars.ensures.ending ∙ c.in_ok-take.ensures.ending ∙ c.in_ok-name.ensures.ending

pub returns-in_err-procedures-clause-ending : goal.returns-in_err-procedures-clause-ending
returns-in_err-procedures-clause-ending c =
    c.in_err-procedures.ensures.ending ∙ c.in_ok-vars.ensures.ending ∙ c.in_ok-take.ensures.ending ∙ c.in_ok-name.ensures.ending

pub returns-in_err-body-clause-ending : goal.returns-in_err-body-clause-ending
returns-in_err-body-clause-ending c =
    c.in_err-body.ensures.ending ∙ c.in_ok-procedures.ensures.ending ∙ c.in_ok-vars.ensures.ending ∙ c.in_ok-take.ensures.ending ∙ c.in_ok-name.ensures.ending

pub returns-clause-ending : goal.returns-clause-ending
returns-clause-ending c =
    c.closed.ensures.ending ∙ c.in_ok-body.ensures.ending ∙ c.in_ok-procedures.ensures.ending ∙ c.in_ok-vars.ensures.ending ∙ c.in_ok-take.ensures.ending ∙ c.in_ok-name.ensures.ending

pub returns-clause-shorter : goal.returns-clause-shorter
returns-clause-shorter c =
    call_fewer _ _ c.closed.result c.closed.ensures.shorter (no_more c.in_ok-body.ensures.shorter (no_more c.in_ok-procedures.ensures.shorter (no_more c.in_ok-vars.ensures.shorter (and_fewer c.in_ok-take.ensures.shorter c.in_ok-name.ensures.shorter))))
