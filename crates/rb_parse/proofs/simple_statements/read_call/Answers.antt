use Rattle.std.proofs.Common.{refl, sym, ap, ◌∙◌, map}
use Rattle.rb_grammar.proofs.Pairs.{by_named, by_two, exit_two, opens_sure}
use Rattle.rb_grammar.specs.Parts.{Part}
use Rattle.rb_grammar.proofs.Reaching.{by_part, by_terminal, complete, exit_missed, exit_within, same_value}
use Rattle.rb_syntax.proofs.Bridge.{command_call}
use Rattle.rb_syntax.specs.Plain.{expression}
use Rattle.rb_syntax.specs.Tree.{Invocation}
use Rattle.rb_parse.proofs.Shorter.{and_fewer, no_more}
use Rattle.rb_parse.proofs.simple_statements.read_call.Goals as goal

pub returns-in_err-procedure-clause-err : goal.returns-in_err-procedure-clause-err
returns-in_err-procedure-clause-err c =
    λ edition. exit_two c.from_residual.result c.from_residual.ensures.1 refl
    (opens_sure (Part.Statement edition) c.args.cursor.now.point _ refl c.requires) c.in_err-procedure.ensures.err

pub returns-in_err-take-clause-err : goal.returns-in_err-take-clause-err
returns-in_err-take-clause-err c =
    λ edition. exit_missed c.from_residual-in_err-take.result c.from_residual-in_err-take.ensures.1
    (c.in_ok-procedure.ensures.ending) (by_named (opens_sure (Part.Statement edition) c.args.cursor.now.point _ refl c.requires)
    c.in_ok-procedure.ensures.ok) c.in_err-take.ensures.err

pub returns-in_err-arguments-clause-err : goal.returns-in_err-arguments-clause-err
returns-in_err-arguments-clause-err c =
    λ edition. exit_within c.from_residual-in_err-arguments.result c.from_residual-in_err-arguments.ensures.1
    (c.in_ok-take.ensures.ending ∙ c.in_ok-procedure.ensures.ending)
    (by_terminal (by_named (opens_sure (Part.Statement edition) c.args.cursor.now.point _ refl c.requires)
    c.in_ok-procedure.ensures.ok) c.in_ok-take.ensures.ok) c.in_err-arguments.ensures.err

pub returns-in_err-take_two-clause-err : goal.returns-in_err-take_two-clause-err
returns-in_err-take_two-clause-err c =
    λ edition. exit_two c.from_residual-in_err-take_two.result c.from_residual-in_err-take_two.ensures.1
    (c.in_ok-arguments.ensures.ending ∙ c.in_ok-take.ensures.ending ∙ c.in_ok-procedure.ensures.ending)
    (by_part (by_terminal (by_named (opens_sure (Part.Statement edition) c.args.cursor.now.point _ refl c.requires)
    c.in_ok-procedure.ensures.ok) c.in_ok-take.ensures.ok) c.in_ok-arguments.ensures.ok) c.in_err-take_two.ensures.err

pub returns-clause-ok : goal.returns-clause-ok
returns-clause-ok c =
    λ edition. same_value (ap (λ name. Invocation name (map expression c.in_ok-arguments.arguments.items))
    (sym (c.in_ok-procedure.ensures.ok).named.is) ∙ sym (command_call c.in_ok-procedure.procedure c.in_ok-arguments.arguments))
    (complete (by_two (by_part (by_terminal (by_named (opens_sure (Part.Statement edition) c.args.cursor.now.point _ refl
    c.requires) c.in_ok-procedure.ensures.ok) c.in_ok-take.ensures.ok) c.in_ok-arguments.ensures.ok) c.in_ok-take_two.ensures.ok))

pub returns-in_err-procedure-clause-ending : goal.returns-in_err-procedure-clause-ending
returns-in_err-procedure-clause-ending c = c.in_err-procedure.ensures.ending

pub returns-in_err-take-clause-ending : goal.returns-in_err-take-clause-ending
returns-in_err-take-clause-ending c = c.in_err-take.ensures.ending ∙ c.in_ok-procedure.ensures.ending

pub returns-in_err-arguments-clause-ending : goal.returns-in_err-arguments-clause-ending
returns-in_err-arguments-clause-ending c =
    c.in_err-arguments.ensures.ending ∙ c.in_ok-take.ensures.ending ∙ c.in_ok-procedure.ensures.ending

pub returns-in_err-take_two-clause-ending : goal.returns-in_err-take_two-clause-ending
returns-in_err-take_two-clause-ending c =
    c.in_err-take_two.ensures.ending ∙ c.in_ok-arguments.ensures.ending ∙ c.in_ok-take.ensures.ending ∙ c.in_ok-procedure.ensures.ending

pub returns-clause-ending : goal.returns-clause-ending
returns-clause-ending c =
    c.in_ok-take_two.ensures.ending ∙ c.in_ok-arguments.ensures.ending ∙ c.in_ok-take.ensures.ending ∙ c.in_ok-procedure.ensures.ending

pub returns-clause-shorter : goal.returns-clause-shorter
returns-clause-shorter c =
    and_fewer c.in_ok-take_two.ensures.shorter (no_more c.in_ok-arguments.ensures.shorter (and_fewer c.in_ok-take.ensures.shorter c.in_ok-procedure.ensures.shorter))
