use Rattle.std.proofs.Common.{refl, sym}
use Rattle.rb_grammar.proofs.Pairs.{by_two, exit_two, opens_sure}
use Rattle.rb_grammar.specs.Parts.{Part}
use Rattle.rb_grammar.proofs.Reaching.{complete, same_value}
use Rattle.rb_syntax.proofs.Bridge.{command_fail}
use Rattle.rb_parse.proofs.simple_statements.read_fail.Goals as goal

pub returns-in_err-take_two-clause-err : goal.returns-in_err-take_two-clause-err
returns-in_err-take_two-clause-err c =
    λ edition. exit_two c.from_residual.result c.from_residual.ensures.1 refl
    (opens_sure (Part.Statement edition) c.args.cursor.now.point _ refl c.requires) c.in_err-take_two.ensures.err

pub returns-clause-ok : goal.returns-clause-ok
returns-clause-ok c =
    λ edition. same_value (sym command_fail) (complete (by_two
    (opens_sure (Part.Statement edition) c.args.cursor.now.point _ refl c.requires) c.in_ok-take_two.ensures.ok))
