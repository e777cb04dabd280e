use Rattle.std.proofs.Common.{rules}
use Rattle.rb_operands.proofs.Joins.{number_text}
use Rattle.rb_operands.proofs.line.add_number.Goals as goal

pub returns-clause-text : goal.returns-clause-text
returns-clause-text c = number_text c.args.n (search rules)
