-- How deep the parts of an expression may nest before a token is taken.
use Rattle.std.proofs.Common.{ℕ}
use Rattle.rb_grammar.specs.declared.level.Level.{Level}
use Rattle.rb_grammar.specs.declared.level.Level.TheVariants as levels

abbrev pub chain_rank : Level → ℕ
chain_rank levels.Disjunction = 30
chain_rank levels.Conjunction = 28
chain_rank levels.Sum = 24
chain_rank levels.Product = 22

abbrev pub operand_rank : Level → ℕ
operand_rank levels.Disjunction = 29
operand_rank levels.Conjunction = 27
operand_rank levels.Sum = 23
operand_rank levels.Product = 21
