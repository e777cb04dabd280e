use Rattle.std.proofs.Common.{◌≡◌, ℕ, Option}
use Rattle.rb_nest.specs.Answers.{first_answer}
use Rattle.rb_nest.specs.Blocks.{numbers_of}
use Rattle.rb_nest.proofs.blocks.Blocks.innermost.Given as goal

abbrev pub invariant-around : goal.invariant-around
invariant-around l =
    first_answer (λ (n : Option ℕ). n) (numbers_of l.rest) ≡ first_answer (λ (n : Option ℕ). n) (numbers_of l.initial.rest)
