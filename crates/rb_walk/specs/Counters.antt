-- The counters that a chain in memory stands for, and what a quantified body comes to at a number.
use Rattle.std.specs.Prelude.{ℤ, [], ◌∷◌}
use Rattle.rb_syntax.specs.declared.expression.Quantified.{Quantified}
use Rattle.rb_syntax.specs.Plain.{expression}
use Rattle.rb_meaning.specs.Environment.{Environment}
use Rattle.rb_meaning.specs.Value.{Outcome, Counters as Numbered, value}
use Rattle.rb_walk.specs.declared.counter.Counters.{Counters, None, Inner'}

-- the counters of the definition, the innermost first
abbrev pub counted : Counters → Numbered
counted None = []
counted (Inner' name value pointer outer) = (name.now, value) ∷ counted outer

-- the value of the body of a quantified expression at each number
abbrev pub body_values : Environment → Environment → Counters → Quantified → ℤ → Outcome
body_values env prior counters over n =
    value env prior ((over.name.text.now, n) ∷ counted counters) (expression over.body.value)
