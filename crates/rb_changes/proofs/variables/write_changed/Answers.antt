use Rattle.std.proofs.Common.{w64, ap, sym, ◌∙◌, rules}
use Rattle.std.proofs.lemmas.Int.{to_z-of_z}
use Rattle.rb_outside.proofs.Puts.{puts_same}
use Rattle.rb_world.proofs.ListFacts.{none_some, some_same}
use Rattle.rb_trace.specs.Naming.{variable_naming}
use Rattle.rb_changes.specs.Changes.{value_change}
use Rattle.rb_changes.proofs.variables.write_changed.Goals as goal

pub returns-in-None : goal.returns-in-None
returns-in-None g c value there = absurd (none_some (sym c.in-None.is ∙ c.word_at.ensures ∙ there))

pub returns-in-Some : goal.returns-in-Some
returns-in-Some g c value there =
    let same = some_same (sym c.in-Some.is ∙ c.word_at.ensures ∙ there) in
    let variable = variable_naming c.args.variable.now in
    puts_same _ _ _ _ _ _ _
    (ap (λ v. value_change c.args.turn c.args.process.now variable c.args.k c.word_at-old.result v)
    (to_z-of_z w64 c.in-Some.value (search rules) ∙ same)
    ∙ ap (λ o. value_change c.args.turn c.args.process.now variable c.args.k o value) c.word_at-old.ensures)
    c.write_if_other.ensures
