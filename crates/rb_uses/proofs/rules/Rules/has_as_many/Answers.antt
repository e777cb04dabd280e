use Rattle.std.proofs.Common.{ap, ◌∙◌}
use Rattle.rb_syntax.specs.Plain.{tree}
use Rattle.rb_world.specs.World.{is_number}
use Rattle.rb_uses.proofs.Members.{conversation_known, same_count}
use Rattle.rb_uses.proofs.rules.Rules.has_as_many.Goals as goal

pub returns-in-Some : goal.returns-in-Some
returns-in-Some c =
    let rules = c.args.self.now in
    let found =
    conversation_known (tree rules.uses.now.program.now) rules.conversations.items c.deref.result.now c.args.number
    c.in-Some.facts.now c.deref.ensures.value rules.facts c.in-Some.ensures.lookup.0 c.in-Some.ensures.lookup.1
    in
    c.eq-in-Some.ensures
    ∙ same_count c.in-Some.facts.now.alternates c.args.alternates
    ∙ ap (λ a. is_number a c.args.alternates) found.alternates
