use Rattle.std.proofs.Common.{ap, sym, ◌∙◌}
use Rattle.rb_syntax.specs.Plain.{tree}
use Rattle.rb_world.specs.Reject.{parent_of}
use Rattle.rb_meaning.specs.Nesting.{is_same_conversation}
use Rattle.rb_uses.proofs.Members.{conversation_known, no_conversation, none_same, same_parent}
use Rattle.rb_uses.proofs.rules.Rules.is_parent.Goals as goal

pub returns-in-None : goal.returns-in-None
returns-in-None c =
    let rules = c.args.self.now in
    let absent =
    no_conversation (tree rules.uses.now.program.now) rules.conversations.items c.deref.result.now c.args.number
    c.deref.ensures.value rules.facts c.in-None.ensures.lookup.0
    in
    none_same c.args.within c.is_none.result c.is_none.ensures
    ∙ sym (ap (λ g. is_same_conversation c.args.within (parent_of g)) absent)

pub returns-in-Some : goal.returns-in-Some
returns-in-Some c =
    let rules = c.args.self.now in
    let found =
    conversation_known (tree rules.uses.now.program.now) rules.conversations.items c.deref.result.now c.args.number
    c.in-Some.facts.now c.deref.ensures.value rules.facts c.in-Some.ensures.lookup.0 c.in-Some.ensures.lookup.1
    in
    c.eq.ensures ∙ same_parent c.in-Some.facts.now.parent c.args.within ∙ ap (is_same_conversation c.args.within) found.parent
