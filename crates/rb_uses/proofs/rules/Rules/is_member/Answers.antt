use Rattle.std.proofs.Common.{ap, sym, ◌∙◌}
use Rattle.rb_syntax.specs.Plain.{tree}
use Rattle.rb_world.specs.Turn.{members_of}
use Rattle.rb_meaning.specs.Nesting.{is_member}
use Rattle.rb_uses.proofs.Members.{conversation_known, no_conversation}
use Rattle.rb_uses.proofs.rules.Rules.is_member.Goals as goal

pub returns-in-None : goal.returns-in-None
returns-in-None c =
    let rules = c.args.self.now in
    let absent =
    no_conversation (tree rules.uses.now.program.now) rules.conversations.items c.deref.result.now c.args.number
    c.deref.ensures.value rules.facts c.in-None.ensures.lookup.0
    in
    sym (ap (λ g. is_member c.args.process (members_of g)) absent)

pub returns-in-Some : goal.returns-in-Some
returns-in-Some c =
    let rules = c.args.self.now in
    let found =
    conversation_known (tree rules.uses.now.program.now) rules.conversations.items c.deref.result.now c.args.number
    c.in-Some.facts.now c.deref.ensures.value rules.facts c.in-Some.ensures.lookup.0 c.in-Some.ensures.lookup.1
    in
    c.is_member.ensures ∙ ap (is_member c.args.process) c.deref-in-Some.ensures.value ∙ found.members c.args.process
