use Rattle.std.proofs.Common.{ℕ, ap, sym, ◌∙◌}
use Rattle.std.specs.List.{list_all}
use Rattle.rb_syntax.specs.Plain.{tree}
use Rattle.rb_world.specs.Turn.{members_of}
use Rattle.rb_meaning.specs.Nesting.{is_member, members_in}
use Rattle.rb_uses.proofs.Members.{all_alike, conversation_known, no_conversation}
use Rattle.rb_uses.proofs.rules.Rules.have_members.Goals as goal

pub returns-in-None : goal.returns-in-None
returns-in-None c =
    let rules = c.args.self.now in
    let whole = tree rules.uses.now.program.now in
    let absent =
    no_conversation whole rules.conversations.items c.deref.result.now c.args.number c.deref.ensures.value rules.facts
    c.in-None.ensures.lookup.0
    in
    sym (ap (λ g. list_all (λ (m : ℕ). is_member m (members_in whole c.args.around)) (members_of g)) absent)

pub returns-in-Some : goal.returns-in-Some
returns-in-Some c =
    let rules = c.args.self.now in
    let whole = tree rules.uses.now.program.now in
    let test = λ (m : ℕ). is_member m (members_in whole c.args.around) in
    let found =
    conversation_known whole rules.conversations.items c.deref.result.now c.args.number c.in-Some.facts.now
    c.deref.ensures.value rules.facts c.in-Some.ensures.lookup.0 c.in-Some.ensures.lookup.1
    in
    c.are_members.ensures
    ∙ ap (list_all test) c.deref-in-Some.ensures.value
    ∙ all_alike test c.in-Some.facts.now.members.items (members_in whole c.args.number) found.members
