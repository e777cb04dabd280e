use Rattle.std.proofs.Common.{◌&&◌, slice_get, None, ap, sym, ◌∙◌}
use Rattle.rb_syntax.specs.Plain.{tree}
use Rattle.rb_meaning.specs.Groups.{channels_of}
use Rattle.rb_meaning.specs.Nesting.{is_member, members_in}
use Rattle.rb_uses.specs.Summary.{speaks_within}
use Rattle.rb_uses.proofs.Channels.{both_ends, channel_known, no_channel}
use Rattle.rb_uses.proofs.rules.Rules.speaks_within.Goals as goal

pub returns-in-None-get : goal.returns-in-None-get
returns-in-None-get c =
    let rules = c.args.self.now in
    let whole = tree rules.uses.now.program.now in
    let absent =
    no_channel rules.channels.items c.deref.result.now (channels_of whole) c.args.number c.deref.ensures.value rules.ends
    c.in-None-get.ensures.lookup.0
    in
    sym (ap (speaks_within whole c.args.within) absent ∙ ap (λ w. speaks_within whole w None) c.in-Some.is)

pub returns-then-is_member : goal.returns-then-is_member
returns-then-is_member c =
    let rules = c.args.self.now in
    let whole = tree rules.uses.now.program.now in
    let members = members_in whole c.in-Some.around in
    let ends = c.in-Some-get.ends.now in
    let found = slice_get (channels_of whole) c.args.number in
    let known =
    channel_known rules.channels.items c.deref.result.now (channels_of whole) c.args.number ends c.deref.ensures.value rules.ends
    c.in-Some-get.ensures.lookup.0 c.in-Some-get.ensures.lookup.1
    in
    c.is_member-then-is_member.ensures
    ∙ ap (λ b. b && is_member ends.receiver members) (sym c.if-is_member.true ∙ c.is_member.ensures)
    ∙ both_ends members found ends known
    ∙ ap (λ w. speaks_within whole w found) (sym c.in-Some.is)

pub returns-else-is_member : goal.returns-else-is_member
returns-else-is_member c =
    let rules = c.args.self.now in
    let whole = tree rules.uses.now.program.now in
    let members = members_in whole c.in-Some.around in
    let ends = c.in-Some-get.ends.now in
    let found = slice_get (channels_of whole) c.args.number in
    let known =
    channel_known rules.channels.items c.deref.result.now (channels_of whole) c.args.number ends c.deref.ensures.value rules.ends
    c.in-Some-get.ensures.lookup.0 c.in-Some-get.ensures.lookup.1
    in
    c.if-is_member.false
    ∙ ap (λ b. b && is_member ends.receiver members) (sym c.if-is_member.false ∙ c.is_member.ensures)
    ∙ both_ends members found ends known
    ∙ ap (λ w. speaks_within whole w found) (sym c.in-Some.is)
