use Rattle.std.proofs.Common.{◌≡◌, nat_lt, [], length, map, ap, ◌∙◌}
use Rattle.std.proofs.lemmas.List.{length-map}
use Rattle.rb_base.specs.declared.fault.FaultName.TheVariants.{N11}
use Rattle.rb_syntax.specs.Plain.{identifier, tree}
use Rattle.rb_scope.specs.Finding.{first_after}
use Rattle.rb_scope.specs.Rules.{where_broken}
use Rattle.rb_nest.specs.Rules.{members_faults}
use Rattle.rb_uses.proofs.Noted.{then_noted}
use Rattle.rb_uses.proofs.conversations.note_conversation.Goals as goal

pub returns : goal.returns
returns c =
    let whole = tree c.args.uses.now.program.now in
    let one = c.args.conversation.now in
    let place = one.name.place in
    let first = c.args.first.now in
    let names = map identifier one.members.items in
    let few = where_broken (nat_lt (length names) 2) N11 place in
    let others = members_faults whole one.name.text.now [] names in
    let noted = c.note.new.first in
    let last = c.note_members.new.first in
    let count : c.len-few.result ≡ length names = cc (length-map one.members.items identifier) in
    let declared : noted ≡ first_after first few =
    c.note.ensures ∙ ap (λ n. first_after first (where_broken (nat_lt n 2) N11 place)) count
    in
    let named : last ≡ first_after noted others =
    c.note_members.ensures
    ∙ ap (λ ns. first_after noted (members_faults whole one.name.text.now [] (map identifier ns))) c.deref.ensures.value
    in
    then_noted first noted last few others declared named
