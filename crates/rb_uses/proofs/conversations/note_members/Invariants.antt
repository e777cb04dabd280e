use Rattle.std.proofs.Common.{◌≡◌, [], drop, map, reverse, take}
use Rattle.rb_syntax.specs.Plain.{identifier, tree}
use Rattle.rb_scope.specs.Finding.{first_after}
use Rattle.rb_nest.specs.Rules.{members_faults}
use Rattle.rb_uses.proofs.conversations.note_members.Given as goal

-- what is found, and then behind the other members
abbrev pub invariant-loop-index : goal.invariant-loop-index
invariant-loop-index l =
    let whole = tree l.uses.program.now in
    let earlier = map identifier (reverse (take l.index l.members)) in
    let others = map identifier (drop l.index l.members) in
    let all = members_faults whole l.conversation [] (map identifier l.members) in
    first_after l.first (members_faults whole l.conversation earlier others) ≡ first_after l.fn.first all
