use Rattle.std.proofs.Common.{◌≡◌, ℕ, length}
use Rattle.std.specs.List.{list_all}
use Rattle.rb_syntax.specs.Plain.{tree}
use Rattle.rb_meaning.specs.Nesting.{is_member, members_in}
use Rattle.rb_uses.proofs.rules.Rules.are_members.Given as goal

abbrev pub invariant-members : goal.invariant-members
invariant-members l =
    let test = λ (m : ℕ). is_member m (members_in (tree l.self.uses.now.program.now) l.around) in
    list_all test l.rest ≡ list_all test l.fn.members

abbrev pub decreases-members : goal.decreases-members
decreases-members l = length l.rest
