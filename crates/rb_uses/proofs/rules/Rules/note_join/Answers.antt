use Rattle.std.proofs.Common.{◌≡◌, ◌++◌, not, slice_get, ap, ◌∙◌}
use Rattle.rb_base.specs.declared.fault.FaultName.TheVariants.{N1, N2, N3, N4, N5, N7, N13}
use Rattle.rb_syntax.specs.Plain.{tree}
use Rattle.rb_world.specs.Reject.{parent_of}
use Rattle.rb_world.specs.World.{is_number}
use Rattle.rb_meaning.specs.Groups.{groups_of}
use Rattle.rb_meaning.specs.Nesting.{alternates_of, is_member, is_same_conversation, members_in}
use Rattle.rb_scope.specs.Finding.{first_after}
use Rattle.rb_scope.specs.Rules.{where_broken}
use Rattle.rb_nest.specs.Rules.{are_among}
use Rattle.rb_uses.specs.Memory.{held}
use Rattle.rb_uses.specs.Summary.{may_join, members_within}
use Rattle.rb_uses.proofs.Noted.{then_noted}
use Rattle.rb_uses.proofs.rules.Rules.note_join.Goals as goal

pub returns : goal.returns
returns c =
    let whole = tree c.args.self.now.uses.now.program.now in
    let one = c.args.one.now in
    let place = one.name.place in
    let n1 = where_broken (not (may_join (held one))) N1 place in
    let n2 = where_broken (not (is_member one.process (members_in whole one.number))) N2 place in
    let n3 = where_broken (not (are_among (members_in whole one.number) (members_within whole one.within))) N3 place in
    let n4 = where_broken (not (is_same_conversation one.within (parent_of (slice_get (groups_of whole) one.number)))) N4 place in
    let n5 = where_broken (not (is_number (alternates_of whole one.number) c.args.alternates)) N5 place in
    let n7 = where_broken c.args.again N7 place in
    let n13 = where_broken (not one.has_room) N13 place in
    let at1 = c.note.new.first in
    let at2 = c.note-2.new.first in
    let at3 = c.note-3.new.first in
    let at4 = c.note-4.new.first in
    let at5 = c.note-5.new.first in
    let at7 = c.note-6.new.first in
    let last = c.note-7.new.first in
    let first = c.args.first.now in
    let join : at1 ≡ first_after first n1 =
    c.note.ensures ∙ ap (λ b. first_after first (where_broken (not b) N1 place)) c.may_join.ensures
    in
    let member : at2 ≡ first_after at1 n2 =
    c.note-2.ensures ∙ ap (λ b. first_after at1 (where_broken (not b) N2 place)) c.is_member-is_member.ensures
    in
    let among : at3 ≡ first_after at2 n3 =
    c.note-3.ensures ∙ ap (λ b. first_after at2 (where_broken (not b) N3 place)) c.are_among-are_among.ensures
    in
    let parent : at4 ≡ first_after at3 n4 =
    c.note-4.ensures ∙ ap (λ b. first_after at3 (where_broken (not b) N4 place)) c.is_parent-is_parent.ensures
    in
    let as_many : at5 ≡ first_after at4 n5 =
    c.note-5.ensures ∙ ap (λ b. first_after at4 (where_broken (not b) N5 place)) c.has_as_many-has_as_many.ensures
    in
    let again = then_noted at5 at7 last n7 n13 c.note-6.ensures c.note-7.ensures in
    let from5 = then_noted at4 at5 last n5 (n7 ++ n13) as_many again in
    let from4 = then_noted at3 at4 last n4 (n5 ++ (n7 ++ n13)) parent from5 in
    let from3 = then_noted at2 at3 last n3 (n4 ++ (n5 ++ (n7 ++ n13))) among from4 in
    let from2 = then_noted at1 at2 last n2 (n3 ++ (n4 ++ (n5 ++ (n7 ++ n13)))) member from3 in
    then_noted first at1 last n1 (n2 ++ (n3 ++ (n4 ++ (n5 ++ (n7 ++ n13))))) join from2
