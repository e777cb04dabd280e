use Rattle.std.proofs.Common.{ℕ, List, ap}
use Rattle.std.proofs.lemmas.List.{map-id}
use Rattle.rb_image.specs.Reading.{both, list_at, natural_at, optional_at}
use Rattle.rb_image.specs.ReadParts.{group_at, group_of}
use Rattle.rb_image.proofs.Chains.{made_as}
use Rattle.rb_image.proofs.read.names.GroupItem.read.Goals as goal

pub returns : goal.returns
unfolding group_at
returns c =
    let group = c.in_ok-members in
    made_as group_of (both (list_at 8 natural_at) (both optional_at natural_at)) c.args.bytes.now _ _ group.ensures
    (ap (λ (members : List ℕ). group_of (members, (group.parent, group.alternates))) (map-id group.members.items))
