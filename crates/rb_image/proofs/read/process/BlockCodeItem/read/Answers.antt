use Rattle.std.proofs.Common.{ℕ, List, ap}
use Rattle.std.proofs.lemmas.List.{map-id}
use Rattle.rb_image.specs.Reading.{both, list_at, natural_at, optional_at}
use Rattle.rb_image.specs.ReadParts.{block_at, block_of}
use Rattle.rb_image.proofs.Chains.{made_as}
use Rattle.rb_image.proofs.read.process.BlockCodeItem.read.Goals as goal

pub returns : goal.returns
unfolding block_at
returns c =
    let parts = c.in_ok-parts.parts in
    made_as block_of (both natural_at (both optional_at (both natural_at (both natural_at (both natural_at (list_at 8 natural_at))))))
    c.args.bytes.now _ _ c.in_ok-parts.ensures
    (ap (λ (alternates : List ℕ).
    block_of (parts.0, (parts.1.0, (parts.1.1.0, (parts.1.1.1.0, (parts.1.1.1.1.0, alternates))))))
    (map-id parts.1.1.1.1.1.items))
