use Rattle.std.proofs.Common.{ℕ, List, map, ap}
use Rattle.std.proofs.lemmas.List.{map-id}
use Rattle.rb_code.specs.Instructions.Plain.{procedure}
use Rattle.rb_image.specs.Reading.{both, list_at, natural_at}
use Rattle.rb_image.specs.ReadParts.{part_of, procedure_at, process_at}
use Rattle.rb_image.proofs.Chains.{made_as}
use Rattle.rb_image.proofs.read.process.ProcessCodeItem.read.Goals as goal

pub returns : goal.returns
unfolding process_at
returns c =
    let parts = c.in_ok-parts.parts in
    made_as part_of (both natural_at (both natural_at (both (list_at 8 natural_at) (list_at 16 procedure_at)))) c.args.bytes.now _ _
    c.in_ok-parts.ensures
    (ap (λ (channels : List ℕ). part_of (parts.0, (parts.1.0, (channels, map procedure parts.1.1.1.items)))) (map-id parts.1.1.0.items))
