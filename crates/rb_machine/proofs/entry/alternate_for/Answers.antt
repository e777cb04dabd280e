use Rattle.std.proofs.Common.{◌<◌, length, map, ap, sym, ◌∙◌, arith}
use Rattle.std.proofs.lemmas.List.{length-map}
use Rattle.std.proofs.lemmas.Option.{slice_get_within}
use Rattle.rb_world.proofs.ListFacts.{some_same}
use Rattle.rb_code.specs.Instructions.Plain.{Block, block}
use Rattle.rb_proc.proofs.Entered.{mapped_there}
use Rattle.rb_machine.proofs.entry.alternate_for.Goals as goal

pub join-requires : goal.join-requires
join-requires c =
    let blocks = c.args.code.now.blocks.items in
    let one = c.index.result.now in
    let within : c.args.block < length blocks =
    omega (arith, slice_get_within (map block blocks) c.args.block c.requires.block c.requires.there, length-map blocks block) in
    let same = some_same (sym c.requires.there ∙ mapped_there block blocks c.args.block one within c.index.ensures) in
    c.requires.listed c.in-Some.conversation (ap (λ (x : Block). x.conversation) same ∙ c.in-Some.is)
