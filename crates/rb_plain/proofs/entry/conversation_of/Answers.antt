-- A block's conversation by its name, if it has one.
use Rattle.std.proofs.Common.{Some, None, option_map, ap, sym, ◌∙◌}
use Rattle.rb_syntax.specs.Plain.{identifier, tree}
use Rattle.rb_meaning.specs.Groups.{conversation_of}
use Rattle.rb_plain.proofs.BlockFacts.{facts_are}
use Rattle.rb_plain.proofs.entry.conversation_of.Goals as goal

pub returns-in-Some : goal.returns-in-Some
returns-in-Some c =
    let plain = tree c.args.program.now in
    facts_are plain c.args.block.now (Some c.conversation_number.result)
    (ap Some c.conversation_number.ensures ∙ ap (λ name. conversation_of plain (option_map identifier name)) (sym c.in-Some.is))

pub returns-in-None : goal.returns-in-None
returns-in-None c =
    let plain = tree c.args.program.now in
    facts_are plain c.args.block.now None (ap (λ name. conversation_of plain (option_map identifier name)) (sym c.in-None.is))
