-- The code is sound, so that its sizes are small, and those of the machine.
use Rattle.std.proofs.Common.{[], length, map, ap, ◌∙◌, arith, refl}
use Rattle.rb_code.specs.Instructions.Plain.{code as plain, part}
use Rattle.rb_conv.specs.Conversations.{memberships, opening}
use Rattle.rb_machine.specs.Machine.{Seen}
use Rattle.rb_recovery.specs.Reading.{variables_of}
use Rattle.rb_recovery.specs.Worlds.{counts_of}
use Rattle.rb_back.proofs.Sizes.{few_words, held_words}
use Rattle.rb_back.proofs.session.Session.load.Goals as goal

pub load_view-requires-clause-words : goal.load_view-requires-clause-words
load_view-requires-clause-words g c =
    ap (λ (m : Seen). map length (variables_of m.code m.world.processes)) c.in_ok-machine.ensures
    ∙ held_words (plain c.args.code.now) (memberships (opening c.args.nested.now)) (counts_of (opening c.args.nested.now)) c.requires.sound []
    part c.args.code.now.processes.items refl

pub most_changes-most_changed-requires : goal.most_changes-most_changed-requires
most_changes-most_changed-requires g c =
    let few = few_words (plain c.args.code.now) (memberships (opening c.args.nested.now)) (counts_of (opening c.args.nested.now)) c.requires.sound in
    omega (arith, few)

pub overflow_add-most_changed : goal.overflow_add-most_changed
overflow_add-most_changed g c =
    let few = few_words (plain c.args.code.now) (memberships (opening c.args.nested.now)) (counts_of (opening c.args.nested.now)) c.requires.sound in
    omega (arith, few, c.most_changes-most_changed.ensures)
