use Rattle.std.proofs.Common.{◌<◌, subst}
use Rattle.std.proofs.lemmas.List.{length-map}
use Rattle.rb_code.specs.Instructions.Plain.{part}
use Rattle.rb_recovery.proofs.channels.room_from.Goals as goal

pub cursor_then-requires-clause-process : goal.cursor_then-requires-clause-process
cursor_then-requires-clause-process g c =
    subst (λ n. c.args.receiver.now.process.state.process < n) (length-map c.args.code.now.processes.items part) c.requires.cursors.exists

pub cursor-requires : goal.cursor-requires
cursor-requires g c =
    subst (λ n. c.args.receiver.now.process.state.process < n) (length-map c.args.code.now.processes.items part) c.requires.cursors.exists
