use Rattle.rb_syntax.specs.Plain.{tree}
use Rattle.rb_judge.proofs.BlocksInOrder.{parsed_are_numbered}
use Rattle.rb_prepare.proofs.AcceptedSources.{accepted_code_is_sound}
use Rattle.rb_show.proofs.traced.with_code.Goals as goal

pub generate-requires-clause-numbered : goal.generate-requires-clause-numbered
generate-requires-clause-numbered c =
    parsed_are_numbered c.args.bytes.now (tree c.args.judged.checked.program) c.requires.accepted.derived

pub returns : goal.returns
returns c =
    let judged = c.requires in
    let program = tree c.args.judged.checked.program in
    let slots = c.args.judged.checked.slots.items in
    record {
      prepared = record {
        tree = program;
        slots = slots;
        accepted = judged.accepted;
        is_code = record {
          resolved = judged.resolved;
          frames = judged.frames;
          stands = c.in_ok-code.ensures;
          sound = accepted_code_is_sound c.args.bytes.now program slots _ judged.accepted judged.frames c.in_ok-code.ensures _ judged.conversations;
        };
        conversations = judged.conversations;
      };
      places = c.in_ok-places.ensures;
    }
