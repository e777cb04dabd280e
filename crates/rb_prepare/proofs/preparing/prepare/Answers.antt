use Rattle.rb_syntax.specs.Plain.{tree}
use Rattle.rb_judge.proofs.BlocksInOrder.{parsed_are_numbered}
use Rattle.rb_prepare.proofs.AcceptedSources.{accepted_code_is_sound}
use Rattle.rb_prepare.proofs.preparing.prepare.Goals as goal

pub generate-requires-clause-numbered : goal.generate-requires-clause-numbered
generate-requires-clause-numbered c =
    let judged = c.in_ok-judged.ensures.judged in
    parsed_are_numbered c.args.source.now (tree c.in_ok-judged.judged.checked.program) judged.accepted.derived

pub returns-in-Ok-clause-prepared : goal.returns-in-Ok-clause-prepared
returns-in-Ok-clause-prepared c =
    let judged = c.in_ok-judged.ensures.judged in
    let program = tree c.in_ok-judged.judged.checked.program in
    let slots = c.in_ok-judged.judged.checked.slots.items in
    record {
      tree = program;
      slots = slots;
      accepted = judged.accepted;
      is_code = record {
        resolved = judged.resolved;
        frames = judged.frames;
        stands = c.in-Ok.ensures;
        sound = accepted_code_is_sound c.args.source.now program slots _ judged.accepted judged.frames c.in-Ok.ensures _ judged.conversations;
      };
      conversations = judged.conversations;
    }
