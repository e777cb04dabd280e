use Rattle.std.proofs.Common.{◌≡◌, decimal, ◌∙◌}
use Rattle.rb_trace.proofs.event.write_event.Goals as goal

pub returns-in-Reject : goal.returns-in-Reject
returns-in-Reject g c =
    let told : c.as_bytes-turn.result.now ≡ decimal c.args.turn = c.as_bytes-turn.ensures.value ∙ c.format.ensures.text in
    rw (c.in-Reject.is, ← told, ← c.process_of.ensures, ← c.word.ensures) c.write_reject.ensures

pub returns-in-RejectAll : goal.returns-in-RejectAll
returns-in-RejectAll g c =
    let told : c.as_bytes-turn.result.now ≡ decimal c.args.turn = c.as_bytes-turn.ensures.value ∙ c.format.ensures.text in
    rw (
      c.in-RejectAll.is,
      ← told,
      ← c.conversation_of-conversation.ensures,
      ← c.process_of-in-RejectAll.ensures,
      ← c.word-in-RejectAll.ensures,
    ) c.write_reject_all.ensures

pub returns-in-Error : goal.returns-in-Error
returns-in-Error g c =
    let told : c.as_bytes-turn.result.now ≡ decimal c.args.turn = c.as_bytes-turn.ensures.value ∙ c.format.ensures.text in
    rw (c.in-Error.is, ← told, ← c.process_of-in-Error.ensures, ← c.word-in-Error.ensures) c.write_error.ensures

pub returns-in-Pass : goal.returns-in-Pass
returns-in-Pass g c =
    let told : c.as_bytes-turn.result.now ≡ decimal c.args.turn = c.as_bytes-turn.ensures.value ∙ c.format.ensures.text in
    rw (c.in-Pass.is, ← told, ← c.conversation_of.ensures) c.write_pass.ensures

pub returns-in-Done : goal.returns-in-Done
returns-in-Done g c =
    let told : c.as_bytes-turn.result.now ≡ decimal c.args.turn = c.as_bytes-turn.ensures.value ∙ c.format.ensures.text in
    rw (c.in-Done.is, ← told, ← c.process_of-in-Done.ensures) c.write_done.ensures
