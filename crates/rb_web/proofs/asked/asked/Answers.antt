use Rattle.std.proofs.Common.{◌≤◌, ℕ, List, length, map, take, sym, ap, ◌∙◌, arith}
use Rattle.rb_outside.specs.Started.{stored_files}
use Rattle.rb_web.specs.Asked.{files_named as named}
use Rattle.rb_web.specs.Called.{carried_out}
use Rattle.rb_web.specs.Ending.{EndsOf}
use Rattle.rb_web.proofs.Moved.{same_end, stands_front}
use Rattle.rb_web.proofs.asked.asked.Goals as goal

pub returns-clause-ends : goal.returns-clause-ends
returns-clause-ends c =
    let words = c.in_ok-words.words in
    let texts : List (List ℕ) = map (λ text. text.now) c.args.texts.now in
    let answer = c.in_ok-answer.answer in
    let ends = c.in_ok-answer.ensures in
    let out = c.put_front.new.place in
    let reason = c.put_front-2.new.place in
    let bytes = c.written.result.now in
    let told = c.told.result.now in
    let fits : length bytes ≤ length c.args.out.now = omega (arith, ends.writes_well.0, ap length c.written.ensures) in
    let told_fits : length told ≤ length c.args.reason.now = omega (arith, ends.tells_well.0, ap length c.told.ensures) in
    let front = stands_front c.args.out.now out bytes fits c.put_front.ensures in
    let told_front = stands_front c.args.reason.now reason told told_fits c.put_front-2.ensures in
    carried_out words answer.telling c.in_ok-words.ensures
    (same_end (EndsOf c.args.program words) answer.telling (stored_files c.in_ok-files.files.items) (named words texts)
    (length c.args.out.now) (length out) (length c.args.reason.now) (length reason) answer.number c.from.result
    answer.written.bytes (take (length c.written-2.result.now) out) answer.told.bytes (take (length c.told-2.result.now) reason)
    (c.in_ok-files.ensures ∙ ap (λ (ws : List (List ℕ)). named ws texts) c.list.ensures) front.0 told_front.0
    (sym c.number.ensures ∙ sym c.from.ensures)
    (sym c.written.ensures ∙ front.2 ∙ ap (λ (b : List ℕ). take (length b) out) (c.written.ensures ∙ sym c.written-2.ensures))
    (sym c.told.ensures ∙ told_front.2 ∙ ap (λ (b : List ℕ). take (length b) reason) (c.told.ensures ∙ sym c.told-2.ensures))
    ends)
