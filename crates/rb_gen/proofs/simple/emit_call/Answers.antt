use Rattle.std.proofs.Common.{◌≡◌, ◌∙◌, sym, length, map, refl}
use Rattle.std.proofs.lemmas.List.{length-map}
use Rattle.rb_syntax.specs.Plain.{expression}
use Rattle.rb_draft.proofs.Emits.{both}
use Rattle.rb_gen.proofs.Rows.{last_call, call_row, room_there}
use Rattle.rb_gen.proofs.simple.emit_call.Goals as goal

pub returns : goal.returns
returns c = last_call c.put-2.result c.put-2.ensures (λ h s n.
    let number = c.procedure_of-number.ensures in
    let long : c.in_ok-count.count ≡ length (map expression c.args.arguments.now) =
    c.in_ok-count.ensures ∙ sym (length-map c.args.arguments.now expression) in
    both (c.in_ok-put.ensures refl s.owner.number n) (both (c.in_ok-emit_arguments.ensures s.owner.number n)
    (call_row s.owner.number n number long
    (c.room_at.ensures ∙ room_there s.owner.procedures c.args.words.now _ _ s.sized number)
    (h refl s.owner.number n))))
