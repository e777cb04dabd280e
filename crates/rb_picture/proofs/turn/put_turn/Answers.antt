use Rattle.std.proofs.Common.{◌<◌, List, ℕ, Bor, length, map, arith}
use Rattle.std.specs.Prelude.{decimal}
use Rattle.std.proofs.lemmas.List.{length-map}
use Rattle.rb_outside.proofs.Puts.{puts_both, puts_same, puts_stopped_at}
use Rattle.rb_picture.specs.Turns.{place_word}
use Rattle.rb_changes.proofs.Parts.{turn_joined}
use Rattle.rb_picture.proofs.turn.put_turn.Goals as goal

pub returns-in_err-put_front : goal.returns-in_err-put_front
returns-in_err-put_front g c =
    let words = map (λ (word : Bor (List ℕ)). word.now) c.args.words.now in
    let some : 0 < length words = omega (arith, c.requires, length-map c.args.words.now (λ (word : Bor (List ℕ)). word.now)) in
    puts_same _ _ _ _ _ _ _ (turn_joined (decimal c.args.number) c.args.process.now (place_word c.args.place) words some)
    (puts_stopped_at _ _ _ _ _ _ _ c.from_residual.result c.from_residual.ensures.0 c.in_err-put_front.ensures)

pub returns : goal.returns
returns g c =
    let words = map (λ (word : Bor (List ℕ)). word.now) c.args.words.now in
    let some : 0 < length words = omega (arith, c.requires, length-map c.args.words.now (λ (word : Bor (List ℕ)). word.now)) in
    puts_same _ _ _ _ _ _ _ (turn_joined (decimal c.args.number) c.args.process.now (place_word c.args.place) words some)
    (puts_both _ _ _ _ _ _ _ _ _ _ c.in_ok-put_front.ensures c.put_line.ensures)
