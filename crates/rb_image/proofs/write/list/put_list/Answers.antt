use Rattle.std.proofs.Common.{◌≡◌, ℕ, ◌++◌, length, map, sym, ap}
use Rattle.std.specs.List.{flat_map}
use Rattle.std.proofs.lemmas.List.{length-map}
use Rattle.rb_outside.proofs.Puts.{puts_both, puts_same, puts_stopped_at}
use Rattle.rb_image.specs.Pieces.{natural}
use Rattle.rb_image.proofs.write.list.put_list.Goals as goal

pub returns-clause-text : goal.returns-clause-text
returns-clause-text g c =
    let items = flat_map g.T.Spelled.bytes (map g.T.Spelled.plain c.args.items.now) in
    let as_many : length c.args.items.now ≡ length (map g.T.Spelled.plain c.args.items.now) =
    sym (length-map c.args.items.now g.T.Spelled.plain) in
    puts_same _ _ _ _ _ _ _ (ap (λ (n : ℕ). natural n ++ items) as_many)
    (puts_both (natural (length c.args.items.now)) items _ _ _ _ _ _ _ _ c.in_ok-put_length.ensures c.put_items.ensures.text)

pub returns-in_err-put_length-clause-text : goal.returns-in_err-put_length-clause-text
returns-in_err-put_length-clause-text g c =
    let items = flat_map g.T.Spelled.bytes (map g.T.Spelled.plain c.args.items.now) in
    let as_many : length c.args.items.now ≡ length (map g.T.Spelled.plain c.args.items.now) =
    sym (length-map c.args.items.now g.T.Spelled.plain) in
    puts_same _ _ _ _ _ _ _ (ap (λ (n : ℕ). natural n ++ items) as_many)
    (puts_stopped_at (natural (length c.args.items.now)) items _ _ _ _ _ c.from_residual.result c.from_residual.ensures.0
    c.in_err-put_length.ensures)
