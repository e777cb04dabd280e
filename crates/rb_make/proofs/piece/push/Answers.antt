use Rattle.std.proofs.Common.{◌≡◌, ◌<◌, ◌+◌, List, ℕ, ◌++◌, length, take, get_or, ap, sym, ◌∙◌}
use Rattle.std.specs.List.{flat_map}
use Rattle.std.proofs.lemmas.List.{flat_map_more, take_all, take_more}
use Rattle.rb_make.specs.Pieces.{piece_bytes}
use Rattle.rb_make.specs.declared.piece.Piece.{Piece}
use Rattle.rb_make.proofs.piece.push.Goals as goal

-- one piece more was put
put_more : (pieces : List Piece) (at : ℕ) (d : Piece) (before so_far new : List ℕ) → at < length pieces
    → so_far ≡ before ++ flat_map piece_bytes (take at pieces) → new ≡ so_far ++ piece_bytes (get_or pieces at d)
    → new ≡ before ++ flat_map piece_bytes (take (at + 1) pieces)
put_more pieces at d before so_far new within is more =
    more
    ∙ ap (λ (text : List ℕ). text ++ piece_bytes (get_or pieces at d)) is
    ∙ flat_map_more piece_bytes before (take at pieces) (get_or pieces at d)
    ∙ ap (λ (some : List Piece). before ++ flat_map piece_bytes some) (sym (take_more pieces at d within))

pub loop-piece-preserved : goal.loop-piece-preserved
loop-piece-preserved c =
    put_more c.args.pieces.now c.loop-piece.piece-index _ c.args.text.now.items c.loop-piece.text.items c.push_piece.new.text.items
    c.loop-piece-test.true c.loop-piece.invariant c.in_ok-push_piece.ensures

pub returns : goal.returns
returns c =
    c.loop-piece.invariant
    ∙ ap (λ (some : List Piece). c.args.text.now.items ++ flat_map piece_bytes some)
    (take_all c.loop-piece.piece-index c.args.pieces.now c.loop-piece-test.false)
