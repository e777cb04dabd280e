use Rattle.std.proofs.Common.{◌≡◌, ℕ, ◌+◌, ◌<◌, List, length, ◌++◌, take, Bor, Some, Result, Ok, Err, OnOk, get_or, ap, sym, ◌∙◌}
use Rattle.std.specs.List.{flat_map}
use Rattle.std.specs.Result.{result_ok}
use Rattle.std.proofs.lemmas.List.{take_all}
use Rattle.rb_domino.proofs.Putting.{grown}
use Rattle.rb_domino.proofs.pieces.joined.Goals as goal

-- what a piece has
abbrev text : Bor (List ℕ) → List ℕ
text piece = piece.now

-- what holds of what went well
where_well : {X E : Type 0} {P : Type 0} (r : Result X E) (x : X) → result_ok r ≡ Some x → OnOk r P → P
where_well (Ok y) x is p = p
where_well (Err e) x is p = absurd (cc)

-- a piece more
piece_more : (pieces : List (Bor (List ℕ))) (i : ℕ) (d : Bor (List ℕ)) (old new : List ℕ) → i < length pieces
    → old ≡ flat_map text (take i pieces) → new ≡ old ++ text (get_or pieces i d) → new ≡ flat_map text (take (i + 1) pieces)
piece_more pieces i d old new within so_far more =
    more ∙ ap (λ (line : List ℕ). line ++ text (get_or pieces i d)) so_far ∙ grown text pieces i d within

pub loop-piece-preserved : goal.loop-piece-preserved
loop-piece-preserved c =
    piece_more c.args.pieces.now c.loop-piece.piece-index _ _ _ c.loop-piece-test.true c.loop-piece.invariant
    (where_well c.try_extend_from_slice.result c.in_ok-ok.field-0 (sym c.ok.ensures.value ∙ c.in_ok-ok.was) c.try_extend_from_slice.ensures.ok)

pub returns : goal.returns
returns c = c.loop-piece.invariant ∙ ap (flat_map text) (take_all c.loop-piece.piece-index c.args.pieces.now c.loop-piece-test.false)
