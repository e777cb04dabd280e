-- The parts of a reason, each by what it comes to.
use Rattle.std.proofs.Common.{◌≡◌, ◌∙◌, List, ℕ, ap₂}
use Rattle.rb_base.specs.declared.place.Place.{Place}
use Rattle.rb_frame.specs.Frame.{framed_with}

pub parts_told : (file text : List ℕ) (at place : Place) (word name front words back remarks : List ℕ) → at ≡ place → word ≡ name → front ≡ words
    → back ≡ remarks → framed_with file text at word front back ≡ framed_with file text place name words remarks
parts_told file text at place word name front words back remarks p n w r =
    ap₂ (λ (x : Place) (y : List ℕ). framed_with file text x y front back) p n
    ∙ ap₂ (framed_with file text place name) w r
