-- The variables that frames have lie among the words of the process, and of the running call.
use Rattle.std.proofs.Common.{◌≡◌, ℕ, ◌+◌, ◌≤◌, Bool, true, false, cond, List, [], ◌∷◌, option_map, Option, Some, None, refl, ap, subst, arith}
use Rattle.std.proofs.lemmas.List.Sums.{sum_by-cons}
use Rattle.rb_world.proofs.ListFacts.{none_some, some_same}
use Rattle.rb_meaning.specs.Environment.{or_else, same_name}
use Rattle.rb_scope.specs.Frames.{Frames, Lying, OfCall, OfProcess, Shape, Sized, lies_among, lies_in, lying, moved, shape_words, shapes_words, words_lying}
use Rattle.rb_code.specs.SoundCode.Sound.{InRange}
use Rattle.rb_code.proofs.InWords.LaidOut.{spot_at}

-- in a frame
lies_in_shape : (x : List ℕ) (shape : Shape) (w : ℕ × ℕ) → lies_in x shape ≡ Some w → w.0 + w.1 ≤ shape_words shape
lies_in_shape x [] w h = absurd (none_some h)
lies_in_shape x (one ∷ others) w h = by (same_name one.name x) (lies_in x others) (lies_in_shape x others) h
  where
    by : (b : Bool) (o : Option (ℕ × ℕ)) → ((v : ℕ × ℕ) → o ≡ Some v → v.0 + v.1 ≤ shape_words others)
        → cond b (Some (0, one.words)) (option_map (moved one.words) o) ≡ Some w → w.0 + w.1 ≤ shape_words (one ∷ others)
    by true o next e =
        let p = ap (λ (v : ℕ × ℕ). v.0) (some_same e) in let q = ap (λ (v : ℕ × ℕ). v.1) (some_same e) in
        let s = sum_by-cons (λ (each : Sized). each.words) one others in omega arith
    by false None next e = absurd (none_some e)
    by false (Some v) next e =
        let p = ap (λ (v : ℕ × ℕ). v.0) (some_same e) in let q = ap (λ (v : ℕ × ℕ). v.1) (some_same e) in
        let l = next v refl in let s = sum_by-cons (λ (each : Sized). each.words) one others in omega arith

-- in frames
lies_in_shapes : (x : List ℕ) (shapes : List Shape) (w : ℕ × ℕ) → lies_among x shapes ≡ Some w → w.0 + w.1 ≤ shapes_words shapes
lies_in_shapes x [] w h = absurd (none_some h)
lies_in_shapes x (shape ∷ around) w h = by (lies_in x shape) (lies_among x around) (lies_in_shape x shape) (lies_in_shapes x around) h
  where
    by : (o p : Option (ℕ × ℕ)) → ((v : ℕ × ℕ) → o ≡ Some v → v.0 + v.1 ≤ shape_words shape)
        → ((v : ℕ × ℕ) → p ≡ Some v → v.0 + v.1 ≤ shapes_words around)
        → or_else (option_map (moved (shapes_words around)) o) p ≡ Some w → w.0 + w.1 ≤ shapes_words (shape ∷ around)
    by None p first next e = let l = next w e in let s = sum_by-cons shape_words shape around in omega arith
    by (Some v) p first next e =
        let q = ap (λ (v : ℕ × ℕ). v.0) (some_same e) in let r = ap (λ (v : ℕ × ℕ). v.1) (some_same e) in
        let l = first v refl in let s = sum_by-cons shape_words shape around in omega arith

pub in_range : (frames : Frames) (globals words : ℕ) (x : List ℕ) (at : Lying) → lying frames x ≡ Some at
    → shape_words frames.globals ≤ globals → shapes_words frames.running ≤ words → InRange globals words (spot_at at) (words_lying at)
in_range frames globals words x at h few less =
    by (lies_among x frames.running) (lies_in x frames.globals) (lies_in_shapes x frames.running) (lies_in_shape x frames.globals) h
  where
    by : (o p : Option (ℕ × ℕ)) → ((v : ℕ × ℕ) → o ≡ Some v → v.0 + v.1 ≤ shapes_words frames.running)
        → ((v : ℕ × ℕ) → p ≡ Some v → v.0 + v.1 ≤ shape_words frames.globals)
        → or_else (option_map (λ (v : ℕ × ℕ). OfCall v.0 v.1) o) (option_map (λ (v : ℕ × ℕ). OfProcess v.0 v.1) p) ≡ Some at
        → InRange globals words (spot_at at) (words_lying at)
    by (Some v) p first next e =
        subst (λ l. InRange globals words (spot_at l) (words_lying l)) (some_same e) (let l = first v refl in omega arith)
    by None (Some v) first next e =
        subst (λ l. InRange globals words (spot_at l) (words_lying l)) (some_same e) (let l = next v refl in omega arith)
    by None None first next e = absurd (none_some e)
