-- Where the variables of the running call and of the process lie among the words of an environment.
use Rattle.std.proofs.Common.{◌≡◌, ℕ, ◌+◌, cond, Bool, true, false, ◌||◌, List, [], ◌∷◌, ◌++◌, length, option_map, Option, Some, None, refl, sym, ap, ◌∙◌, subst}
use Rattle.std.specs.List.{list_any}
use Rattle.rb_world.proofs.ListFacts.{none_some}
use Rattle.rb_meaning.specs.Environment.{Frame, found_among, found_in, has, or_else, same_name, stored_among, stored_in}
use Rattle.rb_scope.specs.Frames.{lies_among, lies_in, moved, shape_of, shapes_words}
use Rattle.rb_code.proofs.InWords.LaidOut.{flat_frame, flat_frames, shapes_of}
use Rattle.rb_code.proofs.InWords.VariablesInWords.{Lies, first_is, frame_lies, frames_long, lies_as, lies_before, lies_behind, second_is}

-- a name that a frame does not have
pub frame_lost : (frame : Frame) (x : List ℕ) → lies_in x (shape_of frame) ≡ None → (found_in x frame ≡ None) × (has x frame ≡ false)
frame_lost [] x h = (refl, refl)
frame_lost (stored ∷ frame) x h = by (frame_lost frame x) (same_name stored.name x) refl h
  where
    rest : (lies_in x (shape_of frame) ≡ None → (found_in x frame ≡ None) × (has x frame ≡ false)) → (w : Option (ℕ × ℕ))
        → same_name stored.name x ≡ false → lies_in x (shape_of frame) ≡ w → option_map (moved (length stored.values)) w ≡ None
        → (found_in x (stored ∷ frame) ≡ None) × (has x (stored ∷ frame) ≡ false)
    rest next None e at g =
        let r = next at in
        (ap (λ b. cond b (Some stored.values) (found_in x frame)) e ∙ r.0, ap (λ b. b || has x frame) e ∙ r.1)
    rest next (Some w) e at g = absurd (none_some (sym g))

    by : (lies_in x (shape_of frame) ≡ None → (found_in x frame ≡ None) × (has x frame ≡ false)) → (b : Bool) → same_name stored.name x ≡ b
        → cond b (Some (0, length stored.values)) (option_map (moved (length stored.values)) (lies_in x (shape_of frame))) ≡ None
        → (found_in x (stored ∷ frame) ≡ None) × (has x (stored ∷ frame) ≡ false)
    by next true e g = absurd (none_some (sym g))
    by next false e g = rest next (lies_in x (shape_of frame)) e refl g

-- one that it has
pub frame_has : (frame : Frame) (x : List ℕ) (w : ℕ × ℕ) → lies_in x (shape_of frame) ≡ Some w → has x frame ≡ true
frame_has [] x w h = absurd (none_some h)
frame_has (stored ∷ frame) x w h = by (λ v. frame_has frame x v) (same_name stored.name x) refl h
  where
    rest : ((v : ℕ × ℕ) → lies_in x (shape_of frame) ≡ Some v → has x frame ≡ true) → (o : Option (ℕ × ℕ)) → lies_in x (shape_of frame) ≡ o
        → option_map (moved (length stored.values)) o ≡ Some w → has x frame ≡ true
    rest next None at g = absurd (none_some g)
    rest next (Some v) at g = next v at

    by : ((v : ℕ × ℕ) → lies_in x (shape_of frame) ≡ Some v → has x frame ≡ true) → (b : Bool) → same_name stored.name x ≡ b
        → cond b (Some (0, length stored.values)) (option_map (moved (length stored.values)) (lies_in x (shape_of frame))) ≡ Some w
        → has x (stored ∷ frame) ≡ true
    by next true e g = ap (λ b. b || has x frame) e
    by next false e g = ap (λ b. b || has x frame) e ∙ rest next (lies_in x (shape_of frame)) refl g

-- in the frames of a call
abbrev pub LiesAmong : List Frame → List ℕ → ℕ → ℕ → Type 0
LiesAmong frames x o n = Lies (found_among x frames) (flat_frames frames) (λ i v. flat_frames (stored_among x i v frames)) o n

pub frames_lie : (frames : List Frame) (x : List ℕ) (o n : ℕ) → lies_among x (shapes_of frames) ≡ Some (o, n) → LiesAmong frames x o n
frames_lie [] x o n h = absurd (none_some h)
frames_lie (frame ∷ around) x o n h = by (frames_lie around x o n) (lies_in x (shape_of frame)) refl h
  where
    by : (lies_among x (shapes_of around) ≡ Some (o, n) → LiesAmong around x o n) → (w : Option (ℕ × ℕ)) → lies_in x (shape_of frame) ≡ w
        → or_else (option_map (moved (shapes_words (shapes_of around))) w) (lies_among x (shapes_of around)) ≡ Some (o, n)
        → LiesAmong (frame ∷ around) x o n
    by next (Some w) e g =
        let in_frame = frame_lies frame x w.0 w.1 e in
        let at : o ≡ length (flat_frames around) + w.0 = sym (first_is g) ∙ ap (λ k. k + w.0) (sym (frames_long around)) in
        subst (λ m. LiesAmong (frame ∷ around) x o m) (second_is g)
        (lies_as (found_in x frame) _ _ (λ i v. flat_frames around ++ flat_frame (stored_in x i v frame)) _ o w.1
        (ap (λ f. or_else f (found_among x around)) in_frame.is ∙ sym in_frame.is)
        (λ i v. ap (λ b. flat_frames (cond b (stored_in x i v frame ∷ around) (frame ∷ stored_among x i v around))) (frame_has frame x w e))
        (lies_behind _ _ (flat_frames around) _ w.0 o w.1 at in_frame))
    by next None e g =
        let lost = frame_lost frame x e in
        lies_as (found_among x around) _ _ (λ i v. flat_frames (stored_among x i v around) ++ flat_frame frame) _ o n
        (ap (λ f. or_else f (found_among x around)) lost.0)
        (λ i v. ap (λ b. flat_frames (cond b (stored_in x i v frame ∷ around) (frame ∷ stored_among x i v around))) lost.1)
        (lies_before _ _ (flat_frame frame) _ o n (next g))

-- whether some frame of the call has the name
pub frames_lost : (frames : List Frame) (x : List ℕ) → lies_among x (shapes_of frames) ≡ None
    → (found_among x frames ≡ None) × (list_any (has x) frames ≡ false)
frames_lost [] x h = (refl, refl)
frames_lost (frame ∷ around) x h = by (frames_lost around x) (lies_in x (shape_of frame)) refl h
  where
    by : (lies_among x (shapes_of around) ≡ None → (found_among x around ≡ None) × (list_any (has x) around ≡ false)) → (w : Option (ℕ × ℕ))
        → lies_in x (shape_of frame) ≡ w → or_else (option_map (moved (shapes_words (shapes_of around))) w) (lies_among x (shapes_of around)) ≡ None
        → (found_among x (frame ∷ around) ≡ None) × (list_any (has x) (frame ∷ around) ≡ false)
    by next (Some w) e g = absurd (none_some (sym g))
    by next None e g =
        let lost = frame_lost frame x e in
        let r = next g in
        (ap (λ f. or_else f (found_among x around)) lost.0 ∙ r.0, ap (λ b. b || list_any (has x) around) lost.1 ∙ r.1)

pub frames_have : (frames : List Frame) (x : List ℕ) (w : ℕ × ℕ) → lies_among x (shapes_of frames) ≡ Some w → list_any (has x) frames ≡ true
frames_have [] x w h = absurd (none_some h)
frames_have (frame ∷ around) x w h = by (frames_have around x w) (lies_in x (shape_of frame)) refl h
  where
    by : (lies_among x (shapes_of around) ≡ Some w → list_any (has x) around ≡ true) → (o : Option (ℕ × ℕ)) → lies_in x (shape_of frame) ≡ o
        → or_else (option_map (moved (shapes_words (shapes_of around))) o) (lies_among x (shapes_of around)) ≡ Some w
        → list_any (has x) (frame ∷ around) ≡ true
    by next (Some v) e g = ap (λ b. b || list_any (has x) around) (frame_has frame x v e)
    by next None e g = either (has x frame) (next g)
      where
        either : (b : Bool) → list_any (has x) around ≡ true → (b || list_any (has x) around) ≡ true
        either true h = refl
        either false h = h
