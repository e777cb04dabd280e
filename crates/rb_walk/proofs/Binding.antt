-- One parameter more of a call is bound to its value.
use Rattle.std.proofs.Common.{◌≡◌, ◌+◌, ◌<◌, ℕ, ℤ, pos, List, [], ◌∷◌, ◌++◌, map, length, get_or, drop, refl, sym, ap, ◌∙◌, add-zero}
use Rattle.std.proofs.lemmas.List.{append_assoc, drop_more, drop-drop, get_or-drop, map_push}
use Rattle.std.proofs.lemmas.Option.{unwrap_or-slice_get}
use Rattle.rb_syntax.specs.Tree.{Identifier}
use Rattle.rb_syntax.specs.declared.expression.Name.{Name}
use Rattle.rb_syntax.specs.Plain.{identifier}
use Rattle.rb_meaning.specs.Environment.{Stored, Frame}
use Rattle.rb_meaning.specs.Step.{bound_to}
use Rattle.rb_meaning.specs.Value.{number_at}
use Rattle.rb_walk.specs.declared.frames.Slot.{Slot}
use Rattle.rb_walk.specs.Slots.{stored, frame}

-- a parameter with its value
abbrev bound_one : Identifier → ℤ → Stored
bound_one x v = record { name = x.text; values = v ∷ [] }

-- the first parameter has the first value, or 0
bound-head : (x : Identifier) (xs : List Identifier) (vs : List ℤ) → bound_to (x ∷ xs) vs ≡ bound_one x (number_at vs 0) ∷ bound_to xs (drop 1 vs)
bound-head x xs [] = refl
bound-head x xs (v ∷ vs) = refl

-- the first of the values that are left
first_left : (vs : List ℤ) (k : ℕ) → number_at (drop k vs) 0 ≡ number_at vs k
first_left vs k =
    unwrap_or-slice_get (drop k vs) 0 (pos 0)
    ∙ get_or-drop k vs 0 (pos 0)
    ∙ ap (λ n. get_or vs n (pos 0)) (add-zero k)
    ∙ sym (unwrap_or-slice_get vs k (pos 0))

-- the next of the parameters that are left
bound_next : (ps : List Name) (vs : List ℤ) (k : ℕ) (d : Name) → k < length ps
    → bound_to (map identifier (drop k ps)) (drop k vs)
    ≡ bound_one (identifier (get_or ps k d)) (number_at vs k) ∷ bound_to (map identifier (drop (k + 1) ps)) (drop (k + 1) vs)
bound_next ps vs k d h =
    let p : Identifier = identifier (get_or ps k d) in
    let rest : List Identifier = map identifier (drop (k + 1) ps) in
    ap (λ xs. bound_to (map identifier xs) (drop k vs)) (drop_more ps k d h)
    ∙ bound-head p rest (drop k vs)
    ∙ ap (λ v. bound_one p v ∷ bound_to rest (drop 1 (drop k vs))) (first_left vs k)
    ∙ ap (λ ws. bound_one p (number_at vs k) ∷ bound_to rest ws) (drop-drop 1 k vs)

-- a frame with one parameter more, and those that are left
pub bound_more : (ps : List Name) (vs : List ℤ) (slots new : List Slot) (slot : Slot) (k : ℕ) (d : Name) (v : ℤ) → k < length ps
    → stored slot ≡ record { name = (identifier (get_or ps k d)).text; values = v ∷ [] } → v ≡ number_at vs k → new ≡ slots ++ slot ∷ []
    → frame new ++ bound_to (map identifier (drop (k + 1) ps)) (drop (k + 1) vs) ≡ frame slots ++ bound_to (map identifier (drop k ps)) (drop k vs)
bound_more ps vs slots new slot k d v h is value pushed =
    let rest : Frame = bound_to (map identifier (drop (k + 1) ps)) (drop (k + 1) vs) in
    let p : Identifier = identifier (get_or ps k d) in
    ap (λ xs. frame xs ++ rest) pushed
    ∙ ap (λ (f : Frame). f ++ rest) (map_push stored slots slot)
    ∙ append_assoc (frame slots) (stored slot ∷ []) rest
    ∙ ap (λ s. frame slots ++ s ∷ rest) (is ∙ ap (bound_one p) value)
    ∙ ap (λ (f : Frame). frame slots ++ f) (sym (bound_next ps vs k d h))
