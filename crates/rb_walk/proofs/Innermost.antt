-- Frames in memory: each list has its innermost frame last, and definitions have it first.
use Rattle.std.proofs.Common.{◌≡◌, ◌+◌, ◌-◌, ◌<◌, ◌≤◌, ℕ, ℤ, suc, true, false, cond, ◌||◌, List, [], ◌∷◌, ◌++◌, map, reverse, length, get_or, set, take, drop, sym, ap, ◌∙◌, subst, arith, add-one, Vec, Global}
use Rattle.std.specs.List.{list_any}
use Rattle.std.proofs.lemmas.List.{append_assoc, reverse-append, take_all, drop_all, take_more, drop_more, set_split, map-set, set-get_or, get_or-map, length-map, with_items_is}
use Rattle.std.specs.Vec.{with_items}
use Rattle.rb_meaning.specs.Environment.{Frame, has, stored_in, stored_among}
use Rattle.rb_walk.specs.declared.frames.Slot.{Slot}
use Rattle.rb_walk.specs.Slots.{frame}
use Rattle.rb_walk.proofs.Places.{stored_in-absent}

-- a list whose first element comes last
pub reverse-cons : {A : Type 0} (x : A) (xs : List A) → reverse (x ∷ xs) ≡ reverse xs ++ x ∷ []
reverse-cons x xs = reverse-append (x ∷ []) xs

-- a list whose last element comes first
pub reverse-push : {A : Type 0} (xs : List A) (x : A) → reverse (xs ++ x ∷ []) ≡ x ∷ reverse xs
reverse-push xs x = reverse-append xs (x ∷ [])

-- the first elements, and one more
pub reverse-more : {A : Type 0} (xs : List A) (k : ℕ) (d : A) → k < length xs → reverse (take (k + 1) xs) ≡ get_or xs k d ∷ reverse (take k xs)
reverse-more xs k d h = ap reverse (take_more xs k d h) ∙ reverse-push (take k xs) (get_or xs k d)

-- one element less in front
reverse-drop : {A : Type 0} (xs : List A) (k : ℕ) (d : A) → k < length xs → reverse (drop k xs) ≡ reverse (drop (k + 1) xs) ++ get_or xs k d ∷ []
reverse-drop xs k d h = ap reverse (drop_more xs k d h) ∙ reverse-cons (get_or xs k d) (drop (k + 1) xs)

-- a list that is changed at one number
pub reverse-set : {A : Type 0} (xs : List A) (k : ℕ) (x : A) → k < length xs
    → reverse (set xs k x) ≡ reverse (drop (k + 1) xs) ++ x ∷ reverse (take k xs)
reverse-set xs k x h =
    ap reverse (set_split xs k x h)
    ∙ reverse-append (take k xs) (x ∷ drop (suc k) xs)
    ∙ ap (λ ys. ys ++ reverse (take k xs)) (reverse-cons x (drop (suc k) xs))
    ∙ append_assoc (reverse (drop (suc k) xs)) (x ∷ []) (reverse (take k xs))
    ∙ ap (λ n. reverse (drop n xs) ++ x ∷ reverse (take k xs)) (sym (add-one k))

-- No frame from this number on has the variable: it is looked for in those before.
pub record IsFurtherOut (x : List ℕ) (fs : List Frame) (left : ℕ) : Type 0 where
  pub within : left ≤ length fs
  pub any : list_any (has x) (reverse fs) ≡ list_any (has x) (reverse (take left fs))
  pub among : (i : ℕ) (v : ℤ) → stored_among x i v (reverse fs) ≡ reverse (drop left fs) ++ stored_among x i v (reverse (take left fs))

-- at first it is looked for in all frames
pub all_left : (x : List ℕ) (fs : List Frame) → IsFurtherOut x fs (length fs)
all_left x fs =
    let whole : take (length fs) fs ≡ fs = take_all (length fs) fs (omega arith) in
    let none : drop (length fs) fs ≡ [] = drop_all (length fs) fs (omega arith) in record {
      within = omega arith;
      any = ap (λ (gs : List Frame). list_any (has x) (reverse gs)) (sym whole);
      among = λ i v.
          ap (λ (gs : List Frame). stored_among x i v (reverse gs)) (sym whole)
          ∙ ap (λ (gs : List Frame). reverse gs ++ stored_among x i v (reverse (take (length fs) fs))) (sym none);
    }

-- one frame more that has it not
pub one_further : (x : List ℕ) (fs : List Frame) (k : ℕ) (d : Frame) → IsFurtherOut x fs (k + 1) → has x (get_or fs k d) ≡ false → IsFurtherOut x fs k
one_further x fs k d out none =
    let here : k < length fs = omega (arith, out.within) in
    let more : reverse (take (k + 1) fs) ≡ get_or fs k d ∷ reverse (take k fs) = reverse-more fs k d here in record {
      within = omega arith;
      any = out.any ∙ ap (list_any (has x)) more ∙ ap (λ b. b || list_any (has x) (reverse (take k fs))) none;
      among = λ i v.
          let others : List Frame = stored_among x i v (reverse (take k fs)) in
          out.among i v
          ∙ ap (λ (gs : List Frame). reverse (drop (k + 1) fs) ++ stored_among x i v gs) more
          ∙ ap (λ b. reverse (drop (k + 1) fs) ++ cond b (stored_in x i v (get_or fs k d) ∷ reverse (take k fs)) (get_or fs k d ∷ others)) none
          ∙ sym (append_assoc (reverse (drop (k + 1) fs)) (get_or fs k d ∷ []) others)
          ∙ ap (λ (gs : List Frame). gs ++ others) (sym (reverse-drop fs k d here));
    }

-- the innermost frame that has it is there
pub innermost_found : (x : List ℕ) (fs : List Frame) (k : ℕ) (d : Frame) → IsFurtherOut x fs (k + 1)
    → has x (get_or fs k d) ≡ true → list_any (has x) (reverse fs) ≡ true
innermost_found x fs k d out one =
    out.any ∙ ap (list_any (has x)) (reverse-more fs k d (omega (arith, out.within))) ∙ ap (λ b. b || list_any (has x) (reverse (take k fs))) one

-- and is changed
pub innermost_stored : (x : List ℕ) (i : ℕ) (v : ℤ) (fs : List Frame) (k : ℕ) (d : Frame) → IsFurtherOut x fs (k + 1) → has x (get_or fs k d) ≡ true
    → reverse (set fs k (stored_in x i v (get_or fs k d))) ≡ stored_among x i v (reverse fs)
innermost_stored x i v fs k d out one =
    let here : k < length fs = omega (arith, out.within) in
    reverse-set fs k (stored_in x i v (get_or fs k d)) here
    ∙ sym (out.among i v
    ∙ ap (λ (gs : List Frame). reverse (drop (k + 1) fs) ++ stored_among x i v gs) (reverse-more fs k d here)
    ∙ ap (λ b. reverse (drop (k + 1) fs)
    ++ cond b (stored_in x i v (get_or fs k d) ∷ reverse (take k fs)) (get_or fs k d ∷ stored_among x i v (reverse (take k fs)))) one)

-- a frame in memory
abbrev pub frame_in : Vec Slot Global → Frame
frame_in slots = frame slots.items

-- what is known before the next frame in memory
next_out : (x : List ℕ) (xs ys : List (Vec Slot Global)) (left : ℕ) → map frame_in xs ≡ map frame_in ys
    → IsFurtherOut x (map frame_in ys) left → 0 < left
    → IsFurtherOut x (map frame_in xs) (left - 1 + 1)
next_out x xs ys left same out some =
    let e : left ≡ left - 1 + 1 = omega arith in
    subst (λ (fs : List Frame). IsFurtherOut x fs (left - 1 + 1)) (sym same) (subst (IsFurtherOut x (map frame_in ys)) e out)

-- the next frame in memory
next_frame : (x : List ℕ) (xs ys : List (Vec Slot Global)) (left : ℕ) (d : Vec Slot Global)
    → map frame_in xs ≡ map frame_in ys → IsFurtherOut x (map frame_in ys) left → 0 < left
    → get_or (map frame_in xs) (left - 1) (frame_in d) ≡ frame_in (get_or xs (left - 1) d)
next_frame x xs ys left d same out some =
    get_or-map frame_in xs (left - 1) d (frame_in d)
    (omega (arith, out.within, length-map xs frame_in, length-map ys frame_in, ap length same))

module _ (x : List ℕ) (xs ys : List (Vec Slot Global)) (left : ℕ) (d : Vec Slot Global) (same : map frame_in xs ≡ map frame_in ys)
    (out : IsFurtherOut x (map frame_in ys) left) (some : 0 < left) where
  -- it has not the variable
  pub next_further : has x (frame_in (get_or xs (left - 1) d)) ≡ false → IsFurtherOut x (map frame_in ys) (left - 1)
  next_further none =
      subst (λ (fs : List Frame). IsFurtherOut x fs (left - 1)) same
      (one_further x (map frame_in xs) (left - 1) (frame_in d) (next_out x xs ys left same out some)
      (ap (has x) (next_frame x xs ys left d same out some) ∙ none))

  -- and so it stays, though it was written to
  pub next_same : (i : ℕ) (v : ℤ) (new : Vec Slot Global) → has x (frame_in (get_or xs (left - 1) d)) ≡ false
      → frame_in new ≡ stored_in x i v (frame_in (get_or xs (left - 1) d)) → map frame_in (set xs (left - 1) new) ≡ map frame_in ys
  next_same i v new none e =
      map-set frame_in xs (left - 1) new
      ∙ ap (set (map frame_in xs) (left - 1))
      (e ∙ stored_in-absent x i v (frame_in (get_or xs (left - 1) d)) none ∙ sym (next_frame x xs ys left d same out some))
      ∙ set-get_or (map frame_in xs) (left - 1) (frame_in d)
      ∙ same

  -- it has the variable, so a frame has it
  pub next_found : has x (frame_in (get_or xs (left - 1) d)) ≡ true → list_any (has x) (reverse (map frame_in ys)) ≡ true
  next_found one =
      ap (λ (fs : List Frame). list_any (has x) (reverse fs)) (sym same)
      ∙ innermost_found x (map frame_in xs) (left - 1) (frame_in d) (next_out x xs ys left same out some)
      (ap (has x) (next_frame x xs ys left d same out some) ∙ one)

  -- and this one is changed
  pub next_stored : (i : ℕ) (v : ℤ) (new : Vec Slot Global) → has x (frame_in (get_or xs (left - 1) d)) ≡ true
      → frame_in new ≡ stored_in x i v (frame_in (get_or xs (left - 1) d))
      → reverse (map frame_in (set xs (left - 1) new)) ≡ stored_among x i v (reverse (map frame_in ys))
  next_stored i v new one e =
      let f : get_or (map frame_in xs) (left - 1) (frame_in d) ≡ frame_in (get_or xs (left - 1) d) = next_frame x xs ys left d same out some in
      ap reverse
      (map-set frame_in xs (left - 1) new ∙ ap (set (map frame_in xs) (left - 1)) (e ∙ ap (stored_in x i v) (sym f)))
      ∙ innermost_stored x i v (map frame_in xs) (left - 1) (frame_in d) (next_out x xs ys left same out some) (ap (has x) f ∙ one)
      ∙ ap (λ (fs : List Frame). stored_among x i v (reverse fs)) same

-- a frame behind a reference, with what was written there
pub written : (old : Vec Slot Global) (lent new : List Slot) → lent ≡ old.items → length new ≡ length lent → frame_in (with_items old new) ≡ frame new
written old lent new e h = ap frame (with_items_is old new (omega (arith, old.ok.0, ap length e)))
