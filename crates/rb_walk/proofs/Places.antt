-- What the place of a variable says of its frame.
use Rattle.std.proofs.Common.{◌≡◌, ◌+◌, ◌<◌, ◌≤◌, ℕ, ℤ, suc, Bool, true, false, not, ◌||◌, cond, List, [], ◌∷◌, length, drop, get_or, slice_set, nat_lt, Some, None, refl, sym, ap, ◌∙◌, subst, true≢false, arith}
use Rattle.std.specs.List.{position, position_from, position_or_len}
use Rattle.std.proofs.lemmas.Bool.Decides.{nat_tests}
use Rattle.std.proofs.lemmas.List.{drop_more}
use Rattle.rb_meaning.specs.Environment.{Stored, Frame, same_name, has, stored_in}
use Rattle.rb_walk.specs.declared.frames.Slot.{Slot}
use Rattle.rb_walk.specs.Slots.{stored, frame, changed}

-- whether a variable in memory has this name
abbrev pub is_named : List ℕ → Slot → Bool
is_named x slot = same_name slot.name.now x

module _ (x : List ℕ) (slots : List Slot) (k : ℕ) (slot : Slot) (within : k < length slots) (is : slot ≡ get_or slots k slot) where
  -- the first variable of those that are left, and those behind it
  next_place : (here : Bool) → is_named x slot ≡ here
      → position_from (is_named x) k (drop k slots) ≡ cond here (Some k) (position_from (is_named x) (k + 1) (drop (k + 1) slots))
  next_place here e =
      ap (position_from (is_named x) k) (drop_more slots k slot within ∙ ap (λ one. one ∷ drop (k + 1) slots) (sym is))
      ∙ ap (λ b. cond b (Some k) (position_from (is_named x) (k + 1) (drop (k + 1) slots))) e

  -- it has the name
  pub place_here : is_named x slot ≡ true → position_from (is_named x) k (drop k slots) ≡ Some k
  place_here e = next_place true e

  -- it has another
  pub place_later : is_named x slot ≡ false → position_from (is_named x) k (drop k slots) ≡ position_from (is_named x) (k + 1) (drop (k + 1) slots)
  place_later e = next_place false e

-- one step of the next lemma: the first variable has the name, or a later one
set-step : (i : ℕ) (v : ℤ) (slot : Slot) (slots : List Slot) (k m : ℕ) (d new : Slot) (rest : Frame) (b : Bool)
    → k ≡ cond (not b) (1 + m) 0 → stored new ≡ changed (stored (get_or (slot ∷ slots) k d)) i v
    → (stored new ≡ changed (stored (get_or slots m d)) i v → frame (slice_set slots m new) ≡ rest)
    → frame (slice_set (slot ∷ slots) k new) ≡ cond b (changed (stored slot) i v ∷ frame slots) (stored slot ∷ rest)
set-step i v slot slots k m d new rest true e h f =
    let P : ℕ → Type 0 =
    λ n. stored new ≡ changed (stored (get_or (slot ∷ slots) n d)) i v
    → frame (slice_set (slot ∷ slots) n new) ≡ (changed (stored slot) i v ∷ frame slots) in
    subst P (sym e) (λ g. ap (λ s. s ∷ frame slots) g) h
set-step i v slot slots k m d new rest false e h f =
    let P : ℕ → Type 0 =
    λ n. stored new ≡ changed (stored (get_or (slot ∷ slots) n d)) i v → frame (slice_set (slot ∷ slots) n new) ≡ (stored slot ∷ rest) in
    let s : suc m ≡ k = omega arith in
    subst P s (λ g. ap (λ r. stored slot ∷ r) (f g)) h

-- the same, by the number of variables before it
set-first : (x : List ℕ) (i : ℕ) (v : ℤ) (slots : List Slot) (k : ℕ) (d new : Slot) → k ≡ position_or_len (is_named x) slots
    → stored new ≡ changed (stored (get_or slots k d)) i v → frame (slice_set slots k new) ≡ stored_in x i v (frame slots)
set-first x i v [] k d new e h = refl
set-first x i v (slot ∷ slots) k d new e h =
    set-step i v slot slots k (position_or_len (is_named x) slots) d new (stored_in x i v (frame slots)) (is_named x slot) e h
    (set-first x i v slots (position_or_len (is_named x) slots) d new refl)

-- the number that a choice gave
picked : (b : Bool) (n k : ℕ) → cond b (Some n) None ≡ Some k → k ≡ n
picked true n k e = cc
picked false n k e = cc

-- a write to the first variable that has the name
pub frame-set : (x : List ℕ) (i : ℕ) (v : ℤ) (slots : List Slot) (k : ℕ) (d new : Slot)
    → position (is_named x) slots ≡ Some k → stored new ≡ changed (stored (get_or slots k d)) i v
    → frame (slice_set slots k new) ≡ stored_in x i v (frame slots)
frame-set x i v slots k d new e h =
    set-first x i v slots k d new (picked _ (position_or_len (is_named x) slots) k e) h

-- a choice that gave a number was before the end
before : (n m k : ℕ) → cond (nat_lt n m) (Some n) None ≡ Some k → n < m
before n m k e = grind (arith, nat_tests)

-- a choice that gave nothing was at the end
passed : (n m : ℕ) → cond (nat_lt n m) (Some n) None ≡ None → m ≤ n
passed n m e = grind (arith, nat_tests)

-- one step of the next lemma: the first variable has the name, or a later one
there-step : (b c : Bool) (n m : ℕ) → cond (not b) (1 + m) 0 < 1 + n → (m < n → c ≡ true) → (b || c) ≡ true
there-step true c n m h f = refl
there-step false c n m h f = f (omega arith)

-- the same, by the number of variables before it
there-first : (x : List ℕ) (slots : List Slot) → position_or_len (is_named x) slots < length slots → has x (frame slots) ≡ true
there-first x [] h = absurd (omega arith)
there-first x (slot ∷ slots) h =
    there-step (is_named x slot) (has x (frame slots)) (length slots) (position_or_len (is_named x) slots) (omega arith) (there-first x slots)

-- where a variable in memory has the name, the frame has it
pub frame-there : (x : List ℕ) (slots : List Slot) (k : ℕ) → position (is_named x) slots ≡ Some k → has x (frame slots) ≡ true
frame-there x slots k e = there-first x slots (before _ _ k e)

-- one step of the next lemma: no variable has the name, so the first has not
absent-step : (b c : Bool) (n m : ℕ) → 1 + n ≤ cond (not b) (1 + m) 0 → (n ≤ m → c ≡ false) → (b || c) ≡ false
absent-step true c n m h f = absurd (omega arith)
absent-step false c n m h f = f (omega arith)

-- the same, by the number of variables that do not have it
absent-first : (x : List ℕ) (slots : List Slot) → length slots ≤ position_or_len (is_named x) slots → has x (frame slots) ≡ false
absent-first x [] h = refl
absent-first x (slot ∷ slots) h =
    absent-step (is_named x slot) (has x (frame slots)) (length slots) (position_or_len (is_named x) slots) (omega arith) (absent-first x slots)

-- where no variable in memory has the name, the frame has it not
pub frame-absent : (x : List ℕ) (slots : List Slot) → position (is_named x) slots ≡ None → has x (frame slots) ≡ false
frame-absent x slots e = absent-first x slots (passed _ _ e)

-- one step of the next lemma
kept-step : (b c : Bool) (s t : Stored) (f g : Frame) → (b || c) ≡ false → (c ≡ false → g ≡ f) → cond b (t ∷ f) (s ∷ g) ≡ s ∷ f
kept-step true c s t f g e h = absurd (true≢false e)
kept-step false c s t f g e h = ap (λ (r : Frame). s ∷ r) (h e)

-- a frame that has no variable of this name stays as it is
pub stored_in-absent : (x : List ℕ) (i : ℕ) (v : ℤ) (f : Frame) → has x f ≡ false → stored_in x i v f ≡ f
stored_in-absent x i v [] e = refl
stored_in-absent x i v (s ∷ f) e =
    kept-step (same_name s.name x) (has x f) s (changed s i v) f (stored_in x i v f) e (stored_in-absent x i v f)
