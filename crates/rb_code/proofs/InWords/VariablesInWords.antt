-- Where the variables of an environment lie among its words: what is read there and what a write does.
use Rattle.std.proofs.Common.{◌≡◌, ◌<◌, ◌≤◌, ℕ, suc, ◌+◌, ◌-◌, ℤ, cond, Bool, true, false, List, [], ◌∷◌, ◌++◌, length, option_map, slice_get, slice_set, Option, Some, None, refl, sym, ap, ◌∙◌, subst, arith, length-append}
use Rattle.std.proofs.lemmas.List.{set-append_left, set-append_right}
use Rattle.std.proofs.lemmas.List.Sums.{sum_by-cons}
use Rattle.rb_world.proofs.ListFacts.{none_some, slice_get-front, some_same}
use Rattle.rb_meaning.specs.Environment.{Frame, Stored, found_in, same_name, stored_in}
use Rattle.rb_scope.specs.Frames.{Sized, lies_in, moved, shape_of, shape_words, shapes_words}
use Rattle.rb_code.proofs.InWords.LaidOut.{flat_calls, flat_frame, flat_frames, shapes_of, stacks_of, stacks_words}

-- the words of a frame are as many as its shape says, and those of frames and calls too
pub frame_long : (frame : Frame) → length (flat_frame frame) ≡ shape_words (shape_of frame)
frame_long [] = refl
frame_long (stored ∷ frame) =
    omega (
      arith,
      length-append stored.values (flat_frame frame),
      frame_long frame,
      sum_by-cons (λ (one : Sized). one.words) (record { name = stored.name; words = length stored.values }) (shape_of frame),
    )

pub frames_long : (frames : List Frame) → length (flat_frames frames) ≡ shapes_words (shapes_of frames)
frames_long [] = refl
frames_long (frame ∷ around) =
    omega (
      arith,
      length-append (flat_frames around) (flat_frame frame),
      frames_long around,
      frame_long frame,
      sum_by-cons shape_words (shape_of frame) (shapes_of around),
    )

pub calls_long : (calls : List (List Frame)) → length (flat_calls calls) ≡ stacks_words (stacks_of calls)
calls_long [] = refl
calls_long (frames ∷ outer) = omega (arith, length-append (flat_calls outer) (flat_frames frames), calls_long outer, frames_long frames)

-- n values of a variable that lie from o on among words, and what a write to one of them makes of the words
pub record Lies (values : Option (List ℤ)) (words : List ℤ) (wrote : ℕ → ℤ → List ℤ) (o n : ℕ) : Type 0 where
  pub all : List ℤ
  pub is : values ≡ Some all
  pub long : length all ≡ n
  pub room : o + n ≤ length words
  pub reads : (i : ℕ) → i < n → slice_get words (o + i) ≡ slice_get all i
  pub writes : (i : ℕ) (x : ℤ) → i < n → wrote i x ≡ slice_set words (o + i) x

-- behind other words
pub get_behind : {A : Type 0} (xs ys : List A) (i : ℕ) → slice_get (xs ++ ys) (length xs + i) ≡ slice_get ys i
get_behind [] ys i = ap (slice_get ys) (omega arith)
get_behind (x ∷ xs) ys i =
    let e : length (x ∷ xs) + i ≡ suc (length xs + i) = omega arith in ap (slice_get (x ∷ (xs ++ ys))) e ∙ get_behind xs ys i

pub lies_before : (values : Option (List ℤ)) (words more : List ℤ) (wrote : ℕ → ℤ → List ℤ) (o n : ℕ) → Lies values words wrote o n
    → Lies values (words ++ more) (λ i x. wrote i x ++ more) o n
lies_before values words more wrote o n h =
    let room = h.room in
    record {
      all = h.all;
      is = h.is;
      long = h.long;
      room = omega (arith, room, length-append words more);
      reads = λ i l. slice_get-front words more (o + i) (omega (arith, room)) ∙ h.reads i l;
      writes = λ i x l. ap (λ ws. ws ++ more) (h.writes i x l) ∙ sym (set-append_left words more (o + i) x (omega (arith, room)));
    }

pub lies_behind : (values : Option (List ℤ)) (words less : List ℤ) (wrote : ℕ → ℤ → List ℤ) (o p n : ℕ) → p ≡ length less + o
    → Lies values words wrote o n → Lies values (less ++ words) (λ i x. less ++ wrote i x) p n
lies_behind values words less wrote o p n e h =
    let room = h.room in
    record {
      all = h.all;
      is = h.is;
      long = h.long;
      room = omega (arith, room, length-append less words);
      reads = λ i l. let q : p + i ≡ length less + (o + i) =
          omega arith in ap (slice_get (less ++ words)) q ∙ get_behind less words (o + i) ∙ h.reads i l;
      writes = λ i x l.
          let q : p + i - length less ≡ o + i = omega arith in
          ap (λ ws. less ++ ws) (h.writes i x l ∙ ap (λ k. slice_set words k x) (sym q))
          ∙ sym (set-append_right less words (length less) (p + i) x refl (omega arith));
    }

-- under another name of what is found and written
pub lies_as : (values others : Option (List ℤ)) (words : List ℤ) (wrote writes : ℕ → ℤ → List ℤ) (o n : ℕ) → others ≡ values
    → ((i : ℕ) (x : ℤ) → writes i x ≡ wrote i x) → Lies values words wrote o n → Lies others words writes o n
lies_as values others words wrote writes o n e d h = record {
  all = h.all;
  is = e ∙ h.is;
  long = h.long;
  room = h.room;
  reads = h.reads;
  writes = λ i x l. d i x ∙ h.writes i x l;
}

-- in a frame
abbrev pub LiesIn : Frame → List ℕ → ℕ → ℕ → Type 0
LiesIn frame x o n = Lies (found_in x frame) (flat_frame frame) (λ i v. flat_frame (stored_in x i v frame)) o n

lies_first : (stored : Stored) (frame : Frame) (x : List ℕ) → same_name stored.name x ≡ true → LiesIn (stored ∷ frame) x 0 (length stored.values)
lies_first stored frame x e =
    lies_as (Some stored.values) _ _ (λ i v. slice_set stored.values i v ++ flat_frame frame) _ 0 (length stored.values)
    (ap (λ b. cond b (Some stored.values) (found_in x frame)) e)
    (λ i v. ap (λ b. flat_frame
    (cond b (record { name = stored.name; values = slice_set stored.values i v } ∷ frame) (stored ∷ stored_in x i v frame))) e)
    (lies_before (Some stored.values) stored.values (flat_frame frame) (λ i v. slice_set stored.values i v) 0 (length stored.values)
    (record {
      all = stored.values;
      is = refl;
      long = refl;
      room = omega arith;
      reads = λ i l. ap (slice_get stored.values) (from_none i);
      writes = λ i v l. ap (λ k. slice_set stored.values k v) (sym (from_none i));
    }))
  where
    from_none : (i : ℕ) → 0 + i ≡ i
    from_none i = omega arith

lies_later : (stored : Stored) (frame : Frame) (x : List ℕ) (o p n : ℕ) → p ≡ length stored.values + o → same_name stored.name x ≡ false
    → LiesIn frame x o n → LiesIn (stored ∷ frame) x p n
lies_later stored frame x o p n q e h =
    lies_as (found_in x frame) _ _ (λ i v. stored.values ++ flat_frame (stored_in x i v frame)) _ p n
    (ap (λ b. cond b (Some stored.values) (found_in x frame)) e)
    (λ i v. ap (λ b. flat_frame
    (cond b (record { name = stored.name; values = slice_set stored.values i v } ∷ frame) (stored ∷ stored_in x i v frame))) e)
    (lies_behind _ _ stored.values _ o p n q h)

-- what a place says of a pair of words
pub first_is : {o n p m : ℕ} → ◌≡◌ {A = Option (ℕ × ℕ)} (Some (o, n)) (Some (p, m)) → o ≡ p
first_is e = ap (λ (w : ℕ × ℕ). w.0) (some_same e)

pub second_is : {o n p m : ℕ} → ◌≡◌ {A = Option (ℕ × ℕ)} (Some (o, n)) (Some (p, m)) → n ≡ m
second_is e = ap (λ (w : ℕ × ℕ). w.1) (some_same e)

pub frame_lies : (frame : Frame) (x : List ℕ) (o n : ℕ) → lies_in x (shape_of frame) ≡ Some (o, n) → LiesIn frame x o n
frame_lies [] x o n h = absurd (none_some h)
frame_lies (stored ∷ frame) x o n h = by (λ p m e. frame_lies frame x p m e) (same_name stored.name x) refl h
  where
    rest : ((p m : ℕ) → lies_in x (shape_of frame) ≡ Some (p, m) → LiesIn frame x p m) → (w : Option (ℕ × ℕ)) → same_name stored.name x ≡ false
        → lies_in x (shape_of frame) ≡ w → option_map (moved (length stored.values)) w ≡ Some (o, n) → LiesIn (stored ∷ frame) x o n
    rest next None e at g = absurd (none_some g)
    rest next (Some w) e at g =
        subst (λ m. LiesIn (stored ∷ frame) x o m) (second_is g) (lies_later stored frame x w.0 o w.1 (sym (first_is g)) e (next w.0 w.1 at))

    by : ((p m : ℕ) → lies_in x (shape_of frame) ≡ Some (p, m) → LiesIn frame x p m) → (b : Bool) → same_name stored.name x ≡ b
        → cond b (Some (0, length stored.values)) (option_map (moved (length stored.values)) (lies_in x (shape_of frame))) ≡ Some (o, n)
        → LiesIn (stored ∷ frame) x o n
    by next true e g =
        subst (λ p. LiesIn (stored ∷ frame) x p n) (first_is g)
        (subst (λ m. LiesIn (stored ∷ frame) x 0 m) (second_is g) (lies_first stored frame x e))
    by next false e g = rest next (lies_in x (shape_of frame)) e refl g
