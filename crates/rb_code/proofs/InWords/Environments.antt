-- An environment that lies in words: its variables are found by their places, and a write to a place is a write to the variable.
use Rattle.std.proofs.Common.{◌≡◌, ◌<◌, ℕ, ◌+◌, ℤ, pos, cond, Bool, true, false, List, [], ◌∷◌, ◌++◌, length, option_map, slice_get, slice_set, unwrap_or, Option, Some, None, refl, sym, ap, ◌∙◌, subst, arith, length-append}
use Rattle.std.specs.Prelude.{sum_by}
use Rattle.std.specs.List.{list_any}
use Rattle.std.proofs.lemmas.List.{length-set}
use Rattle.std.proofs.lemmas.List.Sums.{sum_by-cons}
use Rattle.rb_world.proofs.ListFacts.{none_some, slice_get-there, some_same}
use Rattle.rb_meaning.specs.Environment.{Environment, Frame, Stored, found, found_among, found_in, frame_words, frames_words, has, in_running, or_else, running_frames, same_name, store, stored_among, stored_in, words}
use Rattle.rb_scope.specs.Frames.{Frames, Lying, OfCall, OfProcess, Shape, Sized, lies_among, lies_in, lying, shape_of, shape_words, words_lying}
use Rattle.rb_code.specs.Instructions.Plain.{Part}
use Rattle.rb_code.specs.WordMachine.Workspace.{OpenCall, base_of, body_place, variables_place}
use Rattle.rb_code.proofs.InWords.LaidOut.{Based, Laid, flat, flat_calls, flat_frame, flat_frames, place_lying, running, shapes_of, stacks_of, stacks_words}
use Rattle.rb_code.proofs.InWords.VariablesInWords.{Lies, calls_long, frame_lies, frame_long, lies_as, lies_before, lies_behind}
use Rattle.rb_code.proofs.InWords.VariablesInCalls.{frames_have, frames_lie, frames_lost}
use Rattle.rb_code.proofs.InWords.NamesRead.{Finds}

-- how many words an environment has
pub words_of_frame : (frame : Frame) → length (flat_frame frame) ≡ frame_words frame
words_of_frame [] = refl
words_of_frame (stored ∷ frame) =
    omega (
      arith,
      length-append stored.values (flat_frame frame),
      words_of_frame frame,
      sum_by-cons (λ (one : Stored). length one.values) stored frame,
    )

words_of_frames : (frames : List Frame) → length (flat_frames frames) ≡ frames_words frames
words_of_frames [] = refl
words_of_frames (frame ∷ around) =
    omega (
      arith,
      length-append (flat_frames around) (flat_frame frame),
      words_of_frames around,
      words_of_frame frame,
      sum_by-cons frame_words frame around,
    )

words_of_calls : (calls : List (List Frame)) → length (flat_calls calls) ≡ sum_by frames_words calls
words_of_calls [] = refl
words_of_calls (frames ∷ outer) =
    omega (
      arith,
      length-append (flat_calls outer) (flat_frames frames),
      words_of_calls outer,
      words_of_frames frames,
      sum_by-cons frames_words frames outer,
    )

pub words_of : (env : Environment) → length (flat env) ≡ words env
words_of env = omega (arith, length-append (flat_frame env.globals) (flat_calls env.calls), words_of_calls env.calls, words_of_frame env.globals)

pub laid_long : (part : Part) (front : List ℤ) (env : Environment) (all : List ℤ) (calls : List OpenCall) → Laid part front env all calls
    → length all ≡ variables_place part + words env
laid_long part front env all calls l =
    let long = l.long in
    omega (arith, ap length l.is, length-append front (flat env), words_of env, long)

-- a write keeps shapes
pub frame_kept : (frame : Frame) (x : List ℕ) (i : ℕ) (v : ℤ) → shape_of (stored_in x i v frame) ≡ shape_of frame
frame_kept [] x i v = refl
frame_kept (stored ∷ frame) x i v = by (same_name stored.name x) (frame_kept frame x i v)
  where
    by : (b : Bool) → shape_of (stored_in x i v frame) ≡ shape_of frame
        → shape_of (cond b (record { name = stored.name; values = slice_set stored.values i v } ∷ frame) (stored ∷ stored_in x i v frame))
        ≡ shape_of (stored ∷ frame)
    by true e =
        ap (λ n. let one : Sized = record { name = stored.name; words = n } in one ∷ shape_of frame) (length-set stored.values i v)
    by false e = ap (λ s. let one : Sized = record { name = stored.name; words = length stored.values } in one ∷ s) e

frames_kept : (frames : List Frame) (x : List ℕ) (i : ℕ) (v : ℤ) → shapes_of (stored_among x i v frames) ≡ shapes_of frames
frames_kept [] x i v = refl
frames_kept (frame ∷ around) x i v = by (has x frame) (frames_kept around x i v)
  where
    by : (b : Bool) → shapes_of (stored_among x i v around) ≡ shapes_of around
        → shapes_of (cond b (stored_in x i v frame ∷ around) (frame ∷ stored_among x i v around)) ≡ shapes_of (frame ∷ around)
    by true e = ap (λ s. s ∷ shapes_of around) (frame_kept frame x i v)
    by false e = ap (λ s. shape_of frame ∷ s) e

running_kept : (calls : List (List Frame)) (x : List ℕ) (i : ℕ) (v : ℤ) → stacks_of (in_running (stored_among x i v) calls) ≡ stacks_of calls
running_kept [] x i v = refl
running_kept (frames ∷ outer) x i v = ap (λ s. s ∷ stacks_of outer) (frames_kept frames x i v)

-- the two ways of a write: in the running call, and in the frame of the process
abbrev written : Environment → List ℕ → ℕ → ℤ → Bool → Environment
written env x i v in_call =
    cond in_call (record { globals = env.globals; calls = in_running (stored_among x i v) env.calls })
    (record { globals = stored_in x i v env.globals; calls = env.calls })

pub store_kept : (env : Environment) (x : List ℕ) (i : ℕ) (v : ℤ)
    → (shape_of (store env x i v).globals ≡ shape_of env.globals) × (stacks_of (store env x i v).calls ≡ stacks_of env.calls)
store_kept env x i v = by (list_any (has x) (running_frames env.calls))
  where
    by : (b : Bool) → (shape_of (written env x i v b).globals ≡ shape_of env.globals) × (stacks_of (written env x i v b).calls ≡ stacks_of env.calls)
    by true = (refl, running_kept env.calls x i v)
    by false = (frame_kept env.globals x i v, refl)

-- where the words of the running call begin
pub based_top : (part : Part) (calls : List OpenCall) (shapes : List Shape) (outer : List (List Shape))
    → Based (body_place part) calls (shapes ∷ outer)
    → base_of part calls ≡ body_place part + stacks_words outer
based_top part [] shapes [] h = omega arith
based_top part [] shapes (other ∷ outer) h = absurd h
based_top part (call ∷ calls) shapes outer h = h.0

module _ (part : Part) where
  -- a variable of the environment among all words
  abbrev pub LiesAt : Environment → List ℤ → List ℕ → ℕ → ℕ → Type 0
  LiesAt env front x p n = Lies (found env x) (front ++ flat env) (λ i v. front ++ flat (store env x i v)) p n

  -- one of the running call
  call_lies : (front : List ℤ) (globals : Frame) (frames : List Frame) (outer : List (List Frame)) (x : List ℕ) (p o n : ℕ)
      → p ≡ length front + (length (flat_frame globals) + (length (flat_calls outer) + o)) → lies_among x (shapes_of frames) ≡ Some (o, n)
      → LiesAt (record { globals = globals; calls = frames ∷ outer }) front x p n
  call_lies front globals frames outer x p o n at e =
      let inner = frames_lie frames x o n e in
      lies_as (found_among x frames) _ _ (λ i v. front ++ (flat_frame globals ++ (flat_calls outer ++ flat_frames (stored_among x i v frames)))) _ p n
      (ap (λ f. or_else f (found_in x globals)) inner.is ∙ sym inner.is)
      (λ i v. ap (λ b. front ++ flat (written (record { globals = globals; calls = frames ∷ outer }) x i v b)) (frames_have frames x (o, n) e))
      (lies_behind _ _ front _ (length (flat_frame globals) + (length (flat_calls outer) + o)) p n at
      (lies_behind _ _ (flat_frame globals) _ (length (flat_calls outer) + o) _ n refl
      (lies_behind _ _ (flat_calls outer) _ o _ n refl inner)))

  -- one of the process, where the running call has none of the name
  own_lies : (front : List ℤ) (globals : Frame) (calls : List (List Frame)) (x : List ℕ) (p o n : ℕ) → p ≡ length front + o
      → lies_among x (running (stacks_of calls)) ≡ None → lies_in x (shape_of globals) ≡ Some (o, n)
      → LiesAt (record { globals = globals; calls = calls }) front x p n
  own_lies front globals [] x p o n at none e =
      lies_behind _ _ front _ o p n at (lies_before _ _ [] _ o n (frame_lies globals x o n e))
  own_lies front globals (frames ∷ outer) x p o n at none e =
      let lost = frames_lost frames x none in
      lies_as (found_in x globals) _ _ (λ i v. front ++ (flat_frame (stored_in x i v globals) ++ flat_calls (frames ∷ outer))) _ p n
      (ap (λ f. or_else f (found_in x globals)) lost.0)
      (λ i v. ap (λ b. front ++ flat (written (record { globals = globals; calls = frames ∷ outer }) x i v b)) lost.1)
      (lies_behind _ _ front _ o p n at (lies_before _ _ (flat_calls (frames ∷ outer)) _ o n (frame_lies globals x o n e)))

  -- the frames of an environment
  abbrev pub InFrames : Environment → Frames → Type 0
  InFrames env frames = (frames.globals ≡ shape_of env.globals) × (frames.running ≡ running (stacks_of env.calls))

  module _ (globals : Frame) (front : List ℤ) (long : length front ≡ variables_place part)
      (many : shape_words (shape_of globals) ≡ part.words) (x : List ℕ) where
    -- by where the look-up ends
    own_variable : (calls : List (List Frame)) (opened : List OpenCall) (at : Lying) (w : Option (ℕ × ℕ))
        → lies_among x (running (stacks_of calls)) ≡ None
        → lies_in x (shape_of globals) ≡ w → option_map (λ (words : ℕ × ℕ). OfProcess words.0 words.1) w ≡ Some at
        → LiesAt (record { globals = globals; calls = calls }) front x (place_lying part opened at) (words_lying at)
    own_variable calls opened at None none e g = absurd (none_some g)
    own_variable calls opened at (Some w) none e g =
        subst (λ y. LiesAt (record { globals = globals; calls = calls }) front x (place_lying part opened y) (words_lying y)) (some_same g)
        (own_lies front globals calls x (variables_place part + w.0) w.0 w.1 (ap (λ n. n + w.0) (sym long)) none e)

    variable : (calls : List (List Frame)) (opened : List OpenCall) (at : Lying) (w : Option (ℕ × ℕ))
        → Based (body_place part) opened (stacks_of calls)
        → lies_among x (running (stacks_of calls)) ≡ w
        → or_else (option_map (λ (words : ℕ × ℕ). OfCall words.0 words.1) w)
        (option_map (λ (words : ℕ × ℕ). OfProcess words.0 words.1) (lies_in x (shape_of globals))) ≡ Some at
        → LiesAt (record { globals = globals; calls = calls }) front x (place_lying part opened at) (words_lying at)
    variable calls opened at None based e g = own_variable calls opened at (lies_in x (shape_of globals)) e refl g
    variable [] opened at (Some w) based e g = absurd (none_some e)
    variable (frames ∷ outer) opened at (Some w) based e g =
        let base = based_top part opened (shapes_of frames) (stacks_of outer) based in
        let begins : base_of part opened + w.0 ≡ length front + (length (flat_frame globals) + (length (flat_calls outer) + w.0)) =
        omega (arith, base, long, many, frame_long globals, calls_long outer) in
        subst (λ y. LiesAt (record { globals = globals; calls = frames ∷ outer }) front x (place_lying part opened y) (words_lying y)) (some_same g)
        (call_lies front globals frames outer x (base_of part opened + w.0) w.0 w.1 begins e)

  -- what is laid out is found by its places
  pub lies_at : (front : List ℤ) (env : Environment) (all : List ℤ) (calls : List OpenCall)
      (l : Laid part front env all calls) (frames : Frames)
      → InFrames env frames → (x : List ℕ) (at : Lying)
      → lying frames x ≡ Some at → LiesAt env front x (place_lying part calls at) (words_lying at)
  lies_at front env all calls l frames is x at e =
      variable env.globals front l.long l.globals x env.calls calls at (lies_among x (running (stacks_of env.calls))) l.based refl
      (ap (λ s. or_else (option_map (λ (words : ℕ × ℕ). OfCall words.0 words.1) (lies_among x (running (stacks_of env.calls))))
      (option_map (λ (words : ℕ × ℕ). OfProcess words.0 words.1) (lies_in x s))) (sym is.0)
      ∙ ap (λ s. or_else (option_map (λ (words : ℕ × ℕ). OfCall words.0 words.1) (lies_among x s))
      (option_map (λ (words : ℕ × ℕ). OfProcess words.0 words.1) (lies_in x frames.globals))) (sym is.1)
      ∙ e)

  pub laid_finds : (front : List ℤ) (env : Environment) (all : List ℤ) (calls : List OpenCall)
      → Laid part front env all calls → (frames : Frames) → InFrames env frames
      → Finds part calls frames env all
  laid_finds front env all calls l frames is = record {
    found = λ x at e.
        let r = lies_at front env all calls l frames is x at e in
        record {
          values = r.all;
          is = r.is;
          long = r.long;
          reads = λ i h.
              let there = slice_get-there r.all i (subst (λ n. i < n) (sym r.long) h) in
              there.1 ∙ ap (λ o. Some (unwrap_or o (pos 0)))
              (sym there.1 ∙ sym (r.reads i h) ∙ ap (λ ws. slice_get ws (place_lying part calls at + i)) (sym l.is));
        };
  }

  -- a write to a place is a write to the variable
  pub laid_store : (front : List ℤ) (env : Environment) (all : List ℤ) (calls : List OpenCall)
      → Laid part front env all calls → (frames : Frames) → InFrames env frames → (x : List ℕ) (at : Lying)
      → lying frames x ≡ Some at → (i : ℕ) (v : ℤ) → i < words_lying at
      → Laid part front (store env x i v) (slice_set all (place_lying part calls at + i) v) calls
  laid_store front env all calls l frames is x at e i v h =
      let r = lies_at front env all calls l frames is x at e in
      let kept = store_kept env x i v in
      record {
        long = l.long;
        is = ap (λ ws. slice_set ws (place_lying part calls at + i) v) l.is ∙ sym (r.writes i v h);
        globals = ap shape_words kept.0 ∙ l.globals;
        based = subst (λ s. Based (body_place part) calls s) (sym kept.1) l.based;
      }
