-- Frames and calls that begin and end: words are appended, and cut off.
use Rattle.std.proofs.Common.{◌≡◌, ℕ, ◌+◌, ◌-◌, ℤ, pos, List, [], ◌∷◌, ◌++◌, length, take, replicate, refl, ap, ◌∙◌, subst, arith, length-append, append_assoc}
use Rattle.std.proofs.lemmas.List.{length-replicate, replicate-append-replicate}
use Rattle.std.proofs.lemmas.List.Sums.{sum_by-cons}
use Rattle.std.proofs.Math.Seq.{take-append_seam}
use Rattle.rb_syntax.specs.Tree.{Declaration}
use Rattle.rb_meaning.specs.Environment.{Environment, Frame, Stored, frame_of, frame_words, pop_call, pop_frame, push_call, push_frame, size_of, zeros}
use Rattle.rb_scope.specs.Frames.{Shape, shape_of, shape_words}
use Rattle.rb_code.specs.Instructions.Plain.{Part}
use Rattle.rb_code.specs.WordMachine.Workspace.{OpenCall, body_place}
use Rattle.rb_code.proofs.InWords.LaidOut.{Based, Laid, flat, flat_calls, flat_frame, flat_frames, shapes_of, stacks_of}
use Rattle.rb_code.proofs.InWords.VariablesInWords.{calls_long, frame_long}

-- a frame of zeros
pub zeros_flat : (variables : List Declaration) → flat_frame (frame_of variables) ≡ replicate (frame_words (frame_of variables)) (pos 0)
zeros_flat [] = refl
zeros_flat (one ∷ others) =
    let n = size_of one.size in
    let k = frame_words (frame_of others) in
    let many : n + k ≡ frame_words (frame_of (one ∷ others)) =
    omega (arith, length-replicate n (pos 0), sum_by-cons (λ (stored : Stored). length stored.values) (zeros one) (frame_of others)) in
    ap (λ ws. replicate n (pos 0) ++ ws) (zeros_flat others) ∙ replicate-append-replicate n k (pos 0) ∙ ap (λ j. replicate j (pos 0)) many

-- the end of a list is cut off
take_front : {A : Type 0} (xs ys all : List A) (n : ℕ) → all ≡ xs ++ ys → n ≡ length xs → take n all ≡ xs
take_front xs ys all n e l = ap (λ z. take n z) e ∙ ap (λ k. take k (xs ++ ys)) l ∙ take-append_seam xs ys

module _ (part : Part) where
  -- a frame begins
  based_frame : (calls : List OpenCall) (n : ℕ) (shapes others : List Shape) (outer : List (List Shape))
      → Based n calls (shapes ∷ outer) → Based n calls (others ∷ outer)
  based_frame [] n shapes others [] h = tt
  based_frame [] n shapes others (more ∷ outer) h = absurd h
  based_frame (call ∷ calls) n shapes others outer h = h

  -- there is always the main body
  pub no_body : (calls : List OpenCall) (n : ℕ) → Based n calls [] → ⊥
  no_body [] n h = absurd h
  no_body (call ∷ calls) n h = absurd h

  laid_frame : (frame : Frame) (globals : Frame) (calls : List (List Frame)) (all : List ℤ) (opened : List OpenCall) (front : List ℤ)
      → Laid part front (record { globals = globals; calls = calls }) all opened
      → Laid part front (push_frame frame (record { globals = globals; calls = calls })) (all ++ flat_frame frame) opened
  laid_frame frame globals [] all opened front l = absurd (no_body opened (body_place part) l.based)
  laid_frame frame globals (frames ∷ outer) all opened front l =
      let ends : (front ++ (flat_frame globals ++ (flat_calls outer ++ flat_frames frames))) ++ flat_frame frame
      ≡ front ++ (flat_frame globals ++ (flat_calls outer ++ (flat_frames frames ++ flat_frame frame))) = simp append_assoc in
      record {
        long = l.long;
        is = ap (λ ws. ws ++ flat_frame frame) l.is ∙ ends;
        globals = l.globals;
        based = based_frame opened (body_place part) (shapes_of frames) (shapes_of (frame ∷ frames)) (stacks_of outer) l.based;
      }

  pub laid_pushed : (variables : List Declaration) (env : Environment) (all : List ℤ) (opened : List OpenCall) (front : List ℤ)
      → Laid part front env all opened
      → Laid part front (push_frame (frame_of variables) env) (all ++ replicate (frame_words (frame_of variables)) (pos 0)) opened
  laid_pushed variables env all opened front l =
      subst (λ ws. Laid part front (push_frame (frame_of variables) env) (all ++ ws) opened) (zeros_flat variables)
      (laid_frame (frame_of variables) env.globals env.calls all opened front l)

  -- a frame ends
  laid_cut : (frame : Frame) (globals : Frame) (frames : List Frame) (outer : List (List Frame)) (all : List ℤ)
      (opened : List OpenCall) (front : List ℤ)
      → Laid part front (record { globals = globals; calls = (frame ∷ frames) ∷ outer }) all opened
      → Laid part front (record { globals = globals; calls = frames ∷ outer }) (take (length all - shape_words (shape_of frame)) all) opened
  laid_cut frame globals frames outer all opened front l =
      let xs = front ++ (flat_frame globals ++ (flat_calls outer ++ flat_frames frames)) in
      let ends : front ++ (flat_frame globals ++ (flat_calls outer ++ (flat_frames frames ++ flat_frame frame))) ≡ xs ++ flat_frame frame =
      simp append_assoc in
      let is : all ≡ xs ++ flat_frame frame = l.is ∙ ends in
      let n : length all - shape_words (shape_of frame) ≡ length xs =
      omega (arith, ap length is, length-append xs (flat_frame frame), frame_long frame) in
      record {
        long = l.long;
        is = take_front xs (flat_frame frame) all _ is n;
        globals = l.globals;
        based = based_frame opened (body_place part) (shapes_of (frame ∷ frames)) (shapes_of frames) (stacks_of outer) l.based;
      }

  pub laid_popped : (env : Environment) (all : List ℤ) (opened : List OpenCall) (front : List ℤ) (shape : Shape)
      (shapes : List Shape) (outer : List (List Shape))
      → stacks_of env.calls ≡ (shape ∷ shapes) ∷ outer → Laid part front env all opened
      → Laid part front (pop_frame env) (take (length all - shape_words shape) all) opened × (stacks_of (pop_frame env).calls ≡ shapes ∷ outer)
  laid_popped env all opened front shape shapes outer e l = by env.calls e l
    where
      by : (calls : List (List Frame)) → stacks_of calls ≡ (shape ∷ shapes) ∷ outer
          → Laid part front (record { globals = env.globals; calls = calls }) all opened
          → Laid part front (pop_frame (record { globals = env.globals; calls = calls })) (take (length all - shape_words shape) all) opened
          × (stacks_of (pop_frame (record { globals = env.globals; calls = calls })).calls ≡ shapes ∷ outer)
      by [] e l = absurd cc
      by ([] ∷ more) e l = absurd cc
      by ((frame ∷ frames) ∷ more) e l =
          let same : shape_of frame ≡ shape = cc in (
            subst (λ s. Laid part front (record { globals = env.globals; calls = frames ∷ more }) (take (length all - shape_words s) all) opened) same
                (laid_cut frame env.globals frames more all opened front l),
            cc,
          )

  -- a call begins, and ends
  pub laid_called : (frame : Frame) (env : Environment) (all : List ℤ) (opened : List OpenCall) (front : List ℤ) (back : ℕ)
      → Laid part front env all opened
      → Laid part front (push_call frame env) (all ++ flat_frame frame) (record { back = back; base = length all } ∷ opened)
  laid_called frame env all opened front back l =
      let long = l.long in
      let many = l.globals in
      let ends : (front ++ (flat_frame env.globals ++ flat_calls env.calls)) ++ flat_frame frame
      ≡ front ++ (flat_frame env.globals ++ (flat_calls env.calls ++ flat_frame frame)) = simp append_assoc in
      record {
        long = l.long;
        is = ap (λ ws. ws ++ flat_frame frame) l.is ∙ ends;
        globals = l.globals;
        based = (
          omega (
            arith,
            ap length l.is,
            length-append front (flat env),
            length-append (flat_frame env.globals) (flat_calls env.calls),
            long,
            many,
            frame_long env.globals,
            calls_long env.calls,
          ),
          l.based,
        );
      }

  pub laid_returned : (env : Environment) (all : List ℤ) (call : OpenCall) (opened : List OpenCall) (front : List ℤ)
      (shapes : List Shape) (outer : List (List Shape))
      → stacks_of env.calls ≡ shapes ∷ outer → Laid part front env all (call ∷ opened)
      → Laid part front (pop_call env) (take call.base all) opened × (stacks_of (pop_call env).calls ≡ outer)
  laid_returned env all call opened front shapes outer e l = by env.calls e l
    where
      by : (calls : List (List Frame)) → stacks_of calls ≡ shapes ∷ outer
          → Laid part front (record { globals = env.globals; calls = calls }) all (call ∷ opened)
          → Laid part front (pop_call (record { globals = env.globals; calls = calls })) (take call.base all) opened
          × (stacks_of (pop_call (record { globals = env.globals; calls = calls })).calls ≡ outer)
      by [] e l = absurd cc
      by (frames ∷ more) e l =
          let globals = env.globals in
          let xs = front ++ (flat_frame globals ++ flat_calls more) in
          let ends : front ++ (flat_frame globals ++ (flat_calls more ++ flat_frames frames)) ≡ xs ++ flat_frames frames = simp append_assoc in
          let base = l.based.0 in
          let long = l.long in
          let many = l.globals in
          let n : call.base ≡ length xs =
          omega (
            arith,
            base,
            long,
            many,
            length-append front (flat_frame globals ++ flat_calls more),
            length-append (flat_frame globals) (flat_calls more),
            frame_long globals,
            calls_long more,
          ) in (
            record {
              long = l.long;
              is = take_front xs (flat_frames frames) all call.base (l.is ∙ ends) n;
              globals = l.globals;
              based = l.based.1;
            },
            cc,
          )
