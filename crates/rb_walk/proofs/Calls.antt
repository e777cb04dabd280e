-- Calls in memory: the running call is the last, and definitions have it first.
use Rattle.std.proofs.Common.{◌≡◌, ◌+◌, ℕ, ℤ, Bool, true, false, cond, ◌||◌, List, [], ◌∷◌, ◌++◌, map, reverse, length, get_or, set, take, refl, sym, ap, ◌∙◌, arith, true≢false, Vec, Global}
use Rattle.std.specs.List.{list_any}
use Rattle.std.specs.Vec.{with_items}
use Rattle.std.proofs.lemmas.List.{drop_all, take_all, map-set, get_or-map, length-map, with_items_is}
use Rattle.rb_meaning.specs.Environment.{Frame, has, stored_in, stored_among, in_running, running_frames}
use Rattle.rb_walk.specs.declared.frames.Slot.{Slot}
use Rattle.rb_walk.specs.declared.frames.Call.{Call}
use Rattle.rb_walk.specs.Slots.{frames_of, calls_of}
use Rattle.rb_walk.proofs.Innermost.{frame_in, reverse-more, reverse-set}

-- the last comes first
reverse-last : {A : Type 0} (xs : List A) (n : ℕ) (d : A) → n + 1 ≡ length xs → reverse xs ≡ get_or xs n d ∷ reverse (take n xs)
reverse-last xs n d e = ap reverse (sym (take_all (n + 1) xs (omega arith))) ∙ reverse-more xs n d (omega arith)

-- the last is changed
reverse-set_last : {A : Type 0} (xs : List A) (n : ℕ) (x : A) → n + 1 ≡ length xs → reverse (set xs n x) ≡ x ∷ reverse (take n xs)
reverse-set_last xs n x e =
    reverse-set xs n x (omega arith) ∙ ap (λ ys. reverse ys ++ x ∷ reverse (take n xs)) (drop_all (n + 1) xs (omega arith))

-- the running call comes first
pub running_first : (calls : List Call) (n : ℕ) (d : Call) → n + 1 ≡ length calls
    → calls_of calls ≡ frames_of (get_or calls n d) ∷ reverse (take n (map frames_of calls))
running_first calls n d e =
    reverse-last (map frames_of calls) n (frames_of d) (omega (arith, length-map calls frames_of))
    ∙ ap (λ (frames : List Frame). frames ∷ reverse (take n (map frames_of calls))) (get_or-map frames_of calls n d (frames_of d) (omega arith))

-- the running call is changed
pub running_changed : (f : List Frame → List Frame) (calls : List Call) (n : ℕ) (d new : Call) → n + 1 ≡ length calls
    → frames_of new ≡ f (frames_of (get_or calls n d)) → calls_of (set calls n new) ≡ in_running f (calls_of calls)
running_changed f calls n d new e changed =
    ap reverse (map-set frames_of calls n new)
    ∙ reverse-set_last (map frames_of calls) n (frames_of new) (omega (arith, length-map calls frames_of))
    ∙ ap (λ (frames : List Frame). frames ∷ reverse (take n (map frames_of calls))) changed
    ∙ sym (ap (in_running f) (running_first calls n d e))

-- one step of the next lemma
kept-step : (b c : Bool) (f g : Frame) (fs gs : List Frame) → (b || c) ≡ false → (c ≡ false → gs ≡ fs) → cond b (g ∷ fs) (f ∷ gs) ≡ f ∷ fs
kept-step true c f g fs gs e h = absurd (true≢false e)
kept-step false c f g fs gs e h = ap (λ (r : List Frame). f ∷ r) (h e)

-- frames that have no variable of this name stay as they are
pub stored_among-absent : (x : List ℕ) (i : ℕ) (v : ℤ) (fs : List Frame) → list_any (has x) fs ≡ false → stored_among x i v fs ≡ fs
stored_among-absent x i v [] e = refl
stored_among-absent x i v (f ∷ fs) e =
    kept-step (has x f) (list_any (has x) fs) f (stored_in x i v f) fs (stored_among x i v fs) e (stored_among-absent x i v fs)

-- where a write finds its variable in the running call, and where it does not
pub told : (found : Bool) (x : List ℕ) (i : ℕ) (v : ℤ) (calls : List (List Frame)) → found ≡ list_any (has x) (running_frames calls)
    → in_running (stored_among x i v) calls ≡ cond found (in_running (stored_among x i v) calls) calls
told true x i v calls e = refl
told false x i v [] e = refl
told false x i v (frames ∷ calls) e = ap (λ (fs : List Frame). fs ∷ calls) (stored_among-absent x i v frames (sym e))

-- frames behind a reference, with what was written there
pub frames_written : (old : Vec (Vec Slot Global) Global) (lent new : List (Vec Slot Global)) → lent ≡ old.items → length new ≡ length lent
    → frames_of (record { frames = with_items old new }) ≡ reverse (map frame_in new)
frames_written old lent new e h =
    ap (λ (xs : List (Vec Slot Global)). reverse (map frame_in xs)) (with_items_is old new (omega (arith, old.ok.0, ap length e)))
