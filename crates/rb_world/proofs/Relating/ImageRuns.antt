-- The image of a world takes a turn, a run and the plain run of a record to the image of what it comes to, and the same is
-- told: an image is a relation under which one side is a function of the other.
use Rattle.std.proofs.Common.{◌≡◌, ℕ, ℤ, zero, suc, Bool, true, false, List, [], ◌∷◌, ◌++◌, map, option_map, slice_get, take, Option, Some, None, refl, sym, ap, ap₂, ◌∙◌, subst}
use Rattle.std.proofs.lemmas.Option.{slice_get-map}
use Rattle.std.proofs.Math.Path.{subst₃}
use Rattle.rb_world.specs.Kind.{Kind, Stepped, Trapped, Went, Held}
use Rattle.rb_world.specs.World.{Level, Process, World, last_of, without_last}
use Rattle.rb_world.specs.Turn.{Told, opening, run, turn}
use Rattle.rb_base.specs.declared.kept.Kept.{Kept}
use Rattle.rb_world.specs.Plain.{PlainEnd, Ended, StuckAt, plain_run, plain_turn}
use Rattle.rb_world.proofs.LastLevels.{last_of-map, without_last-map}
use Rattle.rb_world.proofs.ListFacts.{heads_same, some_same, tails_same}
use Rattle.rb_world.proofs.Relating.Simulation.{Shared, Related, nothing_known, copies_of, StillMeets, StepsMeet, IsPlainSimulation, IsSimulation}
use Rattle.rb_world.proofs.Relating.MarksMeet.{OptionsMeet, SameMarks}
use Rattle.rb_world.proofs.Relating.ProcessesMeet.{ProcessesMeet, AllMeet, WorldsMeet}
use Rattle.rb_world.proofs.Relating.TurnsMeet.{TurnsMeet, turn_meets}
use Rattle.rb_world.proofs.Relating.RunsMeet.{OpeningsMeet, keeps_nothing, opening_meets, run_meets}
use Rattle.rb_world.proofs.Relating.PlainRunsMeet.{EndsMeet, keeps_nothing_plain, plain_run_meets, plain_turn_meets}
use Rattle.rb_world.proofs.Relating.Image.{IsPlainImage, IsImage, stepped_image, level_image, process_image, world_image, turn_image, end_image}

-- the right side is the image
pub record IsImageOf {S C M T D N : Type 0} (on_state : S → T) (on_copy : C → D) (on_memory : M → N) (m : M) (n : N)
    (cs : List C) (s : S) (ds : List D) (u : T) : Type 0 where
  pub memory : on_memory m ≡ n
  pub copies : map on_copy cs ≡ ds
  pub state : on_state s ≡ u

-- functions of all elements
pub take-map : {C D : Type 0} (f : C → D) (n : ℕ) (cs : List C) → take n (map f cs) ≡ map f (take n cs)
take-map f zero cs = refl
take-map f (suc n) [] = refl
take-map f (suc n) (c ∷ cs) = ap (λ x. f c ∷ x) (take-map f n cs)

pub more-map : {C D : Type 0} (f : C → D) (cs : List C) (c : C) → map f (cs ++ c ∷ []) ≡ map f cs ++ f c ∷ []
more-map f [] c = refl
more-map f (d ∷ cs) c = ap (λ x. f d ∷ x) (more-map f cs c)

-- a copy by its number, on both sides
pub copy_there : {C D : Type 0} (f : C → D) (cs : List C) (j : ℕ) (x : C) (y : D) → slice_get cs j ≡ Some x
    → slice_get (map f cs) j ≡ Some y → f x ≡ y
copy_there f cs j x y e e' = some_same (sym (ap (option_map f) e) ∙ sym (slice_get-map f cs j) ∙ e')

-- the right side is the image, in the form that a relation of kinds has
abbrev pub Imaged : {S C M T D N : Type 0} → (S → T) → (C → D) → (M → N) → Related S C M T D N
Imaged on_state on_copy on_memory line m n cs s ds u = IsImageOf on_state on_copy on_memory m n cs s ds u

abbrev pub Memories : {M N : Type 0} → (M → N) → Shared M N
Memories on_memory m n = on_memory m ≡ n

module _ {S C M T D N : Type 0} (on_state : S → T) (on_copy : C → D) (on_memory : M → N) where
  -- what is shown of the image is shown of all that is equal to it
  at_image : (P : N → List D → T → Type 0) {m : M} {n : N} {cs : List C} {s : S} {ds : List D} {u : T}
      → IsImageOf on_state on_copy on_memory m n cs s ds u → P (on_memory m) (map on_copy cs) (on_state s) → P n ds u
  at_image P e h = subst₃ P e.memory e.copies e.state h

  still_meets : (p : ℕ) (w : World S C M) (old : N) (line : Bool) (m : M) (n : N) (cs : List C) (s : S) (ds : List D) (u : T)
      → on_memory m ≡ n → map on_copy cs ≡ ds → on_state s ≡ u
      → StillMeets (Memories on_memory) (Imaged on_state on_copy on_memory) p w old line m n cs s ds u
  still_meets p w old line m n cs s ds u e f g = record {
    memories = e;
    states = record { memory = e; copies = f; state = g };
    others = λ r q es v _ _ both. record { memory = e; copies = both.copies; state = both.state };
  }

  -- a world meets its image, and nothing else
  levels_image : (ls : List (Level C)) → SameMarks ls (map (level_image on_copy) ls)
  levels_image [] = tt
  levels_image (x ∷ ls) = (record { facts = refl; alternate = refl; used = refl }, levels_image ls)

  copies_image : (ls : List (Level C)) → map on_copy (copies_of ls) ≡ copies_of (map (level_image on_copy) ls)
  copies_image [] = refl
  copies_image (x ∷ ls) = ap (λ ds. on_copy x.copy ∷ ds) (copies_image ls)

  processes_image : (m : M) (qs : List (Process S C))
      → AllMeet (Imaged on_state on_copy on_memory) m (on_memory m) qs (map (process_image on_state on_copy) qs)
  processes_image m [] = tt
  processes_image m (q ∷ qs) = (
    record {
      states = record { memory = refl; copies = copies_image q.levels; state = refl };
      marks = levels_image q.levels;
      lines = refl;
      statuses = refl;
    },
    processes_image m qs,
  )

  pub meets_image : (w : World S C M)
      → WorldsMeet (Memories on_memory) (Imaged on_state on_copy on_memory) w (world_image on_state on_copy on_memory w)
  meets_image w = record { memories = refl; processes = processes_image w.memory w.processes; talks = refl }

  same_levels : (ls : List (Level C)) (ms : List (Level D)) → SameMarks ls ms → map on_copy (copies_of ls) ≡ copies_of ms
      → map (level_image on_copy) ls ≡ ms
  same_levels [] [] e f = refl
  same_levels [] (y ∷ ms) e f = absurd e
  same_levels (x ∷ ls) [] e f = absurd e
  same_levels (x ∷ ls) (y ∷ ms) e f =
      ap₂ ◌∷◌ (λ i. record { facts = e.0.facts i; alternate = e.0.alternate i; used = e.0.used i; copy = heads_same f i })
      (same_levels ls ms e.1 (tails_same f))

  same_process : (m : M) (n : N) (q : Process S C) (r : Process T D)
      → ProcessesMeet (Imaged on_state on_copy on_memory) m n q r → process_image on_state on_copy q ≡ r
  same_process m n q r e = λ i. record {
    state = e.states.state i;
    levels = same_levels q.levels r.levels e.marks e.states.copies i;
    at_line = e.lines i;
    status = e.statuses i;
  }

  same_processes : (m : M) (n : N) (qs : List (Process S C)) (rs : List (Process T D))
      → AllMeet (Imaged on_state on_copy on_memory) m n qs rs → map (process_image on_state on_copy) qs ≡ rs
  same_processes m n [] [] e = refl
  same_processes m n [] (r ∷ rs) e = absurd e
  same_processes m n (q ∷ qs) [] e = absurd e
  same_processes m n (q ∷ qs) (r ∷ rs) e = ap₂ ◌∷◌ (same_process m n q r e.0) (same_processes m n qs rs e.1)

  pub is_world_image : (w : World S C M) (v : World T D N)
      → WorldsMeet (Memories on_memory) (Imaged on_state on_copy on_memory) w v
      → v ≡ world_image on_state on_copy on_memory w
  is_world_image w v meets = sym (λ i. record {
    processes = same_processes w.memory v.memory w.processes v.processes meets.processes i;
    talks = meets.talks i;
    memory = meets.memories i;
  })

-- plain runs
module _ {S C M T D N : Type 0} {k : Kind S C M} {l : Kind T D N} {on_state : S → T} {on_copy : C → D} {on_memory : M → N}
    (image : IsPlainImage k l on_state on_copy on_memory) where
  steps_meet_image : (t p alternate : ℕ) (w : World S C M) (cs : List C) (x : Stepped S M)
      → StepsMeet k l (Memories on_memory) (Imaged on_state on_copy on_memory) t p alternate w (on_memory w.memory) cs
      (map on_copy cs) x (stepped_image on_state on_memory x)
  steps_meet_image t p alternate w cs (Trapped cause) = refl
  steps_meet_image t p alternate w cs (Went s m) =
      let e = image.keep t alternate s m in
      still_meets on_state on_copy on_memory p w (on_memory w.memory) false _ _ cs _ (map on_copy cs) _ (sym (ap (λ (x : T × N). x.1) e)) refl
      (sym (image.settle (last_of cs) (k.keep t alternate s m).0)
      ∙ ap₂ l.settle (sym (last_of-map on_copy cs)) (sym (ap (λ (x : T × N). x.0) e)))
  steps_meet_image t p alternate w cs (Held s) =
      let e = image.keep t alternate s w.memory in
      still_meets on_state on_copy on_memory p w (on_memory w.memory) true _ _ cs _ (map on_copy cs) _ (sym (ap (λ (x : T × N). x.1) e)) refl
      (sym (ap (λ (x : T × N). x.0) e))

  step_meets_image : (t p alternate : ℕ) (message : Option ℤ) (w : World S C M) (cs : List C) (s : S)
      → StepsMeet k l (Memories on_memory) (Imaged on_state on_copy on_memory) t p alternate w (on_memory w.memory) cs (map on_copy cs)
      (k.step alternate (last_of cs) s message w.memory) (l.step alternate (last_of (map on_copy cs)) (on_state s) message (on_memory w.memory))
  step_meets_image t p alternate message w cs s =
      subst (StepsMeet k l (Memories on_memory) (Imaged on_state on_copy on_memory) t p alternate w (on_memory w.memory) cs
      (map on_copy cs) (k.step alternate (last_of cs) s message w.memory))
      (sym (ap (λ (c : Option D). l.step alternate c (on_state s) message (on_memory w.memory)) (last_of-map on_copy cs)
      ∙ image.step alternate (last_of cs) s message w.memory))
      (steps_meet_image t p alternate w cs (k.step alternate (last_of cs) s message w.memory))

  enter_meets_image : (t p : ℕ) (w : World S C M) (cs : List C) (s : S)
      → let x = k.keep t 0 (k.enter s) w.memory in
      let y = l.keep t 0 (l.enter (on_state s)) (on_memory w.memory) in
      StillMeets (Memories on_memory) (Imaged on_state on_copy on_memory) p w (on_memory w.memory) false x.1 y.1
      (cs ++ k.copy x.0 ∷ []) x.0 (map on_copy cs ++ l.copy y.0 ∷ []) y.0
  enter_meets_image t p w cs s =
      let x = k.keep t 0 (k.enter s) w.memory in
      let e = ap (λ (u : T). l.keep t 0 u (on_memory w.memory)) (image.enter s) ∙ image.keep t 0 (k.enter s) w.memory in
      let f = sym (ap (λ (y : T × N). y.0) e) in
      still_meets on_state on_copy on_memory p w (on_memory w.memory) false _ _ _ _ _ _ (sym (ap (λ (y : T × N). y.1) e))
      (more-map on_copy cs (k.copy x.0) ∙ ap (λ (d : D). map on_copy cs ++ d ∷ []) (sym (image.copy x.0) ∙ ap l.copy f)) f

  pub plain_image_simulates : IsPlainSimulation k l (Memories on_memory) (Imaged on_state on_copy on_memory) nothing_known
  plain_image_simulates = record {
    channels = image.channels;
    groups = image.groups;
    want = λ m n cs s ds u e. sym (image.want s) ∙ ap l.want e.state;
    sent = λ line m n cs s ds u c e. sym (image.sent s c) ∙ ap (λ (x : T). l.sent x c) e.state;
    taken = λ line m n cs s ds u c e. sym (image.taken s c) ∙ ap (λ (x : T). l.taken x c) e.state;
    sent_then = λ line m n cs s ds u c j x y e at at'.
        sym (image.sent_then s x c) ∙ ap₂ (λ (v : T) (d : D). l.sent_then v d c) e.state
        (copy_there on_copy cs j x y at (ap (λ (es : List D). slice_get es j) e.copies ∙ at'));
    taken_then = λ line m n x cs s y ds u c e.
        sym (image.taken_then s x c) ∙ ap₂ (λ (v : T) (d : D). l.taken_then v d c) e.state
        (copy_there on_copy (x ∷ cs) 0 x y refl (ap (λ (es : List D). slice_get es 0) e.copies));
    message = λ t p q w c sender receiver n ds u acts receipt memories e _ _.
        let i = k.taken receiver.state c in
        sym (image.message w.memory sender.state c i) ∙ ap₂ (λ (m : N) (v : T). l.message m v c i) memories e.state;
    message_then = λ t p q w c sender receiver n ds u j x y acts receipt memories e _ at at' _.
        let i = k.taken receiver.state c in
        sym (image.message_then w.memory sender.state x c i)
        ∙ ap₂ (λ (m : N) (v : T). l.message_then m v (on_copy x) c i) memories e.state
        ∙ ap (λ (d : D). l.message_then n u d c i)
        (copy_there on_copy (copies_of sender.levels) j x y at (ap (λ (es : List D). slice_get es j) e.copies ∙ at'));
    step = λ t p q w alternate message n ds u acts ready at memories e.
        at_image on_state on_copy on_memory
        (λ n ds u. StepsMeet k l (Memories on_memory) (Imaged on_state on_copy on_memory) t p alternate w n (copies_of q.levels) ds
        (k.step alternate (last_of (copies_of q.levels)) q.state message w.memory) (l.step alternate (last_of ds) u message n)) e
        (step_meets_image t p alternate message w (copies_of q.levels) q.state);
    enter = λ t p q w facts n ds u acts wants memories e.
        at_image on_state on_copy on_memory (λ n ds u. let x = k.keep t 0 (k.enter q.state) w.memory in let y = l.keep t 0 (l.enter u) n in
        StillMeets (Memories on_memory) (Imaged on_state on_copy on_memory) p w n false x.1 y.1
        (copies_of q.levels ++ k.copy x.0 ∷ []) x.0 (ds ++ l.copy y.0 ∷ []) y.0) e
        (enter_meets_image t p w (copies_of q.levels) q.state);
    leave = λ m n cs s ds u e. record {
      memory = e.memory;
      copies = sym (without_last-map on_copy cs) ∙ ap without_last e.copies;
      state = sym (image.settle (last_of (without_last cs)) (k.accept s))
          ∙ ap₂ l.settle (sym (last_of-map on_copy (without_last cs)) ∙ ap last_of (sym (without_last-map on_copy cs) ∙ ap without_last e.copies))
          (sym (image.accept s) ∙ ap l.accept e.state);
    };
    held = λ line m n s u e. sym (image.held s) ∙ ap l.held e.state;
    release = λ line m n s u e. record { memory = e.memory; copies = refl; state = sym (image.release s) ∙ ap l.release e.state };
  }

  -- the opening
  openings_image : (m : M) (states : List S) → OpeningsMeet k l (Imaged on_state on_copy on_memory) m (on_memory m) states (map on_state states)
  openings_image m [] = tt
  openings_image m (s ∷ states) = (record { memory = refl; copies = refl; state = sym (image.settle None s) }, openings_image m states)

  pub opening-image : (states : List S) (m : M)
      → opening l (map on_state states) (on_memory m) ≡ world_image on_state on_copy on_memory (opening k states m)
  opening-image states m =
      is_world_image on_state on_copy on_memory _ _
      (opening_meets plain_image_simulates m (on_memory m) states (map on_state states) refl (openings_image m states))

  -- a turn of a record, and its plain run
  kept_turn_same : (x : Option (World S C M × Told)) (y : Option (World T D N × Told))
      → OptionsMeet (TurnsMeet (Memories on_memory) (Imaged on_state on_copy on_memory)) x y
      → y ≡ option_map (turn_image on_state on_copy on_memory) x
  kept_turn_same None None e = refl
  kept_turn_same None (Some y) e = absurd e
  kept_turn_same (Some x) None e = absurd e
  kept_turn_same (Some x) (Some y) e = λ i. Some (is_world_image on_state on_copy on_memory x.0 y.0 e.worlds i, sym e.same_told i)

  pub plain_turn-image : (kept : Kept) (w : World S C M)
      → plain_turn l kept (world_image on_state on_copy on_memory w) ≡ option_map (turn_image on_state on_copy on_memory) (plain_turn k kept w)
  plain_turn-image kept w =
      kept_turn_same _ _
      (plain_turn_meets plain_image_simulates kept w (world_image on_state on_copy on_memory w) (λ q _ _. tt)
      (meets_image on_state on_copy on_memory w))

  end_same : (x : PlainEnd S C M) (y : PlainEnd T D N)
      → EndsMeet (Memories on_memory) (Imaged on_state on_copy on_memory) x y → y ≡ end_image on_state on_copy on_memory x
  end_same (Ended w lines) (Ended v lines') e = λ i. Ended (is_world_image on_state on_copy on_memory w v e.0 i) (sym e.1 i)
  end_same (Ended w lines) (StuckAt t) e = absurd e
  end_same (StuckAt t) (Ended v lines) e = absurd e
  end_same (StuckAt t) (StuckAt t') e = ap StuckAt (sym e)

  pub plain_run-image : (turns : List Kept) (w : World S C M)
      → plain_run l turns (world_image on_state on_copy on_memory w) ≡ end_image on_state on_copy on_memory (plain_run k turns w)
  plain_run-image turns w =
      end_same _ _ (plain_run_meets plain_image_simulates (keeps_nothing_plain k) turns w
      (world_image on_state on_copy on_memory w) tt (meets_image on_state on_copy on_memory w))

-- runs
module _ {S C M T D N : Type 0} {k : Kind S C M} {l : Kind T D N} {on_state : S → T} {on_copy : C → D} {on_memory : M → N}
    (image : IsImage k l on_state on_copy on_memory) where
  pub image_simulates : IsSimulation k l (Memories on_memory) (Imaged on_state on_copy on_memory) nothing_known
  image_simulates = record {
    plain = plain_image_simulates image.plain;
    back = λ line m n cs s ds u j x y e at at'. record {
      memory = e.memory;
      copies = sym (take-map on_copy (suc j) cs) ∙ ap (take (suc j)) e.copies;
      state = sym (image.restore (k.cut (suc j) s) x)
          ∙ ap₂ l.restore (sym (image.cut (suc j) s) ∙ ap (l.cut (suc j)) e.state)
          (copy_there on_copy cs j x y at (ap (λ (es : List D). slice_get es j) e.copies ∙ at'));
    };
    fall = λ m n cs s ds u e. record { memory = e.memory; copies = refl; state = sym (image.cut 0 s) ∙ ap (l.cut 0) e.state };
  }

  -- one turn, and a whole run
  pub turn-image : (t p : ℕ) (w : World S C M)
      → turn l t p (world_image on_state on_copy on_memory w) ≡ turn_image on_state on_copy on_memory (turn k t p w)
  turn-image t p w =
      let both = turn_meets image_simulates t p w (world_image on_state on_copy on_memory w) (λ q _ _. tt)
      (meets_image on_state on_copy on_memory w) in
      λ i. (is_world_image on_state on_copy on_memory _ _ both.worlds i, sym both.same_told i)

  pub run-image : (t : ℕ) (turns : List ℕ) (w : World S C M)
      → run l t turns (world_image on_state on_copy on_memory w) ≡ turn_image on_state on_copy on_memory (run k t turns w)
  run-image t turns w =
      let both = run_meets image_simulates (keeps_nothing k) t turns w (world_image on_state on_copy on_memory w) tt
      (meets_image on_state on_copy on_memory w) in
      λ i. (is_world_image on_state on_copy on_memory _ _ both.worlds i, sym both.same_told i)

  pub opening_run-image : (turns : List ℕ) (states : List S) (m : M)
      → run l 1 turns (opening l (map on_state states) (on_memory m)) ≡ turn_image on_state on_copy on_memory (run k 1 turns (opening k states m))
  opening_run-image turns states m = ap (run l 1 turns) (opening-image image.plain states m) ∙ run-image 1 turns (opening k states m)
