-- One kind with its messages read another way: where both ways agree on each message that is taken, by what is known of the
-- world, all turns, runs and plain runs are the same.
use Rattle.std.proofs.Common.{◌≡◌, ◌<◌, ℕ, ℤ, List, [], ◌∷◌, map, slice_get, Some, None, refl, sym, ap, ap₂, ◌∙◌, subst, map-id}
use Rattle.rb_world.specs.Kind.{Kind, Stepped, Trapped, Went, Held}
use Rattle.rb_world.specs.World.{Level, Process, World}
use Rattle.rb_world.specs.Channels.{seen_copy}
use Rattle.rb_world.specs.Turn.{run, turn}
use Rattle.rb_base.specs.declared.kept.Kept.{Kept}
use Rattle.rb_world.specs.Plain.{PlainEnd, Ended, StuckAt, plain_run}
use Rattle.rb_world.proofs.Relating.Simulation.{Shared, Related, Knowing, nothing_known, copies_of, IsActing, IsReceipt, IsSimulation}
use Rattle.rb_world.proofs.Relating.ProcessesMeet.{WorldsMeet}
use Rattle.rb_world.proofs.Relating.TurnsMeet.{KnowsTurn, turn_meets}
use Rattle.rb_world.proofs.Relating.RunsMeet.{KeepsKnown, run_meets}
use Rattle.rb_world.proofs.Relating.PlainRunsMeet.{EndsMeet, KeepsPlainKnown, plain_run_meets}
use Rattle.rb_world.proofs.Relating.Image.{IsImage, process_image, level_image, stepped_image, world_image}
use Rattle.rb_world.proofs.Relating.ImageRuns.{Imaged, Memories, copy_there, image_simulates, is_world_image, meets_image}
use Rattle.std.proofs.lemmas.Iterator.Adapters.{option_map_id}

-- the kind with other messages, of the present state and of a copy
abbrev pub with_messages : {S C M : Type 0} → Kind S C M → (M → S → ℕ → ℕ → ℤ) → (M → S → C → ℕ → ℕ → ℤ) → Kind S C M
with_messages k message message_then = record k { message = message; message_then = message_then }

-- both ways agree on the message that is taken next
pub record ReadsSame {S C M : Type 0} (k : Kind S C M) (message : M → S → ℕ → ℕ → ℤ) (message_then : M → S → C → ℕ → ℕ → ℤ)
    (known : Knowing S C M) : Type 0 where
  pub now : (t p : ℕ) (q : Process S C) (w : World S C M) (c : ℕ) (sender receiver : Process S C)
      → IsActing known t p q w → IsReceipt k q w c sender receiver
      → seen_copy sender.levels receiver.levels ≡ None → k.taken receiver.state c < k.sent sender.state c
      → k.message w.memory sender.state c (k.taken receiver.state c) ≡ message w.memory sender.state c (k.taken receiver.state c)
  pub before : (t p : ℕ) (q : Process S C) (w : World S C M) (c : ℕ) (sender receiver : Process S C) (j : ℕ) (x : C)
      → IsActing known t p q w → IsReceipt k q w c sender receiver
      → seen_copy sender.levels receiver.levels ≡ Some x → slice_get (copies_of sender.levels) j ≡ Some x
      → k.taken receiver.state c < k.sent_then sender.state x c
      → k.message_then w.memory sender.state x c (k.taken receiver.state c) ≡ message_then w.memory sender.state x c (k.taken receiver.state c)

-- every kind is its own image
same_step : {S M : Type 0} (x : Stepped S M) → x ≡ stepped_image (λ s. s) (λ m. m) x
same_step (Trapped cause) = refl
same_step (Went s m) = refl
same_step (Held s) = refl

pub own_image : {S C M : Type 0} (k : Kind S C M) → IsImage k k (λ s. s) (λ c. c) (λ m. m)
own_image k = record {
  plain = record {
    channels = refl;
    groups = refl;
    want = λ s. refl;
    settle = λ c s. ap (λ x. k.settle x s) (option_map_id c);
    enter = λ s. refl;
    copy = λ s. refl;
    accept = λ s. refl;
    step = λ alternate c s message m. ap (λ x. k.step alternate x s message m) (option_map_id c) ∙ same_step (k.step alternate c s message m);
    sent = λ s c. refl;
    taken = λ s c. refl;
    sent_then = λ s x c. refl;
    taken_then = λ s x c. refl;
    message = λ m s c i. refl;
    message_then = λ m s x c i. refl;
    held = λ s. refl;
    release = λ s. refl;
    keep = λ t alternate s m. refl;
  };
  restore = λ s c. refl;
  cut = λ n s. refl;
}

-- a world is its own image
own_levels : {C : Type 0} (ls : List (Level C)) → map (level_image (λ c. c)) ls ≡ ls
own_levels ls = map-id ls

own_processes : {S C : Type 0} (qs : List (Process S C)) → map (process_image (λ s. s) (λ c. c)) qs ≡ qs
own_processes [] = refl
own_processes (q ∷ qs) =
    ap₂ ◌∷◌ (ap (λ ls. record { state = q.state; levels = ls; at_line = q.at_line; status = q.status }) (own_levels q.levels)) (own_processes qs)

own_world : {S C M : Type 0} (w : World S C M) → world_image (λ s. s) (λ c. c) (λ m. m) w ≡ w
own_world w = ap (λ qs. record { processes = qs; talks = w.talks; memory = w.memory }) (own_processes w.processes)

abbrev Same : {S C M : Type 0} → Related S C M S C M
Same = Imaged (λ s. s) (λ c. c) (λ m. m)

abbrev SameMemory : {M : Type 0} → Shared M M
SameMemory = Memories (λ m. m)

worlds_same : {S C M : Type 0} (w v : World S C M) → WorldsMeet SameMemory Same w v → v ≡ w
worlds_same w v meets = is_world_image (λ s. s) (λ c. c) (λ m. m) w v meets ∙ own_world w

same_meets : {S C M : Type 0} (w : World S C M) → WorldsMeet SameMemory Same w w
same_meets w = subst (λ v. WorldsMeet SameMemory Same w v) (own_world w) (meets_image (λ s. s) (λ c. c) (λ m. m) w)

module _ {S C M : Type 0} {k : Kind S C M} {message : M → S → ℕ → ℕ → ℤ} {message_then : M → S → C → ℕ → ℕ → ℤ} {known : Knowing S C M}
    (reads : ReadsSame k message message_then known) where
  abbrev other : Kind S C M
  other = with_messages k message message_then

  reread_simulates : IsSimulation k other SameMemory Same known
  reread_simulates =
      let r : IsSimulation k k SameMemory Same nothing_known = image_simulates (own_image k) in
      record {
        plain = record {
          channels = r.channels;
          groups = r.groups;
          want = r.want;
          sent = r.sent;
          taken = r.taken;
          sent_then = r.sent_then;
          taken_then = r.taken_then;
          message = λ t p q w c sender receiver n ds u acts receipt memories e none more.
              reads.now t p q w c sender receiver acts receipt none more
              ∙ ap₂ (λ m s. message m s c (k.taken receiver.state c)) memories e.state;
          message_then = λ t p q w c sender receiver n ds u j x y acts receipt memories e some at at' more.
              reads.before t p q w c sender receiver j x acts receipt some at more
              ∙ ap₂ (λ m s. message_then m s x c (k.taken receiver.state c)) memories e.state
              ∙ ap (λ z. message_then n u z c (k.taken receiver.state c))
              (copy_there (λ z. z) (copies_of sender.levels) j x y at (ap (λ es. slice_get es j) e.copies ∙ at'));
          step = λ t p q w alternate message n ds u acts ready at memories e.
              r.step t p q w alternate message n ds u (record { knows = tt; runs = acts.runs; away = acts.away }) ready at memories e;
          enter = λ t p q w facts n ds u acts wants memories e.
              r.enter t p q w facts n ds u (record { knows = tt; runs = acts.runs; away = acts.away }) wants memories e;
          leave = r.leave;
          held = r.held;
          release = r.release;
        };
        back = r.back;
        fall = r.fall;
      }

  pub turn-reread : (t p : ℕ) (w : World S C M) → KnowsTurn known t p w → turn other t p w ≡ turn k t p w
  turn-reread t p w knows =
      let both = turn_meets reread_simulates t p w w knows (same_meets w) in
      λ i. (worlds_same _ _ both.worlds i, sym both.same_told i)

  pub run-reread : {holds : ℕ → World S C M → Type 0} → KeepsKnown k known holds → (t : ℕ) (turns : List ℕ) (w : World S C M) → holds t w
      → run other t turns w ≡ run k t turns w
  run-reread along t turns w holds =
      let both = run_meets reread_simulates along t turns w w holds (same_meets w) in
      λ i. (worlds_same _ _ both.worlds i, sym both.same_told i)

  ends_same : (x y : PlainEnd S C M) → EndsMeet SameMemory Same x y → y ≡ x
  ends_same (Ended w lines) (Ended v lines') e = λ i. Ended (worlds_same w v e.0 i) (sym e.1 i)
  ends_same (Ended w lines) (StuckAt t) e = absurd e
  ends_same (StuckAt t) (Ended v lines) e = absurd e
  ends_same (StuckAt t) (StuckAt t') e = ap StuckAt (sym e)

  pub plain_run-reread : {holds : World S C M → Type 0} → KeepsPlainKnown k known holds → (turns : List Kept) (w : World S C M) → holds w
      → plain_run other turns w ≡ plain_run k turns w
  plain_run-reread along turns w holds =
      ends_same _ _ (plain_run_meets reread_simulates.plain along turns w w holds (same_meets w))
