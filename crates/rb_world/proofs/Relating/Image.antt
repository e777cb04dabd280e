-- Images: functions of states, copies and memories that commute with all that a turn asks of a kind carry worlds to worlds.
use Rattle.std.proofs.Common.{◌≡◌, ℕ, ℤ, map, option_map, Option}
use Rattle.rb_world.specs.Kind.{Kind, Stepped, Trapped, Went, Held}
use Rattle.rb_world.specs.World.{Level, Process, World}
use Rattle.rb_world.specs.Plain.{PlainEnd, Ended, StuckAt}

abbrev pub stepped_image : {S M T N : Type 0} → (S → T) → (M → N) → Stepped S M → Stepped T N
stepped_image on_state on_memory (Trapped cause) = Trapped cause
stepped_image on_state on_memory (Went s m) = Went (on_state s) (on_memory m)
stepped_image on_state on_memory (Held s) = Held (on_state s)

-- what a plain run needs, in which nothing is put back
pub record IsPlainImage {S C M T D N : Type 0} (k : Kind S C M) (l : Kind T D N) (on_state : S → T) (on_copy : C → D)
    (on_memory : M → N) : Type 0 where
  pub channels : k.channels ≡ l.channels
  pub groups : k.groups ≡ l.groups
  pub want : (s : S) → l.want (on_state s) ≡ k.want s
  pub settle : (c : Option C) (s : S) → l.settle (option_map on_copy c) (on_state s) ≡ on_state (k.settle c s)
  pub enter : (s : S) → l.enter (on_state s) ≡ on_state (k.enter s)
  pub copy : (s : S) → l.copy (on_state s) ≡ on_copy (k.copy s)
  pub accept : (s : S) → l.accept (on_state s) ≡ on_state (k.accept s)
  pub step : (alternate : ℕ) (c : Option C) (s : S) (message : Option ℤ) (m : M)
      → l.step alternate (option_map on_copy c) (on_state s) message (on_memory m) ≡ stepped_image on_state on_memory (k.step alternate c s message m)
  pub sent : (s : S) (c : ℕ) → l.sent (on_state s) c ≡ k.sent s c
  pub taken : (s : S) (c : ℕ) → l.taken (on_state s) c ≡ k.taken s c
  pub sent_then : (s : S) (x : C) (c : ℕ) → l.sent_then (on_state s) (on_copy x) c ≡ k.sent_then s x c
  pub taken_then : (s : S) (x : C) (c : ℕ) → l.taken_then (on_state s) (on_copy x) c ≡ k.taken_then s x c
  pub message : (m : M) (s : S) (c i : ℕ) → l.message (on_memory m) (on_state s) c i ≡ k.message m s c i
  pub message_then : (m : M) (s : S) (x : C) (c i : ℕ) → l.message_then (on_memory m) (on_state s) (on_copy x) c i ≡ k.message_then m s x c i
  pub held : (s : S) → l.held (on_state s) ≡ k.held s
  pub release : (s : S) → l.release (on_state s) ≡ on_state (k.release s)
  pub keep : (t alternate : ℕ) (s : S) (m : M)
      → l.keep t alternate (on_state s) (on_memory m) ≡ (on_state (k.keep t alternate s m).0, on_memory (k.keep t alternate s m).1)

-- and what rejections need
pub record IsImage {S C M T D N : Type 0} (k : Kind S C M) (l : Kind T D N) (on_state : S → T) (on_copy : C → D) (on_memory : M → N) : Type 0 where
  pub plain : IsPlainImage k l on_state on_copy on_memory
  pub open plain use *
  pub restore : (s : S) (c : C) → l.restore (on_state s) (on_copy c) ≡ on_state (k.restore s c)
  pub cut : (n : ℕ) (s : S) → l.cut n (on_state s) ≡ on_state (k.cut n s)

-- the image of a level, a process, a world
abbrev pub level_image : {C D : Type 0} → (C → D) → Level C → Level D
level_image on_copy level = record { facts = level.facts; alternate = level.alternate; used = level.used; copy = on_copy level.copy }

abbrev pub process_image : {S C T D : Type 0} → (S → T) → (C → D) → Process S C → Process T D
process_image on_state on_copy q = record {
  state = on_state q.state;
  levels = map (level_image on_copy) q.levels;
  at_line = q.at_line;
  status = q.status;
}

abbrev pub world_image : {S C M T D N : Type 0} → (S → T) → (C → D) → (M → N) → World S C M → World T D N
world_image on_state on_copy on_memory w = record {
  processes = map (process_image on_state on_copy) w.processes;
  talks = w.talks;
  memory = on_memory w.memory;
}

-- the image of what a turn, a run, a kept turn and a plain run come to
abbrev pub turn_image : {S C M T D N X : Type 0} → (S → T) → (C → D) → (M → N) → World S C M × X → World T D N × X
turn_image on_state on_copy on_memory x = (world_image on_state on_copy on_memory x.0, x.1)

abbrev pub end_image : {S C M T D N : Type 0} → (S → T) → (C → D) → (M → N) → PlainEnd S C M → PlainEnd T D N
end_image on_state on_copy on_memory (Ended w lines) = Ended (world_image on_state on_copy on_memory w) lines
end_image on_state on_copy on_memory (StuckAt t) = StuckAt t
