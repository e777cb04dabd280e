-- Related processes and related worlds, and the changes that keep them so.
use Rattle.std.proofs.Common.{◌≡◌, ◌≢◌, ℕ, ◌+◌, zero, suc, pred, Bool, true, false, cond, List, [], ◌∷◌, map, position, slice_get, take, Option, Some, None, refl, sym, ap, ap₂, ◌∙◌, subst, subst₂, true≢false, add-one, suc-ne-zero, option_map, ◌&&◌}
use Rattle.rb_base.specs.declared.event.Cause.{Cause}
use Rattle.rb_base.specs.declared.event.Cause.TheVariants.{Inner}
use Rattle.rb_world.specs.Kind.{Kind}
use Rattle.rb_world.specs.World.{Level, Process, World, change_at, goes_on, is_inside, is_of, last_of, settled, status_at, without_last, copy_of}
use Rattle.rb_world.specs.Reject.{at_place, back_to, fallen, fallen_inside, put_back, raised, where_inside}
use Rattle.rb_world.specs.Turn.{freed, leaves, lines_freed, stands_at, stands_now, state_freed, turn_used}
use Rattle.rb_world.proofs.ListFacts.{first_holds}
use Rattle.rb_world.proofs.Relating.Simulation.{Shared, Related, Knowing, copies_of, IsPlainSimulation, IsSimulation}
use Rattle.rb_world.proofs.Relating.MarksMeet.{OptionsMeet, SameMark, SameMarks, same_of, same_any, same_position, same_last_of, get_marks, last_marks, used_marks, next_marks, take_marks, front_marks, copies-used, copies-next, copies-take, copies-front, copies-get, last-front}

pub record ProcessesMeet {S C M T D N : Type 0} (related : Related S C M T D N) (m : M) (n : N) (q : Process S C) (r : Process T D) : Type 0 where
  pub states : related q.at_line m n (copies_of q.levels) q.state (copies_of r.levels) r.state
  pub marks : SameMarks q.levels r.levels
  pub lines : q.at_line ≡ r.at_line
  pub statuses : q.status ≡ r.status

abbrev pub AllMeet : {S C M T D N : Type 0} → Related S C M T D N → M → N → List (Process S C) → List (Process T D) → Type 0
AllMeet related m n [] [] = Unit {0}
AllMeet related m n [] (r ∷ rs) = ⊥
AllMeet related m n (q ∷ qs) [] = ⊥
AllMeet related m n (q ∷ qs) (r ∷ rs) = ProcessesMeet related m n q r × AllMeet related m n qs rs

pub record WorldsMeet {S C M T D N : Type 0} (shared : Shared M N) (related : Related S C M T D N) (w : World S C M) (v : World T D N) : Type 0 where
  pub memories : shared w.memory v.memory
  pub processes : AllMeet related w.memory v.memory w.processes v.processes
  pub talks : w.talks ≡ v.talks

-- where one test goes, the other goes too
pub cond_meets : {X Y : Type 0} (R : X → Y → Type 0) {x x' : X} {y y' : Y} (b d : Bool) → b ≡ d
    → (b ≡ true → R x y) → (b ≡ false → R x' y') → R (cond b x x') (cond d y y')
cond_meets R true true e one other = one refl
cond_meets R true false e one other = absurd (true≢false e)
cond_meets R false true e one other = absurd (true≢false (sym e))
cond_meets R false false e one other = other refl

-- all processes at once, looked up or changed
module _ {S C M T D N : Type 0} (related : Related S C M T D N) where
  pub get_meets : (m : M) (n : N) (qs : List (Process S C)) (rs : List (Process T D)) (p : ℕ) → AllMeet related m n qs rs
      → OptionsMeet (ProcessesMeet related m n) (slice_get qs p) (slice_get rs p)
  get_meets m n [] [] p e = tt
  get_meets m n [] (r ∷ rs) p e = absurd e
  get_meets m n (q ∷ qs) [] p e = absurd e
  get_meets m n (q ∷ qs) (r ∷ rs) zero e = e.0
  get_meets m n (q ∷ qs) (r ∷ rs) (suc p) e = get_meets m n qs rs p e.1

  pub map_meets : (m : M) (n : N) (m' : M) (n' : N) (f : Process S C → Process S C) (g : Process T D → Process T D)
      (qs : List (Process S C)) (rs : List (Process T D))
      → ((i : ℕ) (q : Process S C) (r : Process T D) → slice_get qs i ≡ Some q → ProcessesMeet related m n q r
      → ProcessesMeet related m' n' (f q) (g r))
      → AllMeet related m n qs rs → AllMeet related m' n' (map f qs) (map g rs)
  map_meets m n m' n' f g [] [] one e = tt
  map_meets m n m' n' f g [] (r ∷ rs) one e = absurd e
  map_meets m n m' n' f g (q ∷ qs) [] one e = absurd e
  map_meets m n m' n' f g (q ∷ qs) (r ∷ rs) one e =
      (one 0 q r refl e.0, map_meets m n m' n' f g qs rs (λ i. one (suc i)) e.1)

  carry_meets : (m : M) (n : N) (m' : M) (n' : N) (qs : List (Process S C)) (rs : List (Process T D))
      → ((i : ℕ) (q : Process S C) (r : Process T D) → slice_get qs i ≡ Some q → ProcessesMeet related m n q r → ProcessesMeet related m' n' q r)
      → AllMeet related m n qs rs → AllMeet related m' n' qs rs
  carry_meets m n m' n' [] [] one e = tt
  carry_meets m n m' n' [] (r ∷ rs) one e = absurd e
  carry_meets m n m' n' (q ∷ qs) [] one e = absurd e
  carry_meets m n m' n' (q ∷ qs) (r ∷ rs) one e =
      (one 0 q r refl e.0, carry_meets m n m' n' qs rs (λ i. one (suc i)) e.1)

  pub change_meets : (m : M) (n : N) (m' : M) (n' : N) (p : ℕ) (f : Process S C → Process S C)
      (g : Process T D → Process T D) (qs : List (Process S C)) (rs : List (Process T D))
      → ((i : ℕ) (q : Process S C) (r : Process T D) → i ≢ p → slice_get qs i ≡ Some q → ProcessesMeet related m n q r
      → ProcessesMeet related m' n' q r)
      → ((q : Process S C) (r : Process T D) → slice_get qs p ≡ Some q → slice_get rs p ≡ Some r
      → ProcessesMeet related m n q r → ProcessesMeet related m' n' (f q) (g r))
      → AllMeet related m n qs rs → AllMeet related m' n' (change_at p f qs) (change_at p g rs)
  change_meets m n m' n' p f g [] [] others one e = tt
  change_meets m n m' n' p f g [] (r ∷ rs) others one e = absurd e
  change_meets m n m' n' p f g (q ∷ qs) [] others one e = absurd e
  change_meets m n m' n' zero f g (q ∷ qs) (r ∷ rs) others one e =
      (one q r refl refl e.0, carry_meets m n m' n' qs rs (λ i x y. others (suc i) x y (suc-ne-zero i)) e.1)
  change_meets m n m' n' (suc p) f g (q ∷ qs) (r ∷ rs) others one e = (
    others 0 q r (λ z. suc-ne-zero p (sym z)) refl e.0,
    change_meets m n m' n' p f g qs rs (λ i x y ne. others (suc i) x y (λ z. ne (ap pred z))) one e.1,
  )

-- changes of one process that need no law
module _ {S C M T D N : Type 0} (related : Related S C M T D N) where
  -- copies written another way
  pub rewritten : {line : Bool} {m : M} {n : N} {cs cs' : List C} {s : S} {ds ds' : List D} {u : T} → cs ≡ cs' → ds ≡ ds'
      → related line m n cs s ds u → related line m n cs' s ds' u
  rewritten {line} {m} {n} {cs} {cs'} {s} {ds} {ds'} {u} e f = subst₂ (λ (x : List C) (y : List D). related line m n x s y u) e f

  pub used_meets : (m : M) (n : N) (q : Process S C) (r : Process T D) → ProcessesMeet related m n q r
      → ProcessesMeet related m n (turn_used q) (turn_used r)
  used_meets m n q r meets = record {
    states = rewritten (sym (copies-used q.levels)) (sym (copies-used r.levels)) meets.states;
    marks = used_marks q.levels r.levels meets.marks;
    lines = meets.lines;
    statuses = meets.statuses;
  }

  pub raised_meets : (m : M) (n : N) (j : ℕ) (q : Process S C) (r : Process T D) → ProcessesMeet related m n q r
      → ProcessesMeet related m n (raised j q) (raised j r)
  raised_meets m n j q r meets = record {
    states = rewritten (sym (copies-next j q.levels)) (sym (copies-next j r.levels)) meets.states;
    marks = next_marks j q.levels r.levels meets.marks;
    lines = meets.lines;
    statuses = meets.statuses;
  }

  -- whoever has a level of a conversation
  at_place_meets : (m : M) (n : N) (f : ℕ → Process S C → Process S C) (g : ℕ → Process T D → Process T D)
      → ((j : ℕ) (q : Process S C) (r : Process T D) → ProcessesMeet related m n q r → ProcessesMeet related m n (f j q) (g j r))
      → (place : Option ℕ) (q : Process S C) (r : Process T D) → ProcessesMeet related m n q r
      → ProcessesMeet related m n (at_place f place q) (at_place g place r)
  at_place_meets m n f g one None q r meets = meets
  at_place_meets m n f g one (Some j) q r meets = one j q r meets

  pub where_inside_meets : (m : M) (n : N) (f : ℕ → Process S C → Process S C) (g : ℕ → Process T D → Process T D)
      → ((j : ℕ) (q : Process S C) (r : Process T D) → ProcessesMeet related m n q r → ProcessesMeet related m n (f j q) (g j r))
      → (c : ℕ) (q : Process S C) (r : Process T D) → ProcessesMeet related m n q r
      → ProcessesMeet related m n (where_inside f c q) (where_inside g c r)
  where_inside_meets m n f g one c q r meets =
      subst (λ (place : Option ℕ). ProcessesMeet related m n (where_inside f c q) (at_place g place r))
      (same_position (is_of c) (is_of c) (same_of c) q.levels r.levels meets.marks)
      (at_place_meets m n f g one (position (is_of c) q.levels) q r meets)

  -- the test line
  pub same_stand : (m : M) (n : N) (c : ℕ) (q : Process S C) (r : Process T D) → ProcessesMeet related m n q r → stands_at c q ≡ stands_at c r
  same_stand m n c q r meets =
      ap₂ ◌&&◌ meets.lines (same_last_of c (last_of q.levels) (last_of r.levels) (last_marks q.levels r.levels meets.marks))

  pub stands_now_meets : (m : M) (n : N) (s : S) (ls : List (Level C)) (u : T) (ms : List (Level D)) → SameMarks ls ms
      → related true m n (copies_of ls) s (copies_of ms) u → ProcessesMeet related m n (stands_now s ls) (stands_now u ms)
  stands_now_meets m n s ls u ms e meets = record { states = meets; marks = e; lines = refl; statuses = refl }

-- changes under the laws of plain runs
module _ {S C M T D N : Type 0} {k : Kind S C M} {l : Kind T D N} {shared : Shared M N} {related : Related S C M T D N} {known : Knowing S C M}
    (laws : IsPlainSimulation k l shared related known) where
  -- who goes on
  pub goes_on_meets : (m : M) (n : N) (s : S) (ls : List (Level C)) (u : T) (ms : List (Level D)) → SameMarks ls ms
      → related false m n (copies_of ls) s (copies_of ms) u → ProcessesMeet related m n (goes_on k s ls) (goes_on l u ms)
  goes_on_meets m n s ls u ms e meets = record {
    states = meets;
    marks = e;
    lines = refl;
    statuses = ap status_at (laws.want m n (copies_of ls) s (copies_of ms) u meets);
  }

  pub left_meets : (m : M) (n : N) (s : S) (ls : List (Level C)) (u : T) (ms : List (Level D)) → SameMarks ls ms
      → related true m n (copies_of ls) s (copies_of ms) u
      → ProcessesMeet related m n (settled k (k.accept s) (without_last ls)) (settled l (l.accept u) (without_last ms))
  left_meets m n s ls u ms e meets =
      let cs = copies_of (without_last ls) in
      let ds = copies_of (without_last ms) in
      goes_on_meets m n (k.settle (copy_of (last_of (without_last ls))) (k.accept s)) (without_last ls)
      (l.settle (copy_of (last_of (without_last ms))) (l.accept u)) (without_last ms) (front_marks ls ms e)
      (subst₂ (λ (x : Option C) (y : Option D). related false m n cs (k.settle x (k.accept s)) ds (l.settle y (l.accept u)))
      (sym (last-front ls)) (sym (last-front ms))
      (rewritten related (sym (copies-front ls)) (sym (copies-front ms)) (laws.leave m n (copies_of ls) s (copies_of ms) u meets)))

  stood : (q : Process S C) (c : ℕ) → stands_at c q ≡ true → q.at_line ≡ true
  stood q c e = first_holds q.at_line _ e

  pub leaves_meets : (m : M) (n : N) (c : ℕ) (q : Process S C) (r : Process T D) → ProcessesMeet related m n q r
      → ProcessesMeet related m n (leaves k c q) (leaves l c r)
  leaves_meets m n c q r meets =
      cond_meets (ProcessesMeet related m n) (stands_at c q) (stands_at c r) (same_stand related m n c q r meets)
      (λ there. left_meets m n q.state q.levels r.state r.levels meets.marks
      (subst (λ (line : Bool). related line m n (copies_of q.levels) q.state (copies_of r.levels) r.state) (stood q c there) meets.states))
      (λ _. meets)

  -- release
  freed_states : (line : Bool) (m : M) (n : N) (s : S) (ls : List (Level C)) (u : T) (ms : List (Level D)) → SameMarks ls ms
      → related line m n (copies_of ls) s (copies_of ms) u
      → related line m n (copies_of ls) (state_freed k s ls) (copies_of ms) (state_freed l u ms)
  freed_states line m n s [] u [] e meets = laws.release line m n s u meets
  freed_states line m n s [] u (y ∷ ms) e meets = absurd e
  freed_states line m n s (x ∷ ls) u [] e meets = absurd e
  freed_states line m n s (x ∷ ls) u (y ∷ ms) e meets = meets

  freed_same : (line : Bool) (m : M) (n : N) (s : S) (ls : List (Level C)) (u : T) (ms : List (Level D)) → SameMarks ls ms
      → related line m n (copies_of ls) s (copies_of ms) u → lines_freed k s ls ≡ lines_freed l u ms
  freed_same line m n s [] u [] e meets = laws.held line m n s u meets
  freed_same line m n s [] u (y ∷ ms) e meets = absurd e
  freed_same line m n s (x ∷ ls) u [] e meets = absurd e
  freed_same line m n s (x ∷ ls) u (y ∷ ms) e meets = refl

  pub freed_meets : (m : M) (n : N) (q : Process S C) (r : Process T D) → ProcessesMeet related m n q r
      → ProcessesMeet related m n (freed k q) (freed l r)
  freed_meets m n q r meets = record {
    states = freed_states q.at_line m n q.state q.levels r.state r.levels meets.marks meets.states;
    marks = meets.marks;
    lines = meets.lines;
    statuses = meets.statuses;
  }

  pub all_freed : (m : M) (n : N) (qs : List (Process S C)) (rs : List (Process T D)) → AllMeet related m n qs rs
      → map (λ (q : Process S C). lines_freed k q.state q.levels) qs ≡ map (λ (r : Process T D). lines_freed l r.state r.levels) rs
  all_freed m n [] [] e = refl
  all_freed m n [] (r ∷ rs) e = absurd e
  all_freed m n (q ∷ qs) [] e = absurd e
  all_freed m n (q ∷ qs) (r ∷ rs) e =
      ap₂ ◌∷◌ (freed_same q.at_line m n q.state q.levels r.state r.levels e.0.marks e.0.states) (all_freed m n qs rs e.1)

-- rejections
module _ {S C M T D N : Type 0} {k : Kind S C M} {l : Kind T D N} {shared : Shared M N} {related : Related S C M T D N} {known : Knowing S C M}
    (laws : IsSimulation k l shared related known) where
  pub fallen_meets : (m : M) (n : N) (cause : Cause) (q : Process S C) (r : Process T D) → q.at_line ≡ false → ProcessesMeet related m n q r
      → ProcessesMeet related m n (fallen k cause q) (fallen l cause r)
  fallen_meets m n cause q r away meets = record {
    states = laws.fall m n (copies_of q.levels) q.state (copies_of r.levels) r.state
        (subst (λ (line : Bool). related line m n (copies_of q.levels) q.state (copies_of r.levels) r.state) away meets.states);
    marks = tt;
    lines = refl;
    statuses = refl;
  }

  get_copy : (X : Type 0) (ls : List (Level X)) (j : ℕ) (x : Level X) → slice_get ls j ≡ Some x → slice_get (copies_of ls) j ≡ Some x.copy
  get_copy X ls j x e = copies-get ls j ∙ ap (option_map (λ (y : Level X). y.copy)) e

  back_to_meets : (m : M) (n : N) (j : ℕ) (q : Process S C) (r : Process T D) → ProcessesMeet related m n q r
      → (x : Option (Level C)) (y : Option (Level D)) → slice_get q.levels j ≡ x → slice_get r.levels j ≡ y → OptionsMeet SameMark x y
      → ProcessesMeet related m n (back_to k j q x) (back_to l j r y)
  back_to_meets m n j q r meets None None e f same = meets
  back_to_meets m n j q r meets None (Some y) e f same = absurd same
  back_to_meets m n j q r meets (Some x) None e f same = absurd same
  back_to_meets m n j q r meets (Some x) (Some y) e f same = record {
    states = subst
        (λ (i : ℕ). related false m n (copies_of (take i q.levels)) (k.restore (k.cut i q.state) x.copy)
        (copies_of (take i r.levels)) (l.restore (l.cut i r.state) y.copy))
        (sym (add-one j))
        (rewritten related (sym (copies-take (suc j) q.levels)) (sym (copies-take (suc j) r.levels))
        (laws.back q.at_line m n (copies_of q.levels) q.state (copies_of r.levels) r.state j x.copy y.copy meets.states
        (get_copy C q.levels j x e) (get_copy D r.levels j y f)));
    marks = take_marks (j + 1) q.levels r.levels meets.marks;
    lines = refl;
    statuses = meets.statuses;
  }

  pub put_back_meets : (m : M) (n : N) (j : ℕ) (q : Process S C) (r : Process T D) → ProcessesMeet related m n q r
      → ProcessesMeet related m n (put_back k j q) (put_back l j r)
  put_back_meets m n j q r meets =
      back_to_meets m n j q r meets (slice_get q.levels j) (slice_get r.levels j) refl refl (get_marks q.levels r.levels j meets.marks)

  pub fallen_inside_meets : (m : M) (n : N) (c : ℕ) (q : Process S C) (r : Process T D) → (is_inside c q ≡ true → q.at_line ≡ false)
      → ProcessesMeet related m n q r → ProcessesMeet related m n (fallen_inside k c q) (fallen_inside l c r)
  fallen_inside_meets m n c q r away meets =
      cond_meets (ProcessesMeet related m n) (is_inside c q) (is_inside c r) (same_any (is_of c) (is_of c) (same_of c) q.levels r.levels meets.marks)
      (λ inside. fallen_meets m n Inner q r (away inside) meets) (λ _. meets)
