-- The work of rejections: touched places pay for what is put back, and nobody comes inside a conversation by one.
use Rattle.std.proofs.Common.{◌≡◌, ℕ, zero, suc, ◌+◌, ◌<◌, ◌≤◌, Bool, true, false, cond, ◌||◌, List, [], ◌∷◌, ◌++◌, length, map, take, drop, get_or, set, position, Option, Some, None, slice_get, refl, sym, ap, ◌∙◌, subst, arith}
use Rattle.std.specs.Prelude.{sum_by}
use Rattle.std.specs.List.{list_any}
use Rattle.std.proofs.lemmas.List.{map-append, take-append-drop, take_more}
use Rattle.std.proofs.lemmas.List.Folds.{list_any-append}
use Rattle.std.proofs.lemmas.List.Sums.{sum_by-append, sum_by-cons, sum_by-le-sum_by, sum_by_push}
use Rattle.rb_base.specs.declared.event.Cause.{Cause}
use Rattle.rb_base.specs.declared.event.Cause.TheVariants.{Inner}
use Rattle.rb_base.specs.declared.event.Event.{Event}
use Rattle.rb_base.specs.declared.event.Event.TheVariants.{Reject, RejectAll, Error, Pass, Done}
use Rattle.rb_world.specs.Kind.{Kind}
use Rattle.rb_world.specs.Reject.{at_place, back_to, fallen, fallen_inside, next_alternate, put_back, raised, where_inside}
use Rattle.rb_world.specs.World.{Level, Process, change_at, is_inside, is_of}
use Rattle.rb_code.specs.Instructions.Plain.{Code}
use Rattle.rb_code.specs.WordMachine.Turn.{Common, Copy, Standing}
use Rattle.rb_recoverable.specs.declared.level_view.LevelView.{LevelView}
use Rattle.rb_proc.specs.Process.{Seen, kind_of}
use Rattle.rb_recovery.specs.Rejections.{changed, rejection_of, told_of, tried_alone, tried_together}
use Rattle.rb_recovery.specs.Work.{Undoes, inside, inside_one, levels_put_back, put_back_by, touched_by, touched_in}
use Rattle.rb_recovery.specs.Worlds.{processes_of}

-- a number that each process has, summed over them, where one is written at its place
pub written : (n : Process Standing Copy → ℕ) (procs : List Seen) (p : ℕ) (d new : Seen) → p < length procs
    → sum_by n (processes_of (set procs p new)) + n (get_or procs p d).process ≡ sum_by n (processes_of procs) + n new.process
written n [] p d new h = absurd (omega arith)
written n (one ∷ procs) zero d new h =
    let before = sum_by-cons n one.process (processes_of procs) in
    let after = sum_by-cons n new.process (processes_of procs) in
    omega arith
written n (one ∷ procs) (suc p) d new h =
    let rest = written n procs p d new (omega arith) in
    let before = sum_by-cons n one.process (processes_of procs) in
    let after = sum_by-cons n one.process (processes_of (set procs p new)) in
    omega arith

-- and over the first of them, one more
pub first_more : (n : Process Standing Copy → ℕ) (procs : List Seen) (i : ℕ) (d : Seen) → i < length procs
    → sum_by n (processes_of (take (i + 1) procs)) ≡ sum_by n (processes_of (take i procs)) + n (get_or procs i d).process
first_more n procs i d h =
    ap (λ (first : List Seen). sum_by n (processes_of first)) (take_more procs i d h)
    ∙ ap (sum_by n) (map-append (λ (one : Seen). one.process) (take i procs) (get_or procs i d ∷ []))
    ∙ sum_by_push n (processes_of (take i procs)) (get_or procs i d).process

-- a change that makes no process's number greater
module _ (n : Process Standing Copy → ℕ) (f : Process Standing Copy → Process Standing Copy)
    (fewer : (q : Process Standing Copy) → n (f q) ≤ n q) where
  each_fewer : (procs : List Seen) → sum_by n (processes_of (map (changed f) procs)) ≤ sum_by n (processes_of procs)
  each_fewer [] = omega arith
  each_fewer (one ∷ procs) =
      let here = fewer one.process in
      let rest = each_fewer procs in
      let before = sum_by-cons n one.process (processes_of procs) in
      let after = sum_by-cons n (f one.process) (processes_of (map (changed f) procs)) in
      omega arith

  pub all_fewer : (procs procs' : List Seen) → procs' ≡ map (changed f) procs → sum_by n (processes_of procs') ≤ sum_by n (processes_of procs)
  all_fewer procs procs' same =
      subst (λ (later : List Seen). sum_by n (processes_of later) ≤ sum_by n (processes_of procs)) (sym same) (each_fewer procs)

  pub one_fewer : (procs : List Seen) (p : ℕ) (d new : Seen) → p < length procs → new ≡ changed f (get_or procs p d)
      → sum_by n (processes_of (set procs p new)) ≤ sum_by n (processes_of procs)
  one_fewer procs p d new within is =
      let sums = written n procs p d new within in
      let same = ap (λ (one : Seen). n one.process) is in
      let here = fewer (get_or procs p d).process in
      omega arith

-- who goes on to the next alternate has touched as much, and who has failed nothing
touched_at_place : (place : Option ℕ) (q : Process Standing Copy) → touched_by (at_place raised place q) ≤ touched_by q
touched_at_place None q = omega arith
touched_at_place (Some j) q = omega arith

pub touched_raised : (x : ℕ) (q : Process Standing Copy) → touched_by (where_inside raised x q) ≤ touched_by q
touched_raised x q = touched_at_place (position (is_of x) q.levels) q

pub touched_fallen : (c : Code) (cause : Cause) (q : Process Standing Copy) → touched_by (fallen (kind_of c) cause q) ≤ touched_by q
touched_fallen c cause q = omega arith

touched_if_fallen : (c : Code) (falls : Bool) (q : Process Standing Copy) → touched_by (cond falls (fallen (kind_of c) Inner q) q) ≤ touched_by q
touched_if_fallen c true q = omega arith
touched_if_fallen c false q = omega arith

pub touched_fallen_inside : (c : Code) (x : ℕ) (q : Process Standing Copy) → touched_by (fallen_inside (kind_of c) x q) ≤ touched_by q
touched_fallen_inside c x q = touched_if_fallen c (is_inside x q) q

-- the first of some levels are inside no conversation that all are not
fewer_levels : (x n : ℕ) (levels : List (Level Copy)) → cond (list_any (is_of x) (take n levels)) 1 0 ≤ cond (list_any (is_of x) levels) 1 0
fewer_levels x n levels =
    let parts = list_any-append (is_of x) (take n levels) (drop n levels) in
    subst (λ (b : Bool). cond (list_any (is_of x) (take n levels)) 1 0 ≤ cond b 1 0)
    (sym parts ∙ ap (list_any (is_of x)) (take-append-drop n levels))
    (either (list_any (is_of x) (take n levels)) (list_any (is_of x) (drop n levels)))
  where
    either : (a b : Bool) → cond a 1 0 ≤ cond (a || b) 1 0
    either true b = omega arith
    either false b = omega arith

-- nor is a level that goes on to its next alternate
same_levels : (x j : ℕ) (levels : List (Level Copy)) → list_any (is_of x) (change_at j next_alternate levels) ≡ list_any (is_of x) levels
same_levels x j [] = refl
same_levels x zero (level ∷ levels) = refl
same_levels x (suc j) (level ∷ levels) = ap (λ (b : Bool). is_of x level || b) (same_levels x j levels)

module _ (k : Kind Standing Copy Common) (x : ℕ) where
  inside_raised : (j : ℕ) (q : Process Standing Copy) → inside_one x (raised j q) ≤ inside_one x q
  inside_raised j q =
      let same : inside_one x (raised j q) ≡ inside_one x q = ap (λ (b : Bool). cond b 1 0) (same_levels x j q.levels) in
      omega arith

  inside_back : (j : ℕ) (q : Process Standing Copy) (level : Option (Level Copy)) → inside_one x (back_to k j q level) ≤ inside_one x q
  inside_back j q None = omega arith
  inside_back j q (Some level) = fewer_levels x (j + 1) q.levels

  inside_put_back : (j : ℕ) (q : Process Standing Copy) → inside_one x (put_back k j q) ≤ inside_one x q
  inside_put_back j q = inside_back j q (slice_get q.levels j)

  inside_at_place : (f : ℕ → Process Standing Copy → Process Standing Copy)
      → ((j : ℕ) (q : Process Standing Copy) → inside_one x (f j q) ≤ inside_one x q)
      → (place : Option ℕ) (q : Process Standing Copy) → inside_one x (at_place f place q) ≤ inside_one x q
  inside_at_place f fewer None q = omega arith
  inside_at_place f fewer (Some j) q = fewer j q

  inside_where : (f : ℕ → Process Standing Copy → Process Standing Copy)
      → ((j : ℕ) (q : Process Standing Copy) → inside_one x (f j q) ≤ inside_one x q)
      → (c : ℕ) (q : Process Standing Copy) → inside_one x (where_inside f c q) ≤ inside_one x q
  inside_where f fewer c q = inside_at_place f fewer (position (is_of c) q.levels) q

  inside_if_fallen : (falls : Bool) (q : Process Standing Copy) → inside_one x (cond falls (fallen k Inner q) q) ≤ inside_one x q
  inside_if_fallen true q = omega arith
  inside_if_fallen false q = omega arith

  -- a level that goes back alone
  pub inside_alone : (more : Bool) (j : ℕ) (q : Process Standing Copy) → inside_one x (tried_alone k more j q) ≤ inside_one x q
  inside_alone true j q = let a = inside_raised j (put_back k j q) in let b = inside_put_back j q in omega arith
  inside_alone false j q = inside_put_back j q

  -- and with all that are inside its conversation
  pub inside_together : (more lone : Bool) (c : ℕ) (q : Process Standing Copy) → inside_one x (tried_together k more lone c q) ≤ inside_one x q
  inside_together true lone c q =
      let a = inside_where raised inside_raised c (where_inside (put_back k) c q) in
      let b = inside_where (put_back k) inside_put_back c q in
      omega arith
  inside_together false true c q =
      let back = where_inside (put_back k) c q in
      let a = inside_if_fallen (is_inside c back) back in
      let b = inside_where (put_back k) inside_put_back c q in
      omega arith
  inside_together false false c q = inside_where (put_back k) inside_put_back c q

-- one process more of those that go back to their level of a conversation
pub one_back : (x : ℕ) (xs ys : List Seen) (i : ℕ) (d new : Seen) (ticks now later : ℕ) → i < length xs → length ys ≡ length xs
    → get_or ys i d ≡ get_or xs i d → now + touched_in (processes_of ys) ≤ ticks + touched_in (processes_of xs) + inside x (processes_of (take i xs))
    → later + touched_by new.process ≤ now + touched_by (get_or ys i d).process + inside_one x (get_or ys i d).process
    → later + touched_in (processes_of (set ys i new)) ≤ ticks + touched_in (processes_of xs) + inside x (processes_of (take (i + 1) xs))
one_back x xs ys i d new ticks now later within long same so_far one =
    let places = written touched_by ys i d new (omega arith) in
    let more = first_more (inside_one x) xs i d within in
    let here = ap (λ (one : Seen). inside_one x one.process) same in
    omega arith

-- a rejection pays by the levels that its event puts back
module _ (procs : List Seen) (p : ℕ) (view : LevelView) (cause : Cause) (event : Event) (events events' : List Event)
    (is_event : event ≡ rejection_of p view cause) (added : events' ≡ events ++ event ∷ []) (ticks ticks' : ℕ) where
  one_event : levels_put_back (processes_of procs) events' ≡ levels_put_back (processes_of procs) events + put_back_by (processes_of procs) event
  one_event = ap (levels_put_back (processes_of procs)) added ∙ sum_by_push (put_back_by (processes_of procs)) events event

  told_as : (conversation : Option ℕ) → view.conversation ≡ conversation
      → put_back_by (processes_of procs) event ≡ put_back_by (processes_of procs) (told_of p view cause conversation)
  told_as conversation e = ap (put_back_by (processes_of procs)) (is_event ∙ ap (told_of p view cause) e)

  pub alone_undoes : (d new : Seen) → p < length procs → view.conversation ≡ None
      → ticks' + touched_by new.process ≤ ticks + touched_by (get_or procs p d).process + 1
      → Undoes ticks ticks' (processes_of procs) events (processes_of (set procs p new)) events'
  alone_undoes d new within alone paid =
      let told = one_event in
      let one = told_as None alone in
      let places = written touched_by procs p d new within in
      omega arith

  pub together_undoes : (x : ℕ) (procs' : List Seen) → view.conversation ≡ Some x
      → ticks' + touched_in (processes_of procs') ≤ ticks + touched_in (processes_of procs) + inside x (processes_of procs)
      → Undoes ticks ticks' (processes_of procs) events (processes_of procs') events'
  together_undoes x procs' of_x paid =
      let told = one_event in
      let all = told_as (Some x) of_x in
      omega arith

-- where no more are inside conversations, as many events put no more levels back
module _ (before middle : List (Process Standing Copy)) (fewer : (x : ℕ) → inside x middle ≤ inside x before) where
  event_fewer : (event : Event) → put_back_by middle event ≤ put_back_by before event
  event_fewer (Reject p line alternate cause) = omega arith
  event_fewer (RejectAll x alternate by cause) = fewer x
  event_fewer (Error p cause) = omega arith
  event_fewer (Pass x alternate) = omega arith
  event_fewer (Done p) = omega arith

  -- so a rejection pays, and then what follows from it
  pub undoes_further : (after : List (Process Standing Copy)) (events events' more events'' : List Event) (ticks ticks' ticks'' : ℕ)
      → events'' ≡ events' ++ more → Undoes ticks ticks' before events middle events' → Undoes ticks' ticks'' middle events' after events''
      → Undoes ticks ticks'' before events after events''
  undoes_further after events events' more events'' ticks ticks' ticks'' added first further =
      let few = sum_by-le-sum_by (put_back_by middle) (put_back_by before) more event_fewer in
      let here = ap (levels_put_back middle) added ∙ sum_by-append (put_back_by middle) events' more in
      let there = ap (levels_put_back before) added ∙ sum_by-append (put_back_by before) events' more in
      omega arith
