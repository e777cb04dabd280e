-- Every run of every kind of process state keeps its processes and conversations, no more than the most levels, and none of
-- a process that has failed.
use Rattle.std.proofs.Common.{◌≡◌, ◌≤◌, ◌+◌, ℕ, suc, Bool, true, false, List, [], ◌∷◌, length, map, slice_get, take, Option, Some, None, refl, sym, ap, ◌∙◌, true≢false, add-one, arith, length-append, length-take}
use Rattle.std.proofs.lemmas.List.{length-map}
use Rattle.rb_world.specs.Kind.{Kind, Membership, Want, NothingLeft, SendsOn, ReceivesOn, MayReceiveOn, Enters, Starts, Acts}
use Rattle.rb_world.specs.World.{Level, Process, Talk, World, change_at, status_at, copy_of, last_of, without_last}
use Rattle.rb_world.specs.Reject.{back_to, first_again, next_alternate, next_talk, broken_talk, reset_below, reset_from}
use Rattle.rb_world.specs.Turn.{most_levels, new_level, one_used, opening, run}
use Rattle.rb_world.proofs.Keeping.Invariant.{IsInvariant}
use Rattle.rb_world.proofs.Keeping.Induction.{run-keeps}
use Rattle.rb_world.proofs.Keeping.EachProcess.{KeepsEach, each_opening_run}
use Rattle.rb_world.specs.Standing.{HasSize, IsShallow, is_failed, IsBareIfFailed, IsStanding}
use Rattle.rb_world.proofs.ListFacts.{length-change_at, length-without_last}

length-reset_from : (below : ℕ → Bool) (d : ℕ) (talks : List Talk) → length (reset_from below d talks) ≡ length talks
length-reset_from below d [] = refl
length-reset_from below d (talk ∷ talks) = ap suc (length-reset_from below (d + 1) talks)

length-reset_below : (groups : List Membership) (c : ℕ) (talks : List Talk) → length (reset_below groups c talks) ≡ length talks
length-reset_below groups c talks = length-reset_from _ 0 talks

module _ {S C M : Type 0} (k : Kind S C M) (n m : ℕ) where
  one_process : (w : World S C M) (p : ℕ) (f : Process S C → Process S C) → HasSize n m w → length (change_at p f w.processes) ≡ n
  one_process w p f h = length-change_at p f w.processes ∙ h.of_processes

  each_process : (w : World S C M) (f : Process S C → Process S C) → HasSize n m w → length (map f w.processes) ≡ n
  each_process w f h = length-map w.processes f ∙ h.of_processes

  one_talk : (talks : List Talk) (c : ℕ) (f : Talk → Talk) → length talks ≡ m → length (change_at c f talks) ≡ m
  one_talk talks c f h = length-change_at c f talks ∙ h

  all_reset : (w : World S C M) (c : ℕ) → HasSize n m w → length (reset_below k.groups c w.talks) ≡ m
  all_reset w c h = length-reset_below k.groups c w.talks ∙ h.of_talks

  pub size_kept : IsInvariant k (λ _ _ w. HasSize n m w) (λ _ _ _ _ w. HasSize n m w) (λ _ _ w. HasSize n m w)
  size_kept = record {
    rests = λ t past w h. h;
    uses = λ t past p q w h r. record { of_processes = one_process w p _ h; of_talks = h.of_talks };
    overruns = λ t past p q w j h r e. h;
    waits = λ t past p q w h r e. h;
    goes = λ t past p q w a v s x h at e. record { of_processes = one_process w p _ h; of_talks = h.of_talks };
    opens = λ t past p q w f a h at. record { of_processes = one_process w p _ h; of_talks = h.of_talks };
    accepts = λ t past p q w a v s l h at e _ _. record { of_processes = one_process w p _ h; of_talks = h.of_talks };
    stands = λ t past p q w a v s l c h at e _ _ _. record { of_processes = one_process w p _ h; of_talks = h.of_talks };
    leaves = λ t past p q w a v s l c h at e _ _ _. record {
      of_processes = length-map _ _ ∙ one_process w p _ h;
      of_talks = one_talk w.talks c first_again h.of_talks;
    };
    falls = λ t past p q w left cause h r why. record { of_processes = one_process w p _ h; of_talks = h.of_talks };
    tries_next = λ t past p q w j l h r x y. record {
      of_processes = length-change_at p _ _ ∙ one_process w p _ h;
      of_talks = h.of_talks;
    };
    is_spent = λ t past p q w j l h r x y. record { of_processes = one_process w p _ h; of_talks = h.of_talks };
    all_try_next = λ t past p q w j l c h r x y. record {
      of_processes = length-map _ _ ∙ each_process w _ h;
      of_talks = one_talk (reset_below k.groups c w.talks) c next_talk (all_reset w c h);
    };
    all_are_spent = λ t past p q w j l c d h r x y z. record {
      of_processes = each_process w _ h;
      of_talks = one_talk (reset_below k.groups c w.talks) c first_again (all_reset w c h);
    };
    breaks = λ t past p q w j l c h r x y z. record {
      of_processes = length-map _ _ ∙ each_process w _ h;
      of_talks = one_talk (reset_below k.groups c w.talks) c broken_talk (all_reset w c h);
    };
    is_gone = λ t past p q w j h r e. h;
    releases = λ t past w o h e. record { of_processes = each_process w _ h; of_talks = h.of_talks };
  }

pub run-size : {S C M : Type 0} (k : Kind S C M) (t : ℕ) (turns : List ℕ) (w : World S C M)
    → HasSize (length w.processes) (length w.talks) (run k t turns w).0
run-size k t turns w =
    run-keeps (size_kept k (length w.processes) (length w.talks)) t [] turns w (record { of_processes = refl; of_talks = refl })

back_to-shallow : {S C M : Type 0} (k : Kind S C M) (j : ℕ) (q : Process S C) (level : Option (Level C))
    → length q.levels ≤ most_levels → length (back_to k j q level).levels ≤ most_levels
back_to-shallow k j q None h = h
back_to-shallow k j q (Some level) h = omega (arith, length-take (j + 1) q.levels)

pub shallow_kept : {S C M : Type 0} (k : Kind S C M) → KeepsEach k IsShallow
shallow_kept k = record {
  counts = λ p q h. omega (arith, length-map q.levels one_used);
  goes = λ t p q w a v s m h at e. h;
  opens = λ t p q w f a h at. omega (arith, at.few, length-append q.levels (new_level k f a (k.keep t 0 (k.enter q.state) w.memory).0 ∷ []));
  accepts = λ t p q w a v s h at e. omega (arith, length-without_last q.levels);
  stands = λ t p q w a v s h at e. h;
  leaves = λ p c q h e. omega (arith, length-without_last q.levels);
  falls = λ p q cause h. omega arith;
  goes_back = λ p j q h. back_to-shallow k j q (slice_get q.levels j) h;
  rises = λ p j q h. omega (arith, length-change_at j next_alternate q.levels);
  is_freed = λ p q h. h;
}

-- who goes on has not failed
pub status_at-whole : (want : Want) → is_failed (status_at want) ≡ false
status_at-whole NothingLeft = refl
status_at-whole (SendsOn c) = refl
status_at-whole (ReceivesOn c) = refl
status_at-whole (MayReceiveOn c) = refl
status_at-whole (Enters facts) = refl
status_at-whole Starts = refl
status_at-whole Acts = refl

whole_bare : {C : Type 0} (want : Want) (levels : List (Level C)) → is_failed (status_at want) ≡ true → levels ≡ []
whole_bare want levels e = absurd (true≢false (sym e ∙ status_at-whole want))

take_none : {A : Type 0} (n : ℕ) → take {A = A} (n + 1) [] ≡ []
take_none n = rw add-one

pub back_to-bare : {S C M : Type 0} (k : Kind S C M) (j : ℕ) (q : Process S C) (level : Option (Level C))
    → IsBareIfFailed 0 q → IsBareIfFailed 0 (back_to k j q level)
back_to-bare k j q None h = h
back_to-bare k j q (Some level) h = λ e. ap (take (j + 1)) (h e) ∙ take_none j

pub bare_kept : {S C M : Type 0} (k : Kind S C M) → KeepsEach k IsBareIfFailed
bare_kept k = record {
  counts = λ p q h e. ap (map one_used) (h e);
  goes = λ t p q w a v s m h at. λ _ e. whole_bare (k.want (k.settle (copy_of (last_of q.levels)) (k.keep t a s m).0)) q.levels e;
  opens = λ t p q w f a h at e. whole_bare (k.want (k.keep t 0 (k.enter q.state) w.memory).0) _ e;
  accepts = λ t p q w a v s h at _ e. whole_bare
      (k.want (k.settle (copy_of (last_of (without_last q.levels))) (k.accept (k.keep t a s w.memory).0))) _ e;
  stands = λ t p q w a v s h at _ e. absurd (true≢false (sym e));
  leaves = λ p c q h _ e. whole_bare (k.want (k.settle (copy_of (last_of (without_last q.levels))) (k.accept q.state))) _ e;
  falls = λ p q cause h e. refl;
  goes_back = λ p j q h. back_to-bare k j q (slice_get q.levels j) h;
  rises = λ p j q h e. ap (change_at j next_alternate) (h e);
  is_freed = λ p q h. h;
}

-- all of it at once, from the opening on
pub standing : {S C M : Type 0} (k : Kind S C M) (turns : List ℕ) (states : List S) (m : M)
    → IsStanding k states (run k 1 turns (opening k states m)).0
standing k turns states m = record {
  size = run-keeps (size_kept k (length states) (length k.groups)) 1 [] turns (opening k states m)
      (record { of_processes = length-map states _; of_talks = length-map k.groups _ });
  shallow = each_opening_run (shallow_kept k) turns states m (λ r s _. omega arith);
  bare = each_opening_run (bare_kept k) turns states m (λ r s _ e. refl);
}
