-- A turn that changes one process: it is kept by the plain run too, or the cut does not see it.
use Rattle.std.proofs.Common.{◌≡◌, ◌≢◌, ◌≤◌, ℕ, List, [], ◌∷◌, ◌++◌, length, slice_get, Some, sym, ap, ◌∙◌, subst}
use Rattle.std.proofs.lemmas.Option.{slice_get_within}
use Rattle.rb_world.specs.World.{Running, Process, World, change_at, with_process}
use Rattle.rb_world.specs.Turn.{Told, took}
use Rattle.rb_world.specs.Plain.{plain_moves}
use Rattle.rb_world.specs.Standing.{Each}
use Rattle.rb_world.proofs.ListFacts.{Each-change_at, some_same}
use Rattle.rb_world.proofs.Erasing.ErasableKinds.{Nothing, Parts, plain, SameMail}
use Rattle.rb_world.proofs.Erasing.Showing.Cuts.{ShowsOne, Shows, shown}
use Rattle.rb_world.proofs.Erasing.Showing.ErasureInvariant.{IsErased, IsQuiet, KeepsTurn, ShowsCut, ShowsAfter, StaysShown}
use Rattle.rb_world.proofs.Erasing.Showing.ShownWorlds.{change_shown, change_left_shown}
use Rattle.rb_world.proofs.Erasing.Stepping.PresentProcess.{as_is}
use Rattle.rb_world.proofs.Erasing.Showing.ShownOlder.{present_there, shown_alike}
use Rattle.rb_world.proofs.Erasing.Showing.MailKept.{map-change_at, mail_changed, sent_kept}

module _ {S E P : Type 0} (x : Parts S E P) (start : World S P Nothing) where
  -- process p alone changes on both sides, and the cuts differ at p alone
  pub one_shows : (p : ℕ) (f g : ℕ → ℕ) (new : Process S S) (new' : Process S P) (qs : List (Process S S)) (us : List (Process S P))
      → ((r : ℕ) → r ≢ p → g r ≡ f r) → ShowsOne x (f p) new new' → Shows x g qs us
      → Shows x f (change_at p (λ _. new) qs) (change_at p (λ _. new') us)
  one_shows p f g new new' qs us others one shows =
      change_shown x g f p (λ _. new) (λ _. new') qs us
      (λ r a u ne _ _ h. subst (λ (n : ℕ). ShowsOne x n a u) (others r ne) h) (λ _ _ _ _ _. one) shows

  -- Process p, which the cut g shows as it is, has a turn in which it alone changes, to `new`; the plain run does the same, to `new'`, and
  -- the cut f shows that.
  pub one_kept : (t : ℕ) (past : List Told) (p alternate : ℕ) (w : World S S Nothing) (v : World S P Nothing) (f g : ℕ → ℕ)
      (q new : Process S S) (new' : Process S P)
      → IsErased x start t past v → Shows x g w.processes v.processes
      → slice_get w.processes p ≡ Some q → q.status ≡ Running → length q.levels ≤ g p
      → plain_moves (plain x) (record { turn = t; process = p; alternate = alternate }) v (Some (as_is x q))
      ≡ Some (took (with_process p (λ _. new') v))
      → SameMail x q.state new'.state → x.kept new'.state ≡ x.kept q.state ++ (t, alternate) ∷ []
      → ((r : ℕ) → r ≢ p → g r ≡ f r) → ShowsOne x (f p) new new'
      → KeepsTurn x start t past (with_process p (λ _. new) w) f
  one_kept t past p alternate w v f g q new new' erased shows there running here moves mail kept others one =
      let there' : slice_get v.processes p ≡ Some (as_is x q) = present_there x g p q w.processes v.processes shows there running here in
      record {
        old = v;
        erased = erased;
        process = p;
        alternate = alternate;
        moved = took (with_process p (λ _. new') v);
        moves = ap (plain_moves (plain x) (record { turn = t; process = p; alternate = alternate }) v) there' ∙ moves;
        shows = one_shows p f g new new' w.processes v.processes others one shows;
        keeps = map-change_at (λ (a : Process S P). x.kept a.state) p new'
            (λ turns. turns ++ (t, alternate) ∷ []) v.processes (as_is x q) there' kept;
        here = slice_get_within v.processes p (as_is x q) there';
        sent = sent_kept x v (with_process p (λ _. new') v) (mail_changed x p (as_is x q) new' v.processes there' mail) erased.sent;
      }

  -- process p, which runs before and after, alone changes, and the cut shows the same of it
  pub one_same : (p : ℕ) (f : ℕ → ℕ) (q new : Process S S) (qs : List (Process S S)) (us : List (Process S P)) → slice_get qs p ≡ Some q
      → q.status ≡ Running → new.status ≡ Running → shown x (f p) new ≡ shown x (f p) q → Shows x f qs us
      → Shows x f (change_at p (λ _. new) qs) us
  one_same p f q new qs us there running running' same shows =
      change_left_shown x f f p (λ _. new) qs us (λ _ _ _ _ _ _ h. h)
      (λ z u e _ h. shown_alike x (f p) (f p) q new u running running' same
      (subst (λ (a : Process S S). ShowsOne x (f p) a u) (some_same (sym e ∙ there)) h)) shows

  -- The same at the end of a turn. It has a level, so it has nothing to release.
  pub one_unseen : (t : ℕ) (past : List Told) (p : ℕ) (w : World S S Nothing) (f : ℕ → ℕ) (q new : Process S S)
      → ShowsCut x start t past w f → Each (IsQuiet x) w.processes → slice_get w.processes p ≡ Some q
      → q.status ≡ Running → new.status ≡ Running → shown x (f p) new ≡ shown x (f p) q → (new.levels ≡ [] → ⊥)
      → ShowsAfter x start t past (with_process p (λ _. new) w) f
  one_unseen t past p w f q new old quiet there running running' same not_bare =
      StaysShown (Each-change_at (IsQuiet x) p (λ _. new) w.processes quiet (λ _ _ bare. absurd (not_bare bare)))
      (record {
        world = old.world;
        shows = one_same p f q new w.processes old.world.processes there running running' same old.shows;
        erased = old.erased;
      })
