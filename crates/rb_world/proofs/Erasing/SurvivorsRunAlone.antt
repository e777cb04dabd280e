-- Erasure: what survived a run, run alone, is never stuck, ends in the same states and releases the same lines. It is the cut in
-- which every process is shown as it is, of the invariant over all cuts.
use Rattle.std.proofs.Common.{◌≡◌, ◌+◌, ℕ, zero, suc, true, List, [], ◌∷◌, length, map, slice_get, Option, Some, None, refl, sym, ap, ap₂, ◌∙◌, subst, arith}
use Rattle.std.proofs.lemmas.Option.{slice_get_past}
use Rattle.rb_world.specs.World.{Level, Process, World, settled}
use Rattle.rb_world.specs.Turn.{Told, most_levels, opening, run}
use Rattle.rb_base.specs.declared.kept.Kept.{Kept}
use Rattle.rb_world.specs.Plain.{Ended, insert_all, plain_run, survivors_from, survivors_of}
use Rattle.rb_world.specs.Standing.{Each, IsShallow, is_failed}
use Rattle.rb_world.specs.Erased.{Rises, numbered, released_in}
use Rattle.rb_world.proofs.Keeping.Invariant.{BothBetween}
use Rattle.rb_world.proofs.Keeping.Induction.{run-keeps}
use Rattle.rb_world.proofs.Keeping.EachProcess.{KeepsEach, each_opening_run}
use Rattle.rb_world.proofs.Keeping.StandingFacts.{shallow_kept, status_at-whole}
use Rattle.rb_world.proofs.ListFacts.{none_some}
use Rattle.rb_world.proofs.Erasing.ErasableKinds.{Nothing, Parts, whole, plain, IsErasable}
use Rattle.rb_world.proofs.Erasing.Showing.Cuts.{shown_at, ShowsOne, Alive, Lost, Shows, IsConsistent}
use Rattle.rb_world.proofs.Erasing.Showing.ErasureInvariant.{kept_in, AreSent, ShowsCut, AllShown, ErasedBefore, Grounded, GroundedBefore}
use Rattle.rb_world.proofs.LevelFacts.{some_none}
use Rattle.rb_world.proofs.Erasing.Grounding.Grounded.{grounded_kept, opening_grounded}
use Rattle.rb_world.proofs.Erasing.Releasing.SameLinesReleased.{IsImageAt, get_mapped}
use Rattle.rb_world.proofs.Erasing.GoingBack.NoLevelNoLine.{away_opens}
use Rattle.rb_world.proofs.Erasing.GoingBack.WhoFails.{AwayBetween}
use Rattle.rb_world.proofs.Erasing.ErasureIsInvariant.{ErasureIsKept, erased_and_grounded}

-- opening states of which all is known, that kept no turn, hold no line, and took no message
pub record OpensErasably {S E P : Type 0} (x : Parts S E P) (Known : ℕ → Process S S → Type 0) (states : List S) : Type 0 where
  pub known : Each (λ r s. Known r (settled (whole x) s [])) states
  pub kept : Each (λ r s. x.kept s ≡ []) states
  pub held : Each (λ r s. x.held s ≡ []) states
  pub taken : Each (λ r s. (c : ℕ) → x.taken s c ≡ 0) states

-- The plain run of the survivors of a world: it is not stuck, ends in the same states, with the lines that were released by the
-- turns of which all this was told; and the survivors rise.
pub record RunsAlone {S E P : Type 0} (x : Parts S E P) (states : List S) (all : List Told) (w : World S S Nothing) : Type 0 where
  pub world : World S P Nothing
  pub lines : List (ℕ × Told)
  pub ran : plain_run (plain x) (survivors_of (map (λ q. x.kept q.state) w.processes)) (opening (plain x) states tt) ≡ Ended world lines
  pub same_states : map (λ u. u.state) world.processes ≡ map (λ q. q.state) w.processes
  pub released : released_in lines ≡ released_in (numbered 1 all)
  pub rises : Rises (survivors_of (map (λ q. x.kept q.state) w.processes))

-- the cut shows every process as it is
abbrev pub AreAllPresent : {S : Type 0} → (ℕ → ℕ) → List (Process S S) → Type 0
AreAllPresent {S} f qs = (r : ℕ) (q : Process S S) → slice_get qs r ≡ Some q → slice_get q.levels (f r) ≡ None

-- no process has so many levels
abbrev pub present : ℕ → ℕ
present r = most_levels

pub all_present : {S : Type 0} (qs : List (Process S S)) → Each IsShallow qs → AreAllPresent present qs
all_present qs shallow r q e = slice_get_past q.levels most_levels (shallow r q e)

pub consistent_present : {S : Type 0} (f : ℕ → ℕ) (qs : List (Process S S)) → AreAllPresent f qs → IsConsistent f qs
consistent_present f qs here r other c j q q' e e' at at' = absurd (some_none (sym at.there ∙ here r q e))

-- no survivor where no turn was kept
no_survivors : (p : ℕ) (turns : List (List (ℕ × ℕ))) → Each (λ _ list. list ≡ []) turns → survivors_from p turns ≡ []
no_survivors p [] none = refl
no_survivors p (list ∷ turns) none =
    ap₂ (insert_all p) (none 0 list refl) (no_survivors (p + 1) turns (λ r. none (suc r)))

module _ {S E P : Type 0} (x : Parts S E P) where
  -- the state of a process that is shown as it is, or at a level
  pub state_present : (n : ℕ) (q : Process S S) (u : Process S P) → ShowsOne x n q u → slice_get q.levels n ≡ None → u.state ≡ q.state
  state_present n q u (Alive alive e) none = ap (λ (v : Process S P). v.state) e ∙ ap (λ (o : Option (Level S)). (shown_at x n q o).state) none
  state_present n q u (Lost failed same line own) none = same

  pub state_at_level : (n : ℕ) (q : Process S S) (u : Process S P) (level : Level S) → ShowsOne x n q u → slice_get q.levels n ≡ Some level
      → (is_failed q.status ≡ true → q.levels ≡ []) → u.state ≡ level.copy
  state_at_level n q u level (Alive alive e) there bare =
      ap (λ (v : Process S P). v.state) e ∙ ap (λ (o : Option (Level S)). (shown_at x n q o).state) there
  state_at_level n q u level (Lost failed same line own) there bare =
      absurd (none_some (ap (λ (ls : List (Level S)). slice_get ls n) (sym (bare failed)) ∙ there))

  -- what is read of all states, in the world and in the plain one
  pub states_present : {B : Type 0} (g : S → B) (f : ℕ → ℕ) (qs : List (Process S S)) (us : List (Process S P)) → AreAllPresent f qs → Shows x f qs us
      → map (λ (u : Process S P). g u.state) us ≡ map (λ (q : Process S S). g q.state) qs
  states_present g f [] [] here shows = refl
  states_present g f [] (u ∷ us) here shows = absurd shows
  states_present g f (q ∷ qs) [] here shows = absurd shows
  states_present {B} g f (q ∷ qs) (u ∷ us) here shows =
      ap₂ (λ (b : B) (bs : List B). b ∷ bs) (ap g (state_present (f zero) q u shows.0 (here zero q refl)))
      (states_present g (λ r. f (suc r)) qs us (λ r. here (suc r)) shows.1)

  -- an opening is shown by the plain opening, in every cut
  pub opening_shown : (f : ℕ → ℕ) (states : List S) → Shows x f (map (λ s. settled (whole x) s []) states) (map (λ s. settled (plain x) s []) states)
  opening_shown f [] = tt
  opening_shown f (s ∷ states) = (Alive (status_at-whole (x.want (x.settle s))) refl, opening_shown (λ r. f (suc r)) states)

module _ {S E P : Type 0} {x : Parts S E P} {Known : ℕ → Process S S → Type 0} (laws : IsErasable x Known) {states : List S}
    (opens : OpensErasably x Known states) where
  opening_kept : Each (λ _ list. list ≡ []) (kept_in x (opening (plain x) states tt))
  opening_kept r list e =
      let u : IsImageAt _ _ r list = get_mapped (λ (u : Process S P). x.kept u.state) (map (λ s. settled (plain x) s []) states) r list e in
      let s : IsImageAt _ states r u.origin = get_mapped (λ s. settled (plain x) s []) states r u.origin u.there in
      sym u.same ∙ ap (λ (v : Process S P). x.kept v.state) (sym s.same) ∙ (laws.settles s.origin).kept ∙ opens.kept r s.origin s.there

  opening_sent : AreSent x (opening (plain x) states tt)
  opening_sent c ends sender receiver channel at at' =
      let s : IsImageAt _ states ends.receiver receiver = get_mapped (λ s. settled (plain x) s []) states ends.receiver receiver at' in
      omega (
        arith,
        ap (λ (v : Process S P). x.taken v.state c) (sym s.same) ∙ (laws.settles s.origin).mail.taken c
            ∙ opens.taken ends.receiver s.origin s.there c,
      )

  pub opening_erased : ErasedBefore x (opening (plain x) states tt) 1 [] (opening (whole x) states tt)
  opening_erased = (
    omega arith,
    λ f consistent. record {
      world = opening (plain x) states tt;
      shows = opening_shown x f states;
      erased = record {
        lines = [];
        ran = ap (λ (turns : List Kept). plain_run (plain x) turns (opening (plain x) states tt))
            (no_survivors 0 (kept_in x (opening (plain x) states tt)) opening_kept);
        released = refl;
        before = λ r list e i one e'. absurd (none_some (ap (λ (l : List (ℕ × ℕ)). slice_get l i) (sym (opening_kept r list e)) ∙ e'));
        rises = subst Rises (sym (no_survivors 0 (kept_in x (opening (plain x) states tt)) opening_kept)) tt;
        sent = opening_sent;
      };
    },
  )

-- what is true of the last world of every run: it is grounded, every consistent cut of it is shown, and no process has more than the
-- most levels
pub record IsShownWhole {S E P : Type 0} (x : Parts S E P) (Known : ℕ → Process S S → Type 0) (start : World S P Nothing)
    (all : List Told) (w : World S S Nothing) : Type 0 where
  pub turn : ℕ
  pub ground : Grounded x Known w
  pub shown : AllShown x start turn all w
  pub shallow : Each IsShallow w.processes

module _ {S E P : Type 0} {x : Parts S E P} {Known : ℕ → Process S S → Type 0} (keeps : KeepsEach (whole x) Known)
    (laws : IsErasable x Known) {states : List S} (opens : OpensErasably x Known states)
    (kept : ErasureIsKept x Known (opening (plain x) states tt)) where
  run_both : (turns : List ℕ) → let end = run (whole x) 1 turns (opening (whole x) states tt) in
      BothBetween (BothBetween (GroundedBefore x Known) AwayBetween) (ErasedBefore x (opening (plain x) states tt)) (1 + length turns) end.1 end.0
  run_both turns =
      run-keeps (erased_and_grounded x Known laws (opening (plain x) states tt) (grounded_kept keeps laws) kept) 1 [] turns
      (opening (whole x) states tt) (
        (opening_grounded keeps laws states opens.known (λ r s e. (laws.settles s).held ∙ opens.held r s e), away_opens (whole x) states tt),
        opening_erased laws opens,
      )

  -- every run comes to such a world
  pub run_shown : (turns : List ℕ) → let end = run (whole x) 1 turns (opening (whole x) states tt) in
      IsShownWhole x Known (opening (plain x) states tt) end.1 end.0
  run_shown turns = record {
    turn = 1 + length turns;
    ground = (run_both turns).0.0;
    shown = (run_both turns).1.1;
    shallow = each_opening_run (shallow_kept (whole x)) turns states tt (λ r s _. omega arith);
  }

  present_alone : (all : List Told) (w : World S S Nothing) → Each IsShallow w.processes
      → (t : ℕ) → ShowsCut x (opening (plain x) states tt) t all w present → RunsAlone x states all w
  present_alone all w shallow t cut =
      let here : AreAllPresent present w.processes = all_present w.processes shallow in
      let same : kept_in x cut.world ≡ kept_in x w = states_present x x.kept present w.processes cut.world.processes here cut.shows in
      record {
        world = cut.world;
        lines = cut.erased.lines;
        ran = ap (λ (turns : List (List (ℕ × ℕ))). plain_run (plain x) (survivors_of turns) (opening (plain x) states tt)) (sym same)
            ∙ cut.erased.ran;
        same_states = states_present x (λ s. s) present w.processes cut.world.processes here cut.shows;
        released = cut.erased.released;
        rises = subst (λ (turns : List (List (ℕ × ℕ))). Rises (survivors_of turns)) same cut.erased.rises;
      }

  -- Erasure: the survivors of every run, run alone, end in its states and release its lines.
  pub erasure : (turns : List ℕ) → let end = run (whole x) 1 turns (opening (whole x) states tt) in RunsAlone x states end.1 end.0
  erasure turns =
      let end : World S S Nothing × List Told = run (whole x) 1 turns (opening (whole x) states tt) in
      let at : IsShownWhole x Known (opening (plain x) states tt) end.1 end.0 = run_shown turns in
      present_alone end.1 end.0 at.shallow at.turn
      (at.shown present (consistent_present present end.0.processes (all_present end.0.processes at.shallow)))
