-- Related kinds over whole runs: from related worlds, and from related openings. What a step may ask of the left world
-- comes from something that holds along the run on the left, as an invariant does.
use Rattle.std.proofs.Common.{◌≡◌, ℕ, ◌+◌, false, List, [], ◌∷◌, ◌++◌, length, map, None, refl, sym, ap, ap₂, subst}
use Rattle.std.proofs.lemmas.List.{length-map}
use Rattle.rb_base.specs.declared.event.Event.{Event}
use Rattle.rb_base.specs.declared.event.TurnKind.TheVariants.{Took}
use Rattle.rb_world.specs.Kind.{Kind}
use Rattle.rb_world.specs.World.{Running, Process, World, settled, with_process}
use Rattle.rb_world.specs.Turn.{Told, done_at, finished_at, one_used, opening, opening_talks, run, told_at_opening, turn, turn_used}
use Rattle.rb_world.proofs.TurnFacts.{MayAct}
use Rattle.rb_world.proofs.Keeping.Invariant.{Between, Within, IsInvariant}
use Rattle.rb_world.proofs.Keeping.Induction.{turn-keeps}
use Rattle.rb_world.proofs.Relating.Simulation.{Shared, Related, Knowing, nothing_known, IsPlainSimulation, IsSimulation}
use Rattle.rb_world.proofs.Relating.ProcessesMeet.{AllMeet, WorldsMeet, goes_on_meets}
use Rattle.rb_world.proofs.Relating.TurnsMeet.{KnowsTurn, turn_meets}

-- what holds before every turn tells all that is to be known
pub record KeepsKnown {S C M : Type 0} (k : Kind S C M) (known : Knowing S C M) (holds : ℕ → World S C M → Type 0) : Type 0 where
  pub knows : (t p : ℕ) (w : World S C M) → holds t w → KnowsTurn known t p w
  pub stays : (t p : ℕ) (w : World S C M) → holds t w → holds (t + 1) (turn k t p w).0

-- nothing is asked
pub keeps_nothing : {S C M : Type 0} (k : Kind S C M) → KeepsKnown k nothing_known (λ _ _. Unit {0})
keeps_nothing k = record { knows = λ t p w _ q _ _. tt; stays = λ t p w _. tt }

-- an invariant with what was told before
abbrev pub WithPast : {S C M : Type 0} → Between S C M → ℕ → World S C M → Type 0
WithPast before t w = (past : List Told) × before t past w

-- what an invariant says in a turn
pub invariant_knows : {S C M : Type 0} {k : Kind S C M} {before : Between S C M} {during : Within S C M} {after : Between S C M} {known : Knowing S C M}
    → IsInvariant k before during after
    → ((t : ℕ) (past : List Told) (p : ℕ) (q : Process S C) (w : World S C M) → during t past p (length q.levels) w → MayAct p q w → known t p q w)
    → KeepsKnown k known (WithPast before)
invariant_knows {during = during} laws says = record {
  knows = λ t p w holds q at may. says t holds.0 p (turn_used q) (with_process p (λ _. turn_used q) w)
      (subst (λ (n : ℕ). during t holds.0 p n (with_process p (λ _. turn_used q) w)) (sym (length-map q.levels one_used))
      (laws.uses t holds.0 p q w holds.1 at)) may;
  stays = λ t p w holds. (_, turn-keeps laws t holds.0 p w holds.1);
}

-- related worlds, and the same told of each turn
pub record RunsMeet {S C M T D N : Type 0} (shared : Shared M N) (related : Related S C M T D N)
    (x : World S C M × List Told) (y : World T D N × List Told) : Type 0 where
  pub worlds : WorldsMeet shared related x.0 y.0
  pub same_told : x.1 ≡ y.1

-- states that are related once they have settled, without a level
abbrev pub OpeningsMeet : {S C M T D N : Type 0} → Kind S C M → Kind T D N → Related S C M T D N → M → N → List S → List T → Type 0
OpeningsMeet k l related m n [] [] = Unit {0}
OpeningsMeet k l related m n [] (u ∷ us) = ⊥
OpeningsMeet k l related m n (s ∷ ss) [] = ⊥
OpeningsMeet k l related m n (s ∷ ss) (u ∷ us) = related false m n [] (k.settle None s) [] (l.settle None u) × OpeningsMeet k l related m n ss us

-- who is done before the first turn
same_finished : {S C M T D N : Type 0} (related : Related S C M T D N) (m : M) (n : N) (p : ℕ) (qs : List (Process S C)) (rs : List (Process T D))
    → AllMeet related m n qs rs → finished_at p qs ≡ finished_at p rs
same_finished related m n p [] [] e = refl
same_finished related m n p [] (r ∷ rs) e = absurd e
same_finished related m n p (q ∷ qs) [] e = absurd e
same_finished related m n p (q ∷ qs) (r ∷ rs) e =
    ap₂ ◌++◌ (ap (done_at p Running) e.0.statuses) (same_finished related m n (p + 1) qs rs e.1)

pub same_told_at_opening : {S C M T D N : Type 0} {shared : Shared M N} {related : Related S C M T D N} (w : World S C M) (v : World T D N)
    → WorldsMeet shared related w v → told_at_opening w ≡ told_at_opening v
same_told_at_opening {related = related} w v meets =
    ap (λ (events : List Event). record { kind = Took; events = events; released = [] })
    (same_finished related w.memory v.memory 0 w.processes v.processes meets.processes)

module _ {S C M T D N : Type 0} {k : Kind S C M} {l : Kind T D N} {shared : Shared M N} {related : Related S C M T D N} {known : Knowing S C M}
    (laws : IsPlainSimulation k l shared related known) where
  settled_meet : (m : M) (n : N) (ss : List S) (us : List T) → OpeningsMeet k l related m n ss us
      → AllMeet related m n (map (λ s. settled k s []) ss) (map (λ u. settled l u []) us)
  settled_meet m n [] [] e = tt
  settled_meet m n [] (u ∷ us) e = absurd e
  settled_meet m n (s ∷ ss) [] e = absurd e
  settled_meet m n (s ∷ ss) (u ∷ us) e = (goes_on_meets laws m n (k.settle None s) [] (l.settle None u) [] tt e.0, settled_meet m n ss us e.1)

  pub opening_meets : (m : M) (n : N) (ss : List S) (us : List T) → shared m n → OpeningsMeet k l related m n ss us
      → WorldsMeet shared related (opening k ss m) (opening l us n)
  opening_meets m n ss us memories meets = record {
    memories = memories;
    processes = settled_meet m n ss us meets;
    talks = ap opening_talks laws.groups;
  }

module _ {S C M T D N : Type 0} {k : Kind S C M} {l : Kind T D N} {shared : Shared M N} {related : Related S C M T D N} {known : Knowing S C M}
    (laws : IsSimulation k l shared related known) where
  -- a whole run
  pub run_meets : {holds : ℕ → World S C M → Type 0} → KeepsKnown k known holds → (t : ℕ) (turns : List ℕ) (w : World S C M) (v : World T D N)
      → holds t w → WorldsMeet shared related w v → RunsMeet shared related (run k t turns w) (run l t turns v)
  run_meets along t [] w v holds meets = record { worlds = meets; same_told = refl }
  run_meets along t (p ∷ turns) w v holds meets =
      let first = turn_meets laws t p w v (along.knows t p w holds) meets in
      let others = run_meets along (t + 1) turns (turn k t p w).0 (turn l t p v).0 (along.stays t p w holds) first.worlds in
      record { worlds = others.worlds; same_told = ap₂ ◌∷◌ first.same_told others.same_told }

  -- a whole run from the opening
  pub opening_run_meets : {holds : ℕ → World S C M → Type 0} → KeepsKnown k known holds → (turns : List ℕ) (m : M) (n : N) (ss : List S) (us : List T)
      → holds 1 (opening k ss m) → shared m n → OpeningsMeet k l related m n ss us
      → RunsMeet shared related (run k 1 turns (opening k ss m)) (run l 1 turns (opening l us n))
  opening_run_meets along turns m n ss us holds memories meets =
      run_meets along 1 turns (opening k ss m) (opening l us n) holds (opening_meets laws.plain m n ss us memories meets)
