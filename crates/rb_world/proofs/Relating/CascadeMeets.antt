-- In related worlds a cascade of rejections goes the same way, and leaves related worlds.
use Rattle.std.proofs.Common.{◌≡◌, ℕ, zero, suc, Bool, true, false, List, ◌∷◌, slice_get, Option, Some, None, refl, ap, ap₂, subst, nat_lt}
use Rattle.rb_base.specs.declared.event.Cause.{Cause}
use Rattle.rb_base.specs.declared.event.Cause.TheVariants.{Inner}
use Rattle.rb_base.specs.declared.event.Event.{Event}
use Rattle.rb_base.specs.declared.event.Event.TheVariants.{Reject, RejectAll}
use Rattle.rb_world.specs.Kind.{Facts, Kind, Membership}
use Rattle.rb_world.specs.World.{Level, Process, Talk, World, change_at, levels_of, process_levels, with_process, with_each, with_talks}
use Rattle.rb_world.specs.Reject.{Happened, after_event, all_back, broken_talk, exhausted_next, fallen, fallen_inside, first_again, next_talk, parent_of, private_next, put_back, raised, reject, reject_at, reject_either, reject_private, reject_together, reset_below, together_next, where_inside}
use Rattle.rb_world.proofs.Relating.Simulation.{Shared, Related, Knowing, IsSimulation}
use Rattle.rb_world.proofs.Relating.MarksMeet.{OptionsMeet, SameMark, SameMarks, get_marks}
use Rattle.rb_world.proofs.Keeping.AwayOnceBack.{StandsAway, AllAway, away_alone, away_together, away_inside}
use Rattle.rb_world.proofs.Relating.ProcessesMeet.{ProcessesMeet, WorldsMeet, get_meets, map_meets, change_meets, fallen_meets, fallen_inside_meets, put_back_meets, raised_meets, where_inside_meets}

-- related worlds, and the same events
pub record HappenedMeet {S C M T D N : Type 0} (shared : Shared M N) (related : Related S C M T D N) (x : Happened S C M)
    (y : Happened T D N) : Type 0 where
  pub worlds : WorldsMeet shared related x.0 y.0
  pub events : x.1 ≡ y.1

-- levels of a process
levels_meet : {S C M T D N : Type 0} (related : Related S C M T D N) (m : M) (n : N) (q : Option (Process S C)) (r : Option (Process T D))
    → OptionsMeet (ProcessesMeet related m n) q r → SameMarks (levels_of q) (levels_of r)
levels_meet related m n None None e = tt
levels_meet related m n None (Some r) e = absurd e
levels_meet related m n (Some q) None e = absurd e
levels_meet related m n (Some q) (Some r) e = e.marks

pub process_levels_meet : {S C M T D N : Type 0} {shared : Shared M N} {related : Related S C M T D N} (w : World S C M) (v : World T D N) (p : ℕ)
    → WorldsMeet shared related w v → SameMarks (process_levels w p) (process_levels v p)
process_levels_meet {related = related} w v p meets =
    levels_meet related w.memory v.memory (slice_get w.processes p) (slice_get v.processes p)
    (get_meets related w.memory v.memory w.processes v.processes p meets.processes)

module _ {S C M T D N : Type 0} {shared : Shared M N} {related : Related S C M T D N} where
  -- one process, each process or the conversations change
  pub with_process_meets : (w : World S C M) (v : World T D N) (p : ℕ) (f : Process S C → Process S C) (g : Process T D → Process T D)
      → ((q : Process S C) (r : Process T D) → ProcessesMeet related w.memory v.memory q r → ProcessesMeet related w.memory v.memory (f q) (g r))
      → WorldsMeet shared related w v → WorldsMeet shared related (with_process p f w) (with_process p g v)
  with_process_meets w v p f g one meets = record {
    memories = meets.memories;
    processes = change_meets related w.memory v.memory w.memory v.memory p f g w.processes v.processes (λ i q r _ _ e. e)
        (λ q r _ _. one q r) meets.processes;
    talks = meets.talks;
  }

  pub with_each_meets : (w : World S C M) (v : World T D N) (f : Process S C → Process S C) (g : Process T D → Process T D)
      → ((q : Process S C) (r : Process T D) → ProcessesMeet related w.memory v.memory q r → ProcessesMeet related w.memory v.memory (f q) (g r))
      → WorldsMeet shared related w v → WorldsMeet shared related (with_each f w) (with_each g v)
  with_each_meets w v f g one meets = record {
    memories = meets.memories;
    processes = map_meets related w.memory v.memory w.memory v.memory f g w.processes v.processes (λ i q r _. one q r) meets.processes;
    talks = meets.talks;
  }

  -- whoever falls stands at no line
  pub falls_meets : {k : Kind S C M} {l : Kind T D N} {known : Knowing S C M} → IsSimulation k l shared related known
      → (p : ℕ) (cause : Cause) (w : World S C M) (v : World T D N)
      → StandsAway p w → WorldsMeet shared related w v
      → WorldsMeet shared related (with_process p (fallen k cause) w) (with_process p (fallen l cause) v)
  falls_meets {k} {l} laws p cause w v away meets = record {
    memories = meets.memories;
    processes =
        change_meets related w.memory v.memory w.memory v.memory p (fallen k cause) (fallen l cause) w.processes v.processes (λ i q r _ _ e. e)
        (λ q r there _. fallen_meets laws w.memory v.memory cause q r (away q there)) meets.processes;
    talks = meets.talks;
  }

  all_fall_meets : {k : Kind S C M} {l : Kind T D N} {known : Knowing S C M} → IsSimulation k l shared related known
      → (c : ℕ) (w : World S C M) (v : World T D N)
      → AllAway c w → WorldsMeet shared related w v → WorldsMeet shared related (with_each (fallen_inside k c) w) (with_each (fallen_inside l c) v)
  all_fall_meets {k} {l} laws c w v away meets = record {
    memories = meets.memories;
    processes = map_meets related w.memory v.memory w.memory v.memory (fallen_inside k c) (fallen_inside l c) w.processes v.processes
        (λ i q r there. fallen_inside_meets laws w.memory v.memory c q r (away i q there)) meets.processes;
    talks = meets.talks;
  }

  pub with_talks_meets : (w : World S C M) (v : World T D N) (f : List Talk → List Talk)
      → WorldsMeet shared related w v → WorldsMeet shared related (with_talks f w) (with_talks f v)
  with_talks_meets w v f meets = record { memories = meets.memories; processes = meets.processes; talks = ap f meets.talks }

  after_event_meets : (event event' : Event) (x : Happened S C M) (y : Happened T D N) → event ≡ event'
      → HappenedMeet shared related x y → HappenedMeet shared related (after_event event x) (after_event event' y)
  after_event_meets event event' x y e meets = record { worlds = meets.worlds; events = ap₂ ◌∷◌ e meets.events }

-- the rest of a cascade does the same on both sides, where process p stands at no line
abbrev RestMeets : {S C M T D N : Type 0} → Shared M N → Related S C M T D N → ℕ → (World S C M → Happened S C M)
    → (World T D N → Happened T D N) → Type 0
RestMeets {S} {C} {M} {T} {D} {N} shared related p outer outer' =
    (w : World S C M) (v : World T D N) → StandsAway p w → WorldsMeet shared related w v → HappenedMeet shared related (outer w) (outer' v)

module _ {S C M T D N : Type 0} {k : Kind S C M} {l : Kind T D N} {shared : Shared M N} {related : Related S C M T D N} {known : Knowing S C M}
    (laws : IsSimulation k l shared related known) where
  private_next_meets : (more more' : Bool) → more ≡ more'
      → (p j : ℕ) (w : World S C M) (v : World T D N) (outer : World S C M → Happened S C M) (outer' : World T D N → Happened T D N)
      → StandsAway p w → WorldsMeet shared related w v → RestMeets shared related p outer outer'
      → HappenedMeet shared related (private_next more p j w outer) (private_next more' p j v outer')
  private_next_meets more more' e p j w v outer outer' away meets rest =
      subst (λ (b : Bool). HappenedMeet shared related (private_next more p j w outer) (private_next b p j v outer')) e (go more)
    where
      go : (b : Bool) → HappenedMeet shared related (private_next b p j w outer) (private_next b p j v outer')
      go true = record { worlds = with_process_meets w v p (raised j) (raised j) (raised_meets related w.memory v.memory j) meets; events = refl }
      go false = rest w v away meets

  reject_private_meets : (p j : ℕ) (cause : Cause) (x : Level C) (y : Level D) (w : World S C M) (v : World T D N)
      (outer : World S C M → Happened S C M) (outer' : World T D N → Happened T D N)
      → SameMark x y → slice_get (process_levels w p) j ≡ Some x → WorldsMeet shared related w v → RestMeets shared related p outer outer'
      → HappenedMeet shared related (reject_private k p j cause x w outer) (reject_private l p j cause y v outer')
  reject_private_meets p j cause x y w v outer outer' same there meets rest =
      after_event_meets _ _ _ _ (ap₂ (λ (facts : Facts) (a : ℕ). Reject p facts.line a cause) same.facts same.alternate)
      (private_next_meets (nat_lt x.alternate x.facts.alternates) (nat_lt y.alternate y.facts.alternates)
      (ap₂ (λ (facts : Facts) (a : ℕ). nat_lt a facts.alternates) same.facts same.alternate)
      p j (with_process p (put_back k j) w) (with_process p (put_back l j) v) outer outer' (away_alone k p j w x there)
      (with_process_meets w v p (put_back k j) (put_back l j) (put_back_meets laws w.memory v.memory j) meets) rest)

  all_back_meets : (c : ℕ) (w : World S C M) (v : World T D N) → WorldsMeet shared related w v
      → WorldsMeet shared related (all_back k c w) (all_back l c v)
  all_back_meets c w v meets =
      subst (λ (groups : List Membership). WorldsMeet shared related (all_back k c w)
      (with_talks (reset_below groups c) (with_each (where_inside (put_back l) c) v)))
      laws.groups
      (with_talks_meets (with_each (where_inside (put_back k) c) w) (with_each (where_inside (put_back l) c) v) (reset_below k.groups c)
      (with_each_meets w v (where_inside (put_back k) c) (where_inside (put_back l) c)
      (where_inside_meets related w.memory v.memory (put_back k) (put_back l) (put_back_meets laws w.memory v.memory) c) meets))

  exhausted_next_meets : (parent parent' : Option ℕ) → parent ≡ parent'
      → (p c : ℕ) (w : World S C M) (v : World T D N) (outer : World S C M → Happened S C M) (outer' : World T D N → Happened T D N)
      → StandsAway p w → AllAway c w → WorldsMeet shared related w v → RestMeets shared related p outer outer'
      → HappenedMeet shared related (exhausted_next k parent c w outer) (exhausted_next l parent' c v outer')
  exhausted_next_meets parent parent' e p c w v outer outer' away all meets rest =
      subst (λ (o : Option ℕ). HappenedMeet shared related (exhausted_next k parent c w outer) (exhausted_next l o c v outer')) e (go parent)
    where
      go : (o : Option ℕ) → HappenedMeet shared related (exhausted_next k o c w outer) (exhausted_next l o c v outer')
      go None = record {
        worlds = with_talks_meets (with_each (fallen_inside k c) w) (with_each (fallen_inside l c) v) (change_at c broken_talk)
            (all_fall_meets laws c w v all meets);
        events = refl;
      }
      go (Some d) = rest (with_talks (change_at c first_again) w) (with_talks (change_at c first_again) v) away
          (with_talks_meets w v (change_at c first_again) meets)

  together_next_meets : (more more' : Bool) → more ≡ more'
      → (p c : ℕ) (w : World S C M) (v : World T D N) (outer : World S C M → Happened S C M) (outer' : World T D N → Happened T D N)
      → StandsAway p w → AllAway c w → WorldsMeet shared related w v → RestMeets shared related p outer outer'
      → HappenedMeet shared related (together_next k more c w outer) (together_next l more' c v outer')
  together_next_meets more more' e p c w v outer outer' away all meets rest =
      subst (λ (b : Bool). HappenedMeet shared related (together_next k more c w outer) (together_next l b c v outer')) e (go more)
    where
      go : (b : Bool) → HappenedMeet shared related (together_next k b c w outer) (together_next l b c v outer')
      go true = record {
        worlds = with_talks_meets (with_each (where_inside raised c) w) (with_each (where_inside raised c) v) (change_at c next_talk)
            (with_each_meets w v (where_inside raised c) (where_inside raised c)
            (where_inside_meets related w.memory v.memory raised raised (raised_meets related w.memory v.memory) c) meets);
        events = refl;
      }
      go false = exhausted_next_meets (parent_of (slice_get k.groups c)) (parent_of (slice_get l.groups c))
          (ap (λ (groups : List Membership). parent_of (slice_get groups c)) laws.groups) p c w v outer outer' away all meets rest

  reject_together_meets : (p c : ℕ) (cause : Cause) (x : Level C) (y : Level D) (w : World S C M) (v : World T D N)
      (outer : World S C M → Happened S C M) (outer' : World T D N → Happened T D N)
      → SameMark x y → StandsAway p (all_back k c w) → WorldsMeet shared related w v → RestMeets shared related p outer outer'
      → HappenedMeet shared related (reject_together k p c cause x w outer) (reject_together l p c cause y v outer')
  reject_together_meets p c cause x y w v outer outer' same away meets rest =
      after_event_meets _ _ _ _ (ap (λ (a : ℕ). RejectAll c a p cause) same.alternate)
      (together_next_meets (nat_lt x.alternate x.facts.alternates) (nat_lt y.alternate y.facts.alternates)
      (ap₂ (λ (facts : Facts) (a : ℕ). nat_lt a facts.alternates) same.facts same.alternate)
      p c (all_back k c w) (all_back l c v) outer outer' away (away_inside k c w) (all_back_meets c w v meets) rest)

  reject_either_meets : (p j : ℕ) (cause : Cause) (x : Level C) (y : Level D) (conversation : Option ℕ) (w : World S C M)
      (v : World T D N) (outer : World S C M → Happened S C M) (outer' : World T D N → Happened T D N)
      → SameMark x y → slice_get (process_levels w p) j ≡ Some x → x.facts.conversation ≡ conversation
      → WorldsMeet shared related w v → RestMeets shared related p outer outer'
      → HappenedMeet shared related (reject_either k p j cause x conversation w outer) (reject_either l p j cause y conversation v outer')
  reject_either_meets p j cause x y None w v outer outer' same there of_c meets rest =
      reject_private_meets p j cause x y w v outer outer' same there meets rest
  reject_either_meets p j cause x y (Some c) w v outer outer' same there of_c meets rest =
      reject_together_meets p c cause x y w v outer outer' same (away_together k p j c w x there of_c) meets rest

  reject_at_meets : (p j : ℕ) (cause : Cause) (x : Option (Level C)) (y : Option (Level D)) (w : World S C M)
      (v : World T D N) (outer : World S C M → Happened S C M) (outer' : World T D N → Happened T D N)
      → OptionsMeet SameMark x y → slice_get (process_levels w p) j ≡ x → WorldsMeet shared related w v → RestMeets shared related p outer outer'
      → HappenedMeet shared related (reject_at k p j cause x w outer) (reject_at l p j cause y v outer')
  reject_at_meets p j cause None None w v outer outer' same there meets rest = record { worlds = meets; events = refl }
  reject_at_meets p j cause None (Some y) w v outer outer' same there meets rest = absurd same
  reject_at_meets p j cause (Some x) None w v outer outer' same there meets rest = absurd same
  reject_at_meets p j cause (Some x) (Some y) w v outer outer' same there meets rest =
      subst (λ (conversation : Option ℕ). HappenedMeet shared related (reject_at k p j cause (Some x) w outer)
      (reject_either l p j cause y conversation v outer'))
      (ap (λ (facts : Facts). facts.conversation) same.facts)
      (reject_either_meets p j cause x y x.facts.conversation w v outer outer' same there refl meets rest)

  -- a cascade; where no level is left, the process falls away from every line
  pub reject_meets : (p left : ℕ) (cause : Cause) (w : World S C M) (v : World T D N) → (left ≡ 0 → StandsAway p w) → WorldsMeet shared related w v
      → HappenedMeet shared related (reject k p left cause w) (reject l p left cause v)
  reject_meets p zero cause w v away meets = record { worlds = falls_meets laws p cause w v (away refl) meets; events = refl }
  reject_meets p (suc j) cause w v away meets =
      reject_at_meets p j cause (slice_get (process_levels w p) j) (slice_get (process_levels v p) j) w v
      (λ outer. reject k p j Inner outer) (λ outer. reject l p j Inner outer)
      (get_marks (process_levels w p) (process_levels v p) j (process_levels_meet w v p meets)) refl meets
      (λ x y stands. reject_meets p j Inner x y (λ _. stands))
