-- What is told of a turn, and the world once lines were released: for every conversation, those inside it keep their levels, or pass its
-- test line together, or go back together, or go out together.
use Rattle.std.proofs.Common.{◌≡◌, ℕ, zero, suc, List, [], ◌∷◌, ◌++◌, option_map, slice_get, Some, refl, sym, ap, ◌∙◌, subst}
use Rattle.std.proofs.lemmas.Option.{slice_get-map}
use Rattle.rb_base.specs.declared.event.Event.{Event}
use Rattle.rb_base.specs.declared.event.Event.TheVariants.{Pass, RejectAll}
use Rattle.rb_world.specs.Kind.{Kind}
use Rattle.rb_world.specs.World.{Level, Process, World, is_inside}
use Rattle.rb_world.specs.Turn.{Moved, compared, done_at, error_at, finishes, freed, move, state_freed, turn}
use Rattle.rb_world.specs.Together.{ArePutBack, BackTogether, GoTogether, IsAmong, IsEmpty, KeepTheirLevels, OutTogether, PassTogether, Stay}
use Rattle.rb_world.proofs.ListFacts.{none_some}
use Rattle.rb_world.proofs.Members.Cascade.{EndsIn}
use Rattle.rb_world.proofs.Members.PassTogether.{map_found}
use Rattle.rb_world.proofs.Members.Together.{AllGoBack, AllGoOut, AllPass, AllStay, AreBack, Carries, IsBack, IsOrdered, Keeps, Together, unused}
use Rattle.rb_world.proofs.Members.TurnTogether.{move-together}

-- an event among some is among more
among_first : (event : Event) (events others : List Event) → IsAmong event events → IsAmong event (events ++ others)
among_first event [] others (i, e) = absurd (none_some e)
among_first event (x ∷ events) others (zero, e) = (0, e)
among_first event (x ∷ events) others (suc i, e) = let one : IsAmong event (events ++ others) =
    among_first event events others (i, e) in (suc one.0, one.1)

among_rest : (event : Event) (events others : List Event) → IsAmong event others → IsAmong event (events ++ others)
among_rest event [] others one = one
among_rest event (x ∷ events) others one = let more : IsAmong event (events ++ others) = among_rest event events others one in (suc more.0, more.1)

module _ {S C M : Type 0} (k : Kind S C M) (copied_again : (s : S) (x : C) → k.copy (k.restore s x) ≡ x)
    (c p : ℕ) (w : World S C M) (moved : Moved S C M) where
  -- the world once lines were released, and all that is told of the turn
  abbrev later : World S C M
  later = (finishes k w moved).0

  abbrev told_events : List Event
  told_events = (finishes k w moved).1.events

  -- who has a level is as it is once lines were released
  state_stays : (s : S) (levels : List (Level C)) (i : ℕ) {level : Level C} → slice_get levels i ≡ Some level → state_freed k s levels ≡ s
  state_stays s [] i e = absurd (none_some e)
  state_stays s (l ∷ levels) i e = refl

  later_there : (r : ℕ) (now : Process S C) → slice_get moved.world.processes r ≡ Some now → slice_get later.processes r ≡ Some (freed k now)
  later_there r now e = slice_get-map (freed k) moved.world.processes r ∙ ap (option_map (freed k)) e

  keep_levels : Keeps c w moved.world → KeepTheirLevels c w later
  keep_levels keeps r i q level has of_c =
      let kept : (now : Process S C) × (slice_get moved.world.processes r ≡ Some now) × Carries c q.levels now.levels = keeps r q has.there in
      let one : (l : Level C) × (slice_get kept.0.levels i ≡ Some l) × (unused l ≡ unused level) =
      kept.2 i (record { level = level; there = has.level_there; of_it = of_c }) in (
        freed k kept.0,
        one.0,
        record { there = later_there r kept.0 kept.1; level_there = one.1 },
        record {
          facts = ap (λ (l : Level C). l.facts) one.2;
          alternate = ap (λ (l : Level C). l.alternate) one.2;
          copy = ap (λ (l : Level C). l.copy) one.2;
        },
      )

  put_back : AreBack k c w moved.world → ArePutBack k c w later
  put_back back r i q level has of_c =
      let one : (now : Process S C) × (slice_get moved.world.processes r ≡ Some now) × IsBack k i level now =
      back r i q has.there (record { level = level; there = has.level_there; of_it = of_c }) in (
        freed k one.0,
        later_there r one.0 one.1,
        record {
          innermost = one.2.innermost;
          next = one.2.next;
          state = ap k.copy (state_stays one.0.state one.0.levels i one.2.next ∙ one.2.state) ∙ copied_again one.2.left level.copy;
          away = one.2.away;
        },
      )

  is_empty : IsEmpty c moved.world → IsEmpty c later
  is_empty left r q e =
      let found : (now : Process S C) × (slice_get moved.world.processes r ≡ Some now) × (freed k now ≡ q) =
      map_found (freed k) moved.world.processes r q e in
      ap (is_inside c) (sym found.2) ∙ left r found.0 found.1

  -- the errors and completions that are told, and all that is told after the rejections
  abbrev told_errors : List Event
  told_errors = compared error_at 0 w.processes moved.world.processes

  abbrev told_completions : List Event
  told_completions = compared done_at 0 w.processes moved.world.processes

  abbrev told_then : List Event
  told_then = told_errors ++ (moved.passes ++ told_completions)

  -- what ends the rejections is told
  end_told : (d : ℕ) (ends : EndsIn d p moved.rejections) → IsAmong (RejectAll d ends.alternate p ends.cause) told_events
  end_told d ends =
      let last : Event = RejectAll d ends.alternate p ends.cause in
      among_first last moved.rejections told_then
      (subst (IsAmong last) (sym ends.is) (among_rest last ends.inner (last ∷ []) (0, refl)))

  pass_told : (alternate : ℕ) → moved.passes ≡ Pass c alternate ∷ [] → IsAmong (Pass c alternate) told_events
  pass_told alternate is =
      among_rest (Pass c alternate) moved.rejections told_then
      (among_rest (Pass c alternate) told_errors (moved.passes ++ told_completions)
      (among_first (Pass c alternate) moved.passes told_completions (subst (IsAmong (Pass c alternate)) (sym is) (0, refl))))

  go_together : Together k c p w moved → GoTogether k c p w later told_events
  go_together (AllStay keeps) = Stay (keep_levels keeps)
  go_together (AllPass alternate is come left) = PassTogether alternate (pass_told alternate is) come (is_empty left)
  go_together (AllGoBack ends back) = BackTogether ends.alternate ends.cause (end_told c ends) (put_back back)
  go_together (AllGoOut outer ends left) = OutTogether outer ends.alternate ends.cause (end_told outer ends) (is_empty left)

-- so it is in every turn, where a state that is put back is copied as it was
pub turn-together : {S C M : Type 0} (k : Kind S C M) → ((s : S) (x : C) → k.copy (k.restore s x) ≡ x) → (t c p : ℕ) (w : World S C M)
    → IsOrdered k w → GoTogether k c p w (turn k t p w).0 (turn k t p w).1.events
turn-together k copied_again t c p w ordered =
    go_together k copied_again c p w (move k t p w) (move-together k c p w ordered t)
