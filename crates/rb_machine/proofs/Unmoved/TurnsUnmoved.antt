-- A turn that comes to the world in which it began tells nothing and releases nothing, where who has no level holds no line.
use Rattle.std.proofs.Common.{◌≡◌, ℕ, ◌+◌, true, List, [], ◌∷◌, ◌++◌, length, map, replicate, slice_get, refl, ap, ◌∙◌}
use Rattle.rb_base.specs.declared.event.Event.{Event}
use Rattle.rb_base.specs.declared.event.TurnKind.{TurnKind}
use Rattle.rb_world.specs.Kind.{Membership}
use Rattle.rb_world.specs.Turn.{Told, compared, done_at, error_at, finishes, freed, lines_freed, move, turn}
use Rattle.rb_world.specs.World.{Process, ProcessStatus, Running, Finished, FailedWith, with_each}
use Rattle.rb_code.specs.Instructions.Plain.{Code}
use Rattle.rb_code.specs.WordMachine.Turn.{Copy, Standing}
use Rattle.rb_code.specs.WordMachine.WordKind.{word_kind}
use Rattle.rb_code.specs.WordMachine.WordRun.{WordWorld}
use Rattle.rb_machine.specs.Resting.{IsBare, RestsAs, is_still}
use Rattle.rb_machine.specs.Telling.{AreFreed}
use Rattle.rb_machine.proofs.Releasing.Finished.{no_lines, state_same}
use Rattle.rb_machine.proofs.Unmoved.MovesUnmoved.{at_rest, moves_still}

-- who stands as before has neither failed nor ended
no_error : (p : ℕ) (status : ProcessStatus) → error_at p status status ≡ []
no_error p Running = refl
no_error p Finished = refl
no_error p (FailedWith cause) = refl

none_done : (p : ℕ) (status : ProcessStatus) → done_at p status status ≡ []
none_done p Running = refl
none_done p Finished = refl
none_done p (FailedWith cause) = refl

none_told : (f : ℕ → ProcessStatus → ProcessStatus → List Event) → ((p : ℕ) (status : ProcessStatus) → f p status status ≡ [])
    → (p : ℕ) (qs : List (Process Standing Copy)) → compared f p qs qs ≡ []
none_told f none p [] = refl
none_told f none p (q ∷ qs) =
    ap (λ (events : List Event). events ++ compared f (p + 1) qs qs) (none p q.status) ∙ none_told f none (p + 1) qs

module _ (c : Code) (groups : List Membership) where
  all_same : (qs : List (Process Standing Copy)) → AreFreed qs → map (freed (word_kind c groups)) qs ≡ qs
  all_same [] free = refl
  all_same (q ∷ qs) free =
      ap (λ (s : Standing).
      record { state = s; levels = q.levels; at_line = q.at_line; status = q.status } ∷ map (freed (word_kind c groups)) qs)
      (state_same c q.levels q.state free.0)
      ∙ ap (λ (others : List (Process Standing Copy)). q ∷ others) (all_same qs free.1)

  none_released : (qs : List (Process Standing Copy)) → AreFreed qs
      → map (λ (q : Process Standing Copy). lines_freed (word_kind c groups) q.state q.levels) qs ≡ replicate (length qs) []
  none_released [] free = refl
  none_released (q ∷ qs) free =
      ap (λ (lines : List (List ℕ)).
      lines ∷ map (λ (r : Process Standing Copy). lines_freed (word_kind c groups) r.state r.levels) qs)
      (no_lines c groups q.levels q.state free.0)
      ∙ ap (λ (others : List (List (List ℕ))). [] ∷ others) (none_released qs free.1)

  abbrev nothing_told : WordWorld → TurnKind → Told
  nothing_told w kind = record { kind = kind; events = []; released = replicate (length w.processes) [] }

  finishes_at_rest : (w : WordWorld) (kind : TurnKind) → AreFreed w.processes
      → finishes (word_kind c groups) w (at_rest w kind) ≡ (w, nothing_told w kind)
  finishes_at_rest w kind free =
      let errors : List Event = compared error_at 0 w.processes w.processes in
      let ends : List Event = compared done_at 0 w.processes w.processes in
      let lines = map (λ (q : Process Standing Copy). lines_freed (word_kind c groups) q.state q.levels) w.processes in
      let after : WordWorld = with_each (freed (word_kind c groups)) w in
      ap (λ (all : List (Process Standing Copy)).
      (record w { processes = all }, record { kind = kind; events = errors ++ ends; released = lines })) (all_same w.processes free)
      ∙ (ap (λ (events : List Event). (w, record { kind = kind; events = events ++ ends; released = lines }))
      (none_told error_at no_error 0 w.processes)
      ∙ (ap (λ (events : List Event). (w, record { kind = kind; events = events; released = lines })) (none_told done_at none_done 0 w.processes)
      ∙ ap (λ (all : List (List (List ℕ))). (w, record { kind = kind; events = []; released = all })) (none_released w.processes free)))

  -- a process rests whose turn, with any number, was still
  pub rests_so : (n p : ℕ) (w : WordWorld) (kind : TurnKind) → AreFreed w.processes → IsBare (slice_get w.processes p)
      → (turn (word_kind c groups) n p w).1.kind ≡ kind → is_still kind ≡ true → RestsAs c groups w p kind
  rests_so n p w kind free bare is still m =
      let so : is_still (move (word_kind c groups) n p w).kind ≡ true = ap is_still is ∙ still in
      ap (finishes (word_kind c groups) w) ((moves_still (word_kind c groups) n m p w bare so).1
      ∙ ap (λ (one : TurnKind). at_rest w one) is)
      ∙ finishes_at_rest w kind free
