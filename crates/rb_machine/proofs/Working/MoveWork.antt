-- The work of a move: what a process that looks at itself pays for, the words that a step names, and what a rejection of counted levels costs.
use Rattle.std.proofs.Common.{◌≡◌, ℕ, zero, suc, ◌+◌, ◌*◌, ◌≤◌, ℤ, Bool, false, cond, ◌&&◌, ◌||◌, List, [], ◌∷◌, map, Option, Some, None, position, slice_get, sum_by, refl, ap, sym, ◌∙◌, arith}
use Rattle.std.specs.List.{list_any}
use Rattle.std.proofs.lemmas.Bool.{and_right}
use Rattle.std.proofs.lemmas.List.Sums.{sum_by-cons}
use Rattle.rb_base.specs.declared.event.Event.{Event}
use Rattle.rb_base.specs.declared.event.Event.TheVariants.{Reject, RejectAll, Error, Pass, Done}
use Rattle.rb_base.specs.declared.event.TurnKind.{TurnKind}
use Rattle.rb_world.specs.Kind.{Membership}
use Rattle.rb_world.specs.Turn.{is_over, one_used, turn_used}
use Rattle.rb_world.specs.World.{Level, Process, Running, change_at, is_of}
use Rattle.rb_code.specs.Instructions.Plain.{Code}
use Rattle.rb_code.specs.WordMachine.Turn.{Copy, Standing, want}
use Rattle.rb_code.specs.WordMachine.WordRun.{WordWorld}
use Rattle.rb_ready.specs.Readiness.{IsStep}
use Rattle.rb_recovery.specs.Work.{enters_there, inside_one, is_entry, is_kept, levels_put_back, looking, named_by_acts, named_by_status, named_in_turn, named_running, named_there, named_within, places_put_back, put_back_by, touched_by, touched_in, undoing}
use Rattle.rb_ready.proofs.Naming.{step_is_no_entry}

module _ (c : Code) (q : Process Standing Copy) (kind : TurnKind) where
  -- a turn that is not kept pays four ticks for looking, and so does a step
  pub looks_unkept : is_kept kind ≡ false → looking (enters_there c kind (Some q)) ≡ 4
  looks_unkept e = ap looking (and_right (is_entry (want c q.state)) (is_kept kind) e)

  pub looks_stepping : (message : Option ℤ) → IsStep message (want c q.state) → looking (enters_there c kind (Some q)) ≡ 4
  looks_stepping message step = ap (λ (entry : Bool). looking (entry && is_kept kind)) (step_is_no_entry message (want c q.state) step)

-- the words that are named in a turn
module _ (c : Code) (groups : List Membership) (t p : ℕ) (q : Process Standing Copy) (w : WordWorld) where
  -- where no level is over its bound, away from a line, they are those of what stands first
  pub named_away : (over : Option ℕ) → over ≡ position is_over q.levels → over ≡ None → q.at_line ≡ false
      → named_within c groups t p q w (position is_over q.levels) ≡ named_by_acts c groups t p q w (want c q.state)
  named_away over e none away =
      ap (named_within c groups t p q w) (sym e ∙ none) ∙ ap (λ (b : Bool). cond b 0 (named_by_acts c groups t p q w (want c q.state))) away

-- ticks of looking and of the words that are named add up
pub pays_waiting : (old now look names : ℕ) → now ≤ old + 3 → look ≡ 4 → now + 3 * 0 ≤ old + look + 3 * names
pays_waiting old now look names ready e = omega (arith, ready, e)

pub pays_entry : (old now look names : ℕ) → now ≤ old → now + 3 * 0 ≤ old + look + 3 * names
pays_entry old now look names entry = omega (arith, entry)

pub pays_step : (old now done later look names same : ℕ) → now ≤ old + 3 → done + 3 * later ≤ now + 3 * same → look ≡ 4 → names ≡ same
    → done + 3 * later ≤ old + look + 3 * names
pays_step old now done later look names same ready work e is = omega (arith, ready, work, e, is)

pub pays_same : (old done look names looked same : ℕ) → done ≤ old + looked + 3 * same → look ≡ looked → names ≡ same → done ≤ old + look + 3 * names
pays_same old done look names looked same work e is = omega (arith, work, e, is)

pub pays_nothing : (old look names : ℕ) → old + 3 * 0 ≤ old + look + 3 * names
pays_nothing old look names = omega arith

-- A turn that was counted changes no sum over the processes that does not see how many turns a level has used.
sum_changed : {A : Type 0} (f : A → ℕ) (g : A → A) → ((x : A) → f (g x) ≡ f x) → (p : ℕ) (xs : List A)
    → sum_by f (change_at p g xs) ≡ sum_by f xs
sum_changed f g same p [] = refl
sum_changed f g same zero (x ∷ xs) =
    sum_by-cons f (g x) xs ∙ (ap (λ (n : ℕ). n + sum_by f xs) (same x) ∙ sym (sum_by-cons f x xs))
sum_changed f g same (suc p) (x ∷ xs) =
    sum_by-cons f x (change_at p g xs) ∙ (ap (λ (n : ℕ). f x + n) (sum_changed f g same p xs) ∙ sym (sum_by-cons f x xs))

sum_alike : {A : Type 0} (f g : A → ℕ) → ((x : A) → f x ≡ g x) → (xs : List A) → sum_by f xs ≡ sum_by g xs
sum_alike f g same [] = refl
sum_alike f g same (x ∷ xs) =
    sum_by-cons f x xs ∙ (ap (λ (n : ℕ). n + sum_by f xs) (same x)
    ∙ (ap (λ (n : ℕ). g x + n) (sum_alike f g same xs) ∙ sym (sum_by-cons g x xs)))

used_of : (x : ℕ) (levels : List (Level Copy)) → list_any (is_of x) (map one_used levels) ≡ list_any (is_of x) levels
used_of x [] = refl
used_of x (level ∷ levels) = ap (λ (b : Bool). is_of x level || b) (used_of x levels)

used_inside : (x : ℕ) (q : Process Standing Copy) → inside_one x (turn_used q) ≡ inside_one x q
used_inside x q = ap (λ (b : Bool). cond b 1 0) (used_of x q.levels)

module _ (p : ℕ) (processes : List (Process Standing Copy)) where
  counted_touched : touched_in (change_at p turn_used processes) ≡ touched_in processes
  counted_touched = sum_changed touched_by turn_used (λ q. refl) p processes

  counted_back : (event : Event) → put_back_by (change_at p turn_used processes) event ≡ put_back_by processes event
  counted_back (Reject r line alternate cause) = refl
  counted_back (RejectAll x alternate by cause) = sum_changed (inside_one x) turn_used (used_inside x) p processes
  counted_back (Error r cause) = refl
  counted_back (Pass x alternate) = refl
  counted_back (Done r) = refl

  counted_levels : (events : List Event) → levels_put_back (change_at p turn_used processes) events ≡ levels_put_back processes events
  counted_levels = sum_alike (put_back_by (change_at p turn_used processes)) (put_back_by processes) counted_back

  -- so going back costs what it costs before the turn was counted
  pub counted_undoing : (kind : TurnKind) (events : List Event) (after : List (Process Standing Copy))
      → undoing kind (change_at p turn_used processes) events after ≡ undoing kind processes events after
  counted_undoing kind events after =
      ap (λ (n : ℕ). places_put_back kind n (touched_in after) + 4 * levels_put_back (change_at p turn_used processes) events) counted_touched
      ∙ ap (λ (n : ℕ). places_put_back kind (touched_in processes) (touched_in after) + 4 * n) (counted_levels events)

-- the work of a running process is that of its turn
module _ (c : Code) (groups : List Membership) (t p : ℕ) (before : WordWorld) (q : Process Standing Copy)
    (there : slice_get before.processes p ≡ Some q)
    (running : q.status ≡ Running) where
  -- what is looked at, and what is named
  pub running_looks : (kind : TurnKind)
      → looking (enters_there c kind (slice_get before.processes p)) ≡ looking (enters_there c kind (Some q))
  running_looks kind = ap (λ (o : Option (Process Standing Copy)). looking (enters_there c kind o)) there

  pub running_names : named_in_turn c groups t p before ≡ named_running c groups t p (turn_used q) before
  running_names = ap (named_there c groups t p before) there ∙ ap (named_by_status c groups t p q before) running
