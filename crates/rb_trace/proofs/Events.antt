-- The events of a turn that are written before the released lines, and those after them.
use Rattle.std.proofs.Common.{◌≡◌, ℕ, Bool, true, false, cond, not, List, [], ◌∷◌, ◌++◌, filter, refl, sym, ap, ◌∙◌}
use Rattle.std.specs.List.{flat_map}
use Rattle.rb_base.specs.declared.event.Event.{Event}
use Rattle.rb_base.specs.declared.event.TurnKind.{TurnKind}
use Rattle.rb_world.specs.Text.{Naming, event_line, is_done, out_lines, told_text}
use Rattle.rb_trace.specs.Report.{event_if, told_of}

-- a choice by one value twice
same_choice : (b : Bool) (line : List ℕ) → cond b (cond b line []) (cond b [] line) ≡ line
same_choice true line = refl
same_choice false line = refl

other_choice : (done told : Bool) (line : List ℕ) → (told ≡ done → ⊥) → cond done (cond told line []) (cond told [] line) ≡ []
other_choice true true line h = absurd (h refl)
other_choice true false line h = refl
other_choice false true line h = refl
other_choice false false line h = absurd (h refl)

-- an event that is wanted
pub wanted : (names : Naming) (t : ℕ) (done told : Bool) (event : Event) → told ≡ is_done event → told ≡ done
    → event_line names t event ≡ event_if names t done event
wanted names t done told event is same =
    sym (same_choice done (event_line names t event))
    ∙ ap (λ (b : Bool). cond done (cond b (event_line names t event) []) (cond b [] (event_line names t event))) (sym same ∙ is)

-- and one that is not
pub unwanted : (names : Naming) (t : ℕ) (done told : Bool) (event : Event) → told ≡ is_done event → (told ≡ done → ⊥)
    → [] ≡ event_if names t done event
unwanted names t done told event is other =
    sym (other_choice done told (event_line names t event) other)
    ∙ ap (λ (b : Bool). cond done (cond b (event_line names t event) []) (cond b [] (event_line names t event))) is

kept_before : (names : Naming) (t : ℕ) (event : Event) (events : List Event) (b : Bool) →
    cond b [] (event_line names t event) ++ flat_map (event_line names t) (filter (λ e. not (is_done e)) events)
    ≡ flat_map (event_line names t) (cond (not b) (event ∷ filter (λ e. not (is_done e)) events) (filter (λ e. not (is_done e)) events))
kept_before names t event events true = refl
kept_before names t event events false = refl

kept_after : (names : Naming) (t : ℕ) (event : Event) (events : List Event) (b : Bool) →
    cond b (event_line names t event) [] ++ flat_map (event_line names t) (filter is_done events)
    ≡ flat_map (event_line names t) (cond b (event ∷ filter is_done events) (filter is_done events))
kept_after names t event events true = refl
kept_after names t event events false = refl

-- all but the `done` lines
pub before_lines : (names : Naming) (t : ℕ) (events : List Event)
    → flat_map (event_if names t false) events ≡ flat_map (event_line names t) (filter (λ e. not (is_done e)) events)
before_lines names t [] = refl
before_lines names t (event ∷ events) =
    ap (λ (x : List ℕ). event_if names t false event ++ x) (before_lines names t events) ∙ kept_before names t event events (is_done event)

-- the `done` lines
pub after_lines : (names : Naming) (t : ℕ) (events : List Event)
    → flat_map (event_if names t true) events ≡ flat_map (event_line names t) (filter is_done events)
after_lines names t [] = refl
after_lines names t (event ∷ events) =
    ap (λ (x : List ℕ). event_if names t true event ++ x) (after_lines names t events) ∙ kept_after names t event events (is_done event)

-- the parts of what a turn tells
pub parts_told : (names : Naming) (t : ℕ) (kind : TurnKind) (events : List Event) (waiting : List (List (List ℕ))) →
    flat_map (event_if names t false) events ++ (out_lines names t 0 waiting ++ flat_map (event_if names t true) events)
    ≡ told_text names t (told_of kind events waiting)
parts_told names t kind events waiting =
    ap (λ (x : List ℕ). x ++ (out_lines names t 0 waiting ++ flat_map (event_if names t true) events)) (before_lines names t events)
    ∙ ap
    (λ (x : List ℕ). flat_map (event_line names t) (filter (λ e. not (is_done e)) events) ++ (out_lines names t 0 waiting ++ x))
    (after_lines names t events)
