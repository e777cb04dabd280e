-- To which recovery point a process went back is told by what is kept in mind of its levels.
use Rattle.std.proofs.Common.{◌≡◌, ℕ, List, [], map, slice_get, option_map, Option, Some, None, refl, ap, sym, ◌∙◌}
use Rattle.std.proofs.lemmas.Option.{slice_get-map}
use Rattle.rb_base.specs.declared.event.TurnKind.{TurnKind}
use Rattle.rb_base.specs.declared.event.TurnKind.TheVariants.{Idle, Wait, Took, Undone}
use Rattle.rb_base.specs.declared.names.Names.{Names}
use Rattle.rb_trace.specs.Naming.{naming, process_naming}
use Rattle.rb_world.specs.Text.{ProcessNaming}
use Rattle.rb_machine.specs.Machine.{Seen}
use Rattle.rb_changes.specs.Changes.{all_back, back_line, back_of, change_of, put_back}
use Rattle.rb_changes.specs.Noted.{ProcessNoted, WorldNoted, noted_of, process_noted, shown_with}
use Rattle.rb_changes.specs.Shown.{ProcessShown}
use Rattle.rb_picture.specs.Trace.{back_text}
use Rattle.rb_changes.specs.declared.noted.OpenLevel.{OpenLevel}
use Rattle.rb_changes.specs.declared.noted.ProcessWas.{ProcessWas}
use Rattle.rb_view.specs.Noting.{back_shown, processes_noted}
use Rattle.rb_view.specs.Steady.{noted_now, shown_now}
use Rattle.rb_view.proofs.Changed.{numbered_same}
use Rattle.rb_view.proofs.Filling.{map-map}

levels_of : ProcessShown → List OpenLevel
levels_of p = p.levels

levels_kept : ProcessNoted → List OpenLevel
levels_kept n = n.levels

back_by : ℕ → List ℕ → List OpenLevel → Option (List OpenLevel) → List ℕ
back_by t name before None = []
back_by t name before (Some after) = back_line t name (put_back before after)

back_alike : (t : ℕ) (name : ProcessNaming) (b : Option ProcessNoted) (a d : Option ProcessShown)
    → option_map levels_of a ≡ option_map levels_of d → change_of (back_of t name) b a ≡ change_of (back_of t name) b d
unfolding back_by levels_of
back_alike t name None a d e = refl
back_alike t name (Some b) None None e = refl
back_alike t name (Some b) None (Some d) e = absurd (cc)
back_alike t name (Some b) (Some a) None e = absurd (cc)
back_alike t name (Some b) (Some a) (Some d) e = ap (back_by t name.name b.levels) e

all_alike : (t : ℕ) (names : List ProcessNaming) (before : List ProcessNoted) (after other : List ProcessShown)
    → map levels_of after ≡ map levels_of other → all_back t names before after ≡ all_back t names before other
all_alike t names before after other e =
    numbered_same _ _ 0 names (λ k name. back_alike t name (slice_get before k) (slice_get after k) (slice_get other k)
    (sym (slice_get-map levels_of after k) ∙ ap (λ (all : List (List OpenLevel)). slice_get all k) e ∙ slice_get-map levels_of other k))

same_levels : (m : Seen) (now : List ProcessWas) → processes_noted now ≡ (noted_now m).processes
    → map levels_of (map (shown_with []) now) ≡ map levels_of (shown_now m).processes
unfolding levels_of levels_kept
same_levels m now same =
    map-map levels_of (shown_with []) now ∙ sym (map-map levels_kept noted_of now) ∙ ap (map levels_kept) same
    ∙ map-map levels_kept process_noted (shown_now m).processes

-- which processes a turn put back
pub back_is : (kind : TurnKind) (t : ℕ) (names : Names) (before : WorldNoted) (m : Seen) (now : List ProcessWas)
    → processes_noted now ≡ (noted_now m).processes
    → back_shown kind t (map process_naming names.processes.items) before.processes (map (shown_with []) now)
    ≡ back_text kind t (naming names) before (shown_now m)
back_is Undone t names before m now same =
    all_alike t (map process_naming names.processes.items) before.processes (map (shown_with []) now) (shown_now m).processes (same_levels m now same)
back_is Idle t names before m now same = refl
back_is Wait t names before m now same = refl
back_is Took t names before m now same = refl
