-- Every world of a run of an erasable kind is ordered: it is grounded, and so its levels are nested and are those of members.
use Rattle.std.proofs.Common.{◌≡◌, ℕ, Bool, List, [], ◌∷◌, refl, ap, ◌∙◌}
use Rattle.rb_world.specs.World.{Level, Process, ProcessStatus, World}
use Rattle.rb_world.specs.Turn.{freed, opening, run}
use Rattle.rb_world.proofs.Keeping.Induction.{run-keeps}
use Rattle.rb_world.proofs.Keeping.EachProcess.{KeepsEach}
use Rattle.rb_world.proofs.Erasing.ErasableKinds.{Nothing, Parts, whole, IsErasable}
use Rattle.rb_world.proofs.Erasing.Showing.ErasureInvariant.{Grounded}
use Rattle.rb_world.proofs.Erasing.Grounding.Grounded.{grounded_kept, opening_grounded}
use Rattle.rb_world.proofs.Erasing.SurvivorsRunAlone.{OpensErasably}
use Rattle.rb_world.proofs.Members.Together.{IsOrdered}

module _ {S E P : Type 0} {x : Parts S E P} {Known : ℕ → Process S S → Type 0} (keeps : KeepsEach (whole x) Known) (laws : IsErasable x Known) where
  -- who holds no line is as it was once lines were released
  nothing_freed : (s : S) (levels : List (Level S)) (line : Bool) (status : ProcessStatus) → (levels ≡ [] → x.held s ≡ [])
      → freed (whole x) (record { state = s; levels = levels; at_line = line; status = status })
      ≡ record { state = s; levels = levels; at_line = line; status = status }
  nothing_freed s [] line status none =
      ap (λ (t : S). record { state = t; levels = []; at_line = line; status = status }) (laws.releases_none s (none refl))
  nothing_freed s (l ∷ levels) line status none = refl

  -- a grounded world is ordered
  grounded_ordered : (w : World S S Nothing) → Grounded x Known w → IsOrdered (whole x) w
  grounded_ordered w ground = record {
    nested = λ r q e. laws.nested r q (ground.each r q e).known;
    members = λ r i c q e at. laws.is_member r q i c (ground.each r q e).known at;
    outermost = λ r c q facts e away wants of_c alone. laws.outermost r q facts c (ground.each r q e).known away wants of_c alone;
    broken = ground.talks;
    quiet = λ r q e. nothing_freed q.state q.levels q.at_line q.status (ground.quiet r q e);
  }

  -- and every world of a run is grounded
  pub run_ordered : {states : List S} → OpensErasably x Known states → (turns : List ℕ)
      → IsOrdered (whole x) (run (whole x) 1 turns (opening (whole x) states tt)).0
  run_ordered {states} opens turns =
      grounded_ordered (run (whole x) 1 turns (opening (whole x) states tt)).0
      (run-keeps (grounded_kept keeps laws) 1 [] turns (opening (whole x) states tt)
      (opening_grounded keeps laws states opens.known (λ r s e. (laws.settles s).held ∙ opens.held r s e)))
