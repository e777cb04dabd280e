-- A turn that is undone changes no other process than those inside the outermost conversation that it rejects.
use Rattle.std.proofs.Common.{◌≡◌, ℕ, List, [], option_map, Option, Some, None, refl, ap, ◌∙◌}
use Rattle.std.proofs.lemmas.Option.{slice_get-map}
use Rattle.rb_base.specs.declared.event.Cause.TheVariants.{Broken}
use Rattle.rb_base.specs.declared.event.Event.{Event}
use Rattle.rb_base.specs.declared.event.TurnKind.TheVariants.{Idle, Wait, Took, Undone}
use Rattle.rb_world.specs.Kind.{Kind}
use Rattle.rb_world.specs.World.{Process, World}
use Rattle.rb_world.specs.Reject.{Happened, fallen, reject}
use Rattle.rb_world.specs.Turn.{Moved, freed, move, turn, turn_used, undone}
use Rattle.rb_world.proofs.TurnFacts.{RunsAt}
use Rattle.rb_world.proofs.ListFacts.{slice_get-change_other}
use Rattle.rb_world.proofs.Members.Outcomes.{Outcomes, counted, move-comes}
use Rattle.rb_world.proofs.Members.Cascade.{AllBack, AllFallen, AllNested, Alone, ArePrivate, EndsIn, Ends, LeavesOthers}
use Rattle.rb_world.proofs.Members.CascadeEnds.{reject-ends}
use Rattle.rb_world.proofs.Members.CountedTurns.{counted_nested, counted_other, counted_there}
use Rattle.rb_world.proofs.Members.Together.{IsOrdered}

-- the outermost conversation that these events reject for p, if they reject one
abbrev pub IsOutermost : ℕ → Option ℕ → List Event → Type 0
IsOutermost p None events = ArePrivate events
IsOutermost p (Some c) events = EndsIn c p events

-- what an undone turn leaves alone
pub record StaysInside {S C M : Type 0} (p : ℕ) (w : World S C M) (moved : Moved S C M) : Type 0 where
  pub conversation : Option ℕ
  pub outermost : IsOutermost p conversation moved.rejections
  pub no_pass : moved.passes ≡ []
  pub others : LeavesOthers p conversation w moved.world

abbrev IfUndone : {S C M : Type 0} → ℕ → World S C M → Moved S C M → Type 0
IfUndone p w moved = moved.kind ≡ Undone → StaysInside p w moved

not_idle : Idle ≡ Undone → ⊥
not_idle e = cc

not_wait : Wait ≡ Undone → ⊥
not_wait e = cc

not_took : Took ≡ Undone → ⊥
not_took e = cc

module _ {S C M : Type 0} (k : Kind S C M) (p : ℕ) (w : World S C M) where
  -- who was left alone since the turn was counted was left alone in it
  others_before : (q : Process S C) (conversation : Option ℕ) (later : World S C M) → RunsAt p q w → LeavesOthers p conversation (counted p q w) later
      → LeavesOthers p conversation w later
  others_before q conversation later runs others r x e other outside = others r x (counted_other k p q w runs r other ∙ e) other outside

  cascade_stays : (q : Process S C) (h : Happened S C M) → RunsAt p q w → Ends k p (turn_used q) (counted p q w) None h → StaysInside p w (undone h)
  cascade_stays q h runs (Alone none private others keeps) = record {
    conversation = None;
    outermost = private;
    no_pass = refl;
    others = others_before q None h.0 runs others;
  }
  cascade_stays q h runs (AllBack c j events at others back) = record {
    conversation = Some c;
    outermost = events;
    no_pass = refl;
    others = others_before q (Some c) h.0 runs others;
  }
  cascade_stays q h runs (AllFallen c j events at outermost others fell) = record {
    conversation = Some c;
    outermost = events;
    no_pass = refl;
    others = others_before q (Some c) h.0 runs others;
  }

  stays_outcomes : AllNested k w → Outcomes k p w (IfUndone p w)
  stays_outcomes nested = record {
    idle = λ e. absurd (not_idle e);
    rested = λ q runs e. absurd (not_idle e);
    waited = λ q runs e. absurd (not_wait e);
    went = λ q s m runs e. absurd (not_took e);
    entered = λ q facts alternate s m runs e. absurd (not_took e);
    accepts = λ q level s m runs last alone e. absurd (not_took e);
    stands = λ q s m runs e. absurd (not_took e);
    passes = λ q level c alternate s m runs last of_c all e. absurd (not_took e);
    barred = λ q facts c talk runs away wants of_c at broken e. record {
      conversation = None;
      outermost = tt;
      no_pass = refl;
      others = λ r x there other outside.
          slice_get-change_other p (fallen k Broken) (counted p q w).processes r other ∙ (counted_other k p q w runs r other ∙ there);
    };
    rejects = λ q n cause runs within none e.
        cascade_stays q (reject k p n cause (counted p q w)) runs
        (reject-ends k p (turn_used q) (counted p q w) (counted_there k p q w runs) (counted_nested k p q w runs nested) n cause within none);
  }

  -- what an undone turn rejects, and whom it leaves alone before lines are released
  pub move-stays : (t : ℕ) → AllNested k w → (move k t p w).kind ≡ Undone → StaysInside p w (move k t p w)
  move-stays t nested = move-comes (stays_outcomes nested) t

  -- and once they were released, where there were none
  pub turn-stays : (t : ℕ) → IsOrdered k w → (stays : StaysInside p w (move k t p w)) → LeavesOthers p stays.conversation w (turn k t p w).0
  turn-stays t ordered stays r q e other outside =
      slice_get-map (freed k) (move k t p w).world.processes r
      ∙ (ap (option_map (freed k)) (stays.others r q e other outside) ∙ ap Some (ordered.quiet r q e))
