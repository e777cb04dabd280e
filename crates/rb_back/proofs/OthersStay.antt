-- A turn that passes no test line and rejects no conversation changes no process but its own.
use Rattle.std.proofs.Common.{◌≡◌, ◌≤◌, ◌&&◌, ◌⊎◌, inl, inr, ap₂, arith, ℕ, zero, suc, ◌+◌, Bool, true, List, [], ◌∷◌, ◌++◌, length, option_map, Option, Some, None, slice_get, refl, sym, ap, ◌∙◌, subst}
use Rattle.std.specs.List.{list_all}
use Rattle.std.proofs.lemmas.Option.{slice_get-map, slice_get_past}
use Rattle.rb_base.specs.declared.event.Event.{Event}
use Rattle.rb_base.specs.declared.event.Event.TheVariants.{Reject, RejectAll, Error, Pass, Done}
use Rattle.rb_base.specs.declared.event.TurnKind.{TurnKind}
use Rattle.rb_base.specs.declared.event.TurnKind.TheVariants.{Idle, Wait, Took, Undone}
use Rattle.rb_world.specs.Kind.{Kind, Membership}
use Rattle.rb_world.specs.Together.{IsOutside, outermost_rejected}
use Rattle.rb_world.specs.Turn.{Moved, compared, done_at, error_at, freed, move, turn}
use Rattle.rb_world.specs.World.{Process, World}
use Rattle.rb_world.proofs.ListFacts.{first_holds, second_holds}
use Rattle.rb_world.proofs.Keeping.StandingFacts.{run-size}
use Rattle.rb_world.proofs.Members.Outcomes.{Outcomes, move-comes}
use Rattle.rb_code.specs.Instructions.Plain.{Code}
use Rattle.rb_code.specs.SoundCode.WellFormed.{IsSound}
use Rattle.rb_code.specs.WordMachine.Turn.{Common, Copy, Standing}
use Rattle.rb_code.specs.WordMachine.WordKind.{word_kind}
use Rattle.rb_code.specs.WordMachine.WordRun.{WordWorld, word_run}
use Rattle.rb_machine.specs.Telling.{SameBut, is_alone, takes_nothing_back}
use Rattle.rb_machine.proofs.Knowing.OrderedRuns.{runs_ordered}
use Rattle.rb_machine.proofs.Together.Alone.{moves_alone}
use Rattle.rb_machine.proofs.Together.UndoneTurns.{rejections_stay_inside}
use Rattle.rb_back.specs.Others.{OthersStay, all_keep_others, keeps_others}

-- a test that all elements pass is passed by those of each part
parts_pass : {A : Type 0} (test : A → Bool) (xs ys : List A) → list_all test (xs ++ ys) ≡ true
    → (list_all test xs ≡ true) × (list_all test ys ≡ true)
parts_pass test [] ys e = (refl, e)
parts_pass test (x ∷ xs) ys e =
    let rest = parts_pass test xs ys (second_holds (test x) (list_all test (xs ++ ys)) e) in
    (ap₂ ◌&&◌ (first_holds (test x) (list_all test (xs ++ ys)) e) rest.0, rest.1)

-- past the end of a list nothing is there
pub past_end : {A : Type 0} (xs : List A) (n : ℕ) → slice_get xs n ≡ None → length xs ≤ n
past_end [] n e = omega arith
past_end (x ∷ xs) zero e = absurd (cc)
past_end (x ∷ xs) (suc n) e = omega (arith, past_end xs n e)

-- events that keep others reject no conversation
none_rejected : (events : List Event) → all_keep_others events ≡ true → outermost_rejected events ≡ None
none_rejected [] e = refl
none_rejected (Reject p line a cause ∷ events) e = none_rejected events e
none_rejected (RejectAll c a p cause ∷ events) e = absurd (cc)
none_rejected (Error p cause ∷ events) e = none_rejected events e
none_rejected (Pass c a ∷ events) e = absurd (cc)
none_rejected (Done p ∷ events) e = none_rejected events e

-- what a turn passes
abbrev PassesOne : {S C M : Type 0} → Moved S C M → Type 0
PassesOne moved = (moved.passes ≡ []) ⊎ ((c : ℕ) × (a : ℕ) × (moved.passes ≡ Pass c a ∷ []))

passes_one : {S C M : Type 0} (k : Kind S C M) (p : ℕ) (w : World S C M) → Outcomes k p w PassesOne
passes_one k p w = record {
  idle = inl refl;
  rested = λ q runs. inl refl;
  waited = λ q runs. inl refl;
  went = λ q s m runs. inl refl;
  entered = λ q facts alternate s m runs. inl refl;
  accepts = λ q level s m runs last alone. inl refl;
  stands = λ q s m runs. inl refl;
  passes = λ q level c alternate s m runs last of_c all. inr (c, alternate, refl);
  barred = λ q facts c talk runs away wants of_c there broken. inl refl;
  rejects = λ q n cause runs within all. inl refl;
}

-- lists that are alike but at one number have the same elsewhere
same_elsewhere : {A : Type 0} (p r : ℕ) (xs ys : List A) → SameBut p xs ys → (r ≡ p → ⊥) → slice_get ys r ≡ slice_get xs r
same_elsewhere p r [] [] h other = refl
same_elsewhere p r [] (y ∷ ys) h other = absurd h
same_elsewhere p r (x ∷ xs) [] h other = absurd h
same_elsewhere zero zero (x ∷ xs) (y ∷ ys) h other = absurd (other refl)
same_elsewhere {A} zero (suc r) (x ∷ xs) (y ∷ ys) h other = ap (λ (zs : List A). slice_get zs r) (sym h)
same_elsewhere {A} (suc p) zero (x ∷ xs) (y ∷ ys) h other = ap (λ (z : A). Some z) (sym h.0)
same_elsewhere (suc p) (suc r) (x ∷ xs) (y ∷ ys) h other = same_elsewhere p r xs ys h.1 (λ e. other (ap suc e))

module _ (c : Code) (groups : List Membership) (counts : List ℕ) (sound : IsSound c groups counts) (turns : List ℕ) (p : ℕ) where
  abbrev Words : Kind Standing Copy Common
  Words = word_kind c groups

  abbrev before : WordWorld
  before = (word_run c groups turns).0

  abbrev moved : Moved Standing Copy Common
  moved = move Words (length turns + 1) p before

  abbrev after : WordWorld
  after = (turn Words (length turns + 1) p before).0

  -- the events that are told of the turn, part by part
  pub passes_keep : all_keep_others (turn Words (length turns + 1) p before).1.events ≡ true → all_keep_others moved.passes ≡ true
  passes_keep e =
      let errors : List Event = compared error_at 0 before.processes moved.world.processes in
      let completions : List Event = compared done_at 0 before.processes moved.world.processes in
      let behind = (parts_pass keeps_others moved.rejections (errors ++ (moved.passes ++ completions)) e).1 in
      (parts_pass keeps_others moved.passes completions (parts_pass keeps_others errors (moved.passes ++ completions) behind).1).0

  pub none_passed : all_keep_others moved.passes ≡ true → moved.passes ≡ []
  none_passed e = by (move-comes (passes_one Words p before) (length turns + 1))
    where
      by : PassesOne moved → moved.passes ≡ []
      by (inl none) = none
      by (inr (d, a, one)) = absurd (let kept : all_keep_others (Pass d a ∷ []) ≡ true = ap all_keep_others (sym one) ∙ e in cc)

  quiet : (r : ℕ) (o : Option (Process Standing Copy)) → slice_get before.processes r ≡ o → option_map (freed Words) o ≡ o
  quiet r None there = refl
  quiet r (Some q) there = ap (λ (one : Process Standing Copy). Some one) ((runs_ordered c groups counts sound turns).quiet r q there)

  alone_stay : takes_nothing_back moved.kind ≡ true → moved.passes ≡ [] → (r : ℕ) → (r ≡ p → ⊥)
      → slice_get after.processes r ≡ slice_get before.processes r
  alone_stay kept none r other =
      let alone : is_alone moved.kind moved.passes ≡ true = ap (is_alone moved.kind) none ∙ kept in
      slice_get-map (freed Words) moved.world.processes r
      ∙ ap (option_map (freed Words))
      (same_elsewhere p r before.processes moved.world.processes (moves_alone Words (length turns + 1) p before alone) other)
      ∙ quiet r (slice_get before.processes r) refl

  undone_stay : moved.kind ≡ Undone → all_keep_others (turn Words (length turns + 1) p before).1.events ≡ true → (r : ℕ) → (r ≡ p → ⊥)
      → (o : Option (Process Standing Copy)) → slice_get before.processes r ≡ o → slice_get after.processes r ≡ o
  undone_stay undone e r other None there =
      slice_get_past after.processes r
      (omega (arith, past_end before.processes r there, (run-size Words (length turns + 1) (p ∷ []) before).of_processes))
  undone_stay undone e r other (Some q) there =
      rejections_stay_inside c groups counts sound turns p undone r q there other
      (subst (λ (o : Option ℕ). IsOutside o q) (sym (none_rejected (turn Words (length turns + 1) p before).1.events e)) tt)

  by_kind : (kind : TurnKind) → moved.kind ≡ kind → all_keep_others (turn Words (length turns + 1) p before).1.events ≡ true → (r : ℕ)
      → (r ≡ p → ⊥) → slice_get after.processes r ≡ slice_get before.processes r
  by_kind Idle is e r other = alone_stay (ap takes_nothing_back is) (none_passed (passes_keep e)) r other
  by_kind Wait is e r other = alone_stay (ap takes_nothing_back is) (none_passed (passes_keep e)) r other
  by_kind Took is e r other = alone_stay (ap takes_nothing_back is) (none_passed (passes_keep e)) r other
  by_kind Undone is e r other = undone_stay is e r other (slice_get before.processes r) refl

pub others_stay : OthersStay
others_stay c groups counts sound turns p e r other =
    by_kind c groups counts sound turns p (move (word_kind c groups) (length turns + 1) p (word_run c groups turns).0).kind refl e r other
