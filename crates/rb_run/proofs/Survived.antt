-- The survivors of a run as the calls of this crate have them, and that they are the meaning's.
use Rattle.std.proofs.Common.{◌≡◌, ℕ, zero, suc, List, [], ◌∷◌, length, map, slice_get, Option, Ok, Err, Some, refl, sym, ap, ◌∙◌}
use Rattle.std.proofs.lemmas.Simd.{map-map}
use Rattle.rb_outside.specs.Outside.{Faults}
use Rattle.rb_outside.specs.Puts.{Puts}
use Rattle.rb_outside.specs.declared.Failed.{Failed}
use Rattle.rb_syntax.specs.Tree.{Tree}
use Rattle.rb_world.specs.Kind.{Membership}
use Rattle.rb_world.specs.Plain.{survivors_of}
use Rattle.rb_world.specs.World.{Process}
use Rattle.rb_meaning.specs.Groups.{groups_of}
use Rattle.rb_meaning.specs.Laws.{IsAlwaysErased}
use Rattle.rb_meaning.specs.Meaning.{run_of, survivors}
use Rattle.rb_meaning.specs.State.{State}
use Rattle.rb_meaning.proofs.Trees.TreeErasure.{erasure}
use Rattle.rb_judge.proofs.Accepted.{of_accepted}
use Rattle.rb_code.specs.Agreement.Laws.{Agrees}
use Rattle.rb_code.specs.Instructions.Plain.{Code}
use Rattle.rb_code.specs.WordMachine.Turn.{Copy, Standing, kept_from}
use Rattle.rb_code.specs.WordMachine.WordRun.{word_run}
use Rattle.rb_prepare.proofs.AcceptedSources.{accepted_code_agrees}
use Rattle.rb_recovery.specs.Survivors.{word_survivors}
use Rattle.rb_run.specs.Surviving.{IsErasedOver, Survives}
use Rattle.rb_run.specs.declared.surviving.Ended.TheVariants.{WriteFault}

-- a text that was written, or not to its end
pub survives_written : (text : List ℕ) (w0 w1 : Option (List ℕ)) (f0 f1 : Faults) (done : Unit {0})
    → Puts {T = Unit {0}} {E = Failed} text w0 w1 f0 f1 (Ok done)
    → Survives text w0 w1 f0 f1 (Ok tt)
survives_written text w0 w1 f0 f1 done p = record { ok = p.ok; quiet = p.quiet; err = p.err; failed = p.failed }

pub survives_stopped : (text : List ℕ) (w0 w1 : Option (List ℕ)) (f0 f1 : Faults) (e : Failed)
    → Puts {T = Unit {0}} {E = Failed} text w0 w1 f0 f1 (Err e)
    → Survives text w0 w1 f0 f1 (Err WriteFault)
survives_stopped text w0 w1 f0 f1 e p = record { ok = p.ok; quiet = p.quiet; err = p.err; failed = p.failed }

-- two lists that are mapped to the same
maps_same : {A B C : Type 0} (f : A → C) (g : B → C) (xs : List A) (ys : List B) → length xs ≡ length ys
    → ((i : ℕ) (y : B) (x : A) → slice_get ys i ≡ Some y → slice_get xs i ≡ Some x → f x ≡ g y) → map f xs ≡ map g ys
maps_same f g [] [] long same = refl
maps_same f g [] (y ∷ ys) long same = absurd (cc)
maps_same f g (x ∷ xs) [] long same = absurd (cc)
maps_same {C} f g (x ∷ xs) (y ∷ ys) long same =
    ap (λ (z : C). z ∷ map f xs) (same zero y x refl refl)
    ∙ ap (λ (zs : List C). g y ∷ zs) (maps_same f g xs ys (cc) (λ i. same (suc i)))

-- code that agrees with a tree has its survivors
same_survivors : (tree : Tree) (c : Code) (turns : List ℕ) → Agrees tree c turns
    → word_survivors (word_run c (groups_of tree) turns).0 ≡ survivors (run_of tree turns).0
same_survivors tree c turns agrees =
    let words = (word_run c (groups_of tree) turns).0 in
    let trees = (run_of tree turns).0 in
    ap survivors_of
    (maps_same (λ (r : Process Standing Copy). kept_from words.memory.links r.state.last_kept) (λ (q : Process State State). q.state.kept)
    words.processes trees.processes agrees.as_many (λ p q r at_tree at_code. (agrees.processes p q r at_tree at_code).kept)
    ∙ sym (map-map (λ (s : State). s.kept) (λ (q : Process State State). q.state) trees.processes))

-- so what is said of the survivors of a source holds of those of its code
pub erased_over : (c : Code) (groups : List Membership) (turns : List ℕ) → IsErasedOver c groups turns
erased_over c groups turns source tree slots accepted resolved stands same = (
  ap (λ (all : List Membership). word_survivors (word_run c all turns).0) same
      ∙ same_survivors tree c turns (accepted_code_agrees source tree slots c accepted resolved stands turns),
  of_accepted IsAlwaysErased erasure source tree accepted turns,
)
