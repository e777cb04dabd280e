-- What the code of a name does where the words are those of the environment: the word of a scalar, an element at its index.
use Rattle.std.proofs.Common.{◌≡◌, ◌<◌, ℕ, ◌+◌, ℤ, pos, negsuc, nat_lt, cond, Bool, true, false, List, ◌∷◌, length, slice_get, unwrap_or, Some, None, Result, Ok, Err, refl, sym, ap, ◌∙◌, subst, arith}
use Rattle.std.proofs.lemmas.Bool.{ltb-true}
use Rattle.rb_base.specs.declared.event.Cause.{Cause}
use Rattle.rb_base.specs.declared.event.Cause.TheVariants.{Index}
use Rattle.rb_syntax.specs.Tree.{Identifier}
use Rattle.rb_meaning.specs.Environment.{Environment, found, values_of, values_or_none}
use Rattle.rb_meaning.specs.Value.{and_then, index_in, number_at}
use Rattle.rb_scope.specs.Frames.{Frames, Lying, OfCall, OfProcess, array_slot, lying, scalar_slot, words_lying}
use Rattle.rb_scope.specs.InFrames.{IsArray, IsScalar}
use Rattle.rb_scope.specs.declared.slot.Slot.{Slot}
use Rattle.rb_code.specs.Instructions.Plain.{Code, Part}
use Rattle.rb_code.specs.WordMachine.Workspace.{Workspace, OpenCall, word_at}
use Rattle.rb_code.specs.WordMachine.Act.{Going, Sight, Trapped, act, here, place}
use Rattle.rb_code.specs.Agreement.Slots.{counter_in, counter_of as counter_slot, elements_in, elements_of, spot_in, spot_of}
use Rattle.rb_code.specs.Agreement.Template.{One}
use Rattle.rb_code.specs.declared.instr.Instr.TheVariants.{Bound}
use Rattle.rb_code.proofs.Agreeing.Leads.{ends, passes}
use Rattle.rb_code.proofs.Agreeing.ResultsReached.{Comes, comes_from, kept_here}
use Rattle.rb_code.proofs.InWords.LaidOut.{place_lying, spot_at}

-- The values of a variable are the words where it lies.
pub record IsFound (part : Part) (calls : List OpenCall) (env : Environment) (words : List ℤ) (x : List ℕ) (at : Lying) : Type 0 where
  pub values : List ℤ
  pub is : found env x ≡ Some values
  pub long : length values ≡ words_lying at
  pub reads : (i : ℕ) → i < words_lying at → slice_get values i ≡ Some (word_at words (place_lying part calls at + i))

-- the same of all variables that frames have
pub record Finds (part : Part) (calls : List OpenCall) (frames : Frames) (env : Environment) (words : List ℤ) : Type 0 where
  pub found : (x : List ℕ) (at : Lying) → lying frames x ≡ Some at → IsFound part calls env words x at

-- what a slot says of a name
pub scalar_spot : (slots : List Slot) (id : ℕ) (at : Lying) → slice_get slots id ≡ Some (scalar_slot at) → spot_of slots id ≡ spot_at at
scalar_spot slots id (OfProcess at words) e = ap spot_in e
scalar_spot slots id (OfCall at words) e = ap spot_in e

pub array_spot : (slots : List Slot) (id : ℕ) (at : Lying) → slice_get slots id ≡ Some (array_slot at) → spot_of slots id ≡ spot_at at
array_spot slots id (OfProcess at words) e = ap spot_in e
array_spot slots id (OfCall at words) e = ap spot_in e

pub array_elements : (slots : List Slot) (id : ℕ) (at : Lying) → slice_get slots id ≡ Some (array_slot at) → elements_of slots id ≡ words_lying at
array_elements slots id (OfProcess at words) e = ap elements_in e
array_elements slots id (OfCall at words) e = ap elements_in e

pub scalar_no_counter : (slots : List Slot) (id : ℕ) (at : Lying) → slice_get slots id ≡ Some (scalar_slot at) → counter_slot slots id ≡ None
scalar_no_counter slots id (OfProcess at words) e = ap counter_in e
scalar_no_counter slots id (OfCall at words) e = ap counter_in e

module _ (c : Code) (see : Sight) where
  -- the place of a spot
  pub place_is : (calls : List OpenCall) (at : Lying) → place c see calls (spot_at at) ≡ place_lying (here c see) calls at
  place_is calls (OfProcess at words) = refl
  place_is calls (OfCall at words) = refl

  -- the value of a scalar
  pub scalar_value : (frames : Frames) (calls : List OpenCall) (env : Environment) (words : List ℤ) (slots : List Slot) (name : Identifier)
      → Finds (here c see) calls frames env words → IsScalar slots frames name
      → number_at (values_of env name.text) 0 ≡ word_at words (place c see calls (spot_of slots name.id))
  scalar_value frames calls env words slots name finds is =
      let f = finds.found name.text is.at is.found in
      let one : words_lying is.at ≡ 1 = is.one_word in
      let off : place_lying (here c see) calls is.at + 0 ≡ place_lying (here c see) calls is.at = omega arith in
      ap (λ o. number_at (values_or_none o) 0) f.is
      ∙ ap (λ o. unwrap_or o (pos 0)) (f.reads 0 (omega (arith, one)))
      ∙ ap (λ n. word_at words n) (off ∙ sym (place_is calls is.at) ∙ ap (λ s. place c see calls s) (sym (scalar_spot slots name.id is.at is.slot)))

  -- a bound, whose index is on top
  pub bound_passes : (n k a d : ℕ) (os : List ℤ) (m : Workspace) → One (Bound n) c a d → nat_lt k n ≡ true
      → act c see (Bound n) a (pos k ∷ os) m ≡ Going (a + 1) (pos k ∷ os) m
  bound_passes n k a d os m h e = ap (λ b. cond b (Going (a + 1) (pos k ∷ os) m) (Trapped Index)) e

  -- an index that is checked, and what comes behind it
  pub bound_comes : {A : Type 0} (n q a d b : ℕ) (values : List ℤ) (i : ℤ) (os : List ℤ) (m : Workspace) (f : A → List ℤ) (g : A → Workspace)
      (h : ℕ → Result A Cause) → One (Bound n) c a d → length values ≡ n
      → ((k : ℕ) → k < n → Comes c see q d (pos k ∷ os) m b f g (h k)) → Comes c see q a (i ∷ os) m b f g (and_then (index_in values i) h)
  bound_comes n q a d b values (negsuc k) os m f g h code e next = ends c see (Bound n) a (negsuc k ∷ os) m (Trapped Index) code.0 refl refl
  bound_comes n q a d b values (pos k) os m f g h code e next =
      subst (λ z. Comes c see q a (pos k ∷ os) m b f g (and_then (cond (nat_lt k z) (Ok k) (Err Index)) h)) (sym e) (by (nat_lt k n) refl)
    where
      by : (t : Bool) → nat_lt k n ≡ t → Comes c see q a (pos k ∷ os) m b f g (and_then (cond t (Ok k) (Err Index)) h)
      by true t =
          comes_from c see q a d (pos k ∷ os) (pos k ∷ os) m m b f g (h k)
          (passes c see (Bound n) a d (pos k ∷ os) (pos k ∷ os) m m code (bound_passes n k a d os m code t)) (kept_here q m.counters)
          (next k (ltb-true k n t))
      by false t =
          ends c see (Bound n) a (pos k ∷ os) m (Trapped Index) code.0
          (ap (λ z. cond z (Going (a + 1) (pos k ∷ os) m) (Trapped Index)) t) refl

  -- an element of an array, and how many it has
  pub array_values : (frames : Frames) (calls : List OpenCall) (env : Environment) (words : List ℤ) (slots : List Slot) (name : Identifier)
      → Finds (here c see) calls frames env words → IsArray slots frames name → length (values_of env name.text) ≡ elements_of slots name.id
  array_values frames calls env words slots name finds is =
      let f = finds.found name.text is.at is.found in
      ap (λ o. length (values_or_none o)) f.is ∙ f.long ∙ sym (array_elements slots name.id is.at is.slot)

  pub element_value : (frames : Frames) (calls : List OpenCall) (env : Environment) (words : List ℤ) (slots : List Slot) (name : Identifier) (k : ℕ)
      → Finds (here c see) calls frames env words → IsArray slots frames name → k < elements_of slots name.id
      → number_at (values_of env name.text) k ≡ word_at words (place c see calls (spot_of slots name.id) + k)
  element_value frames calls env words slots name k finds is l =
      let f = finds.found name.text is.at is.found in
      let n : elements_of slots name.id ≡ words_lying is.at = array_elements slots name.id is.at is.slot in
      ap (λ o. number_at (values_or_none o) k) f.is
      ∙ ap (λ o. unwrap_or o (pos 0)) (f.reads k (subst (λ z. k < z) n l))
      ∙ ap (λ z. word_at words (z + k)) (sym (place_is calls is.at) ∙ ap (λ s. place c see calls s) (sym (array_spot slots name.id is.at is.slot)))
