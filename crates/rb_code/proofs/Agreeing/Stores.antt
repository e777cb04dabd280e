-- A value that goes to a place: assignments and receipts.
use Rattle.std.proofs.Common.{◌≡◌, ◌<◌, ℕ, ◌+◌, ℤ, pos, negsuc, nat_lt, cond, Bool, List, [], ◌∷◌, length, Option, Some, Result, Ok, Err, true, false, refl, sym, ap, ◌∙◌, subst, arith}
use Rattle.rb_base.specs.declared.event.Cause.{Cause}
use Rattle.rb_base.specs.declared.event.Cause.TheVariants.{Index}
use Rattle.std.proofs.lemmas.Bool.{ltb-true}
use Rattle.rb_world.specs.Slots.{Slots}
use Rattle.rb_syntax.specs.Tree.{Expression, Identifier, Reference, Refer, Scalar, Element, Tree}
use Rattle.rb_meaning.specs.Environment.{values_of}
use Rattle.rb_meaning.specs.Value.{and_then, index_in}
use Rattle.rb_meaning.specs.State.{State}
use Rattle.rb_meaning.specs.Step.{place_in, present_value}
use Rattle.rb_scope.specs.Frames.{Frames, Lying, lying, words_lying}
use Rattle.rb_scope.specs.InFrames.{ExpressionInFrames, IsArray, IsScalar, ReferenceInFrames}
use Rattle.rb_scope.specs.declared.slot.Slot.{Slot}
use Rattle.rb_code.specs.Instructions.Plain.{Code}
use Rattle.rb_code.specs.WordMachine.Workspace.{Counting, Workspace, part_of, written}
use Rattle.rb_code.specs.WordMachine.Act.{Going, Sight, Trapped, place}
use Rattle.rb_code.specs.Agreement.Slots.{elements_of, spot_of}
use Rattle.rb_code.specs.Agreement.Template.{Template, One}
use Rattle.rb_code.specs.Agreement.Forms.{ExpressionCode, StoreCode}
use Rattle.rb_code.specs.declared.instr.Instr.TheVariants.{Bound, Store, StoreAt}
use Rattle.rb_code.proofs.Agreeing.Leads.{ends, passes}
use Rattle.rb_code.proofs.Agreeing.ResultsReached.{Comes, Gives, recounted}
use Rattle.rb_code.proofs.InWords.LaidOut.{place_lying, running, stacks_of}
use Rattle.rb_code.proofs.Agreeing.TextLeft.{frames_at, own_shape}
use Rattle.rb_code.proofs.Agreeing.StatesMeet.{WordsMeet}
use Rattle.rb_code.proofs.InWords.Environments.{InFrames, laid_finds}
use Rattle.rb_code.proofs.Agreeing.Expressions.{expression_comes}
use Rattle.rb_code.proofs.InWords.NamesRead.{Finds, array_elements, array_spot, array_values, bound_passes, place_is, scalar_spot}
use Rattle.rb_code.proofs.Agreeing.StepOutcomes.{HasCursors, InTurn, Took, same_took, took_from, took_on}

-- a result and what follows, grouped otherwise
pub then_then : {A B D : Type 0} (o : Result A Cause) (f : A → Result B Cause) (g : B → Result D Cause)
    → and_then (and_then o f) g ≡ and_then o (λ x. and_then (f x) g)
then_then (Ok x) f g = refl
then_then (Err cause) f g = refl

pub and_then_same : {A B : Type 0} (o : Result A Cause) (f g : A → Result B Cause) → ((x : A) → f x ≡ g x) → and_then o f ≡ and_then o g
and_then_same (Ok x) f g e = e x
and_then_same (Err cause) f g e = refl

module _ (tree : Tree) (slots : List Slot) (c : Code) (see : Sight) (has : HasCursors c see.process) where
  -- an index that is checked
  bound_took : (n a d : ℕ) (values : List ℤ) (i : ℤ) (os : List ℤ) (m : Workspace) (stored : State → Slots) (h : ℕ → Result State Cause)
      → One (Bound n) c a d
      → length values ≡ n → ((k : ℕ) → k < n → Took tree slots c see has d (pos k ∷ os) m stored (h k))
      → Took tree slots c see has a (i ∷ os) m stored (and_then (index_in values i) h)
  bound_took n a d values (negsuc k) os m stored h code e next = ends c see (Bound n) a (negsuc k ∷ os) m (Trapped Index) code.0 refl refl
  bound_took n a d values (pos k) os m stored h code e next =
      subst (λ z. Took tree slots c see has a (pos k ∷ os) m stored (and_then (cond (nat_lt k z) (Ok k) (Err Index)) h))
      (sym e) (by (nat_lt k n) refl)
    where
      by : (t : Bool) → nat_lt k n ≡ t → Took tree slots c see has a (pos k ∷ os) m stored (and_then (cond t (Ok k) (Err Index)) h)
      by true t =
          took_from tree slots c see has a d (pos k ∷ os) (pos k ∷ os) m m stored (h k)
          (passes c see (Bound n) a d (pos k ∷ os) (pos k ∷ os) m m code (bound_passes c see n k a d os m code t)) (next k (ltb-true k n t))
      by false t =
          ends c see (Bound n) a (pos k ∷ os) m (Trapped Index) code.0
          (ap (λ z. cond z (Going (a + 1) (pos k ∷ os) m) (Trapped Index)) t) refl

  -- the frames around what stands first
  abbrev pub frames_of : State → Frames
  frames_of s = frames_at tree see.process (running (stacks_of s.environment.calls))

  pub in_frames : (s : State) (m : Workspace) → WordsMeet tree c see.process s m.words m.calls
      → InFrames (part_of c see.process) s.environment (frames_of s)
  in_frames s m w = (sym w.globals, refl)

  pub finds : (s : State) (m : Workspace) → WordsMeet tree c see.process s m.words m.calls
      → Finds (part_of c see.process) m.calls (frames_of s) s.environment m.words
  finds s m w = laid_finds (part_of c see.process) w.front s.environment m.words m.calls w.laid (frames_of s) (in_frames s m w)

  -- an expression outside tests
  pub plain_comes : (s : State) (m : Workspace) → InTurn tree slots c see has s m → (e : Expression) → ExpressionInFrames slots (frames_of s) e
      → (a b : ℕ) (set : List (Option Counting)) (os : List ℤ) → length set ≡ 2 → ExpressionCode slots e c a b
      → Gives c see 0 a os (recounted set m) b (present_value s.environment e)
  plain_comes s m turn e is a b set os two code =
      expression_comes c see slots (own_shape tree see.process) (running (stacks_of s.environment.calls)) false s.environment s.environment m
      (finds s m turn.words_meet) (λ h. absurd cc) e [] 0 [] a b set os (record { fit = tt; two = two }) is code

  -- A value goes to the place of a reference: first the place's index, then the value, then it is stored.
  module _ (s : State) (m : Workspace) (turn : InTurn tree slots c see has s m) (valued : Template) (r : Result ℤ Cause)
      (g : Workspace) (same_calls : g.calls ≡ m.calls)
      (value_comes : (a b : ℕ) (set : List (Option Counting)) (os : List ℤ) → length set ≡ 2 → valued c a b
      → Comes c see 0 a os (recounted set m) b (λ y. y ∷ os) (λ y. g) r)
      (stored : State → Slots) (h : List ℕ × ℕ → ℤ → Result State Cause) (b : ℕ)
      (go : (x : List ℕ) (at : Lying) → lying (frames_of s) x ≡ Some at → (k : ℕ) → k < words_lying at
      → (y : ℤ) (later : List (Option Counting)) → length later ≡ 2
      → Took tree slots c see has b [] (written (place_lying (part_of c see.process) m.calls at + k) y (recounted later g)) stored (h (x, k) y)) where
    many_of : (later : List (Option Counting)) → length later ≡ length m.counters → length later ≡ 2
    many_of later many = many ∙ turn.two

    -- behind the index
    index_took : (name : Identifier) (is : IsArray slots (frames_of s) name) (d1 d2 k : ℕ) (later : List (Option Counting)) → length later ≡ 2
        → valued c d1 d2 → One (StoreAt (spot_of slots name.id)) c d2 b → k < elements_of slots name.id
        → Took tree slots c see has d1 (pos k ∷ []) (recounted later m) stored (and_then r (λ y. h (name.text, k) y))
    index_took name is d1 d2 k later two value_code last l =
        let at_word = place_lying (part_of c see.process) m.calls is.at + k in
        let is_there : place c see g.calls (spot_of slots name.id) + k ≡ place_lying (part_of c see.process) m.calls is.at + k =
        ap (λ n. n + k)
        (ap (λ cs. place c see cs (spot_of slots name.id)) same_calls
        ∙ ap (λ z. place c see m.calls z) (array_spot slots name.id is.at is.slot)
        ∙ place_is c see m.calls is.at) in
        took_on tree slots c see has d1 d2 (pos k ∷ []) (recounted later m) (λ y. y ∷ pos k ∷ []) (λ y. g) stored r (λ y. h (name.text, k) y)
        (value_comes d1 d2 later (pos k ∷ []) two value_code)
        (λ y newer e many. took_from tree slots c see has d2 b (y ∷ pos k ∷ []) [] (recounted newer g)
        (written at_word y (recounted newer g)) stored (h (name.text, k) y)
        (passes c see (StoreAt (spot_of slots name.id)) d2 b (y ∷ pos k ∷ []) [] (recounted newer g) (written at_word y (recounted newer g)) last
        (ap (λ n. Going (d2 + 1) [] (written n y (recounted newer g))) is_there))
        (go name.text is.at is.found k (subst (λ n. k < n) (array_elements slots name.id is.at is.slot) l) y newer (many ∙ two)))

    store_scalar : (name : Identifier) (a : ℕ) → IsScalar slots (frames_of s) name → StoreCode slots (Refer name Scalar) valued c a b
        → Took tree slots c see has a [] m stored (and_then (place_in s.environment (Refer name Scalar)) (λ place. and_then r (λ y. h place y)))
    store_scalar name a is (d, code, last) =
        let at_word = place_lying (part_of c see.process) m.calls is.at + 0 in
        let none : place_lying (part_of c see.process) m.calls is.at ≡ place_lying (part_of c see.process) m.calls is.at + 0 = omega arith in
        let is_there : place c see g.calls (spot_of slots name.id) ≡ place_lying (part_of c see.process) m.calls is.at + 0 =
        ap (λ cs. place c see cs (spot_of slots name.id)) same_calls ∙ ap (λ z. place c see m.calls z) (scalar_spot slots name.id is.at is.slot)
        ∙ place_is c see m.calls is.at ∙ none in
        took_on tree slots c see has a d [] m (λ y. y ∷ []) (λ y. g) stored r (λ y. h (name.text, 0) y) (value_comes a d m.counters [] turn.two code)
        (λ y later e many. took_from tree slots c see has d b (y ∷ []) [] (recounted later g)
        (written at_word y (recounted later g)) stored (h (name.text, 0) y)
        (passes c see (Store (spot_of slots name.id)) d b (y ∷ []) [] (recounted later g) (written at_word y (recounted later g)) last
        (ap (λ k. Going (d + 1) [] (written k y (recounted later g))) is_there))
        (go name.text is.at is.found 0 (let one : words_lying is.at ≡ 1 = is.one_word in omega (arith, one)) y later (many_of later many)))

    -- an element, whose index stands below the value
    store_element : (name : Identifier) (index : Expression) (a : ℕ) → IsArray slots (frames_of s) name → ExpressionInFrames slots (frames_of s) index
        → StoreCode slots (Refer name (Element index)) valued c a b
        → Took tree slots c see has a [] m stored
        (and_then (place_in s.environment (Refer name (Element index))) (λ place. and_then r (λ y. h place y)))
    store_element name index a is fits (d, code, (d1, bound, (d2, value_code, last))) =
        let places : ℕ → Result (List ℕ × ℕ) Cause = λ n. Ok (name.text, n) in
        same_took tree slots c see has a [] m stored
        (and_then (present_value s.environment index)
        (λ i. and_then (index_in (values_of s.environment name.text) i) (λ n. and_then r (λ y. h (name.text, n) y)))) _
        (sym (then_then (present_value s.environment index)
        (λ i. and_then (index_in (values_of s.environment name.text) i) places) (λ place. and_then r (λ y. h place y))
        ∙ and_then_same {B = State} (present_value s.environment index) _ _
        (λ i. then_then (index_in (values_of s.environment name.text) i) places (λ place. and_then r (λ y. h place y)))))
        (took_on tree slots c see has a d [] m (λ y. y ∷ []) (λ y. m) stored (present_value s.environment index) _
        (plain_comes s m turn index fits a d m.counters [] turn.two code)
        (λ i later e many. bound_took (elements_of slots name.id) d d1 (values_of s.environment name.text) i [] (recounted later m) stored
        (λ n. and_then r (λ y. h (name.text, n) y)) bound
        (array_values c see (frames_of s) m.calls s.environment m.words slots name (finds s m turn.words_meet) is)
        (λ k l. index_took name is d1 d2 k later (many_of later many) value_code last l)))

    pub store_took : (to : Reference) (a : ℕ) → ReferenceInFrames slots (frames_of s) (IsScalar slots (frames_of s)) to
        → StoreCode slots to valued c a b
        → Took tree slots c see has a [] m stored (and_then (place_in s.environment to) (λ place. and_then r (λ y. h place y)))
    store_took (Refer name Scalar) a is code = store_scalar name a is code
    store_took (Refer name (Element index)) a is code = store_element name index a is.0 is.1 code
