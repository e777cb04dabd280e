-- Tables of the code of expressions.
use Rattle.std.proofs.Common.{◌≡◌, inl, inr, ℕ, suc, ◌+◌, ◌<◌, ◌≤◌, Bool, true, false, cond, List, [], ◌∷◌, length, Option, Some, None, refl, ap, sym, subst, arith}
use Rattle.rb_base.specs.declared.limits.TheConstants.{MOST_OPERANDS}
use Rattle.rb_syntax.specs.Tree.{Identifier, Expression, Literal, Variable, Former, Minus, Negation, Chained, Quantification, Refer, Scalar, Element, Links, NoLink, Linked}
use Rattle.rb_meaning.specs.Environment.{same_name}
use Rattle.rb_scope.specs.Frames.{Frames, Shape, counter_among, shape_words, shapes_words}
use Rattle.rb_scope.specs.InFrames.{ExpressionInFrames, IsArray, IsScalar, IsValueBy, LinksInFrames}
use Rattle.rb_scope.specs.declared.slot.Slot.{Slot}
use Rattle.rb_world.specs.Kind.{Membership}
use Rattle.rb_world.proofs.ListFacts.{none_some, some_same}
use Rattle.rb_code.specs.Instructions.Plain.{Code}
use Rattle.rb_code.specs.WordMachine.Workspace.{part_of}
use Rattle.rb_code.specs.Agreement.Operands.{HasRoom, LinksHaveRoom}
use Rattle.rb_code.specs.Agreement.Slots.{counter_in, counter_of, elements_of, quantified_in, spot_of}
use Rattle.rb_code.specs.SoundCode.Sound.{Mode, Entry, Fine, InRange, InnermostIs, IsAbove, IsSet, LeadsTo, Loop, OpenBlock, Table, freed}
use Rattle.rb_code.specs.Agreement.Template.{One, ◌⨾◌}
use Rattle.rb_code.specs.Agreement.Forms.{ExpressionCode, LinksCode, QuantifiedCode, ScalarCode, SubscriptCode}
use Rattle.rb_code.specs.declared.instr.Instr.{Instr}
use Rattle.rb_code.specs.declared.instr.Instr.TheVariants as instr
use Rattle.rb_code.proofs.Tables.CounterTables.{loop_over, quantified_tabled, summed_long, summed_operands}
use Rattle.rb_code.proofs.Tables.Forward.{expression_forward, links_forward, operator_forward}
use Rattle.rb_code.proofs.InWords.NamesRead.{array_elements, array_spot, scalar_no_counter, scalar_spot}
use Rattle.rb_code.proofs.Tables.InRanges.{in_range}
use Rattle.rb_code.proofs.InWords.LaidOut.{spot_at}
use Rattle.rb_code.proofs.Tables.LoopStarts.{expression_inside}
use Rattle.rb_code.proofs.Tables.OperatorTables.{beside_long, beside_operands, operator_tabled}
use Rattle.rb_code.proofs.Tables.PlainTables.{Cover, Quiet, cover_within, plain_tabled, point, push_tabled, quiet_on}
use Rattle.rb_code.proofs.Tables.Tabled.{Around, LieAround, Tabled, TabledFirst, joined_first, joined_tabled, none_tabled}

-- The counters of the names around are set, and others that are set are below the next one.
pub record CountersSet (q : ℕ) (named : List (List ℕ × ℕ)) (loops : List Loop) : Type 0 where
  pub set : (x : List ℕ) (k : ℕ) → counter_among named x ≡ Some k → IsSet k loops
  pub below : (k : ℕ) → IsSet k loops → k < q

pub none_set : CountersSet 0 [] []
none_set = record { set = λ x k e. absurd (none_some e); below = λ k s. absurd s }

-- in a limit of a quantified expression, and in its body
in_limit_set : (q : ℕ) (named : List (List ℕ × ℕ)) (loops : List Loop) → CountersSet q named loops → CountersSet (q + 1) named loops
in_limit_set q named loops s = record { set = s.set; below = λ k h. let l = s.below k h in omega arith }

in_body_set : (q first last : ℕ) (name : List ℕ) (named : List (List ℕ × ℕ)) (loops : List Loop) → CountersSet q named loops
    → CountersSet (q + 1) ((name, q) ∷ named) (loop_over q first last ∷ loops)
in_body_set q first last name named loops s = record { set = set; below = below }
  where
    set : (x : List ℕ) (k : ℕ) → counter_among ((name, q) ∷ named) x ≡ Some k → IsSet k (loop_over q first last ∷ loops)
    set x k e = by (same_name name x) e
      where
        by : (p : Bool) → cond p (Some q) (counter_among named x) ≡ Some k → IsSet k (loop_over q first last ∷ loops)
        by true h = inl (some_same h)
        by false h = inr (s.set x k h)

    below : (k : ℕ) → IsSet k (loop_over q first last ∷ loops) → k < q + 1
    below k (inl e) = omega arith
    below k (inr h) = let l = s.below k h in omega arith

module _ (c : Code) (groups : List Membership) (slots : List Slot) (globals : Shape) (shapes : List Shape) (in_test : Bool) where
  -- the frames around an expression: they differ in their counters alone
  abbrev pub frames_with : List (List ℕ × ℕ) → ℕ → Frames
  frames_with named q = record { globals = globals; running = shapes; counters = named; quantified = q; in_test = in_test }

  -- The words of an entry, and in a test those at the entry of the innermost block, have room for those of the frames.
  pub record HasWords (e : Entry) : Type 0 where
    pub above : IsAbove e.blocks e.words
    pub running : shapes_words shapes ≤ e.words
    pub own : shape_words globals ≤ (part_of c e.within.process).words
    pub before : in_test ≡ true → InnermostIs e.blocks (λ block around. shapes_words shapes ≤ block.words)

  pub scalar_range : (words own : ℕ) (name : Identifier) (named : List (List ℕ × ℕ)) (q : ℕ) → shape_words globals ≤ own → shapes_words shapes ≤ words
      → IsScalar slots (frames_with named q) name → InRange own words (spot_of slots name.id) 1
  scalar_range words own name named q low high is =
      subst (λ spot. InRange own words spot 1) (sym (scalar_spot slots name.id is.at is.slot))
      (subst (InRange own words (spot_at is.at)) is.one_word (in_range (frames_with named q) own words name.text is.at is.found low high))

  pub array_range : (words own : ℕ) (name : Identifier) (named : List (List ℕ × ℕ)) (q : ℕ) → shape_words globals ≤ own → shapes_words shapes ≤ words
      → IsArray slots (frames_with named q) name → InRange own words (spot_of slots name.id) (elements_of slots name.id)
  array_range words own name named q low high is =
      subst (λ spot. InRange own words spot (elements_of slots name.id)) (sym (array_spot slots name.id is.at is.slot))
      (subst (InRange own words (spot_at is.at)) (sym (array_elements slots name.id is.at is.slot))
      (in_range (frames_with named q) own words name.text is.at is.found low high))

  -- the innermost block keeps what follows from what it keeps
  innermost_on : (blocks : List OpenBlock) (P Q : OpenBlock → Type 0) → ((block : OpenBlock) → P block → Q block)
      → InnermostIs blocks (λ block around. P block) → InnermostIs blocks (λ block around. Q block)
  innermost_on [] P Q f h = h
  innermost_on (block ∷ around) P Q f h = f block h

  module _ (e : Entry) (words : HasWords e) where
    -- from this mode to that the code of an expression has a table, in these loops
    abbrev pub Leading : Around → ℕ → ℕ → List (Option ℕ) → List Loop → Mode → Mode → Type 0
    Leading R a b os loops mode after =
        ((t : Table) → R t → LeadsTo c groups t b (point e (None ∷ os) loops after)) → TabledFirst c groups R a b (point e os loops mode)

    -- a scalar, or a counter
    name_tabled : (R : Around) (name : Identifier) (named : List (List ℕ × ℕ)) (q a b : ℕ) (os : List (Option ℕ))
        (loops : List Loop) (mode after : Mode)
        (o : Option ℕ) → counter_among named name.text ≡ o → Quiet mode after → CountersSet q named loops
        → IsValueBy o slots (frames_with named q) name
        → length os < MOST_OPERANDS → LieAround a loops → ScalarCode (counter_of slots name.id) (spot_of slots name.id) c a b
        → Leading R a b os loops mode after
    name_tabled R name named q a b os loops mode after None at quiet set is room lies code next =
        let one = subst (λ o. ScalarCode o (spot_of slots name.id) c a b) (scalar_no_counter slots name.id is.at is.slot) code in
        plain_tabled c groups e words.above loops mode after quiet R (instr.Load (spot_of slots name.id)) a b os (None ∷ os) one lies
        (λ t r leads. (scalar_range e.words (part_of c e.within.process).words name named q words.own words.running is, (room, leads))) next
    name_tabled R name named q a b os loops mode after (Some k) at quiet set is room lies code next =
        let one = subst (λ o. ScalarCode o (spot_of slots name.id) c a b) (ap counter_in is.0) code in
        plain_tabled c groups e words.above loops mode after quiet R (instr.Counter k) a b os (None ∷ os) one lies
        (λ t r leads. (set.set name.text k at, (room, leads))) next

    -- an element behind its index
    element_tabled : (R : Around) (one : Instr) (n a m b : ℕ) (os : List (Option ℕ)) (loops : List Loop) (mode after : Mode) → Quiet mode after
        → ((S : Around) → Leading S a m os loops mode after) → a ≤ m → Cover a b loops → (One (instr.Bound n) ⨾ One one) c m b
        → ((t : Table) (d : ℕ) → LeadsTo c groups t (d + 1) (point e (None ∷ os) loops (freed after))
        → Fine c groups t one d (point e (Some n ∷ os) loops after))
        → Leading R a b os loops mode after
    element_tabled R one n a m b os loops mode after quiet index low cover (d, bound, last) fine next =
        let n0 = bound.1 in let n1 = last.1 in
        let R1 : Around = λ t. LeadsTo c groups t d (point e (Some n ∷ os) loops after) × R t in
        joined_first c groups R a d b (point e os loops mode) (point e (Some n ∷ os) loops after)
        (joined_first c groups R1 a m d (point e os loops mode) (point e (None ∷ os) loops after)
        (index (λ t. LeadsTo c groups t m (point e (None ∷ os) loops after) × R1 t) (λ t r. r.0))
        (plain_tabled c groups e words.above loops after after (quiet_on mode after quiet) R1 (instr.Bound n) m d (None ∷ os) (Some n ∷ os) bound
        (cover m (omega arith) (omega arith)) (λ t r leads. (quiet.traps_after, leads)) (λ t r. r.0)).whole)
        (plain_tabled c groups e words.above loops after after (quiet_on mode after quiet) R one d b (Some n ∷ os) (None ∷ os) last
        (cover d (omega arith) (omega arith)) (λ t r leads. fine t d leads) next).whole

    mutual
      unfolding ExpressionCode SubscriptCode LinksCode

      pub expression_tabled : (x : Expression) (named : List (List ℕ × ℕ)) (q : ℕ) (R : Around) (a b : ℕ) (os : List (Option ℕ)) (loops : List Loop)
          (mode after : Mode) → Quiet mode after → CountersSet q named loops → ExpressionInFrames slots (frames_with named q) x
          → HasRoom (length os) x → Cover a b loops → ExpressionCode slots x c a b → Leading R a b os loops mode after
      expression_tabled (Literal number) named q R a b os loops mode after quiet set is room cover code next =
          push_tabled c groups e words.above loops mode after quiet R number.value a b os code
          (cover a (omega arith) (let n = code.1 in omega arith)) room next
      expression_tabled (Variable (Refer name Scalar)) named q R a b os loops mode after quiet set is room cover code next =
          let l = expression_forward c slots (Variable (Refer name Scalar)) a b code in
          name_tabled R name named q a b os loops mode after (counter_among named name.text) refl quiet set is room
          (cover a (omega arith) (omega arith)) code next
      expression_tabled (Variable (Refer name (Element index))) named q R a b os loops mode after quiet set is room cover (m, code, more) next =
          let l = expression_forward c slots index a m code in
          let n0 = more.1.1 in let n1 = more.2.1 in
          element_tabled R (instr.LoadAt (spot_of slots name.id)) (elements_of slots name.id) a m b os loops mode after quiet
          (λ S. expression_tabled index named q S a m os loops mode after quiet set is.1 room
          (cover_within a b a m loops (omega arith) (omega arith) cover) code) (omega arith) cover more
          (λ t d leads. (array_range e.words (part_of c e.within.process).words name named q words.own words.running is.0, leads)) next
      expression_tabled (Former at (Refer name Scalar)) named q R a b os loops mode after quiet set is room cover code next =
          plain_tabled c groups e words.above loops mode after quiet R (instr.Prior (spot_of slots name.id)) a b os (None ∷ os) code
          (cover a (omega arith) (let n = code.1 in omega arith))
          (λ t r leads. (
            innermost_on e.blocks (λ block. shapes_words shapes ≤ block.words)
                (λ block. InRange (part_of c e.within.process).words block.words (spot_of slots name.id) 1)
                (λ block high. scalar_range block.words (part_of c e.within.process).words name named q words.own high is.1) (words.before is.0),
            (room, leads),
          )) next
      expression_tabled (Former at (Refer name (Element index))) named q R a b os loops mode after quiet set is room cover (m, code, more) next =
          let l = expression_forward c slots index a m code in
          let n0 = more.1.1 in let n1 = more.2.1 in
          element_tabled R (instr.PriorAt (spot_of slots name.id)) (elements_of slots name.id) a m b os loops mode after quiet
          (λ S. expression_tabled index named q S a m os loops mode after quiet set is.1.1 room
          (cover_within a b a m loops (omega arith) (omega arith) cover) code) (omega arith) cover more
          (λ t d leads. (
            innermost_on e.blocks (λ block. shapes_words shapes ≤ block.words)
                (λ block. InRange (part_of c e.within.process).words block.words (spot_of slots name.id) (elements_of slots name.id))
                (λ block high. array_range block.words (part_of c e.within.process).words name named q words.own high is.1.0) (words.before is.0),
            leads,
          )) next
      expression_tabled (Minus operand) named q R a b os loops mode after quiet set is room cover (m, code, one) next =
          let l = expression_forward c slots operand a m code in
          let n = one.1 in
          joined_first c groups R a m b (point e os loops mode) (point e (None ∷ os) loops after)
          (expression_tabled operand named q
          (λ t. LeadsTo c groups t m (point e (None ∷ os) loops after) × R t) a m os loops mode after quiet set is room
          (cover_within a b a m loops (omega arith) (omega arith) cover) code (λ t r. r.0))
          (plain_tabled c groups e words.above loops after after (quiet_on mode after quiet) R instr.Neg m b (None ∷ os) (None ∷ os) one
          (cover m (omega arith) (omega arith)) (λ t r leads. (quiet.traps_after, leads)) next).whole
      expression_tabled (Negation operand) named q R a b os loops mode after quiet set is room cover (m, code, one) next =
          let l = expression_forward c slots operand a m code in
          let n = one.1 in
          joined_first c groups R a m b (point e os loops mode) (point e (None ∷ os) loops after)
          (expression_tabled operand named q
          (λ t. LeadsTo c groups t m (point e (None ∷ os) loops after) × R t) a m os loops mode after quiet set is room
          (cover_within a b a m loops (omega arith) (omega arith) cover) code (λ t r. r.0))
          (plain_tabled c groups e words.above loops after after (quiet_on mode after quiet) R instr.Not m b (None ∷ os) (None ∷ os) one
          (cover m (omega arith) (omega arith)) (λ t r leads. leads) next).whole
      expression_tabled (Chained first links) named q R a b os loops mode after quiet set is room cover (m, code, more) next =
          let l = expression_forward c slots first a m code in
          let h = links_forward c slots links m b more in
          joined_first c groups R a m b (point e os loops mode) (point e (None ∷ os) loops after)
          (expression_tabled first named q
          (λ t. LeadsTo c groups t m (point e (None ∷ os) loops after) × R t) a m os loops mode after quiet set is.0 room.0
          (cover_within a b a m loops (omega arith) (omega arith) cover) code (λ t r. r.0))
          (links_tabled links named q R m b os loops after (quiet_on mode after quiet) set is.1 room.1
          (cover_within a b m b loops (omega arith) (omega arith) cover) more next)
      expression_tabled (Quantification kind at name low high body) named q R a b os loops mode after quiet set is room cover code next =
          quantified_tabled c groups e words.above loops after (quiet_on mode after quiet) q is.0 (λ s. let l = set.below q s in absurd (omega arith))
          (ExpressionCode slots low) (ExpressionCode slots high) (ExpressionCode slots body)
          (expression_forward c slots low) (expression_forward c slots high) (expression_forward c slots body)
          (expression_inside c slots body) kind mode R a b os quiet room.0
          (λ m begun S a1 b1 cover1 code1 next1. expression_tabled low named (q + 1) S a1 b1 (summed_operands kind os) loops m after begun
          (in_limit_set q named loops set) is.2 (subst (λ n. HasRoom n low) (summed_long kind os) room.1) cover1 code1 next1)
          (λ S a1 b1 cover1 code1 next1. expression_tabled high named (q + 1) S a1 b1 (None ∷ summed_operands kind os) loops after after
          (quiet_on mode after quiet) (in_limit_set q named loops set) is.3
          (subst (λ n. HasRoom (suc n) high) (summed_long kind os) room.2) cover1 code1 next1)
          (λ first last S a1 b1 cover1 code1 next1. expression_tabled body ((name.text, q) ∷ named) (q + 1) S a1 b1 (summed_operands kind os)
          (loop_over q first last ∷ loops) after after (quiet_on mode after quiet) (in_body_set q first last name.text named loops set) is.4
          (subst (λ n. HasRoom n body) (summed_long kind os) room.3) cover1 code1 next1) cover
          (subst
          (λ j. QuantifiedCode kind j (ExpressionCode slots low) (ExpressionCode slots high) (ExpressionCode slots body) c a b)
          (ap quantified_in is.1) code)
          next

      links_tabled : (links : Links) (named : List (List ℕ × ℕ)) (q : ℕ) (R : Around) (a b : ℕ) (os : List (Option ℕ))
          (loops : List Loop) (after : Mode)
          → Quiet after after → CountersSet q named loops → LinksInFrames slots (frames_with named q) links → LinksHaveRoom (length os) links
          → Cover a b loops → LinksCode slots links c a b → ((t : Table) → R t → LeadsTo c groups t b (point e (None ∷ os) loops after))
          → Tabled c groups R a b (point e (None ∷ os) loops after)
      links_tabled NoLink named q R a b os loops after quiet set is room cover code next =
          none_tabled c groups R a b (point e (None ∷ os) loops after) code next
      links_tabled (Linked op right links) named q R a b os loops after quiet set is room cover (m, code, more) next =
          let l = operator_forward c op (ExpressionCode slots right) (expression_forward c slots right) a m code in
          let h = links_forward c slots links m b more in
          joined_tabled c groups R a m b (point e (None ∷ os) loops after) (point e (None ∷ os) loops after)
          (operator_tabled c groups e words.above loops after quiet (λ t. LeadsTo c groups t m (point e (None ∷ os) loops after) × R t)
          (ExpressionCode slots right) (expression_forward c slots right) os a m
          (cover_within a b a m loops (omega arith) (omega arith) cover) op room.0
          (λ S a1 b1 cover1 code1 next1. expression_tabled right named q S a1 b1 (beside_operands op os) loops after after quiet set is.0
          (subst (λ n. HasRoom n right) (beside_long op os) room.1) cover1 code1 next1) code (λ t r. r.0)).whole
          (links_tabled links named q R m b os loops after quiet set is.1 room.2
          (cover_within a b m b loops (omega arith) (omega arith) cover) more next)
