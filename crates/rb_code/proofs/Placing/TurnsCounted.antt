-- How many turns begin before an address, and which place is told at a turn; and templates that begin no turn, or turns with these places.
use Rattle.std.proofs.Common.{◌≡◌, ℕ, zero, suc, ◌+◌, Bool, true, false, cond, List, [], ◌∷◌, ◌++◌, length, slice_get, Option, Some, None, refl, sym, ap, ◌∙◌, subst, arith, length-append}
use Rattle.std.proofs.lemmas.Option.{slice_get_within}
use Rattle.rb_base.specs.declared.place.Place.{Place}
use Rattle.rb_syntax.specs.Tree.{Tree}
use Rattle.rb_world.proofs.ListFacts.{none_some, slice_get-front, some_same}
use Rattle.rb_code.specs.Instructions.Plain.{Block, Code}
use Rattle.rb_code.specs.Agreement.Places.{is_turn, place_number, placed_from, processes_turns}
use Rattle.rb_code.specs.Agreement.Template.{Template, One, ◌⨾◌, Empty, Only, At, Label, Quoted, WithBlock, Listed}
use Rattle.rb_code.specs.declared.instr.Instr.{Instr}
use Rattle.rb_code.specs.declared.instr.Instr.TheVariants.{Text, Turn}
use Rattle.rb_code.proofs.Agreeing.Placed.{TurnAt}
use Rattle.rb_code.proofs.InWords.VariablesInWords.{get_behind}

-- how many turns begin before an address
abbrev pub begun : List Instr → ℕ → ℕ
begun instrs zero = 0
begun [] (suc a) = 0
begun (instr ∷ instrs) (suc a) = cond (is_turn instr) (suc (begun instrs a)) (begun instrs a)

two_counted : (s t : Bool) (n : ℕ) → cond s (suc (cond t (suc n) n)) (cond t (suc n) n) ≡ cond t (suc (cond s (suc n) n)) (cond s (suc n) n)
two_counted true true n = refl
two_counted true false n = refl
two_counted false true n = refl
two_counted false false n = refl

pub begun_past : (instrs : List Instr) (a : ℕ) (instr : Instr) → slice_get instrs a ≡ Some instr
    → begun instrs (suc a) ≡ cond (is_turn instr) (suc (begun instrs a)) (begun instrs a)
begun_past [] a instr e = absurd (none_some e)
begun_past (first ∷ instrs) zero instr e = ap (λ (x : Instr). cond (is_turn x) 1 0) (some_same e)
begun_past (first ∷ instrs) (suc a) instr e =
    ap (λ (n : ℕ). cond (is_turn first) (suc n) n) (begun_past instrs a instr e) ∙ two_counted (is_turn first) (is_turn instr) (begun instrs a)

-- at a turn the place with the number of the turns before it is told
pub told_at : (k : ℕ) (places : List (Option Place)) (instrs : List Instr) (a : ℕ) → slice_get instrs a ≡ Some Turn
    → place_number (placed_from k places instrs) a ≡ place_number places (k + begun instrs a)
told_at k places [] a e = absurd (none_some e)
told_at k places (first ∷ instrs) zero e =
    let here : k ≡ k + 0 = omega arith in
    ap (λ (x : Instr). place_number (cond (is_turn x) (place_number places k ∷ placed_from (k + 1) places instrs) (None ∷ placed_from k places instrs)) 0)
    (some_same e)
    ∙ ap (place_number places) here
told_at k places (first ∷ instrs) (suc a) e = by (is_turn first) (told_at (k + 1) places instrs a e) (told_at k places instrs a e)
  where
    by : (t : Bool) → place_number (placed_from (k + 1) places instrs) a ≡ place_number places (k + 1 + begun instrs a)
        → place_number (placed_from k places instrs) a ≡ place_number places (k + begun instrs a)
        → place_number (cond t (place_number places k ∷ placed_from (k + 1) places instrs) (None ∷ placed_from k places instrs)) (suc a)
        ≡ place_number places (k + cond t (suc (begun instrs a)) (begun instrs a))
    by true one none =
        let more : k + 1 + begun instrs a ≡ k + suc (begun instrs a) = omega arith in
        one ∙ ap (place_number places) more
    by false one none = none

-- at any other instruction none is told
pub none_told : (k : ℕ) (places : List (Option Place)) (instrs : List Instr) (a : ℕ) (instr : Instr) → slice_get instrs a ≡ Some instr
    → is_turn instr ≡ false → place_number (placed_from k places instrs) a ≡ None
none_told k places [] a instr e other = absurd (none_some e)
none_told k places (first ∷ instrs) zero instr e other =
    ap (λ (t : Bool). place_number (cond t (place_number places k ∷ placed_from (k + 1) places instrs) (None ∷ placed_from k places instrs)) 0)
    (ap is_turn (some_same e) ∙ other)
none_told k places (first ∷ instrs) (suc a) instr e other =
    by (is_turn first) (none_told (k + 1) places instrs a instr e other) (none_told k places instrs a instr e other)
  where
    by : (t : Bool) → place_number (placed_from (k + 1) places instrs) a ≡ None → place_number (placed_from k places instrs) a ≡ None
        → place_number (cond t (place_number places k ∷ placed_from (k + 1) places instrs) (None ∷ placed_from k places instrs)) (suc a) ≡ None
    by true one none = one
    by false one none = none

module _ (tree : Tree) (c : Code) where
  -- from this number on the places of the tree's turns are these
  abbrev pub From : ℕ → List (Option Place) → Type 0
  From k ts = (i : ℕ) (place : Option Place) → slice_get ts i ≡ Some place → place_number (processes_turns tree.processes) (k + i) ≡ place

  pub from_front : (k : ℕ) (xs ys : List (Option Place)) → From k (xs ++ ys) → From k xs
  from_front k xs ys from i place e = from i place (slice_get-front xs ys i (slice_get_within xs i place e) ∙ e)

  pub from_behind : (k : ℕ) (xs ys : List (Option Place)) → From k (xs ++ ys) → From (k + length xs) ys
  from_behind k xs ys from i place e =
      let same : k + length xs + i ≡ k + (length xs + i) = omega arith in
      ap (place_number (processes_turns tree.processes)) same ∙ from (length xs + i) place (get_behind xs ys i ∙ e)

  -- a template that begins no turn
  pub record Quiet (P : Template) : Type 0 where
    pub same : (a b : ℕ) → P c a b → begun c.instrs b ≡ begun c.instrs a

  -- A template that begins turns with these places: where they come next, each of them is told at its turn.
  pub record Gives (ts : List (Option Place)) (P Q : Template) : Type 0 where
    pub counted : (a b : ℕ) → P c a b → begun c.instrs b ≡ begun c.instrs a + length ts
    pub placed : (a b : ℕ) → P c a b → From (begun c.instrs a) ts → Q c a b

  one_past : (a b : ℕ) (instr : Instr) → One instr c a b
      → begun c.instrs b ≡ cond (is_turn instr) (suc (begun c.instrs a)) (begun c.instrs a)
  one_past a b instr one =
      let next : b ≡ suc a = (let e = one.1 in omega arith) in
      ap (begun c.instrs) next ∙ begun_past c.instrs a instr one.0

  pub quiet_one : (instr : Instr) → is_turn instr ≡ false → Quiet (One instr)
  quiet_one instr e =
      record { same = λ a b one. one_past a b instr one ∙ ap (λ t. cond t (suc (begun c.instrs a)) (begun c.instrs a)) e }

  pub quiet_then : {P Q : Template} → Quiet P → Quiet Q → Quiet (P ⨾ Q)
  quiet_then f g = record { same = λ a b (m, p, q). g.same m b q ∙ f.same a m p }

  pub quiet_empty : Quiet Empty
  quiet_empty = record { same = λ a b e. ap (begun c.instrs) e }

  pub quiet_at : (label : ℕ) → Quiet (At label)
  quiet_at label = record { same = λ a b at. ap (begun c.instrs) at.1 }

  pub quiet_label : {P : ℕ → Template} → ((label : ℕ) → Quiet (P label)) → Quiet (Label P)
  quiet_label f = record { same = λ a b (label, p). (f label).same a b p }

  pub quiet_text : (text : List ℕ) → Quiet (Quoted text)
  quiet_text text = record { same = λ a b (k, there, one). (quiet_one (Text k) refl).same a b one }

  -- no turn, and turns behind one, behind none and before none
  pub gives_none : {P : Template} → Quiet P → Gives [] P P
  gives_none f = record {
    counted = λ a b p. (let e = f.same a b p in omega arith);
    placed = λ a b p from. p;
  }

  pub gives_turn : (place : Option Place) {ts : List (Option Place)} {P Q : Template} → Gives ts P Q
      → Gives (place ∷ ts) (One Turn ⨾ P) (TurnAt tree place ⨾ Q)
  gives_turn place {ts} f = record {
    counted = λ a b (m, turn, p). (let e = f.counted m b p in let n = one_past a m Turn turn in omega arith);
    placed = λ a b (m, turn, p) from.
        let here : begun c.instrs a + 0 ≡ begun c.instrs a = omega arith in
        let told =
        told_at 0 (processes_turns tree.processes) c.instrs a turn.0
        ∙ ap (place_number (processes_turns tree.processes)) (omega arith)
        ∙ from 0 place refl in (
          m,
          (turn.0, turn.1, told),
          f.placed m b p (λ i other e.
              let at : begun c.instrs m + i ≡ begun c.instrs a + suc i = (let n = one_past a m Turn turn in omega arith) in
              ap (place_number (processes_turns tree.processes)) at ∙ from (suc i) other e),
        );
  }

  pub gives_behind : {ts : List (Option Place)} {P Q R : Template} → Quiet P → Gives ts Q R → Gives ts (P ⨾ Q) (P ⨾ R)
  gives_behind {ts} f g = record {
    counted = λ a b (m, p, q). (let e = f.same a m p in let n = g.counted m b q in omega arith);
    placed = λ a b (m, p, q) from. (m, p, g.placed m b q (subst (λ (k : ℕ). From k ts) (sym (f.same a m p)) from));
  }

  pub gives_before : {ts : List (Option Place)} {P Q R : Template} → Gives ts P R → Quiet Q → Gives ts (P ⨾ Q) (R ⨾ Q)
  gives_before {ts} f g = record {
    counted = λ a b (m, p, q). (let e = f.counted a m p in let n = g.same m b q in omega arith);
    placed = λ a b (m, p, q) from. (m, f.placed a m p from, q);
  }

  -- turns behind others
  pub gives_both : (xs ys : List (Option Place)) {P P' Q Q' : Template} → Gives xs P P' → Gives ys Q Q' → Gives (xs ++ ys) (P ⨾ Q) (P' ⨾ Q')
  gives_both xs ys f g = record {
    counted = λ a b (m, p, q). (let e = f.counted a m p in let n = g.counted m b q in omega (arith, length-append xs ys));
    placed = λ a b (m, p, q) from. (
      m,
      f.placed a m p (from_front (begun c.instrs a) xs ys from),
      g.placed m b q (subst (λ (k : ℕ). From k ys) (sym (f.counted a m p)) (from_behind (begun c.instrs a) xs ys from)),
    );
  }

  -- the turns of a template with a label, with the entry of a recovery block, and with a list of addresses
  pub gives_label : {ts : List (Option Place)} {P Q : ℕ → Template} → ((label : ℕ) → Gives ts (P label) (Q label)) → Gives ts (Label P) (Label Q)
  gives_label f = record {
    counted = λ a b (label, p). (f label).counted a b p;
    placed = λ a b (label, p) from. (label, (f label).placed a b p from);
  }

  pub gives_block : {ts : List (Option Place)} {P Q : Block → Template} (number : ℕ) → ((block : Block) → Gives ts (P block) (Q block))
      → Gives ts (WithBlock number P) (WithBlock number Q)
  gives_block number f = record {
    counted = λ a b (block, there, p). (f block).counted a b p;
    placed = λ a b (block, there, p) from. (block, there, (f block).placed a b p from);
  }

  pub gives_listed : {ts : List (Option Place)} {P Q : List ℕ → Template} (addresses : List ℕ) → ((more : List ℕ) → Gives ts (P more) (Q more))
      → Gives ts (Listed addresses P) (Listed addresses Q)
  gives_listed addresses f = record {
    counted = λ a b (more, is, p). (f more).counted a b p;
    placed = λ a b (more, is, p) from. (more, is, (f more).placed a b p from);
  }

  pub quiet_only : (X : Type 0) → Quiet (Only X)
  quiet_only X = record { same = λ a b p. ap (begun c.instrs) p.1 }
