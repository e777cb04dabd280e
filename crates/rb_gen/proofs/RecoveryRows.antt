-- The code of recovery blocks, as it is put together.
use Rattle.std.proofs.Common.{◌≡◌, ℕ, ◌+◌, List, [], ◌∷◌, ◌++◌, length, Option, refl, sym, ap, ◌∙◌, subst, arith, append_assoc}
use Rattle.rb_base.specs.declared.place.Place.{Place}
use Rattle.rb_syntax.specs.declared.expression.Number.{Number}
use Rattle.rb_syntax.specs.Tree.{Identifier, Expression, Body, RecoveryBlock, Recovers, Alternates, NoAlternate, Alternate}
use Rattle.rb_syntax.specs.Numbered.{blocks_in_alternates, blocks_in_body}
use Rattle.rb_meaning.specs.Environment.{natural}
use Rattle.rb_scope.specs.declared.slot.Slot.{Slot}
use Rattle.rb_code.specs.declared.instr.Instr.TheVariants.{Jump}
use Rattle.rb_code.specs.Instructions.Plain.{Block}
use Rattle.rb_code.specs.Agreement.Forms.{AlternatesForm, BlockForm, BodyForm, CommandForm, ExpressionCode, OthersForm}
use Rattle.rb_draft.specs.Output.{Output, added, filled_with, patched, settled}
use Rattle.rb_draft.specs.Emits.{Adds}
use Rattle.rb_draft.specs.Lookups.{joined_of}
use Rattle.rb_gen.specs.InMemory.{AcceptanceCode, PutsEntry}
use Rattle.rb_gen.specs.Writes.{WritesAlternates, WritesBody, WritesOthers, WritesRecovery}
use Rattle.rb_draft.proofs.Growing.{append-none}
use Rattle.rb_draft.proofs.Emits.{at, both, filled, filled-last, filled-length, listed, only, settled_then, upto}

module _ (slots : List Slot) (words : List ℕ) where
  -- a recovery block, whose entry is settled behind its code
  pub recovered : {x : RecoveryBlock} (number : ℕ) (conversation : Option Identifier) (place : Place) (test : Expression)
      (limit : Number) (alternates : Alternates)
      (entry : Block) {c c4 c5 c8 f : Output}
      → x ≡ Recovers number conversation place test limit alternates → entry.line ≡ place.line → entry.conversation ≡ joined_of slots conversation
      → entry.bound ≡ natural limit.value → PutsEntry number entry.restart c c4
      → WritesAlternates slots words alternates entry.alternates entry.test c4 c5
      → entry.test ≡ length c5.instrs → Adds (AcceptanceCode number (ExpressionCode slots test)) c5 c8
      → f ≡ settled c8 number entry → WritesRecovery slots words x c f
  unfolding CommandForm BlockForm AlternatesForm
  recovered number conversation place test limit alternates entry {c = c} {c5 = c5} {f =
      f} is line joined bound (_, c2, _, turn, enter, restart, turn2, start) inside testing tests settles =
      subst (λ x. WritesRecovery slots words x c f) (sym is) (λ s n (numbered, conversation_is, given).
      let p = s.owner.number in
      let m = n + 1 in
      let k = (n + 1) + blocks_in_alternates alternates in
      upto (settled_then entry numbered settles
      (both (only m c (record { line_is = line; conversation_is = joined ∙ conversation_is; bound_is = bound }))
      (both (turn p m) (both (enter p m) (both (at m c2 restart) (both (turn2 p m) (both (start p m)
      (both (inside s m given) (both (at k c5 testing) (tests p k)))))))))) (omega arith))

  pub no_alternate : (t : ℕ) {a : Alternates} (addresses : List ℕ) (c : Output) → a ≡ NoAlternate → addresses ≡ []
      → WritesAlternates slots words a addresses t c c
  unfolding AlternatesForm
  no_alternate t addresses c is none =
      subst (λ x. WritesAlternates slots words x addresses t c c) (sym is) (λ s n g. upto (only n c none) (omega arith))

  pub no_other : (t : ℕ) {a : Alternates} (c : Output) → a ≡ NoAlternate → WritesOthers slots words a [] t c c
  unfolding OthersForm AlternatesForm
  no_other t c is = subst (λ x. WritesOthers slots words x [] t c c) (sym is) (λ s n g. upto (only n c refl) (omega arith))

  pub first_alternate : (t address : ℕ) (more : List ℕ) {a others : Alternates} {b : Body} {c d e : Output} → a ≡ Alternate b others
      → address ≡ length c.instrs → WritesBody slots words b c d → WritesOthers slots words others more t d e
      → WritesAlternates slots words a (address ∷ more) t c e
  unfolding AlternatesForm OthersForm BodyForm
  first_alternate t address more {b = b} {c = c} {e = e} is here p q =
      subst (λ x. WritesAlternates slots words x (address ∷ more) t c e) (sym is)
      (λ s n (g, h). upto (listed here (both (p s n g) (q s (n + blocks_in_body b) h))) (omega arith))

  -- a further alternate, whose jump is written once the address of the test is known
  pub further : (t address place : ℕ) (more : List ℕ) {a others : Alternates} {b : Body} {c d e f : Output} → a ≡ Alternate b others
      → (place ≡ length c.instrs) × (d ≡ added (Jump 0) c) → address ≡ length d.instrs → WritesBody slots words b d e
      → WritesOthers slots words others more t e f → WritesOthers slots words a (address ∷ more) t c (patched f place (Jump t))
  unfolding OthersForm AlternatesForm BodyForm
  further t address place more {b = b} {c = c} {f = f} is left here p q =
      subst (λ x. WritesOthers slots words x (address ∷ more) t c (patched f place (Jump t))) (sym is)
      (λ s n (g, h). upto (filled (Jump t) refl left refl (listed here (both (p s n g) (q s (n + blocks_in_body b) h)))) (omega arith))

  -- Whatever stands for the alternates that are left, at these addresses, completes those that are there, once the jumps are written.
  abbrev pub Completes : Alternates → Alternates → List ℕ → List ℕ → Output → Output → Type 0
  Completes all rest addresses places o d =
      (after : Output) (t : ℕ) (more : List ℕ) → WritesOthers slots words rest more t d after
      → WritesAlternates slots words all (addresses ++ more) t o (filled_with places (Jump t) after)

  -- the first alternate
  pub alternates_init : {a : Alternates} (others : Alternates) {b : Body} {c d : Output} (address : ℕ) (addresses places : List ℕ)
      → a ≡ Alternate b others → address ≡ length c.instrs → addresses ≡ address ∷ [] → places ≡ [] → WritesBody slots words b c d
      → Completes a others addresses places c d
  alternates_init {a = a} others {c = c} address addresses places is here these none p = λ after t more h.
      subst (λ (xs : List ℕ). WritesAlternates slots words a (xs ++ more) t c (filled_with places (Jump t) after)) (sym these)
      (subst (λ (xs : List ℕ). WritesAlternates slots words a (address ∷ more) t c (filled_with xs (Jump t) after)) (sym none)
      (first_alternate t address more is here p h))

  -- one more
  pub alternates_step : (a : Alternates) {rest others : Alternates} {b : Body} {o d e f : Output} (address place : ℕ)
      (addresses places addresses' places' : List ℕ)
      → rest ≡ Alternate b others → (place ≡ length d.instrs) × (e ≡ added (Jump 0) d) → address ≡ length e.instrs → WritesBody slots words b e f
      → addresses' ≡ addresses ++ (address ∷ []) → places' ≡ places ++ (place ∷ []) → Completes a rest addresses places o d
      → Completes a others addresses' places' o f
  alternates_step a {o = o} address place addresses places addresses' places' is left here p these those completes = λ after t more h.
      let all : WritesAlternates slots words a (addresses ++ (address ∷ more)) t o (filled_with places (Jump t) (patched after place (Jump t))) =
      completes (patched after place (Jump t)) t (address ∷ more) (further t address place more is left here p h) in
      let one : WritesAlternates slots words a ((addresses ++ (address ∷ [])) ++ more) t o
      (filled_with places (Jump t) (patched after place (Jump t))) =
      subst
      (λ (xs : List ℕ). WritesAlternates slots words a xs t o (filled_with places (Jump t) (patched after place (Jump t))))
      (sym (append_assoc addresses (address ∷ []) more)) all in
      let two : WritesAlternates slots words a ((addresses ++ (address ∷ [])) ++ more) t o (filled_with (places ++ (place ∷ [])) (Jump t) after) =
      subst (λ x. WritesAlternates slots words a ((addresses ++ (address ∷ [])) ++ more) t o x) (sym (filled-last places place (Jump t) after)) one in
      subst (λ (xs : List ℕ). WritesAlternates slots words a (xs ++ more) t o (filled_with places' (Jump t) after)) (sym these)
      (subst
      (λ (xs : List ℕ). WritesAlternates slots words a ((addresses ++ (address ∷ [])) ++ more) t o (filled_with xs (Jump t) after))
      (sym those) two)

  -- all, with their jumps written
  pub alternates_end : (a : Alternates) {rest : Alternates} {o d f : Output} (t : ℕ) (addresses places : List ℕ) → rest ≡ NoAlternate
      → t ≡ length d.instrs → f ≡ filled_with places (Jump t) d → Completes a rest addresses places o d
      → WritesAlternates slots words a addresses (length f.instrs) o f
  alternates_end a {o = o} {d = d} {f = f} t addresses places is here end completes =
      let same : t ≡ length f.instrs = here ∙ sym (filled-length places (Jump t) d) ∙ ap (λ (x : Output). length x.instrs) (sym end) in
      let all : WritesAlternates slots words a (addresses ++ []) t o (filled_with places (Jump t) d) = completes d t [] (no_other t d is) in
      let one : WritesAlternates slots words a addresses t o (filled_with places (Jump t) d) =
      subst (λ (xs : List ℕ). WritesAlternates slots words a xs t o (filled_with places (Jump t) d)) (append-none addresses) all in
      subst (λ (i : ℕ). WritesAlternates slots words a addresses i o f) same
      (subst (λ x. WritesAlternates slots words a addresses t o x) (sym end) one)
