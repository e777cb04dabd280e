-- Each address of a main body of code that stands for an accepted tree is reached.
use Rattle.std.proofs.Common.{◌≡◌, ℕ, ◌<◌, ◌≤◌, nat_le, Bool, true, false, List, length, refl, ap, sym, ◌∙◌, arith}
use Rattle.std.proofs.lemmas.Bool.{leb-false, leb-true}
use Rattle.std.proofs.lemmas.Option.{slice_get_within}
use Rattle.rb_syntax.specs.Tree.{Tree}
use Rattle.rb_world.proofs.ListFacts.{slice_get-there, some_same}
use Rattle.rb_scope.specs.declared.slot.Slot.{Slot}
use Rattle.rb_code.specs.Instructions.Plain.{Code, Part}
use Rattle.rb_code.specs.SoundCode.Reached.{IsInMainBody, Reached, begins}
use Rattle.rb_prepare.proofs.Onward.{onward_reached}
use Rattle.rb_prepare.proofs.Walking.WholeWalk.{begin_at, place_of, spread_long}
use Rattle.rb_prepare.proofs.AcceptedCode.{IsCodeOf, nothing, places, plain_spread, weightless}

module _ (tree : Tree) (slots : List Slot) (c : Code) (code : IsCodeOf tree slots c) where
  pub main_body_is_reached : (p a : ℕ) → IsInMainBody c p a → Reached c a
  main_body_is_reached p a inside =
      let ends = places tree slots c code in
      let plain = plain_spread tree slots c code in
      let uncounted = nothing tree slots c code in
      let no_weight = weightless tree slots c code in
      let long = spread_long c tree uncounted no_weight 0 tree.processes c.processes ends 0 (length c.instrs) plain in
      let within = slice_get_within c.processes p inside.part inside.there in
      let process = slice_get-there tree.processes p (omega arith) in
      let place = place_of c tree uncounted no_weight 0 tree.processes c.processes ends 0
      (length c.instrs) plain p p process.0 (omega arith) process.1 in
      let start : inside.part.start ≡ begin_at 0 ends p =
      ap (λ (q : Part). q.start) (some_same (sym inside.there ∙ place.listed)) ∙ place.rows.start in
      let up = place.rows.upward in
      let behind = inside.behind in
      let last = place.rows.last in
      let ahead : a ≤ last = not_behind last (λ before. inside.before last (omega arith) before place.rows.done) in
      onward_reached c (begin_at 0 ends p) a (place.rows.reached a (omega arith) ahead) (begins p inside.part inside.there start)
    where
      not_behind : (last : ℕ) → (last < a → ⊥) → a ≤ last
      not_behind last h = by (nat_le a last) refl
        where
          by : (b : Bool) → nat_le a last ≡ b → a ≤ last
          by true e = leb-true a last e
          by false e = absurd (h (leb-false a last e))
