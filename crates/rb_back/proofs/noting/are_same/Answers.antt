-- A word more is compared.
use Rattle.std.proofs.Common.{◌≡◌, ◌≢◌, ◌<◌, ◌≤◌, ◌+◌, ◌⊎◌, ◌&&◌, inl, inr, ℕ, ℤ, pos, Bool, true, false, nat_eq, List, get_or, of_z, to_z, w64, rules, refl, ap, sym, ◌∙◌, subst, arith}
use Rattle.std.proofs.lemmas.Bool.{cases_eq, eqb-true}
use Rattle.std.proofs.lemmas.Int.{to_z-of_z}
use Rattle.std.proofs.lemmas.Option.{get_or_from_slice_get}
use Rattle.rb_base.specs.Lines.{belonging}
use Rattle.rb_back.specs.Noting.{AreSameWithin}
use Rattle.rb_back.specs.Picture.{words_in}
use Rattle.rb_back.proofs.Pictures.{belongs_in, cells_long, within_cells}
use Rattle.rb_back.proofs.noting.are_same.Goals as goal

both_true : (a b : Bool) → (a && b) ≡ true → (a ≡ true) × (b ≡ true)
both_true true b e = (refl, e)
both_true false b e = absurd (cc)

-- one more is the same
same_next : (from at : ℕ) (a b : List ℤ) → AreSameWithin from at a b → get_or a at (pos 0) ≡ get_or b at (pos 0) → AreSameWithin from (at + 1) a b
same_next from at a b so_far here k more less = by k more less (cases_eq k at)
  where
    by : (k : ℕ) → from ≤ k → k < at + 1 → (k ≡ at) ⊎ (k ≢ at) → get_or a k (pos 0) ≡ get_or b k (pos 0)
    by k more less (inl same) = subst (λ (n : ℕ). get_or a n (pos 0) ≡ get_or b n (pos 0)) (sym same) here
    by k more less (inr other) = so_far k more (omega arith)

pub read-requires : goal.read-requires
read-requires g c =
    omega (
      arith,
      cells_long c.args.view.now.words.items c.args.process c.index-words.result.now c.requires.there c.index-words.ensures,
      c.loop-at-test.true,
      c.requires.within,
    )

pub word-requires : goal.word-requires
word-requires g c = omega (arith, c.loop-at-test.true, c.requires.within, c.requires.words)

pub loop-at-init : goal.loop-at-init
loop-at-init g c same k more less = absurd (omega arith)

pub loop-at-preserved : goal.loop-at-preserved
loop-at-preserved g c all =
    let cells = c.args.view.now.words.items in
    let p = c.args.process in
    let at = c.loop-at.at in
    let now : List ℤ = belonging (g.M.Final.words c.args.machine.now) p in
    let both : (c.loop-at.same ≡ true) × (nat_eq (of_z w64 c.read.result) (of_z w64 c.word.result) ≡ true) = both_true _ _ all in
    let bits : of_z w64 c.read.result ≡ of_z w64 c.word.result = eqb-true (of_z w64 c.read.result) (of_z w64 c.word.result) both.1 in
    let same : c.read.result ≡ c.word.result =
    sym (to_z-of_z w64 c.read.result (search rules)) ∙ ap (to_z w64) bits ∙ to_z-of_z w64 c.word.result (search rules) in
    let own : belonging (words_in cells) p ≡ c.index-words.result.now.words =
    belongs_in cells p c.index-words.result.now (within_cells cells p c.requires.there) c.index-words.ensures in
    let here : get_or (belonging (words_in cells) p) at (pos 0) ≡ get_or now at (pos 0) =
    ap (λ (words : List ℤ). get_or words at (pos 0)) own ∙ sym c.read.ensures.word ∙ same
    ∙ sym (get_or_from_slice_get now at c.word.result (pos 0) c.word.ensures.value) in
    same_next c.args.from at (belonging (words_in cells) p) now (c.loop-at.invariant both.0) here
