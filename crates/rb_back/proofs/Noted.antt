-- Changes that are noted, one after another.
use Rattle.std.proofs.Common.{◌≡◌, ◌≤◌, ◌<◌, ◌+◌, ℕ, zero, suc, ℤ, Bool, true, false, cond, List, [], ◌∷◌, ◌++◌, length, get_or, slice_get, slice_set, Some, refl, sym, ap, ◌∙◌, subst, arith, rules, Decides, append_assoc}
use Rattle.std.specs.Ordering.{int_eq}
use Rattle.std.specs.Cmp.{signed_Decides}
use Rattle.std.proofs.lemmas.List.Sums.{sum_by-append}
use Rattle.rb_base.specs.Lines.{belonging}
use Rattle.rb_base.specs.declared.event.State.{State}
use Rattle.rb_back.specs.declared.view.Change.{Change}
use Rattle.rb_back.specs.declared.view.Change.TheVariants.{Word, Standing}
use Rattle.rb_back.specs.Noting.{Notes, changed, differing}
use Rattle.rb_back.specs.Picture.{Picture, is_word, redone_all, undone, undone_all, with_word}
use Rattle.rb_back.proofs.Mixed.{belonging_set, set_belonging, set_same, set_twice}

-- changes that are made one after another, and taken back the other way round
redone-append : (xs ys : List Change) (shown : Picture) → redone_all (xs ++ ys) shown ≡ redone_all ys (redone_all xs shown)
redone-append [] ys shown = refl
redone-append (x ∷ xs) ys shown = redone-append xs ys _

undone-append : (xs ys : List Change) (shown : Picture) → undone_all (xs ++ ys) shown ≡ undone_all xs (undone_all ys shown)
undone-append [] ys shown = refl
undone-append (x ∷ xs) ys shown = ap (undone x) (undone-append xs ys shown)

pub notes_none : (target : List (List ℤ)) (old : List Change) (shown : Picture) → Notes target old old shown shown
notes_none target old shown = record { noted = []; joined = search rules; forth = refl; back = refl; few = omega arith }

module _ {target : List (List ℤ)} {a b c : List Change} {v w x : Picture} where
  pub notes_then : Notes target a b v w → Notes target b c w x → Notes target a c v x
  notes_then h i = record {
    noted = h.noted ++ i.noted;
    joined = i.joined ∙ ap (λ (cs : List Change). cs ++ i.noted) h.joined ∙ append_assoc a h.noted i.noted;
    forth = redone-append h.noted i.noted v ∙ ap (redone_all i.noted) h.forth ∙ i.forth;
    back = undone-append h.noted i.noted x ∙ ap (undone_all h.noted) i.back ∙ h.back;
    few = omega (arith, h.few, i.few, sum_by-append (λ (one : Change). cond (is_word one) 1 0) h.noted i.noted);
  }

-- how a process stands has changed
pub state_noted : (target : List (List ℤ)) (old new : List Change) (shown : Picture) (p : ℕ) (before after : State)
    → new ≡ old ++ Standing p before after ∷ [] → before ≡ get_or shown.states p before
    → Notes target old new shown (record shown { states = slice_set shown.states p after })
state_noted target old new shown p before after joined is = record {
  noted = Standing p before after ∷ [];
  joined = joined;
  forth = refl;
  back = ap (λ (states : List State). record shown { states = states }) (set_twice shown.states p after before ∙ set_same shown.states p before is);
  few = omega arith;
}

-- how many words are to change
abbrev pub one_if_other : ℤ → ℤ → ℕ
one_if_other x y = cond (int_eq x y) 0 1

other_one : (x y : ℤ) → (x ≡ y → ⊥) → one_if_other x y ≡ 1
other_one x y ne = by (int_eq x y) (signed_Decides x y)
  where
    by : (b : Bool) → Decides b (x ≡ y) → ◌≡◌ {A = ℕ} (cond b 0 1) 1
    by true is = absurd (ne (is.0 refl))
    by false is = refl

pub same_zero : (x : ℤ) → one_if_other x x ≡ 0
same_zero x = by (int_eq x x) (signed_Decides x x)
  where
    by : (b : Bool) → Decides b (x ≡ x) → ◌≡◌ {A = ℕ} (cond b 0 1) 0
    by true is = refl
    by false is = absurd (let no : false ≡ true = is.1 refl in cc)

one_fewer : (words target : List ℤ) (at : ℕ) (x y : ℤ) → slice_get words at ≡ Some x → slice_get target at ≡ Some y → (x ≡ y → ⊥)
    → 1 + differing (slice_set words at y) target ≤ differing words target
one_fewer [] target at x y e f ne = absurd (cc)
one_fewer (w ∷ words) [] at x y e f ne = absurd (cc)
one_fewer (w ∷ words) (v ∷ target) zero x y e f ne =
    let first : w ≡ x = cc in
    let last : v ≡ y = cc in
    let was : one_if_other w v ≡ 1 = other_one w v (λ same. ne (sym first ∙ same ∙ last)) in
    let is : one_if_other y v ≡ 0 = subst (λ (z : ℤ). one_if_other y z ≡ 0) (sym last) (same_zero y) in
    omega arith
one_fewer (w ∷ words) (v ∷ target) (suc at) x y e f ne = omega (arith, one_fewer words target at x y e f ne)

pub one_word_fewer : (lists target : List (List ℤ)) (p at : ℕ) (x y : ℤ) → slice_get (belonging lists p) at ≡ Some x
    → slice_get (belonging target p) at ≡ Some y → (x ≡ y → ⊥)
    → 1 + changed (with_word p at y lists) target ≤ changed lists target
one_word_fewer [] target p at x y e f ne = absurd (cc)
one_word_fewer (words ∷ others) [] p at x y e f ne = absurd (cc)
one_word_fewer (words ∷ others) (later ∷ more) zero at x y e f ne = omega (arith, one_fewer words later at x y e f ne)
one_word_fewer (words ∷ others) (later ∷ more) (suc p) at x y e f ne = omega (arith, one_word_fewer others more p at x y e f ne)

-- a word that is changed and changed back
pub word_back : (lists : List (List ℤ)) (p at : ℕ) (x y : ℤ) → p < length lists → x ≡ get_or (belonging lists p) at x
    → with_word p at x (with_word p at y lists) ≡ lists
word_back lists p at x y less is =
    let other : List ℤ = slice_set (belonging lists p) at y in
    ap (λ (words : List ℤ). slice_set (slice_set lists p other) p (slice_set words at x)) (belonging_set lists p other less)
    ∙ set_twice lists p other (slice_set other at x)
    ∙ ap (slice_set lists p) (set_twice (belonging lists p) at y x ∙ set_same (belonging lists p) at x is)
    ∙ set_belonging lists p

pub word_same : (lists : List (List ℤ)) (p at : ℕ) (x : ℤ) → x ≡ get_or (belonging lists p) at x → with_word p at x lists ≡ lists
word_same lists p at x is = ap (slice_set lists p) (set_same (belonging lists p) at x is) ∙ set_belonging lists p

pub there_is : {A : Type 0} (words : List A) (at : ℕ) (x : A) → at < length words → x ≡ get_or words at x → slice_get words at ≡ Some x
there_is [] at x less is = absurd (omega arith)
there_is {A} (w ∷ words) zero x less is = ap (λ (y : A). Some y) (sym is)
there_is (w ∷ words) (suc at) x less is = there_is words at x (omega arith) is

pub word_noted : (target : List (List ℤ)) (old new : List Change) (shown : Picture) (p at : ℕ) (before after : ℤ)
    → new ≡ old ++ Word p at before after ∷ [] → p < length shown.words → at < length (belonging shown.words p)
    → before ≡ get_or (belonging shown.words p) at before → (before ≡ after → ⊥) → slice_get (belonging target p) at ≡ Some after
    → Notes target old new shown (record shown { words = with_word p at after shown.words })
word_noted target old new shown p at before after joined there within is ne wanted = record {
  noted = Word p at before after ∷ [];
  joined = joined;
  forth = refl;
  back = ap (λ (words : List (List ℤ)). record shown { words = words }) (word_back shown.words p at before after there is);
  few = omega (arith, one_word_fewer shown.words target p at before after (there_is (belonging shown.words p) at before within is) wanted ne);
}
