-- Steps to each alternate of a block, one after another.
use Rattle.std.proofs.Common.{◌≡◌, ℕ, List, [], ◌∷◌, ◌++◌, ◌+◌, ◌<◌, ◌≤◌, get_or, drop, length, ◌∙◌, append_assoc, add-one, Some, None, sym, ap, subst}
use Rattle.rb_code.specs.SoundCode.Sound.{Entry, Table}
use Rattle.rb_flow.specs.Flow.{Steps, and_to, goes, goes_to_each}
use Rattle.rb_search.specs.Search.{Gains, HasGained, Pending}
use Rattle.rb_search.specs.Found.{NoneTakes}
use Rattle.rb_flow.specs.Held.{HasGrown, IsFront}
use Rattle.rb_flow.specs.declared.lists.Lists.{Lists}
use Rattle.std.proofs.Math.Seq.{drop-cons}
use Rattle.std.proofs.lemmas.List.{drop_all}
use Rattle.rb_search.proofs.Searching.{gains_more, gains_nothing}

each_more : (b : ℕ) (e : Entry) (rest : Steps) (f g h : Table) (p q r : Pending)
    → Gains (record { at = b; entry = e } ∷ []) f p g q → HasGained rest g q h r → HasGained (and_to b e rest) f p h r
each_more b e None f g h p q r x y = absurd y
each_more b e (Some steps) f g h p q r x y = gains_more (record { at = b; entry = e }) steps f g h p q r x y

each_first : (n : ℕ) (b : ℕ) (e : Entry) (rest : Steps) (f : Table) → NoneTakes n f (goes b e) → NoneTakes n f (and_to b e rest)
each_first n b e None f none t within below keeps = keeps
each_first n b e (Some steps) f none t within below keeps = none t within below (keeps.0, tt)

each_rest : (n : ℕ) (b : ℕ) (e : Entry) (rest : Steps) (f g : Table) (p q : Pending)
    → Gains (record { at = b; entry = e } ∷ []) f p g q → NoneTakes n g rest → NoneTakes n f (and_to b e rest)
each_rest n b e None f g p q x none t within below keeps = keeps
each_rest n b e (Some steps) f g p q x none t within below keeps = none t within (x.least t (keeps.0, tt) below) keeps.1

front_on : {X : Type 0} (xs ys zs : List X) → IsFront xs ys → IsFront ys zs → IsFront xs zs
front_on xs ys zs (more, is) (others, at) = (more ++ others, at ∙ ap (λ us. us ++ others) is ∙ append_assoc xs more others)

pub grown_on : (a b c : Lists) → HasGrown a b → HasGrown b c → HasGrown a c
grown_on a b c x y = record {
  operands = front_on a.operands b.operands c.operands x.operands y.operands;
  blocks = front_on a.blocks b.blocks c.blocks x.blocks y.blocks;
}

module _ (e now : Entry) (same : now ≡ e) (list : List ℕ) (i : ℕ) where
  abbrev this : ℕ
  this = get_or list i 0

  abbrev rest : Steps
  rest = goes_to_each e (drop (i + 1) list)

  next_is : i < length list → drop i list ≡ this ∷ drop (i + 1) list
  next_is h = drop-cons list i 0 h ∙ ap (λ k. this ∷ drop k list) (sym (add-one i))

  pub next_first : i < length list → (m n : ℕ) → m ≡ n → (f : Table) → NoneTakes m f (goes this now)
      → NoneTakes n f (goes_to_each e (drop i list))
  next_first h m n size f none =
      subst (λ xs. NoneTakes n f (goes_to_each e xs)) (sym (next_is h))
      (each_first n this e rest f
      (subst (λ k. NoneTakes k f (goes this e)) size (subst (λ (x : Entry). NoneTakes m f (goes this x)) same none)))

  module _ (h : i < length list) (f g : Table) (p q : Pending) (x : Gains (record { at = this; entry = now } ∷ []) f p g q) where
    gained : Gains (record { at = this; entry = e } ∷ []) f p g q
    gained = subst (λ (y : Entry). Gains (record { at = this; entry = y } ∷ []) f p g q) same x

    pub next_more : (k : Table) (r : Pending) → HasGained rest g q k r → HasGained (goes_to_each e (drop i list)) f p k r
    next_more k r y =
        subst (λ xs. HasGained (goes_to_each e xs) f p k r) (sym (next_is h)) (each_more this e rest f g k p q r gained y)

    pub next_rest : (n : ℕ) → NoneTakes n g rest → NoneTakes n f (goes_to_each e (drop i list))
    next_rest n none =
        subst (λ xs. NoneTakes n f (goes_to_each e xs)) (sym (next_is h)) (each_rest n this e rest f g p q gained none)

  pub last_gained : length list ≤ i → (f : Table) (p : Pending) → HasGained (goes_to_each e (drop i list)) f p f p
  last_gained h f p = subst (λ xs. HasGained (goes_to_each e xs) f p f p) (sym (drop_all i list h)) (gains_nothing f p)
