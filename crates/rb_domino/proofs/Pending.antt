-- Places in a set: one that is added, and one that is taken off.
use Rattle.std.proofs.Common.{◌≡◌, ℕ, Bool, true, false, cond, ◌⊎◌, inl, inr, refl, ap, ◌∙◌, sym, eq-eqb}
use Rattle.std.specs.Ordering.{nat_cmp}
use Rattle.std.specs.Cmp.{unsigned_ties}
use Rattle.std.specs.BTreeSet.{BTreeSet}
use Rattle.std.specs.BTreeMap.{is_at}
use Rattle.std.proofs.lemmas.Bool.{eqb-true}
use Rattle.rb_domino.specs.Board.{is_in}

-- a test of keys tells whether they are equal
at_self : (k : ℕ) → is_at (nat_cmp k) k ≡ true
at_self k = sym (unsigned_ties k k) ∙ eq-eqb k k refl

at_equal : (k q : ℕ) → is_at (nat_cmp k) q ≡ true → k ≡ q
at_equal k q e = eqb-true k q (unsigned_ties k q ∙ e)

-- a place was added
pub record IsAdded (old new : BTreeSet ℕ) (k : ℕ) : Type 0 where
  pub is : is_in new k ≡ true
  pub keeps : (q : ℕ) → is_in old q ≡ true → is_in new q ≡ true
  pub only : (q : ℕ) → is_in new q ≡ true → (is_in old q ≡ true) ⊎ (k ≡ q)

pub is_added : (old new : BTreeSet ℕ) (k : ℕ) → ((q : ℕ) → is_in new q ≡ cond (is_at (nat_cmp k) q) true (is_in old q)) → IsAdded old new k
is_added old new k updates = record {
  is = updates k ∙ ap (λ b. cond b true (is_in old k)) (at_self k);
  keeps = λ q h. updates q ∙ ap (λ b. cond (is_at (nat_cmp k) q) true b) h ∙ both (is_at (nat_cmp k) q);
  only = λ q h. by q (is_at (nat_cmp k) q) refl (sym (updates q) ∙ h);
}
  where
    both : (b : Bool) → cond b true true ≡ true
    both true = refl
    both false = refl

    by : (q : ℕ) (b : Bool) → is_at (nat_cmp k) q ≡ b → cond b true (is_in old q) ≡ true → (is_in old q ≡ true) ⊎ (k ≡ q)
    by q true same h = inr (at_equal k q same)
    by q false other h = inl h

-- a place was taken off
pub record IsRemoved (old new : BTreeSet ℕ) (k : ℕ) : Type 0 where
  pub keeps : (q : ℕ) → is_in old q ≡ true → (is_in new q ≡ true) ⊎ (k ≡ q)
  pub only : (q : ℕ) → is_in new q ≡ true → is_in old q ≡ true

pub is_removed : (old new : BTreeSet ℕ) (k : ℕ) → ((q : ℕ) → is_in new q ≡ cond (is_at (nat_cmp k) q) false (is_in old q)) → IsRemoved old new k
is_removed old new k updates = record {
  keeps = λ q h. some q (is_at (nat_cmp k) q) refl (updates q) h;
  only = λ q h. still q (is_at (nat_cmp k) q) (sym (updates q) ∙ h);
}
  where
    some : (q : ℕ) (b : Bool) → is_at (nat_cmp k) q ≡ b → is_in new q ≡ cond b false (is_in old q) → is_in old q ≡ true
        → (is_in new q ≡ true) ⊎ (k ≡ q)
    some q true same u h = inr (at_equal k q same)
    some q false other u h = inl (u ∙ h)

    still : (q : ℕ) (b : Bool) → cond b false (is_in old q) ≡ true → is_in old q ≡ true
    still q true h = absurd (cc)
    still q false h = h
