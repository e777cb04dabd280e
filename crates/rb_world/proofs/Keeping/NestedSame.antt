-- Nesting gives the chain of parents: two processes with a level of one conversation have it at the same number, and further
-- out they have, number by number, levels of the same conversations (Randell 1975).
use Rattle.std.proofs.Common.{◌≡◌, ◌<◌, ℕ, zero, suc, Bool, true, false, nat_lt, List, slice_get, Option, Some, None, refl, sym, ap, ◌∙◌, subst, suc-ne-zero, not-suc-le-zero, ltb-true, ltb-false, arith}
use Rattle.rb_world.specs.Kind.{Membership}
use Rattle.rb_world.specs.World.{Level}
use Rattle.rb_world.specs.Reject.{parent_of}
use Rattle.rb_world.specs.Nested.{IsLevelOf, HasOutside, AreNested}

-- at one number, both have a level of one conversation
pub record SharesLevel {S : Type 0} (ls ms : List (Level S)) (n : ℕ) : Type 0 where
  pub conversation : ℕ
  pub one : IsLevelOf conversation ls n
  pub other : IsLevelOf conversation ms n

module _ {S : Type 0} (groups : List Membership) (ls ms : List (Level S)) (nested : AreNested groups ls) (nested' : AreNested groups ms) where
  -- outside the same conversation as many levels stand
  same_outside : (i : ℕ) (parent : Option ℕ) (j : ℕ) → HasOutside parent ls i → HasOutside parent ms j → i ≡ j
  same_outside i None j a b = a ∙ sym b
  same_outside zero (Some d) j a b = absurd a
  same_outside (suc i) (Some d) zero a b = absurd b
  same_outside (suc i) (Some d) (suc j) a b =
      ap suc (same_outside i (parent_of (slice_get groups d)) j (nested i d a) (nested' j d b))

  -- and number by number they are of the same conversations
  shares_outside : (i : ℕ) (parent : Option ℕ) (j n : ℕ) → HasOutside parent ls i → HasOutside parent ms j → n < i → SharesLevel ls ms n
  shares_outside zero parent j n a b h = absurd (not-suc-le-zero h)
  shares_outside (suc i) None j n a b h = absurd (suc-ne-zero i a)
  shares_outside (suc i) (Some d) zero n a b h = absurd b
  shares_outside (suc i) (Some d) (suc j) n a b h =
      at_number (nat_lt n i) refl (λ less. shares_outside i (parent_of (slice_get groups d)) j n (nested i d a) (nested' j d b) less)
    where
      at_number : (further : Bool) → nat_lt n i ≡ further → (n < i → SharesLevel ls ms n) → SharesLevel ls ms n
      at_number true e rest = rest (ltb-true n i e)
      at_number false e rest =
          let here : n ≡ i = omega (arith, h, ltb-false n i e) in
          let same : i ≡ j = same_outside i (parent_of (slice_get groups d)) j (nested i d a) (nested' j d b) in
          record {
            conversation = d;
            one = subst (IsLevelOf d ls) (sym here) a;
            other = subst (IsLevelOf d ms) (sym (here ∙ same)) b;
          }

  -- a conversation stands at one number
  pub same_number : (c i j : ℕ) → IsLevelOf c ls i → IsLevelOf c ms j → i ≡ j
  same_number c i j l l' = same_outside i (parent_of (slice_get groups c)) j (nested i c l) (nested' j c l')

  -- and all that is outside it is shared
  pub shares_level : (c i j n : ℕ) → IsLevelOf c ls i → IsLevelOf c ms j → n < i → SharesLevel ls ms n
  shares_level c i j n l l' h = shares_outside i (parent_of (slice_get groups c)) j n (nested i c l) (nested' j c l') h
