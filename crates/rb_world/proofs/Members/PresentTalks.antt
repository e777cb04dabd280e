-- Conversations where some are put back: those below return to alternate 1, and no level of these stands where none of the
-- conversation above stands further out.
use Rattle.std.proofs.Common.{◌≡◌, ◌≢◌, ◌<◌, ◌≤◌, ◌+◌, ℕ, zero, suc, nat_eq, Bool, true, false, cond, ◌||◌, List, [], ◌∷◌, length, option_map, slice_get, Option, Some, None, refl, sym, ap, ◌∙◌, subst, eqb-true, true≢false, arith}
use Rattle.std.specs.List.{list_any}
use Rattle.rb_world.specs.Kind.{Membership}
use Rattle.rb_world.specs.World.{Level, Talk, change_at, is_of}
use Rattle.rb_world.specs.Reject.{first_again, is_below, is_under, parent_of, reset_below, reset_from}
use Rattle.rb_world.specs.Nested.{AreNested, HasOutside, IsLevelOf}
use Rattle.rb_world.proofs.ListFacts.{slice_get-change_at, slice_get-change_other}
use Rattle.rb_world.proofs.LevelFacts.{any_level}
use Rattle.rb_world.proofs.Keeping.NestedSame.{same_number}

-- a conversation that does not lie below keeps its alternate
reset_from-other : (below : ℕ → Bool) (d n r : ℕ) (talks : List Talk) → n ≡ d + r → below n ≡ false
    → slice_get (reset_from below d talks) r ≡ slice_get talks r
reset_from-other below d n r [] e none = refl
reset_from-other below d n zero (talk ∷ talks) e none =
    let same : n ≡ d = omega (arith, e) in
    ap (λ (b : Bool). Some (cond b (first_again talk) talk)) (ap below (sym same) ∙ none)
reset_from-other below d n (suc r) (talk ∷ talks) e none = reset_from-other below (d + 1) n r talks (omega (arith, e)) none

-- so does each that is neither c nor below it, where c goes on
pub talk_beside : (groups : List Membership) (c e : ℕ) (f : Talk → Talk) (talks : List Talk) → e ≢ c → is_below groups (length groups) c e ≡ false
    → slice_get (change_at c f (reset_below groups c talks)) e ≡ slice_get talks e
talk_beside groups c e f talks other none =
    slice_get-change_other c f (reset_below groups c talks) e other
    ∙ reset_from-other (is_below groups (length groups) c) 0 e e talks (omega arith) none

-- and c itself is changed once
pub talk_changed : (groups : List Membership) (c : ℕ) (f : Talk → Talk) (talks : List Talk) → is_below groups (length groups) c c ≡ false
    → slice_get (change_at c f (reset_below groups c talks)) c ≡ option_map f (slice_get talks c)
talk_changed groups c f talks none =
    slice_get-change_at c f (reset_below groups c talks)
    ∙ ap (option_map f) (reset_from-other (is_below groups (length groups) c) 0 c c talks (omega arith) none)

-- a level of a conversation that stands further out than number i
pub record IsFurtherOut {C : Type 0} (c : ℕ) (levels : List (Level C)) (i : ℕ) : Type 0 where
  pub number : ℕ
  pub below : number < i
  pub level : IsLevelOf c levels number

module _ {C : Type 0} (groups : List Membership) (levels : List (Level C)) (nested : AreNested groups levels) where
  one_further : (c d j : ℕ) (higher : Bool) → IsLevelOf d levels j → (same : Bool) → nat_eq d c ≡ same → (same || higher) ≡ true
      → (higher ≡ true → IsFurtherOut c levels j) → IsFurtherOut c levels (suc j)
  one_further c d j higher at true e under rest =
      record { number = j; below = omega arith; level = subst (λ (x : ℕ). IsLevelOf x levels j) (eqb-true d c e) at }
  one_further c d j higher at false e under rest =
      let out : IsFurtherOut c levels j = rest under in
      record { number = out.number; below = omega (arith, out.below); level = out.level }

  under_outside : (higher : ℕ → Bool) (c : ℕ) (parent : Option ℕ) (i : ℕ) → HasOutside parent levels i → is_under higher c parent ≡ true
      → ((d j : ℕ) → IsLevelOf d levels j → higher d ≡ true → IsFurtherOut c levels j) → IsFurtherOut c levels i
  under_outside higher c None i out under rest = absurd (true≢false (sym under))
  under_outside higher c (Some d) zero out under rest = absurd out
  under_outside higher c (Some d) (suc j) out under rest = one_further c d j (higher d) out (nat_eq d c) refl under (rest d j out)

  -- a level of a conversation below c has one of c further out
  pub below_outside : (n c e i : ℕ) → IsLevelOf e levels i → is_below groups n c e ≡ true → IsFurtherOut c levels i
  below_outside zero c e i at below = absurd (true≢false (sym below))
  below_outside (suc n) c e i at below =
      under_outside (is_below groups n c) c (parent_of (slice_get groups e)) i (nested i e at) below
      (λ d j out higher. below_outside n c d j out higher)

  -- so none of those at a level of c and outside it lies below c
  outer_not_below : (n c e i j : ℕ) → IsLevelOf c levels j → IsLevelOf e levels i → i ≤ j → (below : Bool)
      → is_below groups n c e ≡ below → is_below groups n c e ≡ false
  outer_not_below n c e i j at outer within true is =
      let out : IsFurtherOut c levels i = below_outside n c e i outer is in
      let same : out.number ≡ j = same_number groups levels levels nested nested c out.number j out.level at in
      absurd (omega (arith, out.below, within, same))
  outer_not_below n c e i j at outer within false is = is

  pub not_below : (n c e i j : ℕ) → IsLevelOf c levels j → IsLevelOf e levels i → i ≤ j → is_below groups n c e ≡ false
  not_below n c e i j at outer within = outer_not_below n c e i j at outer within (is_below groups n c e) refl

  -- nor any of a process that is not inside c
  outsider_not_below : (n c e i : ℕ) → list_any (is_of c) levels ≡ false → IsLevelOf e levels i → (below : Bool)
      → is_below groups n c e ≡ below → is_below groups n c e ≡ false
  outsider_not_below n c e i outside at true is =
      let out : IsFurtherOut c levels i = below_outside n c e i at is in
      absurd (true≢false (sym (any_level c out.number levels out.level) ∙ outside))
  outsider_not_below n c e i outside at false is = is

  pub not_below_of : (n c e i : ℕ) → list_any (is_of c) levels ≡ false → IsLevelOf e levels i → is_below groups n c e ≡ false
  not_below_of n c e i outside at = outsider_not_below n c e i outside at (is_below groups n c e) refl
