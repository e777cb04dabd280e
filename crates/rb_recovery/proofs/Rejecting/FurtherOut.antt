-- Levels further out than one that is rejected: they stay as they are, and so do the rows of their conversations.
use Rattle.std.proofs.Common.{◌≡◌, ◌≢◌, ◌<◌, ◌+◌, ℕ, zero, suc, nat_eq, List, length, position, slice_get, take, Option, Some, None, refl, sym, ap, ◌∙◌, subst, eq-eqb, ne_eqb, suc-ne-zero, arith}
use Rattle.std.specs.Option.{is_none}
use Rattle.std.proofs.lemmas.List.{length-take-le}
use Rattle.rb_world.specs.Kind.{Membership}
use Rattle.rb_world.specs.Nested.{AreNested, HasOutside, IsLevelOf}
use Rattle.rb_world.specs.Reject.{parent_of}
use Rattle.rb_world.specs.World.{Level, is_of}
use Rattle.rb_world.proofs.LevelFacts.{get_take}
use Rattle.rb_world.proofs.Keeping.NestedSame.{same_number}
use Rattle.rb_world.proofs.Members.CascadeSteps.{place_found}
use Rattle.rb_world.proofs.Members.PlaceFacts.{slice_get-take}
use Rattle.rb_world.proofs.Members.PresentTalks.{not_below}
use Rattle.rb_conv.specs.Conversations.{Conversation, conversation_at, memberships}
use Rattle.rb_conv.specs.Reject.{rejected}
use Rattle.rb_conv.proofs.TalksAfterCalls.{members_stay}
use Rattle.rb_code.specs.WordMachine.Turn.{Copy}
use Rattle.rb_recovery.specs.Cascade.{MayReject, TriesWith}
use Rattle.rb_recovery.proofs.Rejecting.RowsKept.{length-rejected, row_beside}

module _ {C : Type 0} where
  outside_taken : (parent : Option ℕ) (n i : ℕ) (levels : List (Level C)) → i < n → HasOutside parent levels i → HasOutside parent (take n levels) i
  outside_taken None n i levels below out = out
  outside_taken (Some d) n zero levels below out = out
  outside_taken (Some d) n (suc j) levels below out =
      record { level = out.level; there = slice_get-take n levels j (omega (arith, below)) ∙ out.there; of_it = out.of_it }

  -- the first of nested levels are nested
  pub nested_taken : (groups : List Membership) (n : ℕ) (levels : List (Level C)) → AreNested groups levels → AreNested groups (take n levels)
  nested_taken groups n levels nested i c at =
      let found : (i < n) × (slice_get levels i ≡ Some at.level) = get_take n levels i at.level at.there in
      outside_taken (parent_of (slice_get groups c)) n i levels found.0 (nested i c (record { level = at.level; there = found.1; of_it = at.of_it }))

  lone_at : (parent : Option ℕ) (j : ℕ) (levels : List (Level C)) → HasOutside parent levels j → is_none parent ≡ nat_eq j 0
  lone_at None j levels out = sym (eq-eqb j 0 out)
  lone_at (Some d) zero levels out = absurd out
  lone_at (Some d) (suc j) levels out = sym (ne_eqb (suc j) 0 (suc-ne-zero j))

  -- a conversation lies in no other exactly if its level is the outermost
  pub lone_outermost : (groups : List Membership) (c j : ℕ) (levels : List (Level C)) → AreNested groups levels → IsLevelOf c levels j
      → is_none (parent_of (slice_get groups c)) ≡ nat_eq j 0
  lone_outermost groups c j levels nested at = lone_at (parent_of (slice_get groups c)) j levels (nested j c at)

  -- its level stands where its place is
  pub place_of_level : (groups : List Membership) (c j : ℕ) (levels : List (Level C)) → AreNested groups levels → IsLevelOf c levels j
      → position (is_of c) levels ≡ Some j
  place_of_level groups c j levels nested at = place_found groups c j levels levels nested at (λ i below. refl)

-- rows that are alike: a level tries with one what it tries with the other
tries_alike : (table table' : List Conversation) (d : ℕ) (level : Level Copy) → d < length table'
    → conversation_at table' d ≡ conversation_at table d → TriesWith table d level → TriesWith table' d level
tries_alike table table' d level there same tries = record {
  there = there;
  present = tries.present ∙ ap (λ (x : Conversation). x.talk.alternate) (sym same);
  as_many = tries.as_many ∙ ap (λ (x : Conversation). x.alternates) (sym same);
}

-- the next level out may be rejected, where the table stays
pub may_after_alone : (table : List Conversation) (j : ℕ) (levels : List (Level Copy)) → MayReject table (j + 1) levels
    → MayReject table j (take (j + 1) levels)
may_after_alone table j levels may = record {
  within = let long : length (take (j + 1) levels) ≡ j + 1 = length-take-le (j + 1) levels may.within in omega (arith, long);
  nested = nested_taken (memberships table) (j + 1) levels may.nested;
  tries = λ i d at below.
      may.tries i d (record { level = at.level; there = (get_take (j + 1) levels i at.level at.there).1; of_it = at.of_it }) (omega (arith, below));
}

-- and where a conversation was rejected of which level number j is
pub may_after_together : (table : List Conversation) (c j : ℕ) (levels : List (Level Copy)) → c < length table → IsLevelOf c levels j
    → MayReject table (j + 1) levels → MayReject (rejected c table) j (take (j + 1) levels)
may_after_together table c j levels there at may =
    let groups = memberships table in
    let alone = may_after_alone table j levels may in
    record {
      within = alone.within;
      nested = subst (λ (ms : List Membership). AreNested ms (take (j + 1) levels)) (sym (members_stay table c 0).rejection) alone.nested;
      tries = λ i d outer below.
          let tries : TriesWith table d outer.level = alone.tries i d outer below in
          let out : IsLevelOf d levels i =
          record { level = outer.level; there = (get_take (j + 1) levels i outer.level outer.there).1; of_it = outer.of_it } in
          let other : d ≢ c = λ (same : d ≡ c).
          let moved : IsLevelOf c levels i = subst (λ (x : ℕ). IsLevelOf x levels i) same out in
          let one : i ≡ j = same_number groups levels levels may.nested may.nested c i j moved at in omega (arith, below, one) in
          tries_alike table (rejected c table) d outer.level (subst (λ (n : ℕ). d < n) (sym (length-rejected table c)) tries.there)
          (row_beside table c d there tries.there other
          (not_below groups levels may.nested (length table) c d i j at out (omega (arith, below)))) tries;
    }
