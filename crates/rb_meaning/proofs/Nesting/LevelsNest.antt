-- The levels of each process of a run of a nested program are nested, and are those of members.
-- Conversations nest as Randell (1975) has it.
use Rattle.std.proofs.Common.{◌≡◌, ℕ, zero, suc, true, List, [], ◌∷◌, take, slice_get, Option, Some, None, refl, sym, ap, ◌∙◌, subst}
use Rattle.rb_syntax.specs.Tree.{Tree}
use Rattle.rb_world.specs.Kind.{Facts}
use Rattle.rb_world.specs.World.{Level}
use Rattle.rb_world.specs.Reject.{parent_of}
use Rattle.rb_world.specs.Nested.{AreNested, HasOutside, IsLevelOf}
use Rattle.rb_world.proofs.ListFacts.{heads_same, none_some, some_same, tails_same}
use Rattle.rb_meaning.specs.State.{Item, State}
use Rattle.rb_meaning.specs.Groups.{facts_of, groups_of}
use Rattle.rb_meaning.specs.Nesting.{alternates_of, is_member, members_in}
use Rattle.rb_meaning.proofs.Nesting.RulesLeft.{AreClear}
use Rattle.rb_meaning.proofs.InsideOut.{onto, onto-some}
use Rattle.rb_meaning.proofs.Nesting.JoinsWell.{BeginWith, JoinsWell, around_join, joins_well, joins_with_as_many}
use Rattle.rb_meaning.proofs.Nesting.RecoveryPoints.{ArePoints, IsPoint, facts_in, facts_left, point_at}

-- the facts of a level, and of those outside it
facts_at : (outer : List Facts) (levels : List (Level State)) (i : ℕ) (level : Level State) → slice_get levels i ≡ Some level
    → onto outer (facts_in (take (suc i) levels)) ≡ level.facts ∷ onto outer (facts_in (take i levels))
facts_at outer [] i level e = absurd (none_some e)
facts_at outer (l ∷ levels) zero level e = ap (λ (x : Level State). x.facts ∷ outer) (some_same e)
facts_at outer (l ∷ levels) (suc i) level e = facts_at (l.facts ∷ outer) levels i level e

-- before each level but the outermost there is another
level_before : (levels : List (Level State)) (j : ℕ) (level : Level State) → slice_get levels (suc j) ≡ Some level
    → (outer : Level State) × (slice_get levels j ≡ Some outer)
level_before [] j level e = absurd (none_some e)
level_before (l ∷ levels) zero level e = (l, refl)
level_before (l ∷ levels) (suc j) level e = level_before levels j level e

-- A level of conversation c is joined well, and the facts of the levels outside it are those of the blocks around it.
record IsJoined (tree : Tree) (p c : ℕ) (outside : List Facts) : Type 0 where
  rest : List Item
  well : JoinsWell tree p c rest
  left : facts_left tree rest ≡ outside

module _ (tree : Tree) (p : ℕ) where
  point_joined : (c : ℕ) (facts : Facts) (outside : List Facts) (copy : State) → IsPoint tree p (facts ∷ outside) copy → facts.conversation ≡ Some c
      → IsJoined tree p c outside
  point_joined c facts outside copy point of_c =
      let block = point.first.block in
      let rest = point.first.rest in
      let clear = subst (λ (items : List Item). AreClear tree p items) point.first.is point.own.clear in
      let left : facts_of tree block ∷ facts_left tree rest ≡ facts ∷ outside = ap (facts_left tree) (sym point.first.is) ∙ point.left in
      record {
        rest = rest;
        well = joins_well tree p c rest block clear.0 (ap (λ (f : Facts). f.conversation) (heads_same left) ∙ of_c);
        left = tails_same left;
      }

  level_joined : (levels : List (Level State)) (c i : ℕ) → ArePoints tree p [] levels → IsLevelOf c levels i
      → IsJoined tree p c (onto [] (facts_in (take i levels)))
  level_joined levels c i points at =
      point_joined c at.level.facts (onto [] (facts_in (take i levels))) at.level.copy
      (subst (λ (facts : List Facts). IsPoint tree p facts at.level.copy) (facts_at [] levels i at.level at.there)
      (point_at tree p [] i levels at.level points at.there)) at.of_it

  outside_none : (levels : List (Level State)) (i : ℕ) (level : Level State) → slice_get levels i ≡ Some level
      → onto [] (facts_in (take i levels)) ≡ [] → i ≡ 0
  outside_none levels zero level at e = refl
  outside_none [] (suc i) level at e = absurd (none_some at)
  outside_none (l ∷ levels) (suc i) level at e = absurd (onto-some l.facts [] (facts_in (take i levels)) (sym e))

  outside_some : (d : ℕ) (levels : List (Level State)) (i : ℕ) (level : Level State) → slice_get levels i ≡ Some level
      → BeginWith (Some d) (onto [] (facts_in (take i levels))) → HasOutside (Some d) levels i
  outside_some d levels zero level at begins = begins
  outside_some d levels (suc j) level at begins =
      let before = level_before levels j level at in
      record {
        level = before.0;
        there = before.1;
        of_it = subst (BeginWith (Some d)) (facts_at [] levels j before.0 before.1) begins;
      }

  has_outside : (parent : Option ℕ) (levels : List (Level State)) (i : ℕ) (level : Level State) → slice_get levels i ≡ Some level
      → BeginWith parent (onto [] (facts_in (take i levels))) → HasOutside parent levels i
  has_outside None levels i level at begins = outside_none levels i level at begins
  has_outside (Some d) levels i level at begins = outside_some d levels i level at begins

  -- each level of a conversation has its parent's level just outside it
  pub levels_nest : (levels : List (Level State)) → ArePoints tree p [] levels → AreNested (groups_of tree) levels
  levels_nest levels points i c at =
      let joined = level_joined levels c i points at in
      has_outside (parent_of (slice_get (groups_of tree) c)) levels i at.level at.there
      (subst (BeginWith (parent_of (slice_get (groups_of tree) c))) joined.left (around_join tree p c joined.rest joined.well))

  -- a level of a conversation has as many alternates as each `converse` for it
  pub levels_have_as_many : (levels : List (Level State)) (i c : ℕ) → ArePoints tree p [] levels → (at : IsLevelOf c levels i)
      → alternates_of tree c ≡ Some at.level.facts.alternates
  levels_have_as_many levels i c points at =
      let point = point_at tree p [] i levels at.level points at.there in
      let clear = subst (λ (items : List Item). AreClear tree p items) point.first.is point.own.clear in
      let same : facts_of tree point.first.block ≡ at.level.facts =
      heads_same (ap (facts_left tree) (sym point.first.is) ∙ point.left ∙ facts_at [] levels i at.level at.there) in
      joins_with_as_many tree p c point.first.rest point.first.block clear.0 (ap (λ (f : Facts). f.conversation) same ∙ at.of_it)
      ∙ ap (λ (f : Facts). Some f.alternates) same

  -- a level of a conversation is a member's
  pub levels_of_members : (levels : List (Level State)) (i c : ℕ) → ArePoints tree p [] levels → IsLevelOf c levels i
      → is_member p (members_in tree c) ≡ true
  levels_of_members levels i c points at = (level_joined levels c i points at).well.member
