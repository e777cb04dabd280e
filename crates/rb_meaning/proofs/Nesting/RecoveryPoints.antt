-- Recovery points of a nested program: each is a state of its process, its first item is the start of its own level's block,
-- and the blocks that are left in it are those of its level and of the levels outside it.
use Rattle.std.proofs.Common.{◌≡◌, ℕ, zero, suc, List, [], ◌∷◌, ◌++◌, length, map, take, slice_get, Some, refl, ap, subst}
use Rattle.rb_syntax.specs.Tree.{RecoveryBlock, Tree}
use Rattle.rb_world.specs.Kind.{Facts}
use Rattle.rb_world.specs.World.{Level, change_at, without_last}
use Rattle.rb_world.specs.Reject.{next_alternate}
use Rattle.rb_world.specs.Turn.{one_used}
use Rattle.rb_world.proofs.ListFacts.{none_some, some_same}
use Rattle.rb_meaning.specs.State.{Item, StartOf, State}
use Rattle.rb_meaning.specs.Groups.{facts_of}
use Rattle.rb_meaning.specs.Laws.{blocks_left}
use Rattle.rb_meaning.proofs.Nesting.RulesLeft.{AreClear}
use Rattle.rb_meaning.proofs.InsideOut.{onto}

-- the facts of levels
abbrev pub facts_in : List (Level State) → List Facts
facts_in levels = map (λ level. level.facts) levels

-- the facts of the recovery blocks that are left, the innermost first
abbrev pub facts_left : Tree → List Item → List Facts
facts_left tree items = map (facts_of tree) (blocks_left items)

-- a state of process p, of which all that is left keeps the rules, with an entry for each channel
pub record IsOwn (tree : Tree) (p : ℕ) (s : State) : Type 0 where
  pub process : s.process ≡ p
  pub clear : AreClear tree p s.items
  pub sent : length s.sent ≡ length tree.channels
  pub taken : length s.taken ≡ length tree.channels

-- the start of a recovery block stands first
pub record StartsFirst (items : List Item) : Type 0 where
  pub block : RecoveryBlock
  pub rest : List Item
  pub is : items ≡ StartOf block ∷ rest

-- a recovery point in which the blocks with these facts are left, the innermost first
pub record IsPoint (tree : Tree) (p : ℕ) (facts : List Facts) (copy : State) : Type 0 where
  pub own : IsOwn tree p copy
  pub first : StartsFirst copy.items
  pub left : facts_left tree copy.items ≡ facts

-- the recovery points of levels that lie inside levels with these facts
abbrev pub ArePoints : Tree → ℕ → List Facts → List (Level State) → Type 0
ArePoints tree p outer [] = Unit {0}
ArePoints tree p outer (level ∷ levels) = IsPoint tree p (level.facts ∷ outer) level.copy × ArePoints tree p (level.facts ∷ outer) levels

-- Turns used and the next alternate change no facts and no recovery point.
pub facts_used : (levels : List (Level State)) → facts_in (map one_used levels) ≡ facts_in levels
facts_used [] = refl
facts_used (level ∷ levels) = ap (λ x. level.facts ∷ x) (facts_used levels)

-- the next alternate changes no facts
pub facts_raised : (j : ℕ) (levels : List (Level State)) → facts_in (change_at j next_alternate levels) ≡ facts_in levels
facts_raised j [] = refl
facts_raised zero (level ∷ levels) = refl
facts_raised (suc j) (level ∷ levels) = ap (λ x. level.facts ∷ x) (facts_raised j levels)

module _ (tree : Tree) (p : ℕ) where
  -- turns used leave recovery points as they are
  pub points_used : (outer : List Facts) (levels : List (Level State)) → ArePoints tree p outer levels → ArePoints tree p outer (map one_used levels)
  points_used outer [] points = tt
  points_used outer (level ∷ levels) points = (points.0, points_used (level.facts ∷ outer) levels points.1)

  -- and so does the next alternate
  pub points_raised : (outer : List Facts) (j : ℕ) (levels : List (Level State)) → ArePoints tree p outer levels
      → ArePoints tree p outer (change_at j next_alternate levels)
  points_raised outer j [] points = tt
  points_raised outer zero (level ∷ levels) points = points
  points_raised outer (suc j) (level ∷ levels) points = (points.0, points_raised (level.facts ∷ outer) j levels points.1)

  -- a new level inside all others
  pub points_more : (outer : List Facts) (levels : List (Level State)) (level : Level State) → ArePoints tree p outer levels
      → IsPoint tree p (level.facts ∷ onto outer (facts_in levels)) level.copy → ArePoints tree p outer (levels ++ level ∷ [])
  points_more outer [] level points point = (point, tt)
  points_more outer (l ∷ levels) level points point = (points.0, points_more (l.facts ∷ outer) levels level points.1 point)

  -- the innermost level goes
  pub points_front : (outer : List Facts) (levels : List (Level State)) → ArePoints tree p outer levels → ArePoints tree p outer (without_last levels)
  points_front outer [] points = tt
  points_front outer (level ∷ []) points = tt
  points_front outer (level ∷ l ∷ levels) points = (points.0, points_front (level.facts ∷ outer) (l ∷ levels) points.1)

  -- only the outer levels stay
  pub points_taken : (outer : List Facts) (n : ℕ) (levels : List (Level State)) → ArePoints tree p outer levels
      → ArePoints tree p outer (take n levels)
  points_taken outer zero levels points = tt
  points_taken outer (suc n) [] points = tt
  points_taken outer (suc n) (level ∷ levels) points = (points.0, points_taken (level.facts ∷ outer) n levels points.1)

  -- the recovery point of level number j
  pub point_at : (outer : List Facts) (j : ℕ) (levels : List (Level State)) (level : Level State) → ArePoints tree p outer levels
      → slice_get levels j ≡ Some level → IsPoint tree p (onto outer (facts_in (take (suc j) levels))) level.copy
  point_at outer j [] level points e = absurd (none_some e)
  point_at outer zero (l ∷ levels) level points e =
      subst (λ (x : Level State). IsPoint tree p (l.facts ∷ outer) x.copy) (some_same e) points.0
  point_at outer (suc j) (l ∷ levels) level points e = point_at (l.facts ∷ outer) j levels level points.1 e
