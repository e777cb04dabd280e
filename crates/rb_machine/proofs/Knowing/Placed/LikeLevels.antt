-- Levels of which each is of the same block as the level at its number was: they are nested, and those of a member's blocks, as the others
-- were.
use Rattle.std.proofs.Common.{◌≡◌, ℕ, zero, suc, List, [], ◌∷◌, map, option_map, slice_get, take, Option, Some, None, refl, sym, ap, ◌∙◌}
use Rattle.std.proofs.lemmas.Option.{slice_get-map}
use Rattle.rb_world.specs.Kind.{Facts, Membership}
use Rattle.rb_world.specs.World.{Level, without_last}
use Rattle.rb_world.specs.Reject.{parent_of}
use Rattle.rb_world.specs.Nested.{AreNested, HasOutside, IsLevelOf}
use Rattle.rb_world.specs.Standing.{Each}
use Rattle.rb_world.proofs.LevelFacts.{get_take, get_without_last}
use Rattle.rb_world.proofs.ListFacts.{none_some, some_same}
use Rattle.rb_code.specs.Instructions.Plain.{Code}
use Rattle.rb_code.specs.SoundCode.Stands.{Opened, opened}
use Rattle.rb_code.specs.WordMachine.Turn.{Copy}
use Rattle.rb_recovery.specs.Known.{IsOfBlock, OfMembers}

-- what is known of the levels of process p
pub record AreOpen (c : Code) (groups : List Membership) (p : ℕ) (levels : List (Level Copy)) : Type 0 where
  pub nested : AreNested groups levels
  pub members : OfMembers groups p levels
  pub blocks : Each (λ _ level. IsOfBlock c level) levels

-- the level at a number has these facts
pub record HasFacts (levels : List (Level Copy)) (i : ℕ) (facts : Facts) : Type 0 where
  pub level : Level Copy
  pub there : slice_get levels i ≡ Some level
  pub same : level.facts ≡ facts

abbrev pub AreLike : List (Level Copy) → List (Level Copy) → Type 0
AreLike later levels = (i : ℕ) (level : Level Copy) → slice_get later i ≡ Some level → HasFacts levels i level.facts

-- outside each level but the outermost stands another
level_before : (levels : List (Level Copy)) (j : ℕ) (level : Level Copy) → slice_get levels (suc j) ≡ Some level
    → (outer : Level Copy) × (slice_get levels j ≡ Some outer)
level_before [] j level e = absurd (none_some e)
level_before (l ∷ levels) zero level e = (l, refl)
level_before (l ∷ levels) (suc j) level e = level_before levels j level e

module _ (later levels : List (Level Copy)) (like : AreLike later levels) where
  like_level : (d i : ℕ) → IsLevelOf d later i → IsLevelOf d levels i
  like_level d i at =
      let one = like i at.level at.there in
      record { level = one.level; there = one.there; of_it = ap (λ (f : Facts). f.conversation) one.same ∙ at.of_it }

  like_outside : (parent : Option ℕ) (i : ℕ) (level : Level Copy) → slice_get later i ≡ Some level → HasOutside parent levels i
      → HasOutside parent later i
  like_outside None i level e out = out
  like_outside (Some d) zero level e out = out
  like_outside (Some d) (suc j) level e out =
      let outer = level_before later j level e in
      let one = like j outer.0 outer.1 in
      record {
        level = outer.0;
        there = outer.1;
        of_it = ap (λ (f : Facts). f.conversation) (sym one.same)
            ∙ (ap (λ (l : Level Copy). l.facts.conversation) (some_same (sym one.there ∙ out.there)) ∙ out.of_it);
      }

  pub like_open : (c : Code) (groups : List Membership) (p : ℕ) → AreOpen c groups p levels → AreOpen c groups p later
  like_open c groups p h = record {
    nested = λ i d at. like_outside (parent_of (slice_get groups d)) i at.level at.there (h.nested i d (like_level d i at));
    members = λ i d at. h.members i d (like_level d i at);
    blocks = λ i level e.
        let one = like i level e in
        let block = h.blocks i one.level one.there in
        record { number = block.number; block = block.block; there = block.there; facts = sym one.same ∙ block.facts };
  }

-- so it is with the same levels, with none, with those that know the same, with the outermost of them, and with all but the innermost
pub like_self : (levels : List (Level Copy)) → AreLike levels levels
like_self levels i level e = record { level = level; there = e; same = refl }

pub like_none : (levels : List (Level Copy)) → AreLike [] levels
like_none levels i level e = absurd (none_some e)

pub like_opened : (later levels : List (Level Copy)) → map opened later ≡ map opened levels → AreLike later levels
like_opened later levels same i level e = by (slice_get levels i) refl
  where
    looked : option_map opened (slice_get levels i) ≡ Some (opened level)
    looked =
        sym (slice_get-map opened levels i)
        ∙ (ap (λ (ls : List Opened). slice_get ls i) (sym same) ∙ (slice_get-map opened later i ∙ ap (option_map opened) e))

    by : (o : Option (Level Copy)) → slice_get levels i ≡ o → HasFacts levels i level.facts
    by None q = absurd (none_some (sym (ap (option_map opened) q) ∙ looked))
    by (Some l) q =
        record { level = l; there = q; same = ap (λ (x : Opened). x.facts) (some_same (sym (ap (option_map opened) q) ∙ looked)) }

pub like_taken : (n : ℕ) (levels : List (Level Copy)) → AreLike (take n levels) levels
like_taken n levels i level e = record { level = level; there = (get_take n levels i level e).1; same = refl }

pub like_without_last : (levels : List (Level Copy)) → AreLike (without_last levels) levels
like_without_last levels i level e = record { level = level; there = get_without_last levels i level e; same = refl }
