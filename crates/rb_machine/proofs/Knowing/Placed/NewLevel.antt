-- A level that is entered where its block may be: it stands right inside its conversation's parent, and its conversation has the process.
use Rattle.std.proofs.Common.{◌≡◌, inl, inr, nat_eq, ℕ, zero, suc, true, List, [], ◌∷◌, ◌++◌, length, map, option_map, slice_get, Option, Some, None, refl, sym, ap, ◌∙◌, subst, eq-eqb, arith}
use Rattle.std.specs.List.{list_any}
use Rattle.std.proofs.lemmas.Bool.{or_left, or_right}
use Rattle.std.proofs.lemmas.Option.{slice_get_within}
use Rattle.rb_world.specs.Kind.{Facts, Membership}
use Rattle.rb_world.specs.World.{Level, last_of, without_last}
use Rattle.rb_world.specs.Reject.{parent_of}
use Rattle.rb_world.specs.Turn.{members_of}
use Rattle.rb_world.specs.Nested.{HasOutside, IsLevelOf}
use Rattle.rb_world.proofs.LevelFacts.{IsNew, IsOld, IsOldOrNew, get_more}
use Rattle.rb_world.proofs.ListFacts.{last_stands_last, length-end, none_some, slice_get-end, slice_get-front, some_same}
use Rattle.rb_code.specs.Instructions.Plain.{Code}
use Rattle.rb_code.specs.WordMachine.Workspace.{OpenCall, body_place, part_of}
use Rattle.rb_code.specs.SoundCode.Sound.{Entry, IsMain, IsMember, IsOfProcedure, LiesIn, MayEnter, OpenBlock, Table, Within, conversation_of}
use Rattle.rb_code.specs.SoundCode.Stands.{BodyFits, Levels, LevelsFit, Opened, inside_out, opened}
use Rattle.rb_code.specs.WordMachine.Turn.{Copy}
use Rattle.rb_code.proofs.Executing.LastOf.{last_level, reverse_none}
use Rattle.rb_code.proofs.Executing.OpenLevels.{body_process}
use Rattle.rb_recovery.specs.Known.{IsOfBlock}
use Rattle.rb_machine.proofs.Knowing.Placed.Behind.{EntersBlock}
use Rattle.rb_machine.proofs.Knowing.Placed.LikeLevels.{AreOpen}

-- the innermost level is one of this conversation, or there is no level where it is none
abbrev pub EndIn : Option ℕ → List (Level Copy) → Type 0
EndIn None levels = levels ≡ []
EndIn (Some d) levels = (level : Level Copy) × (last_of levels ≡ Some level) × (level.facts.conversation ≡ Some d)

-- a level that stands among these stands there among more
level_front : (d j : ℕ) (levels more : List (Level Copy)) → IsLevelOf d levels j → IsLevelOf d (levels ++ more) j
level_front d j levels more at = record {
  level = at.level;
  there = slice_get-front levels more j (slice_get_within levels j at.level at.there) ∙ at.there;
  of_it = at.of_it;
}

outside_front : (parent : Option ℕ) (levels more : List (Level Copy)) (i : ℕ) → HasOutside parent levels i → HasOutside parent (levels ++ more) i
outside_front None levels more i out = out
outside_front (Some d) levels more zero out = out
outside_front (Some d) levels more (suc j) out = level_front d j levels more out

-- right outside one more level stands the innermost
outside_end : (parent : Option ℕ) (levels : List (Level Copy)) (new : Level Copy) → EndIn parent levels
    → HasOutside parent (levels ++ new ∷ []) (length levels)
outside_end None levels new none = ap length none
outside_end (Some d) levels new inner =
    let front = without_last levels in
    let split : levels ≡ front ++ inner.0 ∷ [] = last_stands_last levels inner.0 inner.1 in
    let long : length levels ≡ suc (length front) = ap length split ∙ length-end front inner.0 in
    subst (HasOutside (Some d) (levels ++ new ∷ [])) (sym long)
    (level_front d (length front) levels (new ∷ [])
    (record {
      level = inner.0;
      there = ap (λ (ls : List (Level Copy)). slice_get ls (length front)) split ∙ slice_get-end front inner.0;
      of_it = inner.2;
    }))

-- the block of a new level, and what its conversation asks for
pub record MayOpen (c : Code) (groups : List Membership) (p : ℕ) (levels : List (Level Copy)) (new : Level Copy) : Type 0 where
  pub block : IsOfBlock c new
  pub member : (d : ℕ) → new.facts.conversation ≡ Some d → list_any (nat_eq p) (members_of (slice_get groups d)) ≡ true
  pub inside : (d : ℕ) → new.facts.conversation ≡ Some d → EndIn (parent_of (slice_get groups d)) levels

module _ (c : Code) (groups : List Membership) (p : ℕ) (levels : List (Level Copy)) (new : Level Copy) (h : AreOpen c groups p levels)
    (may : MayOpen c groups p levels new) where
  new_conversation : (d i : ℕ) (at : IsLevelOf d (levels ++ new ∷ []) i) → new ≡ at.level → new.facts.conversation ≡ Some d
  new_conversation d i at same = ap (λ (l : Level Copy). l.facts.conversation) same ∙ at.of_it

  old : (d i : ℕ) (at : IsLevelOf d (levels ++ new ∷ []) i) → slice_get levels i ≡ Some at.level → IsLevelOf d levels i
  old d i at e = record { level = at.level; there = e; of_it = at.of_it }

  nested_more : (i d : ℕ) (at : IsLevelOf d (levels ++ new ∷ []) i) → IsOldOrNew levels new i at.level
      → HasOutside (parent_of (slice_get groups d)) (levels ++ new ∷ []) i
  nested_more i d at (IsOld e) =
      outside_front (parent_of (slice_get groups d)) levels (new ∷ []) i (h.nested i d (old d i at e))
  nested_more i d at (IsNew e same) =
      subst (HasOutside (parent_of (slice_get groups d)) (levels ++ new ∷ [])) (sym e)
      (outside_end (parent_of (slice_get groups d)) levels new (may.inside d (new_conversation d i at same)))

  members_more : (i d : ℕ) (at : IsLevelOf d (levels ++ new ∷ []) i) → IsOldOrNew levels new i at.level
      → list_any (nat_eq p) (members_of (slice_get groups d)) ≡ true
  members_more i d at (IsOld e) = h.members i d (old d i at e)
  members_more i d at (IsNew e same) = may.member d (new_conversation d i at same)

  blocks_more : (i : ℕ) (level : Level Copy) → IsOldOrNew levels new i level → IsOfBlock c level
  blocks_more i level (IsOld e) = h.blocks i level e
  blocks_more i level (IsNew e same) = subst (IsOfBlock c) same may.block

  -- so the levels with the new one are open
  pub open_more : AreOpen c groups p (levels ++ new ∷ [])
  open_more = record {
    nested = λ i d at. nested_more i d at (get_more levels new i at.level at.there);
    members = λ i d at. members_more i d at (get_more levels new i at.level at.there);
    blocks = λ i level e. blocks_more i level (get_more levels new i level e);
  }

-- a member passes the test of one
is_any : (p : ℕ) (members : List ℕ) → IsMember p members → list_any (nat_eq p) members ≡ true
is_any p [] among = absurd among
is_any p (m ∷ members) (inl e) = or_left (nat_eq p m) (list_any (nat_eq p) members) (eq-eqb p m (sym e))
is_any p (m ∷ members) (inr among) = or_right (nat_eq p m) (list_any (nat_eq p) members) (is_any p members among)

no_levels : (levels : List (Level Copy)) → map opened levels ≡ [] → levels ≡ []
no_levels [] e = refl
no_levels (level ∷ levels) e = absurd (let n = ap length e in omega arith)

module _ (c : Code) (groups : List Membership) (t : Table) (p : ℕ) where
  -- no call is open in the main body
  in_body : (calls : List OpenCall) (within : Within) (blocks : List OpenBlock) (levels : Levels) → BodyFits c t p calls within blocks levels
      → IsMain within → LevelsFit c t within (body_place (part_of c p)) [] blocks levels (λ others. others ≡ [])
  in_body [] within blocks levels fits main = fits.1
  in_body (call ∷ calls) within blocks levels fits main = absurd (subst IsOfProcedure main fits.1)

  -- there the innermost level is one of the innermost block
  ends_in : (parent : Option ℕ) (within : Within) (base : ℕ) (blocks : List OpenBlock) (levels : List (Level Copy))
      → LevelsFit c t within base [] blocks (inside_out levels) (λ others. others ≡ []) → LiesIn c groups t parent blocks → EndIn parent levels
  ends_in None within base [] levels fits lies = no_levels levels (reverse_none (map opened levels) fits)
  ends_in None within base (block ∷ around) levels fits lies = absurd lies
  ends_in (Some d) within base [] levels fits lies = absurd lies
  ends_in (Some d) within base (block ∷ around) levels fits lies = by (inside_out levels) refl fits
    where
      inner : (x : Opened) → option_map opened (last_of levels) ≡ Some x → x.facts.conversation ≡ Some d → (o : Option (Level Copy))
          → last_of levels ≡ o → EndIn (Some d) levels
      inner x last of_it None e = absurd (none_some (sym (ap (option_map opened) e) ∙ last))
      inner x last of_it (Some level) e = (
        level,
        e,
        ap (λ (y : Opened). y.facts.conversation) (some_same (sym (ap (option_map opened) e) ∙ last)) ∙ of_it,
      )

      by : (out : Levels) → inside_out levels ≡ out → LevelsFit c t within base [] (block ∷ around) out (λ others. others ≡ [])
          → EndIn (Some d) levels
      by [] e h = absurd h
      by (x ∷ others) e h =
          inner x (last_level levels x others e)
          (ap (λ (f : Facts). f.conversation) h.0.facts ∙ (sym (ap conversation_of h.0.is_block) ∙ lies)) (last_of levels) refl

  -- what a conversation's block asks for where it may be entered
  entry_member : (calls : List OpenCall) (e : Entry) (levels : Levels) → BodyFits c t p calls e.within e.blocks levels
      → (conversation : Option ℕ) → MayEnter c groups t conversation e → (d : ℕ) → conversation ≡ Some d
      → list_any (nat_eq p) (members_of (slice_get groups d)) ≡ true
  entry_member calls e levels fits None may d is = absurd (none_some is)
  entry_member calls e levels fits (Some f) may d is =
      subst (λ (n : ℕ). list_any (nat_eq p) (members_of (slice_get groups n)) ≡ true) (some_same is)
      (is_any p (members_of (slice_get groups f))
      (subst (λ (m : ℕ). IsMember m (members_of (slice_get groups f))) (body_process c t p calls e.within e.blocks levels fits) may.1))

  entry_inside : (calls : List OpenCall) (e : Entry) (levels : List (Level Copy)) → BodyFits c t p calls e.within e.blocks (inside_out levels)
      → (conversation : Option ℕ) → MayEnter c groups t conversation e → (d : ℕ) → conversation ≡ Some d
      → EndIn (parent_of (slice_get groups d)) levels
  entry_inside calls e levels fits None may d is = absurd (none_some is)
  entry_inside calls e levels fits (Some f) may d is =
      subst (λ (n : ℕ). EndIn (parent_of (slice_get groups n)) levels) (some_same is)
      (ends_in (parent_of (slice_get groups f)) e.within (body_place (part_of c p)) e.blocks levels
      (in_body calls e.within e.blocks (inside_out levels) fits may.0) may.2)

  -- so a level of the block may be opened
  pub entry_opens : (calls : List OpenCall) (e : Entry) (levels : List (Level Copy)) (new : Level Copy)
      → BodyFits c t p calls e.within e.blocks (inside_out levels) → EntersBlock c groups t e new.facts → MayOpen c groups p levels new
  entry_opens calls e levels new fits enters = record {
    block = record { number = enters.number; block = enters.block; there = enters.there; facts = enters.facts_are };
    member = λ d is. entry_member calls e (inside_out levels) fits enters.block.conversation enters.may d (same d is);
    inside = λ d is. entry_inside calls e levels fits enters.block.conversation enters.may d (same d is);
  }
    where
      same : (d : ℕ) → new.facts.conversation ≡ Some d → enters.block.conversation ≡ Some d
      same d is = sym (ap (λ (f : Facts). f.conversation) enters.facts_are) ∙ is
