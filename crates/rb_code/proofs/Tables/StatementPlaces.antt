-- Where a statement stands, by the rules of nesting and by what is known at its address: a `converse` is entered where it may be, and a
-- message is sent and received by the ends of its channel.
use Rattle.std.proofs.Common.{◌≡◌, ◌⊎◌, inl, inr, ℕ, nat_eq, Bool, true, false, not, ◌&&◌, ◌||◌, List, [], ◌∷◌, ◌++◌, slice_get, Option, Some, None, refl, ap, sym, ◌∙◌, subst, true≢false}
use Rattle.std.proofs.lemmas.Bool.{eqb-true}
use Rattle.std.proofs.lemmas.List.Folds.{list_all-append}
use Rattle.std.specs.List.{list_all, list_any}
use Rattle.rb_syntax.specs.Tree.{Identifier, Alternates, Tree}
use Rattle.rb_world.specs.Kind.{Ends}
use Rattle.rb_world.specs.Reject.{parent_of}
use Rattle.rb_world.specs.Turn.{members_of}
use Rattle.rb_world.proofs.ListFacts.{first_holds, second_holds}
use Rattle.rb_meaning.specs.Groups.{channel_number, channels_of, conversation_number, conversation_of as number_joined, count_alternates, groups_of}
use Rattle.rb_meaning.specs.Nesting.{Joins, Receives, Sends, Spot, Use, inside, innermost, is_converse, is_end, is_member, is_same_conversation, joined, keeps_n1, keeps_n2, keeps_n4, keeps_n5, keeps_n8, keeps_n9, members_in}
use Rattle.rb_meaning.proofs.Nesting.RulesLeft.{AreKept, keeps_rules, kept_first, kept_second}
use Rattle.rb_code.specs.Instructions.Plain.{Code}
use Rattle.rb_code.specs.SoundCode.Sound.{Entry, IsMain, IsMember, IsReceiver, IsSender, LiesIn, MayEnter, OpenBlock, Table, Within, conversation_of}

-- uses keep the rules, and none of them speaks in a procedure
pub record KeepRules (tree : Tree) (uses : List Use) : Type 0 where
  pub kept : AreKept tree uses
  pub outside : list_all (keeps_n8 tree) uses ≡ true

pub rules_first : (tree : Tree) (xs ys : List Use) → KeepRules tree (xs ++ ys) → KeepRules tree xs
rules_first tree xs ys rules = record {
  kept = kept_first tree xs ys rules.kept;
  outside = first_holds (list_all (keeps_n8 tree) xs) (list_all (keeps_n8 tree) ys) (sym (list_all-append (keeps_n8 tree) xs ys) ∙ rules.outside);
}

pub rules_second : (tree : Tree) (xs ys : List Use) → KeepRules tree (xs ++ ys) → KeepRules tree ys
rules_second tree xs ys rules = record {
  kept = kept_second tree xs ys rules.kept;
  outside = second_holds (list_all (keeps_n8 tree) xs) (list_all (keeps_n8 tree) ys) (sym (list_all-append (keeps_n8 tree) xs ys) ∙ rules.outside);
}

-- the open blocks are those around a spot
abbrev pub OpenAs : Code → Tree → List OpenBlock → List (Option Identifier) → Type 0
OpenAs c tree [] [] = Unit {0}
OpenAs c tree [] (one ∷ around) = ⊥
OpenAs c tree (block ∷ blocks) [] = ⊥
OpenAs c tree (block ∷ blocks) (one ∷ around) =
    (conversation_of (slice_get c.blocks block.number) ≡ number_joined tree one) × OpenAs c tree blocks around

-- what is known at an address is of this spot
pub record StandsAt (c : Code) (tree : Tree) (within : Within) (blocks : List OpenBlock) (spot : Spot) : Type 0 where
  pub process : spot.process ≡ within.process
  pub main : not spot.in_procedure ≡ true → IsMain within
  pub opened : OpenAs c tree blocks spot.around

pub stands_inside : (c : Code) (tree : Tree) (within : Within) (blocks : List OpenBlock) (block : OpenBlock) (spot : Spot)
    (conversation : Option Identifier)
    → conversation_of (slice_get c.blocks block.number) ≡ number_joined tree conversation → StandsAt c tree within blocks spot
    → StandsAt c tree within (block ∷ blocks) (inside conversation spot)
stands_inside c tree within blocks block spot conversation is at =
    record { process = at.process; main = at.main; opened = (is, at.opened) }

-- a member by the test
pub is_among : (p : ℕ) (members : List ℕ) → is_member p members ≡ true → IsMember p members
is_among p [] e = true≢false (sym e)
is_among p (m ∷ members) e = by (is_among p members) (nat_eq p m) refl e
  where
    by : (list_any (nat_eq p) members ≡ true → IsMember p members) → (b : Bool) → nat_eq p m ≡ b → (b || list_any (nat_eq p) members) ≡ true
        → (m ≡ p) ⊎ IsMember p members
    by next true h g = inl (sym (eqb-true p m h))
    by next false h g = inr (next g)

module _ (c : Code) (tree : Tree) (t : Table) where
  -- the block right around belongs to the parent
  lies_in : (parent : Option ℕ) (blocks : List OpenBlock) (around : List (Option Identifier)) → OpenAs c tree blocks around
      → list_all is_converse around ≡ true → is_same_conversation (number_joined tree (innermost around)) parent ≡ true
      → LiesIn c (groups_of tree) t parent blocks
  lies_in None [] [] h all same = tt
  lies_in (Some d) [] [] h all same = absurd (true≢false (sym same))
  lies_in parent [] (one ∷ around) h all same = absurd h
  lies_in parent (block ∷ blocks) [] h all same = absurd h
  lies_in parent (block ∷ blocks) (None ∷ around) h all same = absurd (true≢false (sym all))
  lies_in None (block ∷ blocks) (Some name ∷ around) h all same = absurd (true≢false (sym same))
  lies_in (Some d) (block ∷ blocks) (Some name ∷ around) h all same =
      h.0 ∙ ap (λ k. Some k) (sym (eqb-true d (conversation_number tree name.text) same))

  -- a `converse` stands where its block may be entered
  enters : (within : Within) (blocks : List OpenBlock) (e : Entry) (spot : Spot) (name : Identifier) (alternates : Alternates)
      → e.within ≡ within → e.blocks ≡ blocks
      → StandsAt c tree within blocks spot → (one : Use) → one ≡ record { name = name; deed = Joins (count_alternates alternates); spot = spot }
      → keeps_n1 tree one ≡ true → keeps_n2 tree one ≡ true → keeps_n4 tree one ≡ true
      → MayEnter c (groups_of tree) t (Some (conversation_number tree name.text)) e
  enters within blocks e spot name alternates is_within is_blocks at one is n1 n2 n4 =
      let speech : Use = record { name = name; deed = Joins (count_alternates alternates); spot = spot } in
      let first : keeps_n1 tree speech ≡ true = subst (λ u. keeps_n1 tree u ≡ true) is n1 in
      let second : keeps_n2 tree speech ≡ true = subst (λ u. keeps_n2 tree u ≡ true) is n2 in
      let fourth : keeps_n4 tree speech ≡ true = subst (λ u. keeps_n4 tree u ≡ true) is n4 in
      let d = conversation_number tree name.text in (
        ap (λ w. w.procedure) is_within ∙ at.main (first_holds (not spot.in_procedure) (list_all is_converse spot.around) first),
        subst (λ p. IsMember p (members_of (slice_get (groups_of tree) d))) (at.process ∙ ap (λ w. w.process) (sym is_within))
            (is_among spot.process (members_in tree d) second),
        subst (LiesIn c (groups_of tree) t (parent_of (slice_get (groups_of tree) d))) (sym is_blocks)
            (lies_in (parent_of (slice_get (groups_of tree) d)) blocks spot.around at.opened
            (second_holds (not spot.in_procedure) (list_all is_converse spot.around) first) fourth),
      )

  pub may_enter : (e : Entry) (spot : Spot) (conversation : Option Identifier) (alternates : Alternates) → StandsAt c tree e.within e.blocks spot
      → KeepRules tree (joined conversation alternates spot) → MayEnter c (groups_of tree) t (number_joined tree conversation) e
  may_enter e spot None alternates at rules = tt
  may_enter e spot (Some name) alternates at rules =
      let speech : Use = record { name = name; deed = Joins (count_alternates alternates); spot = spot } in
      let all : keeps_rules tree speech ≡ true = first_holds (keeps_rules tree speech) true rules.kept in
      let last = keeps_n5 tree speech && keeps_n9 tree speech in
      let others = second_holds (keeps_n1 tree speech) (keeps_n2 tree speech && (keeps_n4 tree speech && last)) all in
      enters e.within e.blocks e spot name alternates refl refl at speech refl
      (first_holds (keeps_n1 tree speech) (keeps_n2 tree speech && (keeps_n4 tree speech && last)) all)
      (first_holds (keeps_n2 tree speech) (keeps_n4 tree speech && last) others)
      (first_holds (keeps_n4 tree speech) last (second_holds (keeps_n2 tree speech) (keeps_n4 tree speech && last) others))

-- the fifth of these rules
fifth : (tree : Tree) (speech : Use) → keeps_rules tree speech ≡ true → keeps_n9 tree speech ≡ true
fifth tree speech all =
    let last = keeps_n5 tree speech && keeps_n9 tree speech in
    second_holds (keeps_n5 tree speech) (keeps_n9 tree speech)
    (second_holds (keeps_n4 tree speech) last
    (second_holds (keeps_n2 tree speech) (keeps_n4 tree speech && last)
    (second_holds (keeps_n1 tree speech) (keeps_n2 tree speech && (keeps_n4 tree speech && last)) all)))

sender_is : (p : ℕ) (ends : Option Ends) → is_end Sends p ends ≡ true → IsSender ends p
sender_is p None e = true≢false (sym e)
sender_is p (Some ends) e = eqb-true ends.sender p e

receiver_is : (p : ℕ) (ends : Option Ends) → is_end Receives p ends ≡ true → IsReceiver ends p
receiver_is p None e = true≢false (sym e)
receiver_is p (Some ends) e = eqb-true ends.receiver p e

-- who sends on a channel, in a main body, is its sender; and who receives from it its receiver
pub sends_on : (c : Code) (tree : Tree) (within : Within) (blocks : List OpenBlock) (spot : Spot) (name : Identifier)
    → StandsAt c tree within blocks spot
    → KeepRules tree (record { name = name; deed = Sends; spot = spot } ∷ [])
    → IsMain within × IsSender (slice_get (channels_of tree) (channel_number tree name.text)) within.process
sends_on c tree within blocks spot name at rules =
    let speech : Use = record { name = name; deed = Sends; spot = spot } in
    let ends = slice_get (channels_of tree) (channel_number tree name.text) in (
      at.main (first_holds (not spot.in_procedure) true rules.outside),
      subst (IsSender ends) at.process (sender_is spot.process ends (fifth tree speech (first_holds (keeps_rules tree speech) true rules.kept))),
    )

pub receives_from : (c : Code) (tree : Tree) (within : Within) (blocks : List OpenBlock) (spot : Spot) (name : Identifier)
    → StandsAt c tree within blocks spot
    → KeepRules tree (record { name = name; deed = Receives; spot = spot } ∷ [])
    → IsMain within × IsReceiver (slice_get (channels_of tree) (channel_number tree name.text)) within.process
receives_from c tree within blocks spot name at rules =
    let speech : Use = record { name = name; deed = Receives; spot = spot } in
    let ends = slice_get (channels_of tree) (channel_number tree name.text) in (
      at.main (first_holds (not spot.in_procedure) true rules.outside),
      subst (IsReceiver ends) at.process (receiver_is spot.process ends (fifth tree speech (first_holds (keeps_rules tree speech) true rules.kept))),
    )
