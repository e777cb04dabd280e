-- A conversation of a tree without a fault is joined: each of its members has a `converse` for it.
use Rattle.std.proofs.Common.{◌≡◌, ℕ, zero, suc, ◌+◌, nat_eq, nat_lt, Bool, true, false, not, ◌||◌, List, [], ◌∷◌, ◌++◌, length, slice_get, Option, Some, None, refl, sym, ap, ◌∙◌, subst}
use Rattle.std.specs.List.{flat_map, list_any}
use Rattle.std.proofs.lemmas.Bool.{eq-eqb}
use Rattle.rb_base.specs.declared.fault.FaultName.TheVariants.{N6, N11}
use Rattle.rb_syntax.specs.Tree.{ConversationDeclaration, Identifier, Tree}
use Rattle.rb_meaning.specs.Environment.{or_else, same_name}
use Rattle.rb_meaning.specs.Groups.{conversation_number, number_or_zero, process_number}
use Rattle.rb_meaning.specs.Nesting.{Deed, Joins, Receives, Sends, Use, alternates_of, first_joined, joined_with, uses_of}
use Rattle.rb_world.specs.Plain.{when}
use Rattle.rb_world.proofs.ListFacts.{second_holds}
use Rattle.rb_scope.specs.Limits.{HasDistinctNames}
use Rattle.rb_scope.specs.Rules.{where_broken}
use Rattle.rb_scope.proofs.DistinctNames.{same_text}
use Rattle.rb_scope.proofs.ProgramNames.{place}
use Rattle.rb_scope.proofs.EachSite.{first-empty, second-empty}
use Rattle.rb_nest.specs.Nest.{IsNumber}
use Rattle.rb_nest.specs.Rules.{channel_faults, conversation_faults, joins_in, members_faults, nesting_faults, uses_faults}
use Rattle.rb_nest.proofs.Accepted.{is_kept}

module _ (tree : Tree) (c p : ℕ) (x : List ℕ) (same : (y : List ℕ) → same_name y x ≡ true → conversation_number tree y ≡ c) where
  -- one `converse` of a member tells how many alternates there are
  joined_at : (one : Use) (deed : Deed) → one.deed ≡ deed → joins_in p x one ≡ true
      → IsNumber (joined_with one.deed (nat_eq (conversation_number tree one.name.text) c))
  joined_at one (Joins alternates) e joins =
      let named = second_holds (nat_eq one.spot.process p) (same_name one.name.text x)
      (subst (λ deed. joins_in p x (record one { deed = deed }) ≡ true) e joins) in
      let here = eq-eqb (conversation_number tree one.name.text) c (same one.name.text named) in
      (alternates, ap (λ deed. joined_with deed (nat_eq (conversation_number tree one.name.text) c)) e ∙ ap (λ b. when b (Some alternates)) here)
  joined_at one Sends e joins = absurd (let k = subst (λ deed. joins_in p x (record one { deed = deed }) ≡ true) e joins in cc)
  joined_at one Receives e joins = absurd (let k = subst (λ deed. joins_in p x (record one { deed = deed }) ≡ true) e joins in cc)

  -- the first of several answers
  first_of : (o later : Option ℕ) → IsNumber later → IsNumber (or_else o later)
  first_of None later h = h
  first_of (Some n) later h = (n, refl)

  found_first : (o later : Option ℕ) → IsNumber o → IsNumber (or_else o later)
  found_first None later h = absurd (let e = h.1 in cc)
  found_first (Some n) later h = (n, refl)

  joined_among : (uses : List Use) → list_any (joins_in p x) uses ≡ true → IsNumber (first_joined tree c uses)
  joined_among [] any = absurd (cc)
  joined_among (one ∷ others) any = by (λ later. joined_among others later) (joins_in p x one) refl any
    where
      by : (list_any (joins_in p x) others ≡ true → IsNumber (first_joined tree c others)) → (joins : Bool) → joins_in p x one ≡ joins
          → list_any (joins_in p x) (one ∷ others) ≡ true → IsNumber (first_joined tree c (one ∷ others))
      by rest true e any =
          found_first (joined_with one.deed (nat_eq (conversation_number tree one.name.text) c))
          (first_joined tree c others) (joined_at one one.deed refl e)
      by rest false e any =
          first_of (joined_with one.deed (nat_eq (conversation_number tree one.name.text) c)) (first_joined tree c others)
          (rest (sym (ap (λ b. b || list_any (joins_in p x) others) e) ∙ any))

-- the first member joins
member_joins : (tree : Tree) (x : List ℕ) (members : List Identifier) → nat_lt (length members) 2 ≡ false → members_faults tree x [] members ≡ []
    → (p : ℕ) × (list_any (joins_in p x) (uses_of tree) ≡ true)
member_joins tree x [] many e = absurd (cc)
member_joins tree x (name ∷ names) many e =
    let p = process_number tree name.text in (
      p,
      is_kept (list_any (joins_in p x) (uses_of tree)) N6 name.place
          (first-empty (where_broken (not (list_any (joins_in p x) (uses_of tree))) N6 name.place) (members_faults tree x (name ∷ []) names) e),
    )

-- one of several conversations has no fault
one_kept : (tree : Tree) (conversations : List ConversationDeclaration) (c : ℕ) (one : ConversationDeclaration) → slice_get conversations c ≡ Some one
    → flat_map (conversation_faults tree) conversations ≡ [] → conversation_faults tree one ≡ []
one_kept tree [] c one there e = absurd (cc)
one_kept tree (first ∷ others) zero one there e =
    let is : first ≡ one = cc in
    ap (conversation_faults tree) (sym is) ∙ first-empty (conversation_faults tree first) (flat_map (conversation_faults tree) others) e
one_kept tree (first ∷ others) (suc c) one there e =
    one_kept tree others c one there (second-empty (conversation_faults tree first) (flat_map (conversation_faults tree) others) e)

-- a rule that is not broken
not_broken : (broken : Bool) (one : Identifier) → where_broken broken N11 one.place ≡ [] → broken ≡ false
not_broken true one e = absurd (cc)
not_broken false one e = refl

-- so it has alternates
pub conversation_joined : (tree : Tree) (c : ℕ) (one : ConversationDeclaration) → nesting_faults tree ≡ [] → HasDistinctNames tree
    → slice_get tree.conversations c ≡ Some one → IsNumber (alternates_of tree c)
conversation_joined tree c one none distinct there =
    let after = second-empty (flat_map (channel_faults tree) tree.channels)
    (flat_map (conversation_faults tree) tree.conversations ++ uses_faults tree [] (uses_of tree)) none in
    let kept = one_kept tree tree.conversations c one there
    (first-empty (flat_map (conversation_faults tree) tree.conversations) (uses_faults tree [] (uses_of tree)) after) in
    let few = where_broken (nat_lt (length one.members) 2) N11 one.name.place in
    let many = not_broken (nat_lt (length one.members) 2) one.name (first-empty few (members_faults tree one.name.text [] one.members) kept) in
    let joins = member_joins tree one.name.text one.members many (second-empty few (members_faults tree one.name.text [] one.members) kept) in
    joined_among tree c joins.0 one.name.text (λ y named. ap number_or_zero (
    place
    (λ (conversation : ConversationDeclaration). conversation.name) tree.conversations c one y distinct.conversations there
    (turned y one.name.text named)))
    (uses_of tree) joins.1
  where
    turned : (y z : List ℕ) → same_name y z ≡ true → same_name z y ≡ true
    turned y z e =
        let is = same_text y z e in
        subst (λ w. same_name w y ≡ true) is (subst (λ w. same_name y w ≡ true) (sym is) e)
