-- The conversations of an accepted tree, with their numbers of alternates, are a nest: so code that stands for the tree is sound with them.
use Rattle.std.proofs.Common.{◌≡◌, ℕ, zero, suc, ◌+◌, ◌^◌, ◌<◌, nat_eq, Bool, true, false, ◌||◌, List, [], ◌∷◌, length, map, slice_get, unwrap_or, Option, Some, refl, sym, ap, subst, ◌∙◌, arith, true≢false}
use Rattle.std.specs.Global.{Vec}
use Rattle.std.specs.List.{All, list_any}
use Rattle.std.specs.Ptr.{null_ptr}
use Rattle.std.proofs.lemmas.Bool.{eqb-true}
use Rattle.std.proofs.lemmas.List.{length-map}
use Rattle.std.proofs.lemmas.List.Elements.{All-head, All-tail}
use Rattle.std.proofs.lemmas.Map.Steps.{length-le_from_distinct_below}
use Rattle.rb_base.specs.Limits.{most_processes}
use Rattle.rb_base.specs.declared.edition.Edition.{Edition}
use Rattle.rb_base.specs.declared.edition.Edition.TheVariants.{First, Second}
use Rattle.rb_base.specs.declared.names.Group.{Group}
use Rattle.rb_base.specs.declared.names.Nested.{Nested}
use Rattle.rb_syntax.specs.Tree.{Tree}
use Rattle.rb_world.specs.Kind.{Membership}
use Rattle.rb_world.proofs.ListFacts.{slice_get-there, some_same}
use Rattle.rb_meaning.specs.Groups.{groups_of, membership_of}
use Rattle.rb_meaning.specs.Nesting.{alternates_of}
use Rattle.rb_scope.specs.InFrames.{Resolved}
use Rattle.rb_scope.specs.declared.slot.Slot.{Slot}
use Rattle.rb_scope.proofs.DistinctNames.{have_distinct_names}
use Rattle.rb_nest.specs.Groups.{alternates, membership, memberships}
use Rattle.rb_nest.specs.Nest.{IsNest, IsNumber}
use Rattle.rb_nesting.proofs.Joined.{conversation_joined}
use Rattle.rb_judge.specs.Verdict.{IsAccepted}
use Rattle.rb_judge.proofs.Alternates.{accepted_have_alternates}
use Rattle.rb_judge.proofs.BlocksInOrder.{parsed_are_numbered}
use Rattle.rb_judge.proofs.Spelling.{accepted_are_spelled}
use Rattle.rb_code.specs.Instructions.Plain.{Code}
use Rattle.rb_code.specs.Agreement.StandsFor.{StandsFor}
use Rattle.rb_code.specs.SoundCode.WellFormed.{IsGroup, IsSound, IsWellFormed}
use Rattle.rb_prepare.proofs.AcceptedSources.{accepted_code_is_sound}
use Rattle.rb_prepare.proofs.Forming.FormedCode.{code_is_well_formed}
use Rattle.rb_prepare.proofs.Operands.RoomFound.{accepted_find_room}
use Rattle.rb_verdict.specs.Programs.{counts_from}

-- ---- different members are no more than processes

below_here : (n m q : ℕ) (same later : Bool) → nat_eq q m ≡ same → m < n → (later ≡ true → q < n) → (same || later) ≡ true → q < n
below_here n m q true later e below others any = subst (λ (x : ℕ). x < n) (sym (eqb-true q m e)) below
below_here n m q false later e below others any = others any

all_below : (n : ℕ) (members : List ℕ) → All (λ m. m < n) members → (q : ℕ) → list_any (nat_eq q) members ≡ true → q < n
all_below n [] all q e = absurd (true≢false (sym e))
all_below n (m ∷ members) all q e =
    below_here n m q (nat_eq q m) (list_any (nat_eq q) members) refl (All-head (λ x. x < n) m members all)
    (all_below n members (All-tail (λ x. x < n) m members all) q) e

few_processes : (edition : Edition) → most_processes edition < 2 ^ 63
few_processes First = omega arith
few_processes Second = omega arith

-- ---- conversations in memory

vec_of : {X : Type 0} → (items : List X) → length items < 2 ^ 63 → Vec X
vec_of items few = record {
  ptr = null_ptr;
  len = length items;
  cap = length items;
  alloc = record { memory = record { seal = tt } };
  items = items;
  ok = (refl, omega arith);
  small = few;
}

-- a conversation with few members
abbrev HasFew : Membership → Type 0
HasFew group = length group.members < 2 ^ 63

one_held : (group : Membership) → ℕ → HasFew group → Group
one_held group n few = record { members = vec_of group.members few; parent = group.parent; alternates = n }

module _ (tree : Tree) where
  held : (d : ℕ) (groups : List Membership) → All HasFew groups → List Group
  held d [] few = []
  held d (group ∷ groups) few =
      one_held group (unwrap_or (alternates_of tree d) 0) (All-head HasFew group groups few) ∷ held (d + 1) groups (All-tail HasFew group groups few)

  held_members : (d : ℕ) (groups : List Membership) (few : All HasFew groups) → map membership (held d groups few) ≡ groups
  unfolding held one_held vec_of
  held_members d [] few = refl
  held_members d (group ∷ groups) few = ap (λ (rest : List Membership). group ∷ rest) (held_members (d + 1) groups (All-tail HasFew group groups few))

  held_counts : (d : ℕ) (groups : List Membership) (few : All HasFew groups) → map (λ group. group.alternates) (held d groups few) ≡ counts_from tree d groups
  unfolding held one_held
  held_counts d [] few = refl
  held_counts d (group ∷ groups) few =
      ap (λ (rest : List ℕ). unwrap_or (alternates_of tree d) 0 ∷ rest) (held_counts (d + 1) groups (All-tail HasFew group groups few))

  held_many : (d : ℕ) (groups : List Membership) (few : All HasFew groups) → length (held d groups few) ≡ length groups
  held_many d groups few = sym (length-map (held d groups few) membership) ∙ ap length (held_members d groups few)

  -- numbers of alternates, where each conversation has one
  count_is : (o : Option ℕ) (n : ℕ) → IsNumber o → unwrap_or o 0 ≡ n → o ≡ Some n
  count_is o n (m, is) e =
      let same : m ≡ n = sym (ap (λ (x : Option ℕ). unwrap_or x 0) is) ∙ e in is ∙ ap Some same

  counts_are : (d : ℕ) (groups : List Membership) → ((i : ℕ) → i < length groups → IsNumber (alternates_of tree (d + i)))
      → (i n : ℕ) → slice_get (counts_from tree d groups) i ≡ Some n → alternates_of tree (d + i) ≡ Some n
  counts_are d [] each i n at = absurd (cc)
  counts_are d (group ∷ groups) each zero n at =
      let here : IsNumber (alternates_of tree d) = subst (λ (x : ℕ). IsNumber (alternates_of tree x)) (omega arith) (each zero (omega arith)) in
      let is = count_is (alternates_of tree d) n here (some_same at) in
      subst (λ (x : ℕ). alternates_of tree x ≡ Some n) (omega arith) is
  counts_are d (group ∷ groups) each (suc i) n at =
      let others = counts_are (d + 1) groups
      (λ j below. subst (λ (x : ℕ). IsNumber (alternates_of tree x)) (omega arith) (each (suc j) (omega (arith, below)))) i n at in
      subst (λ (x : ℕ). alternates_of tree x ≡ Some n) (omega arith) others

-- ---- an accepted source

module _ (source : List ℕ) (tree : Tree) (slots : List Slot) (c : Code) (accepted : IsAccepted source tree) (resolved : Resolved tree slots)
    (stands : StandsFor tree slots c) where
  well : IsWellFormed c (groups_of tree)
  well =
      code_is_well_formed tree slots c (record {
        resolved = resolved;
        scoped = accepted.scoped;
        nested = accepted.nested;
        spelled = accepted_are_spelled source tree accepted;
        numbered = parsed_are_numbered source tree accepted.derived;
        alternates = accepted_have_alternates source tree accepted;
        few = accepted_find_room source tree accepted;
        stands = stands;
      })

  few_members : (group : Membership) → IsGroup c (groups_of tree) group → HasFew group
  few_members group is =
      let few = length-le_from_distinct_below group.members (length c.processes) is.differ (all_below (length c.processes) group.members is.processes) in
      omega (arith, few, well.few_processes, few_processes c.edition)

  all_few : All HasFew (groups_of tree)
  all_few k group below = few_members _ (well.conversations k group below)

  groups_held : List Group
  groups_held = held tree 0 (groups_of tree) all_few

  many_held : length groups_held ≡ length (groups_of tree)
  unfolding groups_held
  many_held = held_many tree 0 (groups_of tree) all_few

  nested_held : Nested
  unfolding vec_of
  nested_held =
      let few = well.few_conversations in let many = many_held in
      record { conversations = vec_of groups_held (omega (arith, many, few)); few = omega (arith, many, few) }

  joined : (i : ℕ) → i < length (groups_of tree) → IsNumber (alternates_of tree (0 + i))
  joined i below =
      let size : length (groups_of tree) ≡ length tree.conversations = length-map tree.conversations (membership_of tree) in
      let there = slice_get-there tree.conversations i (omega (arith, below, size)) in
      subst (λ (x : ℕ). IsNumber (alternates_of tree x)) (omega arith)
      (conversation_joined tree i there.0 accepted.nested (have_distinct_names tree accepted.scoped) there.1)

  groups_same : memberships nested_held ≡ groups_of tree
  unfolding nested_held groups_held vec_of
  groups_same = held_members tree 0 (groups_of tree) all_few

  counts_same : alternates nested_held ≡ counts_from tree 0 (groups_of tree)
  unfolding nested_held groups_held vec_of
  counts_same = held_counts tree 0 (groups_of tree) all_few

  is_nest : IsNest tree nested_held
  is_nest = record {
    no_fault = accepted.nested;
    groups = groups_same;
    counts = λ d n at.
        subst (λ (x : ℕ). alternates_of tree x ≡ Some n) (omega arith)
        (counts_are tree 0 (groups_of tree) joined d n (subst (λ (counts : List ℕ). slice_get counts d ≡ Some n) counts_same at));
  }

  -- the code is sound with the tree's conversations and their numbers of alternates
  pub sound_with_counts : IsSound c (groups_of tree) (counts_from tree 0 (groups_of tree))
  sound_with_counts =
      subst (IsSound c (groups_of tree)) counts_same
      (accepted_code_is_sound source tree slots c accepted resolved stands nested_held is_nest)
