-- The conversations of a tree without a fault of scopes and nesting are formed as sound code asks.
use Rattle.std.proofs.Common.{◌≡◌, ℕ, zero, suc, ◌+◌, ◌<◌, ◌≤◌, nat_eq, nat_lt, Bool, true, false, cond, not, ◌||◌, List, [], ◌∷◌, length, map, option_map, slice_get, Option, Some, None, refl, ap, sym, ◌∙◌, subst, true≢false, arith}
use Rattle.std.proofs.lemmas.Bool.{and_parts, eqb-true, ltb-false, ltb-true, or_parts}
use Rattle.std.proofs.lemmas.List.{length-map}
use Rattle.std.proofs.lemmas.List.Elements.{All-from_recursion}
use Rattle.std.proofs.lemmas.Option.{slice_get-map, slice_get_within}
use Rattle.std.specs.List.{All, AllByRecursion, IsDistinct, flat_map, list_all, list_any}
use Rattle.rb_base.specs.declared.limits.TheConstants.{MOST_NESTED}
use Rattle.rb_base.specs.declared.fault.FaultName.{FaultName}
use Rattle.rb_base.specs.declared.fault.FaultName.TheVariants.{N6, N11}
use Rattle.rb_base.specs.declared.place.Place.{Place}
use Rattle.rb_base.specs.declared.fault.SourceFault.{SourceFault}
use Rattle.rb_syntax.specs.Tree.{ConversationDeclaration, Identifier, ProcessDeclaration, Tree}
use Rattle.rb_world.specs.Kind.{Membership}
use Rattle.rb_world.specs.Reject.{parent_of}
use Rattle.rb_world.specs.Turn.{members_of}
use Rattle.rb_world.proofs.ListFacts.{none_some, some_same}
use Rattle.rb_meaning.specs.Environment.{same_name}
use Rattle.rb_meaning.specs.Groups.{conversation_number, conversation_of, groups_of, membership_of, process_number}
use Rattle.rb_meaning.specs.Nesting.{Deed, Joins, Sends, Receives, Spot, Use, if_joins, innermost, is_member, is_same_conversation, members_in, uses_of}
use Rattle.rb_scope.specs.Limits.{HasDistinctNames}
use Rattle.rb_scope.specs.Rules.{where_broken}
use Rattle.rb_scope.proofs.DistinctNames.{same_itself, same_text}
use Rattle.rb_nest.specs.Rules.{are_among, conversation_faults, conversations_around, joins_in, members_around, members_faults}
use Rattle.rb_scope.proofs.EachSite.{unbroken, first-empty, second-empty}
use Rattle.rb_nest.proofs.Accepted.{is_kept}
use Rattle.rb_code.specs.Instructions.Plain.{Code}
use Rattle.rb_code.specs.SoundCode.Sound.{IsMember}
use Rattle.rb_code.specs.SoundCode.WellFormed.{IsChain, IsGroup}
use Rattle.rb_code.proofs.Tables.StatementPlaces.{is_among}
use Rattle.rb_prepare.proofs.Forming.FoundNames.{NamesProcess}
use Rattle.rb_prepare.proofs.Forming.NestingKept.{IsOrderly, number_named, number_of}
use Rattle.rb_prepare.proofs.Forming.PlacedUses.{ChainedBy, IsChained, chain_more, same_conversation}

-- where all of a list have no fault, each has none
pub none_at : {A : Type 0} (faults : A → List SourceFault) (all : List A) (i : ℕ) (x : A) → flat_map faults all ≡ []
    → slice_get all i ≡ Some x → faults x ≡ []
none_at faults [] i x e at = absurd (none_some at)
none_at faults (y ∷ all) zero x e at = subst (λ z. faults z ≡ []) (some_same at) (first-empty (faults y) (flat_map faults all) e)
none_at faults (y ∷ all) (suc i) x e at = none_at faults all i x (second-empty (faults y) (flat_map faults all) e) at

-- one of several that passes a test
pub any_found : (P : Use → Type 0) (test : Use → Bool) (uses : List Use) → AllByRecursion P uses → list_any test uses ≡ true
    → (one : Use) × P one × (test one ≡ true)
any_found P test [] all e = absurd (true≢false (sym e))
any_found P test (one ∷ uses) all e = by (test one) refl (any_found P test uses all.1) e
  where
    by : (b : Bool) → test one ≡ b → (list_any test uses ≡ true → (one : Use) × P one × (test one ≡ true)) → (b || list_any test uses) ≡ true
        → (one : Use) × P one × (test one ≡ true)
    by true f later g = (one, all.0, f)
    by false f later g = later g

-- what joins a conversation in a process
pub record JoinsIn (p : ℕ) (x : List ℕ) (one : Use) : Type 0 where
  pub alternates : ℕ
  pub deed : one.deed ≡ Joins alternates
  pub process : one.spot.process ≡ p
  pub text : one.name.text ≡ x

joins_by : (p : ℕ) (x : List ℕ) (name : Identifier) (deed : Deed) (spot : Spot)
    → joins_in p x (record { name = name; deed = deed; spot = spot }) ≡ true
    → JoinsIn p x (record { name = name; deed = deed; spot = spot })
joins_by p x name (Joins n) spot e =
    let parts = and_parts (nat_eq spot.process p) (same_name name.text x) e in
    record { alternates = n; deed = refl; process = eqb-true spot.process p parts.0; text = same_text name.text x parts.1 }
joins_by p x name Sends spot e = absurd (true≢false (sym e))
joins_by p x name Receives spot e = absurd (true≢false (sym e))

pub joins_known : (p : ℕ) (x : List ℕ) (one : Use) → joins_in p x one ≡ true → JoinsIn p x one
joins_known p x one e = joins_by p x one.name one.deed one.spot e

each_among : (members around : List ℕ) → list_all (λ m. is_member m around) members ≡ true → AllByRecursion (λ m. IsMember m around) members
each_among [] around e = tt
each_among (m ∷ members) around e =
    let parts = and_parts (is_member m around) (list_all (λ k. is_member k around) members) e in
    (is_among m around parts.0, each_among members around parts.1)

-- some member is among none
none_among : (n : ℕ) (members : List ℕ) → n < length members → list_all (λ m. is_member m []) members ≡ true → ⊥
none_among n [] some e = omega arith
none_among n (m ∷ members) some e = true≢false (sym e)

module _ (tree : Tree) where
  abbrev pub number : Identifier → ℕ
  number name = process_number tree name.text

  abbrev pub AreNamed : List Identifier → Type 0
  AreNamed names = AllByRecursion (λ (name : Identifier). NamesProcess tree name.text) names

  abbrev pub AreJoined : List ℕ → List Identifier → Type 0
  AreJoined x names = AllByRecursion (λ (name : Identifier). list_any (joins_in (number name) x) (uses_of tree) ≡ true) names

  broken_not : (b : Bool) (name : FaultName) (place : Place) (faults : List SourceFault)
      → cond b (where_broken true name place) faults ≡ [] → (b ≡ false) × (faults ≡ [])
  broken_not true name place faults e = absurd (cc)
  broken_not false name place faults e = (refl, e)

  none_same : (name : Identifier) (earlier : List Identifier) → list_any (λ (other : Identifier). same_name other.text name.text) earlier ≡ false
      → AllByRecursion (λ (other : Identifier). same_name other.text name.text ≡ false) earlier
  none_same name [] e = tt
  none_same name (other ∷ earlier) e =
      let parts = or_parts (same_name other.text name.text) (list_any (λ (each : Identifier). same_name each.text name.text) earlier) e in
      (parts.0, none_same name earlier parts.1)

  -- of the names behind one, none is the same
  abbrev pub Differ : List Identifier → Type 0
  Differ [] = Unit {0}
  Differ (name ∷ names) = AllByRecursion (λ (later : Identifier). same_name name.text later.text ≡ false) names × Differ names

  pub record NamesKept (x : List ℕ) (earlier names : List Identifier) : Type 0 where
    pub apart : AllByRecursion (λ (other : Identifier). AllByRecursion (λ (name : Identifier). same_name other.text name.text ≡ false) names) earlier
    pub differ : Differ names
    pub joined : AreJoined x names

  put_first : (name : Identifier) (names earlier : List Identifier)
      → AllByRecursion (λ (other : Identifier). same_name other.text name.text ≡ false) earlier
      → AllByRecursion (λ (other : Identifier). AllByRecursion (λ (each : Identifier). same_name other.text each.text ≡ false) names) earlier
      → AllByRecursion (λ (other : Identifier). AllByRecursion (λ (each : Identifier). same_name other.text each.text ≡ false) (name ∷ names)) earlier
  put_first name names [] p q = tt
  put_first name names (other ∷ earlier) p q = ((p.0, q.0), put_first name names earlier p.1 q.1)

  all_nothing : (earlier : List Identifier)
      → AllByRecursion (λ (other : Identifier). AllByRecursion (λ (each : Identifier). same_name other.text each.text ≡ false) []) earlier
  all_nothing [] = tt
  all_nothing (other ∷ earlier) = (tt, all_nothing earlier)

  pub names_kept : (x : List ℕ) (earlier names : List Identifier) → members_faults tree x earlier names ≡ [] → NamesKept x earlier names
  names_kept x earlier [] e = record { apart = all_nothing earlier; differ = tt; joined = tt }
  names_kept x earlier (name ∷ names) e =
      let again = list_any (λ (other : Identifier). same_name other.text name.text) earlier in
      let joins = list_any (joins_in (number name) x) (uses_of tree) in
      let first = cond again (where_broken true N11 name.place) (where_broken (not joins) N6 name.place) in
      let here = broken_not again N11 name.place (where_broken (not joins) N6 name.place)
      (first-empty first (members_faults tree x (name ∷ earlier) names) e) in
      let rest = names_kept x (name ∷ earlier) names (second-empty first (members_faults tree x (name ∷ earlier) names) e) in
      record {
        apart = put_first name names earlier (none_same name earlier here.0) rest.apart.1;
        differ = (rest.apart.0, rest.differ);
        joined = (is_kept joins N6 name.place here.1, rest.joined);
      }

  module _ (distinct : HasDistinctNames tree) where
    -- a process by its name
    pub process_named : (name : Identifier) (named : NamesProcess tree name.text) → number name ≡ named.0
    process_named name (i, one, at, is) = number_of (λ (p : ProcessDeclaration). p.name) tree.processes i one name.text distinct.processes at is

    numbers_differ : (one other : Identifier) → NamesProcess tree one.text → NamesProcess tree other.text → same_name one.text other.text ≡ false
        → nat_eq (number one) (number other) ≡ false
    numbers_differ one other p q apart = by (nat_eq (number one) (number other)) refl
      where
        by : (b : Bool) → nat_eq (number one) (number other) ≡ b → b ≡ false
        by false e = refl
        by true e =
            let same : p.0 ≡ q.0 = sym (process_named one p) ∙ eqb-true (number one) (number other) e ∙ process_named other q in
            let alike : p.1 ≡ q.1 = some_same (sym p.2 ∙ ap (slice_get tree.processes) same ∙ q.2) in
            let text : one.text ≡ other.text = sym p.3 ∙ ap (λ (d : ProcessDeclaration). d.name.text) alike ∙ q.3 in
            absurd (true≢false (sym (subst (λ x. same_name one.text x ≡ true) text (same_itself one.text)) ∙ apart))

    row_differs : (one : Identifier) (names : List Identifier) → NamesProcess tree one.text → AreNamed names
        → AllByRecursion (λ (later : Identifier). same_name one.text later.text ≡ false) names
        → AllByRecursion (λ m. nat_eq (number one) m ≡ false) (map (λ (name : Identifier). process_number tree name.text) names)
    row_differs one [] p named h = tt
    row_differs one (other ∷ names) p named h = (numbers_differ one other p named.0 h.0, row_differs one names p named.1 h.1)

    members_differ : (names : List Identifier) → AreNamed names → Differ names
        → IsDistinct nat_eq (map (λ (name : Identifier). process_number tree name.text) names)
    unfolding IsDistinct
    members_differ [] named h = tt
    members_differ (name ∷ names) named h = (row_differs name names named.0 named.1 h.0, members_differ names named.1 h.1)

    members_there : (n : ℕ) (names : List Identifier) → n ≡ length tree.processes → AreNamed names
        → AllByRecursion (λ m. m < n) (map (λ (name : Identifier). process_number tree name.text) names)
    members_there n [] e named = tt
    members_there n (name ∷ names) e named =
        let below = slice_get_within tree.processes named.0.0 named.0.1 named.0.2 in
        let is = process_named name named.0 in
        (omega arith, members_there n names e named.1)

    -- what is known of each use
    abbrev pub IsKnown : Use → Type 0
    IsKnown one = IsOrderly tree one × IsChained tree one

    -- some use joins a conversation that has members
    some_joins : (x : List ℕ) (names : List Identifier) → 2 ≤ length names → AllByRecursion IsKnown (uses_of tree) → AreJoined x names
        → (one : Use) × IsKnown one × (p : ℕ) × JoinsIn p x one
    some_joins x [] some known joined = absurd (omega arith)
    some_joins x (name ∷ names) some known joined =
        let found = any_found IsKnown (joins_in (number name) x) (uses_of tree) known joined.0 in
        (found.0, found.1, number name, joins_known (number name) x found.0 found.2)

    if_joins_so : (deed : Deed) (n : ℕ) (rule : Bool) → deed ≡ Joins n → if_joins deed rule ≡ true → rule ≡ true
    if_joins_so deed n rule is h = subst (λ e. if_joins e rule ≡ true) is h

    chain_so : (deed : Deed) (n : ℕ) (name : Identifier) (around : List (Option Identifier)) → deed ≡ Joins n → ChainedBy tree deed name around
        → IsChain (groups_of tree) (conversations_around around + 1) (Some (conversation_number tree name.text))
    chain_so deed n name around is h = subst (λ e. ChainedBy tree e name around) is h

    -- the members of a conversation are among those of its parent
    among_parent : (d : ℕ) (members : List ℕ) (inner : Option Identifier) → conversation_of tree inner ≡ Some d
        → are_among members (members_around tree inner) ≡ true
        → list_all (λ m. is_member m (members_in tree d)) members ≡ true
    among_parent d members None is h = absurd (none_some is)
    among_parent d members (Some name) is h = subst (λ k. list_all (λ m. is_member m (members_in tree k)) members ≡ true) (some_same is) h

    around_by : (members : List ℕ) (parent : Option Membership) → 2 ≤ length members → list_all (λ m. is_member m (members_of parent)) members ≡ true
        → (around : Membership) × (parent ≡ Some around) × All (λ (m : ℕ). IsMember m around.members) members
    around_by members None some h = absurd (none_among 1 members (omega arith) h)
    around_by members (Some around) some h =
        (around, refl, All-from_recursion (λ (m : ℕ). IsMember m around.members) members (each_among members around.members h))

    pub group_at : (i : ℕ) (conversation : ConversationDeclaration) → slice_get tree.conversations i ≡ Some conversation
        → slice_get (groups_of tree) i ≡ Some (membership_of tree conversation)
    group_at i conversation at = slice_get-map (membership_of tree) tree.conversations i ∙ ap (option_map (membership_of tree)) at

    -- a conversation is well formed, and the last of a chain that is not too long
    pub group_formed : (c : Code) (i : ℕ) (conversation : ConversationDeclaration) → length c.processes ≡ length tree.processes
        → slice_get tree.conversations i ≡ Some conversation → AreNamed conversation.members → conversation_faults tree conversation ≡ []
        → AllByRecursion IsKnown (uses_of tree)
        → IsGroup c (groups_of tree) (membership_of tree conversation) × IsChain (groups_of tree) MOST_NESTED (Some i)
    group_formed c i conversation many at named faults known = (
      record {
        two = omega (arith, two, length-map conversation.members (λ (name : Identifier). process_number tree name.text));
        differ = members_differ conversation.members named kept.differ;
        processes = All-from_recursion (λ (m : ℕ). m < length c.processes) group.members
            (members_there (length c.processes) conversation.members many named);
        parent = λ d is.
            around_by group.members (slice_get (groups_of tree) d)
            (omega (arith, two, length-map conversation.members (λ (name : Identifier). process_number tree name.text)))
            (among_parent d group.members (innermost one.spot.around) (fourth ∙ is) third);
      },
      subst (λ k. IsChain (groups_of tree) MOST_NESTED (Some k)) number_is
          (chain_more (groups_of tree) (conversations_around one.spot.around + 1) MOST_NESTED (Some (conversation_number tree one.name.text)) few
          (chain_so one.deed joins.alternates one.name one.spot.around joins.deed found.1.1)),
    )
      where
        group : Membership
        group = membership_of tree conversation

        broken : Bool
        broken = nat_lt (length conversation.members) 2

        two : 2 ≤ length conversation.members
        two = ltb-false (length conversation.members) 2
            (unbroken broken N11 conversation.name.place
            (first-empty (where_broken broken N11 conversation.name.place)
            (members_faults tree conversation.name.text [] conversation.members) faults))

        kept : NamesKept conversation.name.text [] conversation.members
        kept = names_kept conversation.name.text [] conversation.members
            (second-empty (where_broken broken N11 conversation.name.place)
            (members_faults tree conversation.name.text [] conversation.members) faults)

        found : (one : Use) × IsKnown one × (p : ℕ) × JoinsIn p conversation.name.text one
        found = some_joins conversation.name.text conversation.members two known kept.joined

        one : Use
        one = found.0

        joins : JoinsIn found.2 conversation.name.text found.0
        joins = found.3

        number_is : conversation_number tree found.0.name.text ≡ i
        number_is = number_named tree distinct i conversation at found.0.name.text joins.text

        here : slice_get (groups_of tree) (conversation_number tree found.0.name.text) ≡ Some group
        here = ap (slice_get (groups_of tree)) number_is ∙ group_at i conversation at

        fourth : conversation_of tree (innermost found.0.spot.around) ≡ group.parent
        fourth =
            same_conversation (conversation_of tree (innermost found.0.spot.around))
            (parent_of (slice_get (groups_of tree) (conversation_number tree found.0.name.text)))
            (if_joins_so found.0.deed joins.alternates
            (is_same_conversation (conversation_of tree (innermost found.0.spot.around))
            (parent_of (slice_get (groups_of tree) (conversation_number tree found.0.name.text))))
            joins.deed found.1.0.n4)
            ∙ ap parent_of here

        third : are_among group.members (members_around tree (innermost found.0.spot.around)) ≡ true
        third =
            subst (λ g. are_among (members_of g) (members_around tree (innermost found.0.spot.around)) ≡ true) here
            (if_joins_so found.0.deed joins.alternates
            (are_among (members_in tree (conversation_number tree found.0.name.text))
            (members_around tree (innermost found.0.spot.around))) joins.deed found.1.0.n3)

        few : conversations_around found.0.spot.around + 1 ≤ MOST_NESTED
        few =
            let h = ltb-true (conversations_around found.0.spot.around) 8
            (if_joins_so found.0.deed joins.alternates (nat_lt (conversations_around found.0.spot.around) 8) joins.deed found.1.0.n13) in
            omega arith
