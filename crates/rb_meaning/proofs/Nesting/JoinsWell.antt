-- What the rules of nesting say where a conversation is joined: no call is open there, its process is a member, and the
-- recovery block right around it is a `converse` for the parent, or there is none where the conversation has no parent.
-- Conversations nest as Randell (1975) has it.
use Rattle.std.proofs.Common.{◌≡◌, ℕ, Bool, true, false, not, ◌&&◌, List, [], ◌∷◌, map, slice_get, Option, Some, None, refl, sym, ap, subst, true≢false}
use Rattle.std.proofs.lemmas.Bool.{eqb-true}
use Rattle.std.specs.List.{list_all}
use Rattle.rb_syntax.specs.Tree.{Identifier, RecoveryBlock, Recovers, Alternates, Tree}
use Rattle.rb_world.specs.Kind.{Facts}
use Rattle.rb_world.specs.Reject.{parent_of}
use Rattle.rb_world.proofs.LevelFacts.{of_number}
use Rattle.rb_world.proofs.ListFacts.{first_holds, none_some, second_holds, some_same}
use Rattle.rb_meaning.specs.State.{Item}
use Rattle.rb_meaning.specs.Groups.{count_alternates, conversation_number, conversation_of, facts_of, groups_of}
use Rattle.rb_meaning.specs.Nesting.{Joins, Use, inside, innermost, is_converse, is_member, is_same_conversation, joined, keeps_n1, keeps_n2, keeps_n4, keeps_n5, keeps_n9, alternates_of, members_in, uses_in_alternates, uses_in_block}
use Rattle.rb_meaning.specs.Laws.{blocks_left}
use Rattle.rb_meaning.proofs.Nesting.RulesLeft.{AreKept, around_all, around_left, conversation_named, in_call, keeps_rules, kept_first, spot_before}

-- the rules of a `converse` for conversation c of process p, before these items
pub record JoinsWell (tree : Tree) (p c : ℕ) (rest : List Item) : Type 0 where
  pub in_no_call : in_call rest ≡ false
  pub converses : list_all is_converse (around_left rest) ≡ true
  pub member : is_member p (members_in tree c) ≡ true
  pub same : is_same_conversation (conversation_of tree (innermost (around_left rest))) (parent_of (slice_get (groups_of tree) c)) ≡ true

not_true : (b : Bool) → not b ≡ true → b ≡ false
not_true true e = sym e
not_true false e = refl

-- the rules of one use
rules_of_use : (tree : Tree) (one : Use) → AreKept tree (one ∷ [])
    → (keeps_n1 tree one ≡ true) × (keeps_n2 tree one ≡ true) × (keeps_n4 tree one ≡ true) × (keeps_n5 tree one ≡ true)
rules_of_use tree one kept =
    let all : keeps_rules tree one ≡ true = first_holds (keeps_rules tree one) true kept in
    let last = keeps_n5 tree one && keeps_n9 tree one in
    let others = second_holds (keeps_n1 tree one) (keeps_n2 tree one && (keeps_n4 tree one && last)) all in
    let fewer = second_holds (keeps_n2 tree one) (keeps_n4 tree one && last) others in (
      first_holds (keeps_n1 tree one) (keeps_n2 tree one && (keeps_n4 tree one && last)) all,
      first_holds (keeps_n2 tree one) (keeps_n4 tree one && last) others,
      first_holds (keeps_n4 tree one) last fewer,
      first_holds (keeps_n5 tree one) (keeps_n9 tree one) (second_holds (keeps_n4 tree one) last fewer),
    )

-- the use of a `converse` before these items
abbrev use_of : ℕ → List Item → Identifier → Alternates → Use
use_of p rest name alternates = record { name = name; deed = Joins (count_alternates alternates); spot = spot_before p rest }

join_kept : (tree : Tree) (p : ℕ) (rest : List Item) (name : Identifier) (alternates : Alternates)
    → AreKept tree (joined (Some name) alternates (spot_before p rest))
    → JoinsWell tree p (conversation_number tree name.text) rest
join_kept tree p rest name alternates kept =
    let rules = rules_of_use tree (use_of p rest name alternates) kept in
    record {
      in_no_call = not_true (in_call rest) (first_holds (not (in_call rest)) (list_all is_converse (around_left rest)) rules.0);
      converses = second_holds (not (in_call rest)) (list_all is_converse (around_left rest)) rules.0;
      member = rules.1;
      same = rules.2;
    }

-- a recovery block whose uses keep the rules, and which has a conversation
pub joins_well : (tree : Tree) (p c : ℕ) (rest : List Item) (block : RecoveryBlock) → AreKept tree (uses_in_block (spot_before p rest) block)
    → (facts_of tree block).conversation ≡ Some c → JoinsWell tree p c rest
joins_well tree p c rest (Recovers number None place test bound alternates) kept e = absurd (none_some e)
joins_well tree p c rest (Recovers number (Some name) place test bound alternates) kept e =
    subst (λ (d : ℕ). JoinsWell tree p d rest) (some_same e)
    (join_kept tree p rest name alternates
    (kept_first tree (joined (Some name) alternates (spot_before p rest))
    (uses_in_alternates (inside (Some name) (spot_before p rest)) alternates) kept))

-- and it has as many alternates as each block for that conversation
pub joins_with_as_many : (tree : Tree) (p c : ℕ) (rest : List Item) (block : RecoveryBlock) → AreKept tree (uses_in_block (spot_before p rest) block)
    → (facts_of tree block).conversation ≡ Some c → alternates_of tree c ≡ Some (facts_of tree block).alternates
joins_with_as_many tree p c rest (Recovers number None place test bound alternates) kept e = absurd (none_some e)
joins_with_as_many tree p c rest (Recovers number (Some name) place test bound alternates) kept e =
    let rules = rules_of_use tree (use_of p rest name alternates)
    (kept_first tree (joined (Some name) alternates (spot_before p rest))
    (uses_in_alternates (inside (Some name) (spot_before p rest)) alternates) kept) in
    subst (λ (d : ℕ). alternates_of tree d ≡ Some (count_alternates alternates)) (some_same e)
    (of_number (alternates_of tree (conversation_number tree name.text)) (count_alternates alternates) rules.3)

-- the innermost of these facts are those of a block of this conversation; none are there where there is no such conversation
abbrev pub BeginWith : Option ℕ → List Facts → Type 0
BeginWith None facts = facts ≡ []
BeginWith (Some d) [] = ⊥
BeginWith (Some d) (first ∷ facts) = first.conversation ≡ Some d

begin_with : (tree : Tree) (parent : Option ℕ) (blocks : List RecoveryBlock) → list_all is_converse (map conversation_named blocks) ≡ true
    → is_same_conversation (conversation_of tree (innermost (map conversation_named blocks))) parent ≡ true
    → BeginWith parent (map (facts_of tree) blocks)
begin_with tree None [] all same = refl
begin_with tree (Some d) [] all same = absurd (true≢false (sym same))
begin_with tree parent (Recovers number None place test bound alternates ∷ blocks) all same = absurd (true≢false (sym all))
begin_with tree None (Recovers number (Some name) place test bound alternates ∷ blocks) all same = absurd (true≢false (sym same))
begin_with tree (Some d) (Recovers number (Some name) place test bound alternates ∷ blocks) all same =
    ap Some (sym (eqb-true d (conversation_number tree name.text) same))

-- so the blocks that are left around a `converse` begin with one of its parent
pub around_join : (tree : Tree) (p c : ℕ) (rest : List Item) → JoinsWell tree p c rest
    → BeginWith (parent_of (slice_get (groups_of tree) c)) (map (facts_of tree) (blocks_left rest))
around_join tree p c rest well =
    let around = around_all rest well.in_no_call in
    begin_with tree (parent_of (slice_get (groups_of tree) c)) (blocks_left rest)
    (subst (λ (names : List (Option Identifier)). list_all is_converse names ≡ true) around well.converses)
    (subst (λ (names : List (Option Identifier)). is_same_conversation (conversation_of tree (innermost names))
    (parent_of (slice_get (groups_of tree) c))
    ≡ true) around well.same)
