-- What a tree without a fault of nesting keeps, use by use and conversation by conversation; and that no process joins one twice.
use Rattle.std.proofs.Common.{◌≡◌, ℕ, zero, suc, ◌+◌, ◌<◌, ◌≤◌, nat_eq, Bool, true, false, cond, not, ◌&&◌, List, [], ◌∷◌, ◌++◌, map, position, slice_get, Some, refl, ap, sym, ◌∙◌, subst, true≢false, arith}
use Rattle.std.proofs.Math.Seq.{append_snoc}
use Rattle.std.proofs.lemmas.Bool.{eqb-true, or_parts, and_parts}
use Rattle.std.proofs.lemmas.List.Sums.{sum_by-cons}
use Rattle.std.proofs.lemmas.Map.Keys.{IsDistinct-head, IsDistinct-tail}
use Rattle.std.specs.List.{AllByRecursion, flat_map, list_any}
use Rattle.rb_base.specs.declared.fault.FaultName.TheVariants.{N1, N2, N3, N4, N5, N7, N8, N9, N10, N13}
use Rattle.rb_syntax.specs.Tree.{ConversationDeclaration, Identifier, Tree}
use Rattle.rb_world.proofs.ListFacts.{none_some, some_same}
use Rattle.rb_world.proofs.Members.PlaceFacts.{position_first}
use Rattle.rb_meaning.specs.Environment.{same_name}
use Rattle.rb_meaning.specs.Groups.{conversation_number, number_or_zero}
use Rattle.rb_meaning.specs.Nesting.{Deed, Joins, Sends, Receives, Spot, Use, if_joins, keeps_n1, keeps_n10, keeps_n2, keeps_n4, keeps_n5, keeps_n8, keeps_n9, uses_of}
use Rattle.rb_scope.specs.Limits.{AreDistinct, HasDistinctNames}
use Rattle.rb_scope.proofs.DistinctNames.{same_itself}
use Rattle.rb_scope.proofs.EachSite.{all_append, first-empty, second-empty}
use Rattle.rb_nest.specs.Rules.{channel_faults, conversation_faults, joins_too, keeps_n13, keeps_n3, keeps_n7, nesting_faults, use_faults, uses_faults}
use Rattle.rb_nest.proofs.Accepted.{is_kept, kept_before, none_after}
use Rattle.rb_prepare.proofs.Forming.FoundNames.{AreNamedUses, JoinsNamed, NamesConversation}
use Rattle.rb_prepare.proofs.Joining.JoinCounts.{count_both, count_joins, if_join, is_join}
use Rattle.rb_prepare.proofs.Walking.Laid.{one_if}

-- the number of what has a name of its own
module _ {A : Type 0} (name : A → Identifier) where
  abbrev texts : List A → List (List ℕ)
  texts all = map (λ a. (name a).text) all

  apart : (x : List ℕ) (all : List A) (k : ℕ) (a : A) → AllByRecursion (λ y. same_name x y ≡ false) (texts all) → slice_get all k ≡ Some a
      → same_name x (name a).text ≡ false
  apart x [] k a h e = absurd (none_some e)
  apart x (b ∷ all) zero a h e = subst (λ c. same_name x (name c).text ≡ false) (some_same e) h.0
  apart x (b ∷ all) (suc k) a h e = apart x all k a h.1 e

  differ : (all : List A) (i k : ℕ) (a b : A) → AreDistinct (texts all) → i < k → slice_get all i ≡ Some a → slice_get all k ≡ Some b
      → same_name (name a).text (name b).text ≡ false
  differ [] i k a b distinct below e f = absurd (none_some e)
  differ (c ∷ all) i zero a b distinct below e f = absurd (omega arith)
  differ (c ∷ all) zero (suc k) a b distinct below e f =
      subst (λ d. same_name (name d).text (name b).text ≡ false) (some_same e)
      (apart (name c).text all k b (IsDistinct-head same_name (name c).text (texts all) distinct) f)
  differ (c ∷ all) (suc i) (suc k) a b distinct below e f =
      differ all i k a b (IsDistinct-tail same_name (name c).text (texts all) distinct) (omega arith) e f

  pub number_of : (all : List A) (k : ℕ) (a : A) (x : List ℕ) → AreDistinct (texts all) → slice_get all k ≡ Some a → (name a).text ≡ x
      → number_or_zero (position (λ b. same_name (name b).text x) all) ≡ k
  number_of all k a x distinct at is =
      ap number_or_zero
      (position_first (λ b. same_name (name b).text x) all k a at (ap (λ y. same_name y x) is ∙ same_itself x)
      (λ i b below there. subst (λ y. same_name (name b).text y ≡ false) is (differ all i k b a distinct below there at)))

module _ (tree : Tree) where
  -- the rules that are asked of a use here, but for the seventh
  pub record IsOrderly (one : Use) : Type 0 where
    pub n1 : keeps_n1 tree one ≡ true
    pub n3 : keeps_n3 tree one ≡ true
    pub n4 : keeps_n4 tree one ≡ true
    pub n13 : keeps_n13 one ≡ true

  record IsKept (earlier : List Use) (one : Use) : Type 0 where
    orderly : IsOrderly one
    n7 : keeps_n7 earlier one ≡ true

  use_kept : (earlier : List Use) (one : Use) → use_faults tree earlier one ≡ [] → IsKept earlier one
  use_kept earlier one e =
      let e2 = none_after (keeps_n1 tree one) N1 one.name.place _ e in
      let e3 = none_after (keeps_n2 tree one) N2 one.name.place _ e2 in
      let e4 = none_after (keeps_n3 tree one) N3 one.name.place _ e3 in
      let e5 = none_after (keeps_n4 tree one) N4 one.name.place _ e4 in
      let e7 = none_after (keeps_n5 tree one) N5 one.name.place _ e5 in
      let e8 = none_after (keeps_n7 earlier one) N7 one.name.place _ e7 in
      let e9 = none_after (keeps_n8 tree one) N8 one.name.place _ e8 in
      let e10 = none_after (keeps_n9 tree one) N9 one.name.place _ e9 in
      let e13 = none_after (keeps_n10 tree one) N10 one.name.place _ e10 in
      record {
        orderly = record {
          n1 = kept_before (keeps_n1 tree one) N1 one.name.place _ e;
          n3 = kept_before (keeps_n3 tree one) N3 one.name.place _ e3;
          n4 = kept_before (keeps_n4 tree one) N4 one.name.place _ e4;
          n13 = is_kept (keeps_n13 one) N13 one.name.place e13;
        };
        n7 = kept_before (keeps_n7 earlier one) N7 one.name.place _ e7;
      }

  uses_orderly : (earlier uses : List Use) → uses_faults tree earlier uses ≡ [] → AllByRecursion IsOrderly uses
  uses_orderly earlier [] e = tt
  uses_orderly earlier (one ∷ others) e = (
    (use_kept earlier one (first-empty (use_faults tree earlier one) (uses_faults tree (earlier ++ one ∷ []) others) e)).orderly,
    uses_orderly (earlier ++ one ∷ []) others (second-empty (use_faults tree earlier one) (uses_faults tree (earlier ++ one ∷ []) others) e),
  )

  -- a conversation by its number, and the names that stand for it
  module _ (distinct : HasDistinctNames tree) (d : ℕ) (conversation : ConversationDeclaration)
      (there : slice_get tree.conversations d ≡ Some conversation) where
    pub number_named : (x : List ℕ) → x ≡ conversation.name.text → conversation_number tree x ≡ d
    number_named x is = number_of (λ (c : ConversationDeclaration). c.name) tree.conversations d conversation x distinct.conversations there (sym is)

    pub named_by_number : (x : List ℕ) → NamesConversation tree x → conversation_number tree x ≡ d → x ≡ conversation.name.text
    named_by_number x (i, one, at, is) number =
        let same : i ≡ d =
        sym (number_of (λ (c : ConversationDeclaration). c.name) tree.conversations i one x distinct.conversations at is) ∙ number in
        sym is ∙ ap (λ (c : ConversationDeclaration). c.name.text) (some_same (sym at ∙ ap (slice_get tree.conversations) same ∙ there))

    module _ (q : ℕ) where
      -- what a use that joins it is
      record JoinsHere (deed : Deed) (name : Identifier) (process : ℕ) : Type 0 where
        at : process ≡ q
        text : name.text ≡ conversation.name.text

      joins_here : (deed : Deed) (name : Identifier) (process : ℕ) → JoinsNamed tree deed name.text
          → if_join deed (nat_eq process q && nat_eq (conversation_number tree name.text) d) ≡ true → JoinsHere deed name process
      joins_here (Joins n) name process named e =
          let parts = and_parts (nat_eq process q) (nat_eq (conversation_number tree name.text) d) e in record {
            at = eqb-true process q parts.0;
            text = named_by_number name.text named (eqb-true (conversation_number tree name.text) d parts.1);
          }
      joins_here Sends name process named e = absurd (true≢false (sym e))
      joins_here Receives name process named e = absurd (true≢false (sym e))

      too : (one : Use) (name : Identifier) (deed : Deed) (spot : Spot) → JoinsNamed tree one.deed one.name.text → JoinsNamed tree deed name.text
          → is_join tree d q one ≡ true → if_join deed (nat_eq spot.process q && nat_eq (conversation_number tree name.text) d) ≡ true
          → joins_too one (record { name = name; deed = deed; spot = spot }) ≡ true
      too one name (Joins n) spot named named' e f =
          let here = joins_here one.deed one.name one.spot.process named e in
          let there' = joins_here (Joins n) name spot.process named' f in
          both (nat_eq one.spot.process spot.process) (same_name one.name.text name.text)
          (subst (λ k. nat_eq one.spot.process k ≡ true) (here.at ∙ sym there'.at) (same_number one.spot.process))
          (subst (λ x. same_name one.name.text x ≡ true) (here.text ∙ sym there'.text) (same_itself one.name.text))
        where
          both : (a b : Bool) → a ≡ true → b ≡ true → (a && b) ≡ true
          both true b p q = q
          both false b p q = p

          same_number : (n : ℕ) → nat_eq n n ≡ true
          same_number n = grind arith
      too one name Sends spot named named' e f = absurd (true≢false (sym f))
      too one name Receives spot named named' e f = absurd (true≢false (sym f))

      -- before one that joins it none does
      none_before : (one : Use) (earlier : List Use) → JoinsNamed tree one.deed one.name.text → is_join tree d q one ≡ true
          → AreNamedUses tree earlier
          → list_any (joins_too one) earlier ≡ false → count_joins tree d q earlier ≡ 0
      none_before one [] named e all none = refl
      none_before one (other ∷ earlier) named e all none =
          let parts = or_parts (joins_too one other) (list_any (joins_too one) earlier) none in
          sum_by-cons (λ (each : Use). cond (is_join tree d q each) 1 0) other earlier
          ∙ by (is_join tree d q other) refl (none_before one earlier named e all.1 parts.1) parts.0
        where
          by : (b : Bool) → is_join tree d q other ≡ b → count_joins tree d q earlier ≡ 0 → joins_too one other ≡ false
              → cond b 1 0 + count_joins tree d q earlier ≡ 0
          by true f rest apart' = absurd (true≢false (sym (too one other.name other.deed other.spot named all.0 e f) ∙ apart'))
          by false f rest apart' = ap (λ n. 0 + n) rest ∙ omega arith

      if_kept : (one : Use) (earlier : List Use) → is_join tree d q one ≡ true → keeps_n7 earlier one ≡ true
          → list_any (joins_too one) earlier ≡ false
      if_kept one earlier e kept = by one.deed e kept
        where
          by : (deed : Deed) → if_join deed (nat_eq one.spot.process q && nat_eq (conversation_number tree one.name.text) d) ≡ true
              → if_joins deed (not (list_any (joins_too one) earlier)) ≡ true → list_any (joins_too one) earlier ≡ false
          by (Joins n) f g = grind arith
          by Sends f g = absurd (true≢false (sym f))
          by Receives f g = absurd (true≢false (sym f))

      once_more : (earlier : List Use) (one : Use) → AreNamedUses tree earlier → JoinsNamed tree one.deed one.name.text → keeps_n7 earlier one ≡ true
          → count_joins tree d q earlier ≤ 1 → count_joins tree d q (earlier ++ one ∷ []) ≤ 1
      once_more earlier one all named kept few = by (is_join tree d q one) refl
        where
          last : count_joins tree d q (one ∷ []) ≡ cond (is_join tree d q one) 1 0 + 0
          last = sum_by-cons (λ (each : Use). cond (is_join tree d q each) 1 0) one []

          by : (b : Bool) → is_join tree d q one ≡ b → count_joins tree d q (earlier ++ one ∷ []) ≤ 1
          by true e =
              let none = none_before one earlier named e all (if_kept one earlier e kept) in
              omega (arith, count_both tree d q earlier (one ∷ []), last, ap one_if e, none)
          by false e = omega (arith, count_both tree d q earlier (one ∷ []), last, ap one_if e, few)

      joined_once : (earlier uses : List Use) → uses_faults tree earlier uses ≡ [] → AreNamedUses tree earlier → AreNamedUses tree uses
          → count_joins tree d q earlier ≤ 1 → count_joins tree d q (earlier ++ uses) ≤ 1
      joined_once earlier [] e all named few = omega (arith, count_both tree d q earlier [], few)
      joined_once earlier (one ∷ others) e all named few =
          let kept = use_kept earlier one (first-empty (use_faults tree earlier one) (uses_faults tree (earlier ++ one ∷ []) others) e) in
          subst (λ uses. count_joins tree d q uses ≤ 1) (append_snoc earlier one others)
          (joined_once (earlier ++ one ∷ []) others
          (second-empty (use_faults tree earlier one) (uses_faults tree (earlier ++ one ∷ []) others) e)
          (all_append (λ (each : Use). JoinsNamed tree each.deed each.name.text) earlier (one ∷ []) all (named.0, tt)) named.1
          (once_more earlier one all named.0 kept.n7 few))

      pub all_joined_once : uses_faults tree [] (uses_of tree) ≡ [] → AreNamedUses tree (uses_of tree) → count_joins tree d q (uses_of tree) ≤ 1
      all_joined_once e named = joined_once [] (uses_of tree) e tt named (omega arith)

  -- faults of uses, and of conversations
  pub no_use_faults : nesting_faults tree ≡ [] → uses_faults tree [] (uses_of tree) ≡ []
  no_use_faults e =
      second-empty (flat_map (conversation_faults tree) tree.conversations) (uses_faults tree [] (uses_of tree))
      (second-empty (flat_map (channel_faults tree) tree.channels)
      (flat_map (conversation_faults tree) tree.conversations ++ uses_faults tree [] (uses_of tree)) e)

  pub no_conversation_faults : nesting_faults tree ≡ [] → flat_map (conversation_faults tree) tree.conversations ≡ []
  no_conversation_faults e =
      first-empty (flat_map (conversation_faults tree) tree.conversations) (uses_faults tree [] (uses_of tree))
      (second-empty (flat_map (channel_faults tree) tree.channels)
      (flat_map (conversation_faults tree) tree.conversations ++ uses_faults tree [] (uses_of tree)) e)

  pub all_orderly : nesting_faults tree ≡ [] → AllByRecursion IsOrderly (uses_of tree)
  all_orderly e = uses_orderly [] (uses_of tree) (no_use_faults e)
