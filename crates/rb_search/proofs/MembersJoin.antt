-- Whether each member joins its conversations once, as it is told from the list of all blocks of conversations that are entered.
use Rattle.std.proofs.Common.{◌≡◌, ◌⊎◌, inl, inr, ◌↔◌, ℕ, zero, suc, ◌+◌, ◌<◌, ◌&&◌, nat_eq, not, cond, Bool, true, false, List, [], ◌∷◌, ◌++◌, length, map, slice_get, Option, Some, None, Contains, refl, sym, ap, ◌∙◌, subst, arith, eqb-true, eq-eqb}
use Rattle.std.proofs.lemmas.List.Elements.{Contains-append_cases}
use Rattle.rb_base.specs.declared.names.Group.{Group}
use Rattle.rb_conv.specs.Conversations.{Conversation, membership, opened}
use Rattle.rb_code.specs.Instructions.Plain.{Block, Code}
use Rattle.rb_world.specs.Kind.{Membership}
use Rattle.rb_world.specs.Turn.{members_of}
use Rattle.rb_code.specs.SoundCode.Sound.{Entry, Fine, FineAt, HasTable, IsMember, MayEnter, Table, conversation_of}
use Rattle.rb_code.specs.SoundCode.WellFormed.{Joins, JoinsOnce}
use Rattle.rb_code.specs.declared.instr.Instr.{Instr}
use Rattle.rb_code.specs.declared.instr.Instr.TheVariants.{Enter}
use Rattle.rb_search.specs.Joinings.{AreJoinings, EntersTwo, conversed, entered, enters, first_of, groups_join, is_of, joining_at, joins_once, members_join, noted, once_by, only_block, process_at}
use Rattle.rb_search.specs.declared.joining.Joining.{Joining}
use Rattle.rb_flow.proofs.Tests.{both_tell, eq_tells}
use Rattle.std.proofs.lemmas.Option.{slice_get_within}
use Rattle.rb_flow.proofs.Members.{group_at, group_found, members_declared}

-- what a joining says of the code
pub record Stands (c : Code) (t : Table) (a : ℕ) (j : Joining) : Type 0 where
  pub one : Block
  pub e : Entry
  pub block : slice_get c.blocks j.block ≡ Some one
  pub conversation : one.conversation ≡ Some j.conversation
  pub instr : slice_get c.instrs a ≡ Some (Enter j.block)
  pub entry : t a ≡ Some e
  pub process : e.within.process ≡ j.process
  pub count : j.alternates ≡ length one.alternates

none_is : {X : Type 0} (x : X) → None ≡ Some x → ⊥
none_is x h = cc

module _ (c : Code) (t : Table) (a : ℕ) (j : Joining) where
  by_conversation : (e : Entry) (b : ℕ) (one : Block) → t a ≡ Some e → slice_get c.instrs a ≡ Some (Enter b) → slice_get c.blocks b ≡ Some one
      → (o : Option ℕ) → one.conversation ≡ o → conversed e.within.process b one o ≡ Some j → Stands c t a j
  by_conversation e b one at instr block None of is = absurd (none_is j is)
  by_conversation e b one at instr block (Some d) of is =
      let same : record { conversation = d; process = e.within.process; block = b; alternates = length one.alternates } ≡ j = cc
      in let number : b ≡ j.block = ap (λ (x : Joining). x.block) same
      in record {
        one = one;
        e = e;
        block = ap (slice_get c.blocks) (sym number) ∙ block;
        conversation = of ∙ ap (λ (x : Joining). Some x.conversation) same;
        instr = instr ∙ ap (λ x. Some (Enter x)) number;
        entry = at;
        process = ap (λ (x : Joining). x.process) same;
        count = sym (ap (λ (x : Joining). x.alternates) same);
      }

  by_block : (e : Entry) (b : ℕ) → t a ≡ Some e → slice_get c.instrs a ≡ Some (Enter b) → (o : Option Block) → slice_get c.blocks b ≡ o
      → entered e.within.process b o ≡ Some j → Stands c t a j
  by_block e b at instr None block is = absurd (none_is j is)
  by_block e b at instr (Some one) block is = by_conversation e b one at instr block one.conversation refl is

  by_instr : (e : Entry) → t a ≡ Some e → (o : Option Instr) → slice_get c.instrs a ≡ o → enters c (Some e.within.process) o ≡ Some j → Stands c t a j
  by_instr e at None instr is = absurd (none_is j is)
  by_instr e at (Some (Enter b)) instr is = by_block e b at instr (slice_get c.blocks b) refl is
  by_instr e at (Some other) instr is = absurd (none_is j is)

  by_entry : (o : Option Entry) → t a ≡ o → enters c (process_at o) (slice_get c.instrs a) ≡ Some j → Stands c t a j
  by_entry None at is = absurd (none_is j is)
  by_entry (Some e) at is = by_instr e at (slice_get c.instrs a) refl is

  pub stands : joining_at c t a ≡ Some j → Stands c t a j
  stands is = by_entry (t a) refl is

-- where a process joins, there is a joining
abbrev pub joining_of : ℕ → ℕ → ℕ → Block → Joining
joining_of d m b one = record { conversation = d; process = m; block = b; alternates = length one.alternates }

pub is_joining : (c : Code) (t : Table) (d m b : ℕ) (joins : Joins c t d m b) → joining_at c t joins.1 ≡ Some (joining_of d m b joins.0)
is_joining c t d m b (one, a, e, block, conversation, instr, at, process) =
    ap (λ o. enters c (process_at o) (slice_get c.instrs a)) at
    ∙ ap (λ o. enters c (Some e.within.process) o) instr
    ∙ ap (entered e.within.process b) block
    ∙ ap (conversed e.within.process b one) conversation
    ∙ ap (λ p. Some (joining_of d p b one)) process

-- one joining more is noted
module _ (c : Code) (t : Table) where
  pub none_noted : AreJoinings c t 0 []
  none_noted = record {
    each = λ a one h is. absurd (omega (arith, h));
    only = λ one h. absurd (empty one h);
  }
    where
      empty : (one : Joining) → Contains [] one → ⊥
      empty one (i, l, e) = omega (arith, l)

  pub one_noted : (n : ℕ) (all : List Joining) → AreJoinings c t n all → AreJoinings c t (n + 1) (noted all (joining_at c t n))
  one_noted n all are = by (joining_at c t n) refl
    where
      which : (a : ℕ) → a < n + 1 → (a < n) ⊎ (a ≡ n)
      which a h = grind arith

      more : (o : Option Joining) (one : Joining) → Contains all one → Contains (noted all o) one
      more None one h = h
      more (Some other) one h = contains_left all (other ∷ []) one h
        where
          contains_left : (xs ys : List Joining) (x : Joining) → Contains xs x → Contains (xs ++ ys) x
          contains_left [] ys x (i, l, e) = absurd (omega (arith, l))
          contains_left (y ∷ xs) ys x (zero, l, e) = (zero, omega arith, e)
          contains_left (y ∷ xs) ys x (suc i, l, e) =
              let r = contains_left xs ys x (i, omega (arith, l), e) in (suc r.0, (let k = r.1 in omega arith), r.2)

      last : (one : Joining) (xs : List Joining) → Contains (xs ++ one ∷ []) one
      last one [] = (zero, omega arith, refl)
      last one (x ∷ xs) = let r = last one xs in (suc r.0, (let k = r.1 in omega arith), r.2)

      single : (other one : Joining) → Contains (other ∷ []) one → other ≡ one
      single other one (zero, l, e) = e
      single other one (suc x, l, e) = absurd (omega (arith, l))

      by : (o : Option Joining) → joining_at c t n ≡ o → AreJoinings c t (n + 1) (noted all o)
      by None is = record {
        each = λ a one h at. elim (which a h) [
          | inl k ↦ are.each a one k at
          | inr k ↦ absurd (none_is one (sym is ∙ ap (joining_at c t) (sym k) ∙ at))
        ];
        only = are.only;
      }
      by (Some other) is = record {
        each = λ a one h at. elim (which a h) [
          | inl k ↦ more (Some other) one (are.each a one k at)
          | inr k ↦ (
              let same : other ≡ one = (let m = sym is ∙ ap (joining_at c t) (sym k) ∙ at in cc)
              in subst (Contains (all ++ other ∷ [])) same (last other all)
              )
        ];
        only = λ one h. elim (Contains-append_cases all (other ∷ []) one h) [
          | inl k ↦ are.only one k
          | inr k ↦ (n, is ∙ ap Some (single other one k))
        ];
      }

-- the first joining of a member, and whether all of them are of one block
of_tells : (d m : ℕ) (j : Joining) → (j.conversation ≡ d) × (j.process ≡ m) ↔ (is_of d m j ≡ true)
of_tells d m j = both_tell (nat_eq j.conversation d) (nat_eq j.process m) (eq_tells j.conversation d) (eq_tells j.process m)

not_false : (b : Bool) → b ≡ true → b ≡ false → ⊥
not_false b x y = cc

head_contains : (x : Joining) (xs : List Joining) → Contains (x ∷ xs) x
head_contains x xs = (zero, omega arith, refl)

tail_contains : (y x : Joining) (xs : List Joining) → Contains xs x → Contains (y ∷ xs) x
tail_contains y x xs (i, l, e) = (suc i, omega (arith, l), e)

contains_cases : (y x : Joining) (xs : List Joining) → Contains (y ∷ xs) x → (y ≡ x) ⊎ Contains xs x
contains_cases y x xs (zero, l, e) = inl e
contains_cases y x xs (suc i, l, e) = inr (i, omega (arith, l), e)

module _ (d m : ℕ) where
  first_is : (all : List Joining) (j : Joining) → first_of d m all ≡ Some j → Contains all j × (is_of d m j ≡ true)
  first_is [] j is = absurd (none_is j is)
  first_is (one ∷ all) j is = by (first_is all j) (is_of d m one) refl is
    where
      by : (first_of d m all ≡ Some j → Contains all j × (is_of d m j ≡ true)) → (b : Bool) → is_of d m one ≡ b → cond b (Some one) (first_of d m all) ≡ Some j → Contains (one ∷ all) j × (is_of d m j ≡ true)
      by rest true e is =
          let same : one ≡ j = cc
          in (subst (Contains (one ∷ all)) same (head_contains one all), subst (λ x. is_of d m x ≡ true) same e)
      by rest false e is = let r = rest is in (tail_contains one j all r.0, r.1)

  first_there : (all : List Joining) (j : Joining) → Contains all j → is_of d m j ≡ true → (k : Joining) × (first_of d m all ≡ Some k)
  first_there [] j (i, l, e) is = absurd (omega (arith, l))
  first_there (one ∷ all) j h is = by (λ k. first_there all j k is) (is_of d m one) refl (contains_cases one j all h)
    where
      by : (Contains all j → (k : Joining) × (first_of d m all ≡ Some k)) → (b : Bool) → is_of d m one ≡ b → (one ≡ j) ⊎ Contains all j → (k : Joining) × (cond b (Some one) (first_of d m all) ≡ Some k)
      by rest true e k = (one, refl)
      by rest false e (inl same) = absurd (not_false (is_of d m j) is (ap (is_of d m) (sym same) ∙ e))
      by rest false e (inr k) = rest k

  only_is : (b : ℕ) (all : List Joining) → only_block d m b all ≡ true → (k : Joining) → Contains all k → is_of d m k ≡ true → k.block ≡ b
  only_is b [] test k (i, l, e) is = absurd (omega (arith, l))
  only_is b (one ∷ all) test k h is =
      by (λ u there. only_is b all u k there is) (is_of d m one) (nat_eq one.block b) refl refl (contains_cases one k all h) test
    where
      by : (only_block d m b all ≡ true → Contains all k → k.block ≡ b) → (x y : Bool) → is_of d m one ≡ x → nat_eq one.block b ≡ y → (one ≡ k) ⊎ Contains all k
          → cond (x && not y) false (only_block d m b all) ≡ true → k.block ≡ b
      by rest x true e f (inl same) test = ap (λ (j : Joining). j.block) (sym same) ∙ eqb-true one.block b f
      by rest true false e f (inl same) test = let wrong : ⊥ = cc in absurd wrong
      by rest false false e f (inl same) test = absurd (not_false (is_of d m k) is (ap (is_of d m) (sym same) ∙ e))
      by rest true true e f (inr k2) test = rest test k2
      by rest false true e f (inr k2) test = rest test k2
      by rest false false e f (inr k2) test = rest test k2
      by rest true false e f (inr k2) test = let wrong : ⊥ = cc in absurd wrong

  only_fails : (b : ℕ) (all : List Joining) → only_block d m b all ≡ false
      → (k : Joining) × Contains all k × (is_of d m k ≡ true) × (k.block ≡ b → ⊥)
  only_fails b [] test = let wrong : ⊥ = cc in absurd wrong
  only_fails b (one ∷ all) test = by (only_fails b all) (is_of d m one) (nat_eq one.block b) refl refl test
    where
      more : (k : Joining) × Contains all k × (is_of d m k ≡ true) × (k.block ≡ b → ⊥)
          → (k : Joining) × Contains (one ∷ all) k × (is_of d m k ≡ true) × (k.block ≡ b → ⊥)
      more r = (r.0, tail_contains one r.0 all r.1, r.2, r.3)

      by : (only_block d m b all ≡ false → (k : Joining) × Contains all k × (is_of d m k ≡ true) × (k.block ≡ b → ⊥))
          → (x y : Bool) → is_of d m one ≡ x → nat_eq one.block b ≡ y → cond (x && not y) false (only_block d m b all) ≡ false
          → (k : Joining) × Contains (one ∷ all) k × (is_of d m k ≡ true) × (k.block ≡ b → ⊥)
      by rest true false e f test = (one, head_contains one all, e, λ same. not_false (nat_eq one.block b) (eq-eqb one.block b same) f)
      by rest true true e f test = more (rest test)
      by rest false true e f test = more (rest test)
      by rest false false e f test = more (rest test)

  only_test : (b : ℕ) (all : List Joining) → ((k : Joining) → Contains all k → is_of d m k ≡ true → k.block ≡ b) → only_block d m b all ≡ true
  only_test b [] h = refl
  only_test b (one ∷ all) h =
      by (is_of d m one) (nat_eq one.block b) refl refl (only_test b all (λ k there is. h k (tail_contains one k all there) is))
    where
      by : (x y : Bool) → is_of d m one ≡ x → nat_eq one.block b ≡ y → only_block d m b all ≡ true
          → cond (x && not y) false (only_block d m b all) ≡ true
      by true true e f r = r
      by false true e f r = r
      by false false e f r = r
      by true false e f r = absurd (not_false (nat_eq one.block b) (eq-eqb one.block b (h one (head_contains one all) e)) f)

  -- exactly one block
  pub record JoinsThere (n : ℕ) (all : List Joining) : Type 0 where
    pub one : Joining
    pub there : Contains all one
    pub is : is_of d m one ≡ true
    pub count : one.alternates ≡ n
    pub only : (k : Joining) → Contains all k → is_of d m k ≡ true → k.block ≡ one.block

  pub once_is : (n : ℕ) (all : List Joining) → joins_once d m n all ≡ true → JoinsThere n all
  once_is n all test = by (first_of d m all) refl test
    where
      by : (o : Option Joining) → first_of d m all ≡ o → once_by d m n all o ≡ true → JoinsThere n all
      by None e test = let wrong : ⊥ = cc in absurd wrong
      by (Some j) e test =
          let first = first_is all j e
          in let p = (both_tell (nat_eq j.alternates n) (only_block d m j.block all) (eq_tells j.alternates n) ((λ x. x), (λ x. x))).1 test
          in record { one = j; there = first.0; is = first.1; count = p.0; only = only_is j.block all p.1 }

  pub once_test : (n : ℕ) (all : List Joining) (one : Joining) → Contains all one → is_of d m one ≡ true
      → ((k : Joining) → Contains all k → is_of d m k ≡ true → (k.block ≡ one.block) × (k.alternates ≡ n)) → joins_once d m n all ≡ true
  once_test n all one there is h =
      let first = first_there all one there is
      in let j = first.0
      in let at = first_is all j first.1
      in let of = h j at.0 at.1
      in ap (once_by d m n all) first.1
      ∙ (both_tell (nat_eq j.alternates n) (only_block d m j.block all) (eq_tells j.alternates n) ((λ x. x), (λ x. x))).0
      (of.1, only_test j.block all (λ k here same. (h k here same).0 ∙ sym of.0))

-- each member of each conversation
members_is : (d n : ℕ) (all : List Joining) (members : List ℕ) → members_join d n all members ≡ true → (m : ℕ) → IsMember m members
    → joins_once d m n all ≡ true
members_is d n all [] test m h = absurd h
members_is d n all (k ∷ members) test m h = by (λ u r. members_is d n all members u m r) h ((both_tell (joins_once d k n all) (members_join d n all members) ((λ x. x), (λ x. x)) ((λ x. x), (λ x. x))).1 test)
  where
    by : (members_join d n all members ≡ true → IsMember m members → joins_once d m n all ≡ true) → (k ≡ m) ⊎ IsMember m members
        → (joins_once d k n all ≡ true) × (members_join d n all members ≡ true) → joins_once d m n all ≡ true
    by rest (inl e) p = subst (λ x. joins_once d x n all ≡ true) e p.0
    by rest (inr r) p = rest p.1 r

members_test : (d n : ℕ) (all : List Joining) (members : List ℕ) → ((m : ℕ) → IsMember m members → joins_once d m n all ≡ true)
    → members_join d n all members ≡ true
members_test d n all [] h = refl
members_test d n all (k ∷ members) h =
    (both_tell (joins_once d k n all) (members_join d n all members) ((λ x. x), (λ x. x)) ((λ x. x), (λ x. x))).0
    (h k (inl refl), members_test d n all members (λ m r. h m (inr r)))

groups_is : (d : ℕ) (all : List Joining) (groups : List Group) → groups_join d all groups ≡ true → (i : ℕ) (g : Group) → slice_get groups i ≡ Some g
    → members_join (d + i) g.alternates all g.members.items ≡ true
groups_is d all [] test i g is = absurd (none_is g is)
groups_is d all (one ∷ groups) test zero g is =
    let same : one ≡ g = cc
    in let p = (both_tell (members_join d one.alternates all one.members.items) (groups_join (d + 1) all groups) ((λ x. x), (λ x. x)) ((λ x. x), (λ x. x))).1 test
    in let number : d ≡ d + 0 = omega arith
    in subst (λ x. members_join x g.alternates all g.members.items ≡ true) number
    (subst (λ (x : Group). members_join d x.alternates all x.members.items ≡ true) same p.0)
groups_is d all (one ∷ groups) test (suc i) g is =
    let p = (both_tell (members_join d one.alternates all one.members.items) (groups_join (d + 1) all groups) ((λ x. x), (λ x. x)) ((λ x. x), (λ x. x))).1 test
    in let number : d + 1 + i ≡ d + suc i = omega arith
    in subst (λ x. members_join x g.alternates all g.members.items ≡ true) number (groups_is (d + 1) all groups p.1 i g is)

groups_test : (d : ℕ) (all : List Joining) (groups : List Group)
    → ((i : ℕ) (g : Group) → slice_get groups i ≡ Some g → members_join (d + i) g.alternates all g.members.items ≡ true)
    → groups_join d all groups ≡ true
groups_test d all [] h = refl
groups_test d all (one ∷ groups) h =
    let number : d + 0 ≡ d = omega arith
    in (both_tell (members_join d one.alternates all one.members.items) (groups_join (d + 1) all groups) ((λ x. x), (λ x. x)) ((λ x. x), (λ x. x))).0 (
      subst (λ x. members_join x one.alternates all one.members.items ≡ true) number (h zero one refl),
      groups_test (d + 1) all groups (λ i g is. let next : d + suc i ≡ d + 1 + i = omega arith
          in subst (λ x. members_join x g.alternates all g.members.items ≡ true) next (h (suc i) g is)),
    )

-- the numbers of alternates of conversations
abbrev pub counts : List Group → List ℕ
counts groups = map (λ (o : Conversation). o.alternates) (map opened groups)

abbrev stood : (c : Code) (t : Table) (d m : ℕ) (j : Joining) (a : ℕ) (s : Stands c t a j) → is_of d m j ≡ true → Joins c t d m j.block
stood c t d m j a s is =
    let p = (of_tells d m j).1 is
    in (s.one, a, s.e, s.block, s.conversation ∙ ap Some p.0, s.instr, s.entry, s.process ∙ p.1)

-- a joining beside one of another block
pub two_entered : (c : Code) (t : Table) (n a : ℕ) (all : List Joining) (j : Joining) → AreJoinings c t n all → joining_at c t a ≡ Some j
    → only_block j.conversation j.process j.block all ≡ false → EntersTwo c t
two_entered c t n a all j are is test =
    let k = only_fails j.conversation j.process j.block all test
    in let b = are.only k.0 k.1
    in record {
      conversation = j.conversation;
      process = j.process;
      block = j.block;
      other = k.0.block;
      joins = stood c t j.conversation j.process j a (stands c t a j is) ((of_tells j.conversation j.process j).0 (refl, refl));
      joins_other = stood c t j.conversation j.process k.0 b.0 (stands c t b.0 k.0 b.1) k.2;
      differ = λ same. k.3 (sym same);
    }

-- where a table's rule is kept, the process is a member
declared : (o : Option Membership) (m : ℕ) → IsMember m (members_of o)
    → (group : Membership) × (o ≡ Some group) × IsMember m group.members
declared None m h = absurd h
declared (Some group) m h = (group, refl, h)

pub two_fail : (c : Code) (groups : List Membership) (counts : List ℕ) (t : Table) → HasTable c groups t → EntersTwo c t
    → JoinsOnce c groups counts t → ⊥
two_fail c groups counts t has two once = by two.joins
  where
    by : Joins c t two.conversation two.process two.block → ⊥
    by (one, a, e, block, conversation, instr, at, process) =
        let d = two.conversation
        in let fine : Fine c groups t (Enter two.block) a e
        = subst (λ (o : Option Instr). FineAt c groups t o a e) instr (has.each a e at).fine
        in let may : MayEnter c groups t (Some d) e
        = subst (λ (o : Option ℕ). MayEnter c groups t o e) (ap conversation_of block ∙ conversation) fine.4
        in let member = declared (slice_get groups d) two.process (subst (λ p. IsMember p (members_of (slice_get groups d))) process may.1)
        in let r = once d two.process member.0 member.1 member.2
        in two.differ (r.3 two.block two.joins ∙ sym (r.3 two.other two.joins_other))

module _ (c : Code) (t : Table) (groups : List Group) (all : List Joining) (are : AreJoinings c t (length c.instrs) all) where
  joined : (d m b : ℕ) (joins : Joins c t d m b) → Contains all (joining_of d m b joins.0)
  joined d m b joins =
      are.each joins.1 (joining_of d m b joins.0) (slice_get_within c.instrs joins.1 (Enter b) joins.5) (is_joining c t d m b joins)

  pub join_once : groups_join 0 all groups ≡ true → JoinsOnce c (map membership (map opened groups)) (counts groups) t
  join_once test d m group at member =
      let g = group_found groups d group at
      in let each = groups_is 0 all groups test d g.0 g.1
      in let number : 0 + d ≡ d = omega arith
      in let here = subst (λ x. members_join x g.0.alternates all g.0.members.items ≡ true) number each
      in let once = once_is d m g.0.alternates all (members_is d g.0.alternates all g.0.members.items here m (subst (IsMember m) g.2 member))
      in let a = are.only once.one once.there
      in let s = stands c t a.0 once.one a.1
      in (
        once.one.block,
        stood c t d m once.one a.0 s once.is,
        g.3 ∙ ap Some (sym once.count ∙ s.count),
        (λ other k. once.only (joining_of d m other k.0) (joined d m other k) ((of_tells d m (joining_of d m other k.0)).0 (refl, refl))),
      )

  module _ (once : JoinsOnce c (map membership (map opened groups)) (counts groups) t) (i : ℕ) (g : Group) (is : slice_get groups i ≡ Some g)
      (m : ℕ) (member : IsMember m g.members.items) where
    joins_it : (b : ℕ) × (joins : Joins c t i m b) × (slice_get (counts groups) i ≡ Some (length joins.0.alternates))
        × ((other : ℕ) → Joins c t i m other → other ≡ b)
    joins_it = once i m (membership (opened g)) (group_at groups i g is).0 (subst (IsMember m) (sym (members_declared g.members.items)) member)

    same_count : (k : Joining) (a : ℕ) (s : Stands c t a k) → k.block ≡ joins_it.0 → k.alternates ≡ g.alternates
    same_count k a s e =
        let one : s.one ≡ joins_it.1.0 = (let x = sym s.block ∙ ap (slice_get c.blocks) e ∙ joins_it.1.3 in cc)
        in let n : length joins_it.1.0.alternates ≡ g.alternates = (let x = sym joins_it.2 ∙ (group_at groups i g is).1 in cc)
        in s.count ∙ ap (λ (x : Block). length x.alternates) one ∙ n

    joins_here : joins_once i m g.alternates all ≡ true
    joins_here =
        once_test i m g.alternates all (joining_of i m joins_it.0 joins_it.1.0) (joined i m joins_it.0 joins_it.1)
        ((of_tells i m (joining_of i m joins_it.0 joins_it.1.0)).0 (refl, refl))
        (λ k here same. let a = are.only k here in let s = stands c t a.0 k a.1 in let e = joins_it.3 k.block (stood c t i m k a.0 s same)
        in (e, same_count k a.0 s e))

  pub join_test : JoinsOnce c (map membership (map opened groups)) (counts groups) t → groups_join 0 all groups ≡ true
  join_test once = groups_test 0 all groups each
    where
      each : (i : ℕ) (g : Group) → slice_get groups i ≡ Some g → members_join (0 + i) g.alternates all g.members.items ≡ true
      each i g is =
          let number : i ≡ 0 + i = omega arith
          in subst (λ x. members_join x g.alternates all g.members.items ≡ true) number
          (members_test i g.alternates all g.members.items (λ m member. joins_here once i g is m member))

  pub join_fails : groups_join 0 all groups ≡ false → JoinsOnce c (map membership (map opened groups)) (counts groups) t → ⊥
  join_fails test once = not_false (groups_join 0 all groups) (join_test once) test
