-- In the table of the processes' own entries each member joins each of its conversations exactly once.
use Rattle.std.proofs.Common.{◌≡◌, ◌⊎◌, inl, inr, ℕ, zero, suc, ◌+◌, ◌≤◌, nat_eq, Bool, true, false, cond, not, ◌&&◌, ◌||◌, List, [], ◌∷◌, ◌++◌, map, slice_get, Option, Some, None, refl, ap, sym, ◌∙◌, subst, true≢false, arith}
use Rattle.std.proofs.lemmas.Bool.{eq-eqb, eqb-true}
use Rattle.std.proofs.lemmas.List.Sums.{sum_by-cons}
use Rattle.std.specs.List.{AllByRecursion, list_all, list_any}
use Rattle.rb_syntax.specs.Tree.{Identifier, ProcessDeclaration, Tree}
use Rattle.rb_world.specs.World.{is_number}
use Rattle.rb_world.proofs.ListFacts.{none_some, some_same}
use Rattle.rb_meaning.specs.Groups.{conversation_number, conversation_of as number_joined, process_number}
use Rattle.rb_meaning.specs.Nesting.{Deed, Joins as JoinDeed, Spot, Use, if_joins, is_converse, outside, uses_in, uses_in_procedures, uses_in_processes, uses_of}
use Rattle.rb_scope.proofs.EachSite.{all_both, all_split}
use Rattle.rb_nest.specs.Rules.{joins_in}
use Rattle.rb_code.specs.Instructions.Plain.{Block, Code}
use Rattle.rb_code.specs.SoundCode.Sound.{IsMember, conversation_of}
use Rattle.rb_code.specs.declared.instr.Instr.{Instr}
use Rattle.rb_code.specs.declared.instr.Instr.TheVariants.{Enter}
use Rattle.rb_prepare.proofs.Walking.Laid.{one_if}
use Rattle.rb_prepare.proofs.Walking.Walked.{IsPlain}
use Rattle.rb_prepare.proofs.Forming.FoundNames.{NamesProcess}
use Rattle.rb_prepare.proofs.Forming.NestingKept.{IsOrderly}
use Rattle.rb_prepare.proofs.Forming.PlacedUses.{AreFourth, IsPlaced, fourth_first, fourth_second, main_placed, procedures_placed}
use Rattle.rb_prepare.proofs.Joining.JoinCounts.{count_both, count_joins, if_join, is_join, is_of}
use Rattle.rb_prepare.proofs.Forming.Groups.{AreJoined, AreNamed, any_found, joins_known}

any_split : (test : Use → Bool) (xs ys : List Use) → list_any test (xs ++ ys) ≡ true → (list_any test xs ≡ true) ⊎ (list_any test ys ≡ true)
any_split test [] ys e = inr e
any_split test (x ∷ xs) ys e = by (test x) (any_split test xs ys) e
  where
    by : (b : Bool) → (list_any test (xs ++ ys) ≡ true → (list_any test xs ≡ true) ⊎ (list_any test ys ≡ true))
        → (b || list_any test (xs ++ ys)) ≡ true
        → ((b || list_any test xs) ≡ true) ⊎ (list_any test ys ≡ true)
    by true later e = inl refl
    by false later e = later e

module _ (tree : Tree) (m : ℕ) (x : List ℕ) where
  abbrev test : Use → Bool
  test one = joins_in m x one

  -- process number m, whose main body joins
  abbrev Located : ℕ → List ProcessDeclaration → Type 0
  Located q processes =
      (i : ℕ) × (process : ProcessDeclaration) × (slice_get processes i ≡ Some process) × (q + i ≡ m)
      × (list_any test (uses_in (outside m false) process.commands) ≡ true)

  not_in_procedure : (deed : Deed) (spot : Spot) (n : ℕ) → deed ≡ JoinDeed n → spot.in_procedure ≡ true
      → if_joins deed (not spot.in_procedure && list_all is_converse spot.around) ≡ true → ⊥
  not_in_procedure deed spot n is in_it h =
      let kept : (not spot.in_procedure && list_all is_converse spot.around) ≡ true =
      subst (λ d. if_joins d (not spot.in_procedure && list_all is_converse spot.around) ≡ true) is h in
      true≢false (sym (subst (λ b. (not b && list_all is_converse spot.around) ≡ true) in_it kept))

  later : (q : ℕ) (one : ProcessDeclaration) (others : List ProcessDeclaration) → Located (q + 1) others → Located q (one ∷ others)
  later q one others (i, process, at, is, joins) = (suc i, process, at, omega (arith, is), joins)

  -- none joins in a procedure
  none_there : (q : ℕ) (uses : List Use) → AllByRecursion (IsPlaced tree q true) uses → AllByRecursion (IsOrderly tree) uses
      → list_any test uses ≡ true → ⊥
  none_there q uses placed orderly e =
      let Both : Use → Type 0 = λ one. IsPlaced tree q true one × IsOrderly tree one in
      let found = any_found Both test uses (all_both (IsPlaced tree q true) (IsOrderly tree) uses placed orderly) e in
      let joins = joins_known m x found.0 found.2 in
      not_in_procedure found.0.deed found.0.spot joins.alternates joins.deed found.1.0.body found.1.1.n1

  -- where one joins in a main body it is that of process m
  main_is : (q : ℕ) (uses : List Use) → AllByRecursion (IsPlaced tree q false) uses → list_any test uses ≡ true → q ≡ m
  main_is q uses placed e =
      let found = any_found (IsPlaced tree q false) test uses placed e in
      sym found.1.process ∙ (joins_known m x found.0 found.2).process

  here : (q : ℕ) (one : ProcessDeclaration) (others : List ProcessDeclaration) → q ≡ m → list_any test (uses_in (outside q false) one.commands) ≡ true
      → Located q (one ∷ others)
  here q one others is e = (zero, one, refl, omega (arith, is), subst (λ k. list_any test (uses_in (outside k false) one.commands) ≡ true) is e)

  pub located : (q : ℕ) (processes : List ProcessDeclaration) → AreFourth tree (uses_in_processes q processes)
      → AllByRecursion (IsOrderly tree) (uses_in_processes q processes) → list_any test (uses_in_processes q processes) ≡ true → Located q processes
  located q [] fourth orderly e = absurd (true≢false (sym e))
  located q (one ∷ others) fourth orderly e =
      let procedures = uses_in_procedures q one.procedures in
      let main = uses_in (outside q false) one.commands in
      let rest = uses_in_processes (q + 1) others in
      let parts = all_split (IsOrderly tree) procedures (main ++ rest) orderly in
      let behind = all_split (IsOrderly tree) main rest parts.1 in
      let fourth' = fourth_second tree procedures (main ++ rest) fourth in
      elim (any_split test procedures (main ++ rest) e) [
        | inl h ↦ absurd
            (none_there q procedures (procedures_placed tree q one.procedures (fourth_first tree procedures (main ++ rest) fourth)) parts.0 h)
        | inr h ↦ elim (any_split test main rest h) [
          | inl k ↦ here q one others (main_is q main (main_placed tree q one.commands (fourth_first tree main rest fourth')) k) k
          | inr k ↦ later q one others (located (q + 1) others (fourth_second tree main rest fourth') behind.1 k)
        ]
      ]

-- a member is named
pub member_named : (tree : Tree) (m : ℕ) (x : List ℕ) (names : List Identifier) → AreNamed tree names → AreJoined tree x names
    → IsMember m (map (λ (name : Identifier). process_number tree name.text) names)
    → (name : Identifier) × (process_number tree name.text ≡ m) × NamesProcess tree name.text × (list_any (joins_in m x) (uses_of tree) ≡ true)
member_named tree m x [] named joined member = absurd member
member_named tree m x (name ∷ names) named joined (inl e) = (name, e, named.0, subst (λ k. list_any (joins_in k x) (uses_of tree) ≡ true) e joined.0)
member_named tree m x (name ∷ names) named joined (inr later) = member_named tree m x names named.1 joined.1 later

-- the block of an instruction that enters one of conversation d
abbrev pub enters : Code → ℕ → Instr → Bool
enters c d (Enter b) = is_number (conversation_of (slice_get c.blocks b)) d
enters c d other = false

pub plain_enters : (c : Code) (d : ℕ) (instr : Instr) → IsPlain instr → enters c d instr ≡ false
plain_enters c d (Enter b) h = absurd h
plain_enters c d other h = refl

pub entered : (c : Code) (d : ℕ) (instr : Instr) → enters c d instr ≡ true
    → (b : ℕ) × (instr ≡ Enter b) × (is_number (conversation_of (slice_get c.blocks b)) d ≡ true)
entered c d (Enter b) e = (b, refl, e)
entered c d other e = absurd (true≢false (sym e))

pub block_of : (d : ℕ) (o : Option Block) → is_number (conversation_of o) d ≡ true
    → (block : Block) × (o ≡ Some block) × (block.conversation ≡ Some d)
block_of d None e = absurd (true≢false (sym e))
block_of d (Some block) e = by block.conversation refl e
  where
    by : (o : Option ℕ) → block.conversation ≡ o → is_number o d ≡ true → (one : Block) × (Some block ≡ Some one) × (one.conversation ≡ Some d)
    by None is e = absurd (true≢false (sym e))
    by (Some k) is e = (block, refl, is ∙ ap Some (eqb-true k d e))

abbrev pub number_entered : Instr → ℕ
number_entered (Enter b) = b
number_entered other = 0

module _ (tree : Tree) (d : ℕ) where
  pub number_weighs : (conversation : Option Identifier) → is_number (number_joined tree conversation) d ≡ is_of tree d conversation
  number_weighs None = refl
  number_weighs (Some name) = refl

  module _ (m : ℕ) where
    -- what joins by its name joins by its number
    joins_by_number : (x : List ℕ) (one : Use) → conversation_number tree x ≡ d → joins_in m x one ≡ true → is_join tree d m one ≡ true
    joins_by_number x one number e =
        let joins = joins_known m x one e in
        subst (λ deed. if_join deed (nat_eq one.spot.process m && nat_eq (conversation_number tree one.name.text) d) ≡ true) (sym joins.deed)
        (both (nat_eq one.spot.process m) (nat_eq (conversation_number tree one.name.text) d) (eq-eqb one.spot.process m joins.process)
        (eq-eqb (conversation_number tree one.name.text) d (ap (conversation_number tree) joins.text ∙ number)))
      where
        both : (a b : Bool) → a ≡ true → b ≡ true → (a && b) ≡ true
        both true b p q = q
        both false b p q = p

    pub some_counted : (x : List ℕ) (uses : List Use) → conversation_number tree x ≡ d → list_any (joins_in m x) uses ≡ true
        → 1 ≤ count_joins tree d m uses
    some_counted x [] number e = absurd (true≢false (sym e))
    some_counted x (one ∷ uses) number e =
        by (joins_in m x one) refl (some_counted x uses number) e
      where
        sum : count_joins tree d m (one ∷ uses) ≡ cond (is_join tree d m one) 1 0 + count_joins tree d m uses
        sum = sum_by-cons (λ (each : Use). cond (is_join tree d m each) 1 0) one uses

        by : (b : Bool) → joins_in m x one ≡ b → (list_any (joins_in m x) uses ≡ true → 1 ≤ count_joins tree d m uses)
            → (b || list_any (joins_in m x) uses) ≡ true → 1 ≤ count_joins tree d m (one ∷ uses)
        by true f later g = omega (arith, sum, ap one_if (joins_by_number x one number f))
        by false f later g = omega (arith, sum, later g)

    -- a process has no more than all
    pub part_counted : (q i : ℕ) (processes : List ProcessDeclaration) (process : ProcessDeclaration)
        → slice_get processes i ≡ Some process → q + i ≡ m
        → count_joins tree d m (uses_in_procedures m process.procedures) + count_joins tree d m (uses_in (outside m false) process.commands)
        ≤ count_joins tree d m (uses_in_processes q processes)
    part_counted q i [] process at e = absurd (none_some at)
    part_counted q zero (one ∷ others) process at e =
        let procedures = uses_in_procedures q one.procedures in
        let main = uses_in (outside q false) one.commands in
        let rest = uses_in_processes (q + 1) others in
        let same : q ≡ m = omega (arith, e) in
        subst (λ (p : ProcessDeclaration). count_joins tree d m (uses_in_procedures m p.procedures)
        + count_joins tree d m (uses_in (outside m false) p.commands)
        ≤ count_joins tree d m (procedures ++ (main ++ rest))) (some_same at)
        (subst (λ k. count_joins tree d m (uses_in_procedures k one.procedures) + count_joins tree d m (uses_in (outside k false) one.commands)
        ≤ count_joins tree d m (procedures ++ (main ++ rest))) same
        (omega (arith, count_both tree d m procedures (main ++ rest), count_both tree d m main rest)))
    part_counted q (suc i) (one ∷ others) process at e =
        let procedures = uses_in_procedures q one.procedures in
        let main = uses_in (outside q false) one.commands in
        let rest = uses_in_processes (q + 1) others in
        omega (
          arith,
          part_counted (q + 1) i others process at (omega (arith, e)),
          count_both tree d m procedures (main ++ rest),
          count_both tree d m main rest,
        )
