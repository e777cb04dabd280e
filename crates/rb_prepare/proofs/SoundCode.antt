-- Code that stands for an accepted tree is sound: it has a table with entries where it is reached alone, in which loops stay open and each
-- member joins each of its conversations exactly once.
use Rattle.std.proofs.Common.{◌≡◌, ℕ, ◌+◌, ◌-◌, ◌<◌, ◌≤◌, nat_lt, Bool, true, false, List, [], length, slice_get, Option, Some, refl, ap, sym, ◌∙◌, subst, arith}
use Rattle.std.proofs.lemmas.Bool.{eq-eqb, ltb-false, ltb-true}
use Rattle.std.proofs.lemmas.Option.{slice_get_within}
use Rattle.std.specs.List.{list_any}
use Rattle.rb_syntax.specs.Tree.{ConversationDeclaration, Identifier, ProcessDeclaration, Tree}
use Rattle.rb_world.specs.Kind.{Membership}
use Rattle.rb_world.specs.World.{is_number}
use Rattle.rb_world.proofs.ListFacts.{some_same}
use Rattle.rb_meaning.specs.Groups.{conversation_number, groups_of, membership_of}
use Rattle.rb_meaning.specs.Nesting.{outside, uses_in}
use Rattle.rb_scope.specs.Rules.{where_broken}
use Rattle.rb_scope.specs.declared.slot.Slot.{Slot}
use Rattle.rb_scope.proofs.EachSite.{all_at, second-empty}
use Rattle.rb_base.specs.declared.fault.FaultName.TheVariants.{N11}
use Rattle.rb_base.specs.declared.names.Nested.{Nested}
use Rattle.rb_nest.specs.Groups.{alternates}
use Rattle.rb_nest.specs.Nest.{IsNest}
use Rattle.rb_nest.specs.Rules.{conversation_faults, joins_in, members_faults}
use Rattle.rb_code.specs.Instructions.Plain.{Code}
use Rattle.rb_code.specs.SoundCode.Sound.{HasTable, IsMember, Table, Within, conversation_of}
use Rattle.rb_code.specs.SoundCode.WellFormed.{IsSound, Joins, JoinsOnce}
use Rattle.rb_code.specs.declared.instr.Instr.{Instr}
use Rattle.rb_code.specs.declared.instr.Instr.TheVariants.{Enter, Range}
use Rattle.rb_code.proofs.Tables.ProcessTables.{in_main}
use Rattle.rb_prepare.proofs.Walking.Laid.{LoopStays, Right, count_to, one_if}
use Rattle.rb_prepare.proofs.Walking.Ways.{IsIn}
use Rattle.rb_prepare.proofs.Walking.WholeWalk.{Place, Spread, begin_at, end_at, place_of}
use Rattle.rb_prepare.proofs.OwnTable.{own_has, own_process, own_table, place_at}
use Rattle.rb_prepare.proofs.ReachedTable.{cut_has, reached_entry, reached_table}
use Rattle.rb_prepare.proofs.TableOnward.{in_onward, loops_stay_open}
use Rattle.rb_prepare.proofs.Joining.CountedAlternates.{as_many_counts, counts_known}
use Rattle.rb_prepare.proofs.Joining.Counting.{counted_once, counted_there, mapped_from}
use Rattle.rb_prepare.proofs.Forming.FoundNames.{MembersNamed, all_members_named, uses_named}
use Rattle.rb_prepare.proofs.Forming.NestingKept.{all_joined_once, all_orderly, no_conversation_faults, no_use_faults, number_named}
use Rattle.rb_prepare.proofs.Joining.JoinCounts.{is_of, joins_it, main_joins, procedures_joins}
use Rattle.rb_prepare.proofs.Joining.JoinedOnce.{block_of, entered, enters, located, member_named, number_entered, number_weighs, part_counted, plain_enters, some_counted}
use Rattle.rb_prepare.proofs.Forming.Groups.{names_kept, none_at, process_named}
use Rattle.rb_prepare.proofs.AcceptedCode.{IsCodeOf, distinct, is_nested, nothing, places, plain_spread, some_table, spread_by, weightless}
use Rattle.rb_prepare.proofs.Forming.FormedCode.{code_is_well_formed}
use Rattle.rb_prepare.proofs.Joining.Weights.{weight_in}

module _ (tree : Tree) (slots : List Slot) (c : Code) (code : IsCodeOf tree slots c) where
  abbrev groups : List Membership
  groups = groups_of tree

  abbrev ends : List ℕ
  ends = places tree slots c code

  -- the table of the processes' own entries
  abbrev own : Table
  own = own_table ends (some_table tree slots c code).0

  -- and of these, those at addresses that are reached
  abbrev table : Table
  table = reached_table c own

  abbrev none_counted : Instr → Bool
  none_counted = nothing tree slots c code

  abbrev no_weight : ℕ → Option Identifier → ℕ
  no_weight = weightless tree slots c code

  plain : Spread c tree none_counted no_weight 0 tree.processes c.processes ends 0 (length c.instrs)
  plain = plain_spread tree slots c code

  has_own : HasTable c groups own
  has_own = own_has c tree none_counted no_weight ends plain (some_table tree slots c code).0 (some_table tree slots c code).1

  has : HasTable c groups table
  has = cut_has c groups own has_own

  -- behind each `range` its loop goes on up to its end
  stays : (a k b : ℕ) → slice_get c.instrs a ≡ Some (Range k b) → LoopStays c k (a + 1)
  stays a k b at =
      let found = place_at c tree none_counted no_weight ends plain a (slice_get_within c.instrs a (Range k b) at) in
      let row = found.2.rows.rows.each a found.3 found.4 in
      let right = subst (Right c tree found.0 (begin_at 0 ends found.0) (end_at 0 ends found.0 - 1) a) (some_same (sym row.1 ∙ at)) row.2 in
      right.2

  module _ (d : ℕ) (conversation : ConversationDeclaration) (there : slice_get tree.conversations d ≡ Some conversation) where
    abbrev test : Instr → Bool
    test = enters c d

    spread : Spread c tree test (joins_it tree d) 0 tree.processes c.processes ends 0 (length c.instrs)
    spread =
        spread_by tree slots c code test (joins_it tree d) (plain_enters c d)
        (λ number joined block at is.
        let same : enters c d (Enter number) ≡ is_of tree d joined =
        ap (λ o. is_number (conversation_of o) d) at ∙ ap (λ o. is_number o d) is ∙ number_weighs tree d joined in
        omega (arith, ap one_if same))

    number_is : conversation_number tree conversation.name.text ≡ d
    number_is = number_named tree (distinct tree slots c code) d conversation there conversation.name.text refl

    -- a process that is a member
    module _ (m : ℕ) (process : ProcessDeclaration) (is_process : slice_get tree.processes m ≡ Some process) where
      place : Place c tree test (joins_it tree d) c.processes ends 0 m m process 0 (length c.instrs)
      place = place_of c tree test (joins_it tree d) 0 tree.processes c.processes ends 0
          (length c.instrs) spread m m process (omega arith) is_process

      abbrev first : ℕ
      first = begin_at 0 ends m

      abbrev last : ℕ
      last = end_at 0 ends m

      is_main_of : (n : ℕ) (within : Within) → within ≡ in_main n → within.process ≡ n
      is_main_of n within e = ap (λ (w : Within). w.process) e

      begun : IsIn c groups table (in_main m) first
      begun =
          let mains = has.mains m place.part place.listed in
          (_, ap table (sym place.rows.start) ∙ mains, refl)

      -- a block that it enters, at an address of its main body
      record Entered : Type 0 where
        number : ℕ
        at : ℕ
        up : first ≤ at
        below : at < last
        instr : slice_get c.instrs at ≡ Some (Enter number)
        joins : Joins c table d m number

      joins_there : 1 ≤ weight_in (joins_it tree d) process.commands → Entered
      joins_there some =
          let rows = place.rows in
          let found = counted_there test c.instrs first rows.last rows.upward (omega (arith, rows.counted, some)) in
          let enter = entered c d found.1 found.5 in
          let block = block_of d (slice_get c.blocks enter.0) enter.2 in
          let entry : IsIn c groups table (in_main m) found.0 =
          in_onward c groups table has (in_main m) first found.0 (rows.reached found.0 found.2 (let h = found.3 in omega arith)) begun in
          let is = found.4 ∙ ap Some enter.1 in
          let before = found.3 in let end = rows.below in record {
            number = enter.0;
            at = found.0;
            up = found.2;
            below = omega arith;
            instr = is;
            joins = (block.0, found.0, entry.0, block.1, block.2, is, entry.1, is_main_of m entry.0.within entry.2);
          }

      -- what joins stands there too
      record Other (other : ℕ) : Type 0 where
        at : ℕ
        up : first ≤ at
        below : at < last
        instr : slice_get c.instrs at ≡ Some (Enter other)
        passes : test (Enter other) ≡ true

      other_there : (other : ℕ) → Joins c table d m other → Other other
      other_there other (block, y, e, at, is, enter, entry, of) =
          let found = place_at c tree test (joins_it tree d) ends spread y (slice_get_within c.instrs y (Enter other) enter) in
          let owned = found.2.owned y found.3 found.4 in
          let same : found.0 ≡ m =
          sym owned
          ∙ sym (own_process c tree none_counted no_weight ends plain (some_table tree slots c code).0 (some_table tree slots c code).1 y e
          (reached_entry c own y e entry).0)
          ∙ of in
          record {
            at = y;
            up = subst (λ n. begin_at 0 ends n ≤ y) same found.3;
            below = subst (λ n. y < end_at 0 ends n) same found.4;
            instr = enter;
            passes = ap (λ o. is_number (conversation_of o) d) at ∙ ap (λ o. is_number o d) is ∙ eq-eqb d d refl;
          }

      few : count_to test last c.instrs ≤ count_to test first c.instrs + 1
      few =
          let once = all_joined_once tree (distinct tree slots c code) d conversation there m
          (no_use_faults tree code.nested) (uses_named tree code.scoped) in
          let mine = part_counted tree d m 0 m tree.processes process is_process (omega arith) in
          omega (arith, place.rows.rows.counted, once, mine, main_joins tree d m process.commands, procedures_joins tree d m process.procedures)

      same_block : (one : Entered) (other : ℕ) → Other other → other ≡ one.number
      same_block one other second = by (nat_lt one.at second.at) refl (nat_lt second.at one.at) refl
        where
          passes : test (Enter one.number) ≡ true
          passes =
              let joins = one.joins in
              ap (λ o. is_number (conversation_of o) d) joins.3 ∙ ap (λ o. is_number o d) joins.4 ∙ eq-eqb d d refl

          by : (p : Bool) → nat_lt one.at second.at ≡ p → (q : Bool) → nat_lt second.at one.at ≡ q → other ≡ one.number
          by true e q g =
              absurd (counted_once test c.instrs first last one.at second.at (Enter one.number) (Enter other) few one.up
              (ltb-true one.at second.at e) second.below
              one.instr second.instr passes second.passes)
          by false e true g =
              absurd (counted_once test c.instrs first last second.at one.at (Enter other) (Enter one.number) few second.up
              (ltb-true second.at one.at g) one.below
              second.instr one.instr second.passes passes)
          by false e false g =
              let over = ltb-false one.at second.at e in let under = ltb-false second.at one.at g in
              let same : second.at ≡ one.at = omega arith in
              ap number_entered (some_same (sym second.instr ∙ ap (slice_get c.instrs) same ∙ one.instr))

  module _ (nested : Nested) (nest : IsNest tree nested) where
    joins_once : JoinsOnce c groups (alternates nested) table
    joins_once d m group at member =
        let from = mapped_from (membership_of tree) tree.conversations d group at in
        let conversation = from.0 in
        let x = conversation.name.text in
        let named = all_at (MembersNamed tree) tree.conversations d conversation (all_members_named tree code.scoped) from.1 in
        let faults = none_at (conversation_faults tree) tree.conversations d conversation (no_conversation_faults tree code.nested) from.1 in
        let kept = names_kept tree x [] conversation.members
        (second-empty (where_broken (nat_lt (length conversation.members) 2) N11 conversation.name.place)
        (members_faults tree x [] conversation.members) faults) in
        let one = member_named tree m x conversation.members named kept.joined
        (subst (λ (g : Membership). IsMember m g.members) (sym from.2) member) in
        let number : one.2.0 ≡ m = sym (process_named tree (distinct tree slots c code) one.0 one.2) ∙ one.1 in
        let process = one.2.1 in
        let is_process : slice_get tree.processes m ≡ Some process = ap (slice_get tree.processes) (sym number) ∙ one.2.2 in
        let place = located tree m x 0 tree.processes (is_nested tree slots c code).n4 (all_orderly tree code.nested) one.3 in
        let index : place.0 ≡ m = (let e = place.3 in omega arith) in
        let same : place.1 ≡ process = some_same (sym place.2 ∙ ap (slice_get tree.processes) index ∙ is_process) in
        let joins = subst (λ (p : ProcessDeclaration). list_any (joins_in m x) (uses_in (outside m false) p.commands) ≡ true) same place.4 in
        let some = some_counted tree d m x (uses_in (outside m false) process.commands) (number_is d conversation from.1) joins in
        let entered = joins_there d conversation from.1 m process is_process (omega (arith, some, main_joins tree d m process.commands)) in (
          entered.number,
          entered.joins,
          counts_known tree slots c code nested nest entered.number d entered.joins.0 entered.joins.3 entered.joins.4,
          λ other h. same_block d conversation from.1 m process is_process entered other
              (other_there d conversation from.1 m process is_process other h),
        )

    pub code_is_sound : IsSound c (groups_of tree) (alternates nested)
    code_is_sound = record {
      well = code_is_well_formed tree slots c code;
      as_many = as_many_counts tree nested nest;
      table = table;
      has = has;
      reached = λ a e at. (reached_entry c own a e at).1;
      loops = loops_stay_open c groups table has stays;
      joins = joins_once;
    }
