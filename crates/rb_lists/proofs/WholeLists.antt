-- The parts of what is asked of the lists of a code, put together and taken apart.
use Rattle.std.proofs.Common.{◌≡◌, ◌<◌, ◌-◌, ℕ, List, [], ◌∷◌, Option, Some, length, map, get_or, refl, sym, ap, subst, ◌∙◌, inl, inr, arith}
use Rattle.std.specs.List.{All, IsDistinct}
use Rattle.std.specs.Option.{option_map}
use Rattle.std.proofs.lemmas.List.{length-map, map-id}
use Rattle.std.proofs.lemmas.List.Elements.{All-map, All-weaker}
use Rattle.std.proofs.lemmas.Option.{slice_get-get_or, slice_get-map, slice_get_cases}
use Rattle.std.proofs.lemmas.Simd.{map-map}
use Rattle.rb_base.specs.declared.limits.TheConstants.{MOST_NESTED}
use Rattle.rb_base.specs.declared.names.Group.{Group}
use Rattle.rb_base.specs.declared.names.Nested.{Nested}
use Rattle.rb_world.specs.Kind.{Membership}
use Rattle.rb_world.specs.Reject.{parent_of}
use Rattle.rb_trace.specs.Naming.{naming, process_naming}
use Rattle.rb_meaning.specs.Environment.{same_name}
use Rattle.rb_conv.specs.Conversations.{memberships as conversed, membership as conversed_one, opened, opening, outsider}
use Rattle.rb_conv.specs.declared.member.Member.{Member}
use Rattle.rb_nest.specs.Groups.{membership, memberships}
use Rattle.rb_scope.specs.Spelled.{IsNaming}
use Rattle.rb_code.specs.Instructions.Plain.{Part, Procedure, block as plain_block, channel as plain_channel, code as plain, part as plain_part, procedure as plain_procedure}
use Rattle.rb_code.specs.SoundCode.WellFormed.{HasOneEach, IsBlock, IsChain, IsGroup, IsNamed, IsPart, IsWellFormed, JoinsTwo, NamesProcess, outer_names}
use Rattle.rb_code.specs.declared.code.Code.{Code as Held}
use Rattle.rb_code.specs.declared.code.ProcessCode.{ProcessCode}
use Rattle.rb_lists.specs.Groups.{HasMembers, HasParent}
use Rattle.rb_lists.specs.Lists.{HasLists}
use Rattle.rb_lists.specs.Naming.{NamesProcedures}
use Rattle.rb_lists.specs.Parts.{AreLawful}
use Rattle.rb_lists.proofs.Mapped.{All-from_map}

-- at the opening a conversation has the members and the parent that it was given
opened_group : (group : Group) → conversed_one (opened group) ≡ membership group
opened_group group =
    let members = map-map (λ (member : Member). member.process) outsider group.members.items ∙ map-id group.members.items in
    ap (λ (ms : List ℕ). record { members = ms; parent = group.parent }) members

opened_groups : (groups : List Group) → map conversed_one (map opened groups) ≡ map membership groups
opened_groups [] = refl
opened_groups (group ∷ groups) =
    ap (λ (first : Membership). first ∷ map conversed_one (map opened groups)) (opened_group group)
    ∙ ap (λ (rest : List Membership). membership group ∷ rest) (opened_groups groups)

groups_are : (nested : Nested) → conversed (opening nested) ≡ memberships nested
groups_are nested = opened_groups nested.conversations.items

-- the names of procedures, process by process
named_part : (code : Held) (process : ProcessCode) → NamesProcedures code.edition process
    → All (λ (one : Procedure). IsNaming code.edition one.name) (plain_part process).procedures
named_part code process named = All-map (λ (one : Procedure). IsNaming code.edition one.name) plain_procedure process.procedures.items named.each

part_named : (code : Held) (process : ProcessCode) → All (λ (one : Procedure). IsNaming code.edition one.name) (plain_part process).procedures
    → NamesProcedures code.edition process
part_named code process named =
    record { each = All-from_map (λ (one : Procedure). IsNaming code.edition one.name) plain_procedure process.procedures.items named }

abbrev NamesAll : Held → Part → Type 0
NamesAll code part = All (λ (one : Procedure). IsNaming code.edition one.name) part.procedures

-- a conversation by its parts
group_by : (code : Held) (groups : List Membership) (group : Membership) → HasMembers (length code.processes.items) group → HasParent groups group
    → IsGroup (plain code) groups group
group_by code groups group members parent =
    let same : length code.processes.items ≡ length (plain code).processes = sym (length-map code.processes.items plain_part) in
    record {
      two = members.two;
      differ = members.differ;
      processes = subst (λ (n : ℕ). All (λ (m : ℕ). m < n) group.members) same members.there;
      parent = parent.parent;
    }

members_by : (code : Held) (groups : List Membership) (group : Membership) → IsGroup (plain code) groups group
    → HasMembers (length code.processes.items) group
members_by code groups group is =
    let same : length (plain code).processes ≡ length code.processes.items = length-map code.processes.items plain_part in
    record {
      two = is.two;
      differ = is.differ;
      there = subst (λ (n : ℕ). All (λ (m : ℕ). m < n) group.members) same is.processes;
    }

-- chains
chain_at : (groups : List Group) → All (λ (group : Group). IsChain (map membership groups) (MOST_NESTED - 1) group.parent) groups
    → (d : ℕ) → d < length (map membership groups) → IsChain (map membership groups) MOST_NESTED (Some d)
chain_at groups all d within =
    let inside : d < length groups = omega (arith, length-map groups membership) in
    let Chained : Option Membership → Type 0 = λ (one : Option Membership). IsChain (map membership groups) (MOST_NESTED - 1) (parent_of one) in
    elim (slice_get_cases groups d).1 [
      | inl found ↦
          subst Chained (sym (slice_get-map membership groups d ∙ ap (option_map membership) found.2))
          (subst (λ (group : Group). Chained (Some (membership group))) found.3 (all d found.0 inside))
      | inr past ↦ absurd (omega (arith, past.0))
    ]

chains_by : (groups : List Group) → ((d : ℕ) → d < length (map membership groups) → IsChain (map membership groups) MOST_NESTED (Some d))
    → All (λ (group : Group). IsChain (map membership groups) (MOST_NESTED - 1) group.parent) groups
chains_by groups chains k d within =
    subst (λ (one : Option Membership). IsChain (map membership groups) (MOST_NESTED - 1) (parent_of one))
    (slice_get-map membership groups k ∙ ap (option_map membership) (slice_get-get_or groups k d within))
    (chains k (omega (arith, length-map groups membership)))

module _ (code : Held) (nested : Nested) where
  named_by : AreLawful code nested → IsDistinct same_name (outer_names (naming code.names)) → IsNamed (plain code) (memberships nested)
  named_by lawful differ = record {
    processes_each =
        length-map code.names.processes.items process_naming ∙ lawful.named.processes ∙ sym (length-map code.processes.items plain_part);
    channels_each = lawful.named.channels ∙ sym (length-map code.channels.items plain_channel);
    conversations_each = lawful.named.conversations ∙ sym (length-map nested.conversations.items membership);
    processes = All-map (NamesProcess code.edition) process_naming code.names.processes.items lawful.spelled.names.processes;
    channels = lawful.spelled.names.channels.each;
    conversations = lawful.spelled.names.conversations.each;
    procedures =
        All-map (NamesAll code) plain_part code.processes.items
        (All-weaker (NamesProcedures code.edition) (λ (process : ProcessCode). NamesAll code (plain_part process)) (named_part code)
        code.processes.items lawful.spelled.procedures);
    differ = differ;
  }

  well_formed : AreLawful code nested → IsDistinct same_name (outer_names (naming code.names)) → HasOneEach (plain code)
      → IsWellFormed (plain code) (memberships nested)
  well_formed lawful differ each = record {
    few_processes = omega (arith, lawful.few.processes, length-map code.processes.items plain_part);
    few_channels = omega (arith, lawful.few.channels, length-map code.channels.items plain_channel);
    few_conversations = omega (arith, lawful.few.conversations, length-map nested.conversations.items membership);
    named = named_by lawful differ;
    texts = lawful.spelled.texts.each;
    processes = All-map (IsPart (plain code)) plain_part code.processes.items lawful.there.processes;
    channels = All-map (JoinsTwo (plain code)) plain_channel code.channels.items lawful.there.channels;
    lists = lawful.there.listed;
    blocks = All-map (IsBlock (plain code) (memberships nested)) plain_block code.blocks.items lawful.there.blocks;
    instrs = lawful.there.instrs;
    one_each = each;
    conversations =
        All-map (IsGroup (plain code) (memberships nested)) membership nested.conversations.items
        (λ k d within.
        group_by code (memberships nested) (membership (get_or nested.conversations.items k d)) (lawful.nest.members k d within)
        (lawful.nest.parents k d within));
    chains = chain_at nested.conversations.items lawful.nest.chains;
  }

  pub lists_by : AreLawful code nested → IsDistinct same_name (outer_names (naming code.names)) → HasOneEach (plain code) → HasLists code nested
  lists_by lawful differ each = record {
    well = subst (IsWellFormed (plain code)) (sym (groups_are nested)) (well_formed lawful differ each);
    lie = lawful.there.variables;
  }

  told : HasLists code nested → IsWellFormed (plain code) (memberships nested)
  told lists = subst (IsWellFormed (plain code)) (groups_are nested) lists.well

  pub lawful_by : HasLists code nested → AreLawful code nested
  lawful_by lists =
      let well = told lists in
      let of_groups : All (λ (group : Group). IsGroup (plain code) (memberships nested) (membership group)) nested.conversations.items =
      All-from_map (IsGroup (plain code) (memberships nested)) membership nested.conversations.items well.conversations in
      record {
        few = record {
          processes = omega (arith, well.few_processes, length-map code.processes.items plain_part);
          channels = omega (arith, well.few_channels, length-map code.channels.items plain_channel);
          conversations = omega (arith, well.few_conversations, length-map nested.conversations.items membership);
        };
        named = record {
          processes =
              sym (length-map code.names.processes.items process_naming) ∙ well.named.processes_each ∙ length-map code.processes.items plain_part;
          channels = well.named.channels_each ∙ length-map code.channels.items plain_channel;
          conversations = well.named.conversations_each ∙ length-map nested.conversations.items membership;
        };
        spelled = record {
          names = record {
            processes = All-from_map (NamesProcess code.edition) process_naming code.names.processes.items well.named.processes;
            channels = record { each = well.named.channels };
            conversations = record { each = well.named.conversations };
          };
          procedures =
              All-weaker (λ (process : ProcessCode). NamesAll code (plain_part process)) (NamesProcedures code.edition) (part_named code)
              code.processes.items (All-from_map (NamesAll code) plain_part code.processes.items well.named.procedures);
          texts = record { each = well.texts };
        };
        there = record {
          processes = All-from_map (IsPart (plain code)) plain_part code.processes.items well.processes;
          channels = All-from_map (JoinsTwo (plain code)) plain_channel code.channels.items well.channels;
          listed = well.lists;
          blocks = All-from_map (IsBlock (plain code) (memberships nested)) plain_block code.blocks.items well.blocks;
          instrs = well.instrs;
          variables = lists.lie;
        };
        nest = record {
          members = λ k d within.
              members_by code (memberships nested) (membership (get_or nested.conversations.items k d)) (of_groups k d within);
          parents = λ k d within. record { parent = (of_groups k d within).parent };
          chains = chains_by nested.conversations.items well.chains;
        };
      }

  pub differ_by : HasLists code nested → IsDistinct same_name (outer_names (naming code.names))
  differ_by lists = lists.well.named.differ

  pub each_by : HasLists code nested → HasOneEach (plain code)
  each_by lists = lists.well.one_each
