-- All numbers and lengths of the code of an accepted source, and of its conversations, lie in the ranges of an image.
use Rattle.std.proofs.Common.{◌≡◌, ℕ, zero, suc, ◌<◌, ◌≤◌, ◌^◌, List, [], ◌∷◌, length, slice_get, sum_by, Some, refl, sym, ap, subst, arith}
use Rattle.std.specs.List.{All, AllByRecursion}
use Rattle.std.proofs.lemmas.List.Elements.{recursion_from_All}
use Rattle.std.proofs.lemmas.Option.{slice_get_within}
use Rattle.rb_syntax.specs.Tree.{Tree}
use Rattle.rb_world.proofs.ListFacts.{none_some, some_same}
use Rattle.rb_world.specs.Kind.{Ends, Membership}
use Rattle.rb_world.specs.Text.{Naming, ProcessNaming, VariableNaming}
use Rattle.rb_meaning.specs.Groups.{groups_of}
use Rattle.rb_scope.specs.Limits.{ProcessWithin}
use Rattle.rb_scope.specs.Resolved.{IsResolved}
use Rattle.rb_scope.specs.Spelled.{IsNaming, IsQuotable}
use Rattle.rb_scope.specs.declared.slot.Slot.{Slot}
use Rattle.rb_scope.proofs.EachSite.{all_at, all_weaker}
use Rattle.rb_scope.proofs.WithinLimits.{within_limits}
use Rattle.rb_judge.proofs.Alternates.{accepted_have_alternates}
use Rattle.rb_judge.proofs.BlocksInOrder.{parsed_are_numbered}
use Rattle.rb_judge.proofs.Spelling.{accepted_are_spelled}
use Rattle.rb_code.specs.Instructions.Plain.{Block, Code, Part, Procedure}
use Rattle.rb_code.specs.SoundCode.WellFormed.{IsWellFormed, Names, NamesProcess, NamesVariable}
use Rattle.rb_code.specs.SoundCode.WellFormed as well
use Rattle.rb_code.specs.declared.instr.Instr.{Instr}
use Rattle.rb_code.specs.declared.instr.Instr.TheVariants.{Push, Load, Prior, Bound, LoadAt, PriorAt, Store, StoreAt, Jump, JumpZero, Frame, Drop, Text, Room, Put, There, Take, Call, Enter, Start, Test, Range, Again, Counter, Absent}
use Rattle.rb_prepare.proofs.AcceptedCode.{IsCodeOf}
use Rattle.rb_prepare.proofs.Forming.FormedCode.{code_is_well_formed}
use Rattle.rb_prepare.proofs.Operands.RoomFound.{accepted_find_room}
use Rattle.rb_image.specs.Image.{process_names, variable}
use Rattle.rb_image.specs.Instrs.{instr}
use Rattle.rb_image.specs.Pieces.{text}
use Rattle.rb_image.specs.Ranges.{Are, AreFew, AreProcessNames, InRanges, IsBlock, IsChannel, IsCode, IsGroup, IsInstr, IsNatural, IsProcedure, IsProcess, IsText, IsVariable}
use Rattle.rb_image.proofs.Instructions.{instr_long}
use Rattle.rb_sizes.specs.Laws.{CompiledCodeIsInRanges, CountsAlternates}
use Rattle.rb_sizes.proofs.Weighing.Derived.{weighs_no_more}
use Rattle.rb_sizes.proofs.Weighing.Sizes.{line_fits}
use Rattle.rb_sizes.proofs.Weighing.Weights.{weight}
use Rattle.rb_sizes.proofs.Spending.Spent.{block_cost, parts_cost}
use Rattle.rb_sizes.proofs.Spending.ImageSizes.{items_long, items_more, processes_long, text_long}
use Rattle.rb_sizes.proofs.Spending.NameSizes.{process_names_long, variable_long}
use Rattle.rb_sizes.proofs.Short.{blocks_fit, image_fits, image_long}
use Rattle.rb_sizes.proofs.Ranging.Bounds.{BeginsFew, channels_small, each_of, few_items, few_of_sum, few_procedures, from_each, members_few, most_few, one_of_sum, one_part, optional_few, processes_begin}
use Rattle.rb_sizes.proofs.Ranging.Joined.{alternates_few}
use Rattle.rb_sizes.proofs.Ranging.Kept.{IsSmall}
use Rattle.rb_sizes.proofs.Ranging.Processes.{all_small}

-- an instruction whose numbers name what is there, or are small
instr_in_range : (c : Code) (one : Instr) → length c.instrs ≤ 2 ^ 24 → length c.texts ≤ 2 ^ 24 → length c.blocks ≤ 2 ^ 24
    → length c.channels ≤ 64 → Names c one → IsSmall one → IsInstr one
instr_in_range c (Push n) i t b ch names small = small
instr_in_range c (Load v) i t b ch names small = small
instr_in_range c (Prior v) i t b ch names small = small
instr_in_range c (Bound n) i t b ch names small = small
instr_in_range c (LoadAt v) i t b ch names small = small
instr_in_range c (PriorAt v) i t b ch names small = small
instr_in_range c (Store v) i t b ch names small = small
instr_in_range c (StoreAt v) i t b ch names small = small
instr_in_range c (Jump a) i t b ch names small = omega arith
instr_in_range c (JumpZero a) i t b ch names small = omega arith
instr_in_range c (Frame n) i t b ch names small = small
instr_in_range c (Drop n) i t b ch names small = small
instr_in_range c (Text k) i t b ch names small = omega arith
instr_in_range c (Room k) i t b ch names small = omega arith
instr_in_range c (Put k) i t b ch names small = omega arith
instr_in_range c (There k) i t b ch names small = omega arith
instr_in_range c (Take k) i t b ch names small = omega arith
instr_in_range c (Call a p n) i t b ch names small = (omega arith, small)
instr_in_range c (Enter k) i t b ch names small = omega arith
instr_in_range c (Start k) i t b ch names small = omega arith
instr_in_range c (Test k) i t b ch names small = omega arith
instr_in_range c (Range k a) i t b ch names small = (let h = names.0 in omega arith, let h = names.1 in omega arith)
instr_in_range c (Again k a) i t b ch names small = (let h = names.0 in omega arith, let h = names.1 in omega arith)
instr_in_range c (Counter k) i t b ch names small = omega arith
instr_in_range c (Absent k a) i t b ch names small = (let h = names.0 in omega arith, let h = names.1 in omega arith)
instr_in_range c _ i t b ch names small = tt

-- addresses of instructions
addresses_in_range : (c : Code) (addresses : List ℕ) → length c.instrs ≤ 2 ^ 24 → AllByRecursion (λ a. a < length c.instrs) addresses
    → AllByRecursion IsNatural addresses
addresses_in_range c addresses few all = all_weaker (λ a. a < length c.instrs) IsNatural addresses (λ a h. omega arith) all

module _ (tree : Tree) (slots : List Slot) (c : Code) (counts : List ℕ) (light : weight tree ≤ 2 ^ 20) (resolved : IsResolved tree slots)
    (code : IsCodeOf tree slots c) where
  formed : IsWellFormed c (groups_of tree)
  formed = code_is_well_formed tree slots c code

  -- how long its lists are
  record Lengths : Type 0 where
    instrs : length c.instrs ≤ 2 ^ 24
    processes : length c.processes ≤ 64
    parts : parts_cost c.processes ≤ 2 ^ 24
    blocks : length c.blocks ≤ 2 ^ 24
    block_costs : sum_by block_cost c.blocks ≤ 2 ^ 24
    channels : length c.channels ≤ 64
    texts : length c.texts ≤ 2 ^ 24
    names : items_long process_names c.names.processes ≤ 2 ^ 24
    groups : length (groups_of tree) ≤ 64

  lengths : Lengths
  lengths =
      let all = image_fits tree slots c counts code.numbered code.stands in
      let long = image_long c (groups_of tree) counts in
      let blocks = blocks_fit tree slots c code.numbered code.stands in
      let processes = formed.few_processes in
      let most = (most_few c.edition).0 in
      let parts = processes_long c.processes in record {
        instrs = (let few = few_items instr instr_long c.instrs in omega arith);
        processes = omega arith;
        parts = omega arith;
        blocks = (let few = few_of_sum block_cost (λ one. omega arith) c.blocks in omega arith);
        block_costs = omega arith;
        channels = formed.few_channels;
        texts = (let few = few_items text (λ one. (let h = text_long one in omega arith)) c.texts in omega arith);
        names = omega arith;
        groups = formed.few_conversations;
      }

  instr_fits : (k : ℕ) (one : Instr) → slice_get c.instrs k ≡ Some one → IsInstr one
  instr_fits k one e =
      let l = lengths in
      instr_in_range c one l.instrs l.texts l.blocks l.channels (each_of (Names c) c.instrs formed.instrs k one e)
      (all_small tree slots c resolved light code.stands k one e (slice_get_within c.instrs k one e))

  procedure_fits : (part : Part) → well.IsPart c part → (k : ℕ) (one : Procedure) → slice_get part.procedures k ≡ Some one
      → IsNaming c.edition one.name → IsProcedure one
  procedure_fits part is k one e naming =
      let l = lengths in
      let instrs = l.instrs in
      let start = each_of (λ (one : Procedure). one.start < length c.instrs) part.procedures is.procedures k one e in
      let short = naming.1 in record { name = omega arith; start = omega arith }

  process_fits : (p : ℕ) (part : Part) → slice_get c.processes p ≡ Some part → IsProcess part
  process_fits p part e =
      let l = lengths in
      let instrs = l.instrs in
      let parts = l.parts in
      let channels = l.channels in
      let is = each_of (well.IsPart c) c.processes formed.processes p part e in
      let start = is.start in
      let words = is.words in
      let most = (most_few c.edition).1 in
      let own = one_part c.processes p part e in
      let few = few_procedures part.procedures in
      let listed = channels_small p 0 c.channels (omega arith) in
      let named =
      each_of (λ (part : Part). All (λ (one : Procedure). IsNaming c.edition one.name) part.procedures) c.processes formed.named.procedures p part e in
      let less = listed.0 in record {
        start = omega arith;
        words = omega arith;
        channels = subst (Are IsNatural) (sym (formed.lists p part e)) (omega arith, listed.1);
        procedures = (
          omega arith,
          from_each IsProcedure part.procedures (λ k one at. procedure_fits part is k one at (each_of (λ (one : Procedure). IsNaming c.edition one.name) part.procedures named k one at)),
        );
      }

  block_fits : (b : ℕ) (block : Block) → slice_get c.blocks b ≡ Some block → IsBlock block
  block_fits b block e =
      let l = lengths in
      let instrs = l.instrs in
      let groups = l.groups in
      let costs = l.block_costs in
      let own = one_of_sum block_cost c.blocks b block e in
      let is = each_of (well.IsBlock c (groups_of tree)) c.blocks formed.blocks b block e in
      let bound = is.bound.1 in
      let restart = is.restart in
      let test = is.test in record {
        line = line_fits block.line (omega arith);
        conversation = optional_few block.conversation (λ d there. (let below = is.conversation d there in omega arith));
        bound = omega arith;
        restart = omega arith;
        test = omega arith;
        alternates = (omega arith, addresses_in_range c block.alternates instrs (recursion_from_All (λ a. a < length c.instrs) block.alternates is.alternates));
      }

  channel_fits : (k : ℕ) (ends : Ends) → slice_get c.channels k ≡ Some ends → IsChannel ends
  channel_fits k ends e =
      let l = lengths in
      let processes = l.processes in
      let is = each_of (well.JoinsTwo c) c.channels formed.channels k ends e in
      let sender = is.sender in
      let receiver = is.receiver in
      let size = is.size.1 in record { sender = omega arith; receiver = omega arith; size = omega arith }

  variable_fits : (one : VariableNaming) → NamesVariable c.edition one → BeginsFew one → IsVariable one
  variable_fits one is begins =
      let short = is.name.1 in record {
        name = omega arith;
        at = begins;
        size = optional_few one.size (λ n there. (let few = is.size n there in omega arith));
      }

  process_names_fit : (p : ℕ) (one : ProcessNaming) → slice_get c.names.processes p ≡ Some one → AreProcessNames one
  process_names_fit p one e =
      let l = lengths in
      let names = l.names in
      let is = each_of (NamesProcess c.edition) c.names.processes formed.named.processes p one e in
      let short = is.name.1 in
      let limits = within_limits tree code.scoped in
      let tree_begins = processes_begin tree.edition tree.processes (recursion_from_All (ProcessWithin tree.edition) tree.processes limits.processes) in
      let all_begin =
      subst (λ (names : Naming). AllByRecursion (λ (one : ProcessNaming). AllByRecursion BeginsFew one.variables) names.processes)
      (sym code.stands.names_are) tree_begins in
      let begin = all_at (λ (one : ProcessNaming). AllByRecursion BeginsFew one.variables) c.names.processes p one all_begin e in
      let own = long_names c.names.processes p one e in
      let few = few_items variable (λ v. (let h = variable_long v in omega arith)) one.variables in record {
        name = omega arith;
        variables = (
          omega arith,
          from_each IsVariable one.variables (λ k v at. variable_fits v (each_of (NamesVariable c.edition) one.variables is.variables k v at)
              (all_at BeginsFew one.variables k v begin at)),
        );
      }
    where
      long_names : (all : List ProcessNaming) (i : ℕ) (one : ProcessNaming) → slice_get all i ≡ Some one
          → items_long variable one.variables ≤ items_long process_names all
      long_names [] i one e = absurd (none_some e)
      long_names (first ∷ others) zero one e =
          let same = ap (λ (o : ProcessNaming). items_long variable o.variables) (some_same e) in
          let more = items_more process_names first others in let here = process_names_long first in omega arith
      long_names (first ∷ others) (suc i) one e =
          let rest = long_names others i one e in let more = items_more process_names first others in omega arith

  texts_fit : (names : List (List ℕ)) → length names ≤ 64 → AllByRecursion (IsNaming c.edition) names → AreFew IsText names
  texts_fit names few all =
      ((omega arith, all_weaker (IsNaming c.edition) IsText names (λ name h. (let short = h.1 in omega arith)) all), omega arith)

  code_in_ranges : IsCode c
  code_in_ranges =
      let l = lengths in
      let instrs = l.instrs in
      let processes = l.processes in
      let blocks = l.blocks in
      let channels = l.channels in
      let texts = l.texts in
      let groups = l.groups in
      let named = formed.named in
      let as_processes = named.processes_each in
      let as_channels = named.channels_each in
      let as_conversations = named.conversations_each in record {
        instrs = (omega arith, from_each IsInstr c.instrs instr_fits);
        processes = (omega arith, from_each IsProcess c.processes process_fits);
        blocks = (omega arith, from_each IsBlock c.blocks block_fits);
        channels = (omega arith, from_each IsChannel c.channels channel_fits);
        texts = (
          omega arith,
          all_weaker IsQuotable IsText c.texts (λ one h. (let short = h.1 in omega arith)) (recursion_from_All IsQuotable c.texts formed.texts),
        );
        names = record {
          processes = ((omega arith, from_each AreProcessNames c.names.processes process_names_fit), omega arith);
          channels = texts_fit c.names.channels (omega arith) (recursion_from_All (IsNaming c.edition) c.names.channels named.channels);
          conversations =
              texts_fit c.names.conversations (omega arith) (recursion_from_All (IsNaming c.edition) c.names.conversations named.conversations);
        };
      }

  group_fits : (d : ℕ) (group : Membership) → slice_get (groups_of tree) d ≡ Some group → IsGroup group
  group_fits d group e =
      let l = lengths in
      let processes = l.processes in
      let groups = l.groups in
      let is = each_of (well.IsGroup c (groups_of tree)) (groups_of tree) formed.conversations d group e in
      let few = all_at (λ (one : Membership). length one.members < 2 ^ 64) (groups_of tree) d group
      (members_few tree tree.conversations (omega arith)) e in
      let members = recursion_from_All (λ (m : ℕ). m < length c.processes) group.members is.processes in record {
        members = (few, all_weaker (λ (m : ℕ). m < length c.processes) IsNatural group.members (λ m h. omega arith) members);
        parent = optional_few group.parent (λ n there.
            let around = is.parent n there in
            let below = slice_get_within (groups_of tree) n around.0 around.1 in omega arith);
      }

  pub in_ranges : CountsAlternates tree counts → InRanges c (groups_of tree) counts
  in_ranges counted =
      let l = lengths in
      let groups = l.groups in record {
        lists = code_in_ranges;
        as_many = counted.as_many;
        few = omega arith;
        conversations = from_each IsGroup (groups_of tree) group_fits;
        alternates = from_each IsNatural counts (λ d n e. (let few = alternates_few tree d light in let is = counted.each d n e in omega arith));
      }

pub compiled_code_is_in_ranges : CompiledCodeIsInRanges
compiled_code_is_in_ranges source tree slots c counts short accepted resolved frames stands counted =
    let weighs = weighs_no_more source tree short accepted.derived in record {
      spelled = refl;
      ranges = in_ranges tree slots c counts (omega arith) resolved (record {
        resolved = frames;
        scoped = accepted.scoped;
        nested = accepted.nested;
        spelled = accepted_are_spelled source tree accepted;
        numbered = parsed_are_numbered source tree accepted.derived;
        alternates = accepted_have_alternates source tree accepted;
        few = accepted_find_room source tree accepted;
        stands = stands;
      }) counted;
    }
