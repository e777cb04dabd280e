-- Code that stands for an accepted tree is well formed, with the tree's conversations.
use Rattle.std.proofs.Common.{◌≡◌, inl, inr, ℕ, zero, suc, ◌+◌, ◌-◌, ◌<◌, ◌≤◌, nat_eq, Bool, true, false, not, List, [], ◌∷◌, length, slice_get, unwrap_or, Option, Some, refl, ap, sym, ◌∙◌, subst, arith}
use Rattle.std.proofs.lemmas.List.{length-map}
use Rattle.std.proofs.lemmas.List.Elements.{All-from_recursion}
use Rattle.std.proofs.lemmas.Option.{slice_get_within}
use Rattle.std.specs.List.{AllByRecursion}
use Rattle.rb_base.specs.declared.limits.TheConstants.{MOST_CHANNEL_SIZE, MOST_NESTED}
use Rattle.rb_base.specs.Limits.{most_processes, most_words}
use Rattle.rb_syntax.specs.Tree.{ChannelDeclaration, ConversationDeclaration, Identifier, ProcessDeclaration, Tree}
use Rattle.rb_world.specs.Kind.{Ends as ChannelEnds, Membership}
use Rattle.rb_world.proofs.ListFacts.{slice_get-there, some_same}
use Rattle.rb_meaning.specs.Groups.{channels_of, ends_of, groups_of, membership_of}
use Rattle.rb_meaning.specs.Nesting.{alternates_of, keeps_n12, uses_of}
use Rattle.rb_scope.specs.InFrames.{ChannelInFrames}
use Rattle.rb_scope.specs.Limits.{IsFrom1To, ProcessWithin}
use Rattle.rb_scope.specs.Spelled.{IsQuotable}
use Rattle.rb_scope.specs.declared.slot.Slot.{Slot}
use Rattle.rb_scope.proofs.EachSite.{all_both, all_at}
use Rattle.rb_nest.specs.Rules.{conversation_faults}
use Rattle.rb_code.specs.Instructions.Plain.{Block, Code, Part, Procedure}
use Rattle.rb_code.specs.WordMachine.Workspace.{no_part}
use Rattle.rb_code.specs.SoundCode.Sound.{Each, IsProcedureAt}
use Rattle.rb_code.specs.Agreement.StandsFor.{channels_from}
use Rattle.rb_code.specs.SoundCode.WellFormed.{IsBlock, IsChain, IsGroup, IsPart, IsWellFormed, JoinsTwo, Names, is_entry, is_start, is_test}
use Rattle.rb_code.specs.declared.instr.Instr.{Instr}
use Rattle.rb_code.specs.declared.instr.Instr.TheVariants.{Text, Jump, JumpZero, Room, Put, There, Take, Call, Enter, Start, Test, Range, Again, Counter, Absent}
use Rattle.rb_code.proofs.WholeRuns.ProcessesBegin.{all_there}
use Rattle.rb_code.proofs.WholeRuns.ChannelsOfProcesses.{holds_at}
use Rattle.rb_prepare.proofs.Walking.Laid.{BlockLies, Inside, Right, count_all, count_to, one_if}
use Rattle.rb_prepare.proofs.Walking.Walked.{IsPlain}
use Rattle.rb_prepare.proofs.Walking.ProcessWalks.{IsRow}
use Rattle.rb_prepare.proofs.Walking.WholeWalk.{Place, Spread, begin_at, end_at, place_of, spread_counted, spread_long}
use Rattle.rb_prepare.proofs.OwnTable.{place_at}
use Rattle.rb_prepare.proofs.Forming.Numbers.{has_number, one_of_each}
use Rattle.rb_prepare.proofs.Joining.Counting.{all_placed, counted_there, entry_is, mapped_from, number_at, text_named}
use Rattle.rb_prepare.proofs.Forming.FoundNames.{MembersNamed, all_members_named}
use Rattle.rb_prepare.proofs.Forming.NestingKept.{IsOrderly, all_orderly, no_conversation_faults}
use Rattle.rb_prepare.proofs.Forming.PlacedUses.{IsChained, processes_chained}
use Rattle.rb_prepare.proofs.Forming.Groups.{IsKnown, group_formed, none_at}
use Rattle.rb_prepare.proofs.Forming.NamedCode.{code_is_named}
use Rattle.rb_prepare.proofs.AcceptedCode.{IsCodeOf, as_many_channels, distinct, is_nested, limits, nothing, places, plain_spread, spread_by, weightless}

not_so : (b : Bool) → not b ≡ true → b ≡ false
not_so false e = refl
not_so true e = sym e

entry_at : (entries : List Procedure) (k : ℕ) (one : Procedure) → slice_get entries k ≡ Some one → IsProcedureAt entries one.start
entry_at [] k one at = absurd (cc)
entry_at (entry ∷ entries) zero one at = inl (ap (λ (x : Procedure). x.start) (some_same at))
entry_at (entry ∷ entries) (suc k) one at = inr (entry_at entries k one at)

each_below : (n : ℕ) (P : ℕ → Type 0) → ((x : ℕ) → P x → x < n) → (xs : List ℕ) → Each xs P → AllByRecursion (λ (a : ℕ). a < n) xs
each_below n P h [] all = tt
each_below n P h (x ∷ xs) all = (h x all.0, each_below n P h xs all.1)

plain_entry : (b : ℕ) (instr : Instr) → IsPlain instr → is_entry b instr ≡ false
plain_entry b (Enter d) h = absurd h
plain_entry b other h = refl

plain_start : (b : ℕ) (instr : Instr) → IsPlain instr → is_start b instr ≡ false
plain_start b (Start d) h = absurd h
plain_start b other h = refl

plain_test : (b : ℕ) (instr : Instr) → IsPlain instr → is_test b instr ≡ false
plain_test b (Test d) h = absurd h
plain_test b other h = refl

module _ (tree : Tree) (slots : List Slot) (c : Code) (code : IsCodeOf tree slots c) where
  abbrev groups : List Membership
  groups = groups_of tree

  abbrev ends : List ℕ
  ends = places tree slots c code

  abbrev none_counted : Instr → Bool
  none_counted = nothing tree slots c code

  abbrev no_weight : ℕ → Option Identifier → ℕ
  no_weight = weightless tree slots c code

  spread : Spread c tree none_counted no_weight 0 tree.processes c.processes ends 0 (length c.instrs)
  spread = plain_spread tree slots c code

  pub many_processes : length c.processes ≡ length tree.processes
  many_processes = spread_long c tree none_counted no_weight 0 tree.processes c.processes ends 0 (length c.instrs) spread

  -- an address of the code
  record Here (x : ℕ) : Type 0 where
    number : ℕ
    process : ProcessDeclaration
    place : Place c tree none_counted no_weight c.processes ends 0 number number process 0 (length c.instrs)
    some : begin_at 0 ends number < end_at 0 ends number
    row : IsRow c tree number none_counted (begin_at 0 ends number) (end_at 0 ends number) x

  here : (x : ℕ) → x < length c.instrs → Here x
  here x below =
      let found = place_at c tree none_counted no_weight ends spread x below in
      let low = found.3 in let high = found.4 in record {
        number = found.0;
        process = found.1;
        place = found.2;
        some = omega arith;
        row = found.2.rows.rows.each x found.3 found.4;
      }

  -- at an address where an instruction is
  right_at : (x : ℕ) (instr : Instr) → slice_get c.instrs x ≡ Some instr → (h : Here x)
      × Right c tree h.number (begin_at 0 ends h.number) (end_at 0 ends h.number - 1) x instr
  right_at x instr at =
      let h = here x (slice_get_within c.instrs x instr at) in
      (h, subst (Right c tree h.number (begin_at 0 ends h.number) (end_at 0 ends h.number - 1) x) (some_same (sym h.row.1 ∙ at)) h.row.2)

  module _ (x : ℕ) (h : Here x) where
    abbrev low : ℕ
    low = begin_at 0 ends h.number

    abbrev high : ℕ
    high = end_at 0 ends h.number

    below : (a : ℕ) → Inside low (high - 1) a → a < length c.instrs
    below a (up, to) = let high' = h.place.high in let some = h.some in omega arith

    names_of : (instr : Instr) → Right c tree h.number low (high - 1) x instr → Names c instr
    names_of (Jump a) right = below a right
    names_of (JumpZero a) right = below a right
    names_of (Text k) right = slice_get_within c.texts k right.0 right.1
    names_of (Room channel) right = right
    names_of (Put channel) right = right
    names_of (There channel) right = right
    names_of (Take channel) right = right
    names_of (Absent channel a) right = (right.0, below a right.1)
    names_of (Call a p n) right =
        let to = h.place.rows.inside a (subst (λ o. IsProcedureAt (unwrap_or o no_part).procedures a) h.place.listed right) in
        let before = to.1 in let high' = h.place.high in omega arith
    names_of (Enter b) right = slice_get_within c.blocks b right.0 right.1
    names_of (Start b) right = slice_get_within c.blocks b right.0 right.1
    names_of (Test b) right = slice_get_within c.blocks b right.0 right.1
    names_of (Range k a) right = (right.0, below a right.1)
    names_of (Again k a) right = (right.0, below a (let up = right.1.0 in omega arith, right.1.1))
    names_of (Counter k) right = right
    names_of other right = tt

  -- how many instructions of a block there are
  counted : (b : ℕ) (f : Instr → Bool) → b < length c.blocks → ((instr : Instr) → IsPlain instr → f instr ≡ false)
      → ((number : ℕ) → one_if (f (Enter number)) + (one_if (f (Start number)) + one_if (f (Test number))) ≡ one_if (nat_eq number b))
      → count_to f (length c.instrs) c.instrs ≡ 1
  counted b f below plain weighs =
      let known = spread_by tree slots c code f (has_number b) plain (λ number conversation block at is. weighs number) in
      let many = code.stands.one_block_each in
      spread_counted c tree f (has_number b) 0 tree.processes c.processes ends 0 (length c.instrs) known
      ∙ omega (arith, one_of_each b tree code.numbered (omega arith))

  entries_counted : (b : ℕ) → b < length c.blocks → count_to (is_entry b) (length c.instrs) c.instrs ≡ 1
  entries_counted b below = counted b (is_entry b) below (plain_entry b) (λ number. omega arith)

  -- a recovery block lies in the code
  record BlockHere (b : ℕ) : Type 0 where
    block : Block
    at : slice_get c.blocks b ≡ Some block
    first : ℕ
    last : ℕ
    inside : last < length c.instrs
    lies : BlockLies tree first last block

  block_here : (b : ℕ) → b < length c.blocks → BlockHere b
  block_here b within =
      let some = entries_counted b within in
      let found = counted_there (is_entry b) c.instrs 0 (length c.instrs) (omega arith) (omega arith) in
      let right = right_at found.0 (Enter b) (found.4 ∙ ap Some (entry_is b found.1 found.5)) in
      let h = right.0 in let high' = h.place.high in let some' = h.some in record {
        block = right.1.0;
        at = right.1.1;
        first = begin_at 0 ends h.number;
        last = end_at 0 ends h.number - 1;
        inside = omega arith;
        lies = right.1.2;
      }

  pub block_formed : (b : ℕ) (block : Block) → slice_get c.blocks b ≡ Some block → IsBlock c groups block
  block_formed b block at =
      let h = block_here b (slice_get_within c.blocks b block at) in
      let lies = subst (BlockLies tree h.first h.last) (some_same (sym h.at ∙ at)) h.lies in
      let inside = h.inside in record {
        bound = lies.bound;
        some = lies.some;
        conversation = λ d is. let k = (lies.conversation d is).0 in omega (arith, length-map tree.conversations (membership_of tree));
        restart = let to = lies.restart.1 in omega arith;
        test = let to = lies.test.1 in omega arith;
        alternates =
            All-from_recursion (λ (a : ℕ). a < length c.instrs) block.alternates
            (each_below (length c.instrs) (Inside h.first h.last) (λ x k. let to = k.1 in omega arith) block.alternates lies.alternates);
      }

  pub alternates_known : (b d : ℕ) (block : Block) → slice_get c.blocks b ≡ Some block → block.conversation ≡ Some d
      → alternates_of tree d ≡ Some (length block.alternates)
  alternates_known b d block at is =
      let h = block_here b (slice_get_within c.blocks b block at) in
      ((subst (BlockLies tree h.first h.last) (some_same (sym h.at ∙ at)) h.lies).conversation d is).1

  part_formed : (p : ℕ) (part : Part) → slice_get c.processes p ≡ Some part
      → IsPart c part × (part.channels ≡ channels_from p 0 c.channels)
  part_formed p part at =
      let within = slice_get_within c.processes p part at in
      let many = many_processes in
      let process = slice_get-there tree.processes p (omega arith) in
      let place = place_of c tree none_counted no_weight 0 tree.processes c.processes ends 0
      (length c.instrs) spread p p process.0 (omega arith) process.1 in
      let same : place.part ≡ part = some_same (sym place.listed ∙ at) in
      let rows = place.rows in let up = rows.upward in let below' = rows.below in let high' = place.high in
      let few = (all_there (ProcessWithin tree.edition) tree.processes p process.0 (limits tree slots c code).processes process.1).words in
      subst (λ (q : Part). IsPart c q × (q.channels ≡ channels_from p 0 c.channels)) same (
        record {
          words = subst (λ edition. place.part.words ≤ most_words edition) (sym code.stands.edition_is) (omega (arith, rows.words, few));
          start = let start = rows.start in omega arith;
          procedures =
              all_placed (λ (one : Procedure). one.start < length c.instrs) place.part.procedures
              (λ k one there. let to = (rows.inside one.start (entry_at place.part.procedures k one there)).1 in omega arith);
        },
        rows.channels ∙ ap (channels_from p 0) (sym code.stands.channels_are),
      )

  channel_formed : (k : ℕ) (ends : ChannelEnds) → slice_get c.channels k ≡ Some ends → JoinsTwo c ends
  channel_formed k ends at =
      let there = ap (λ cs. slice_get cs k) (sym code.stands.channels_are) ∙ at in
      let from = mapped_from (ends_of tree) tree.channels k ends there in
      let known = all_there (ChannelInFrames tree slots) tree.channels k from.0 code.resolved.channels from.1 in
      let size = all_there (λ (one : ChannelDeclaration). IsFrom1To MOST_CHANNEL_SIZE one.size) tree.channels k from.0
      (limits tree slots c code).channel_sizes from.1 in
      let twelfth = holds_at keeps_n12 (channels_of tree) k ends (is_nested tree slots c code).n12 there in
      let sender = known.sender.there in let receiver = known.receiver.there in let many = many_processes in
      let known_ends =
      subst (λ (e : ChannelEnds). (e.sender < length c.processes) × (e.receiver < length c.processes) × (1 ≤ e.size)
      × (e.size ≤ MOST_CHANNEL_SIZE)) from.2
      (omega arith, omega arith, size.some, size.few) in record {
        sender = known_ends.0;
        receiver = known_ends.1;
        differ = not_so (nat_eq ends.sender ends.receiver) twelfth;
        size = (known_ends.2, known_ends.3);
      }

  text_formed : (k : ℕ) (text : List ℕ) → slice_get c.texts k ≡ Some text → IsQuotable text
  text_formed k text at =
      let named = text_named c.instrs k (0 + k) (ap (λ ks. slice_get ks k) code.stands.one_text_each ∙ number_at 0 k c.texts text at) in
      let right = right_at named.0 (Text (0 + k)) named.1 in
      let same : 0 + k ≡ k = omega arith in
      let is : right.1.0 ≡ text = some_same (sym right.1.1 ∙ ap (slice_get c.texts) same ∙ at) in
      subst IsQuotable is right.1.2

  pub uses_known : AllByRecursion (IsKnown tree (distinct tree slots c code)) (uses_of tree)
  uses_known =
      all_both (IsOrderly tree) (IsChained tree) (uses_of tree) (all_orderly tree code.nested)
      (processes_chained tree 0 tree.processes (is_nested tree slots c code).n4)

  conversation_formed : (d : ℕ) (conversation : ConversationDeclaration) → slice_get tree.conversations d ≡ Some conversation
      → IsGroup c groups (membership_of tree conversation) × IsChain groups MOST_NESTED (Some d)
  conversation_formed d conversation at =
      group_formed tree (distinct tree slots c code) c d conversation many_processes at
      (all_at (MembersNamed tree) tree.conversations d conversation (all_members_named tree code.scoped) at)
      (none_at (conversation_faults tree) tree.conversations d conversation (no_conversation_faults tree code.nested) at) uses_known

  pub code_is_well_formed : IsWellFormed c (groups_of tree)
  code_is_well_formed = record {
    few_processes =
        let few = (limits tree slots c code).few_processes in let many = many_processes in
        subst (λ edition. length c.processes ≤ most_processes edition) (sym code.stands.edition_is) (omega arith);
    few_channels = let few = (limits tree slots c code).few_channels in let many = as_many_channels tree slots c code in omega arith;
    few_conversations = let few = (limits tree slots c code).few_conversations in omega (arith, length-map tree.conversations (membership_of tree));
    named = code_is_named tree slots c code;
    texts = all_placed IsQuotable c.texts text_formed;
    processes = all_placed (IsPart c) c.processes (λ p part at. (part_formed p part at).0);
    channels = all_placed (JoinsTwo c) c.channels channel_formed;
    lists = λ p part at. (part_formed p part at).1;
    blocks = all_placed (IsBlock c groups) c.blocks block_formed;
    instrs = all_placed (Names c) c.instrs (λ x instr at. let right = right_at x instr at in names_of x right.0 instr right.1);
    one_each = λ b below. (
      sym (count_all (is_entry b) c.instrs) ∙ entries_counted b below,
      sym (count_all (is_start b) c.instrs) ∙ counted b (is_start b) below (plain_start b) (λ number. omega arith),
      sym (count_all (is_test b) c.instrs) ∙ counted b (is_test b) below (plain_test b) (λ number. omega arith),
    );
    conversations =
        all_placed (IsGroup c groups) groups
        (λ k group at. let from = mapped_from (membership_of tree) tree.conversations k group at in
        subst (IsGroup c groups) from.2 (conversation_formed k from.0 from.1).0);
    chains = λ d below.
        let there = slice_get-there tree.conversations d (omega (arith, below, length-map tree.conversations (membership_of tree))) in
        (conversation_formed d there.0 there.1).1;
  }
