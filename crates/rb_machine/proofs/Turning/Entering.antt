-- Where the entry of a recovery block leads, in the world that the machine's parts stand for.
use Rattle.std.proofs.Common.{◌≡◌, ℕ, zero, suc, ◌<◌, ◌≤◌, nat_le, Bool, true, false, cond, List, [], ◌∷◌, ◌++◌, length, map, reverse, slice_get, Option, Some, None, refl, ap, sym, ◌∙◌, subst, arith}
use Rattle.std.proofs.lemmas.List.{length-map, map-append, reverse-append}
use Rattle.std.proofs.lemmas.Bool.{le-leb}
use Rattle.std.proofs.lemmas.Bool.Decides.{nat_tests}
use Rattle.rb_base.specs.declared.event.Cause.TheVariants.{Broken, Depth}
use Rattle.rb_base.specs.declared.event.TurnKind.{TurnKind}
use Rattle.rb_base.specs.declared.event.TurnKind.TheVariants.{Took, Undone}
use Rattle.rb_world.specs.Kind.{Facts, Kind, Want, Enters}
use Rattle.rb_world.specs.Reject.{fallen, reject}
use Rattle.rb_world.specs.Slots.{Slots}
use Rattle.rb_world.specs.Turn.{Moved, enter_either, enters, join, most_levels, open_at, trapped, undone}
use Rattle.rb_world.specs.World.{Process, Talk, change_at, levels_of, with_process}
use Rattle.rb_world.proofs.ListFacts.{none_some, some_same}
use Rattle.rb_code.specs.Instructions.Plain.{Code}
use Rattle.rb_code.specs.SoundCode.Sound.{conversation_of}
use Rattle.rb_code.specs.WordMachine.Turn.{Common, Copy, Link as Kept, Standing, want}
use Rattle.rb_code.specs.WordMachine.WordRun.{WordWorld}
use Rattle.rb_conv.specs.Conversations.{Conversation, conversation_at, entered, membership, memberships, talks}
use Rattle.rb_conv.proofs.TalksAfterCalls.{members_stay, talks_are_the_worlds}
use Rattle.rb_proc.specs.Entries.{EntersAs, entered_process}
use Rattle.rb_proc.specs.Process.{Seen, kind_of}
use Rattle.rb_machine.specs.AtWork.{IsAtWork, MayActNow}
use Rattle.rb_recovery.specs.Cascade.{SameGroups}
use Rattle.rb_machine.specs.Entries.{IsListedBlock, entry_at}
use Rattle.rb_recovery.specs.Known.{IsPlaced}
use Rattle.rb_recovery.specs.Rejections.{changed}
use Rattle.rb_recovery.specs.Worlds.{counts_of, kind_with, link_of, memory_of, processes_of, world_of}
use Rattle.rb_recovery.specs.declared.links.Link.{Link}
use Rattle.rb_recovery.proofs.Changed.{change_there}
use Rattle.rb_machine.proofs.Knowing.KnownHere.{process_there}
use Rattle.rb_machine.proofs.Knowing.Placed.Wants.{IsEntering, enters_block}
use Rattle.rb_recovery.proofs.SeenWorlds.{processes_at}

-- a move without rejections or a pass has come to the world of these parts
pub record ComesTo (procs : List Seen) (table : List Conversation) (memory : Common) (turned : TurnKind)
    (moved : Moved Standing Copy Common) : Type 0 where
  pub world : world_of procs table memory ≡ moved.world
  pub kind : turned ≡ moved.kind
  pub rejections : [] ≡ moved.rejections
  pub passes : [] ≡ moved.passes

-- the process once it has entered the block that it wants to enter
pub entered_seen : (c : Code) (facts : Facts) (alternate turn : ℕ) (one later : Seen) → want c one.process.state ≡ Enters facts
    → EntersAs c (want c one.process.state) alternate turn one.process later.process → later.waiting ≡ one.waiting
    → later ≡ changed (entered_process c facts alternate turn) one
entered_seen c facts alternate turn one later wants enters waiting =
    let is : later.process ≡ entered_process c facts alternate turn one.process =
    subst (λ (w : Want). EntersAs c w alternate turn one.process later.process) wants enters in
    ap (λ (q : Process Standing Copy). record { process = q; waiting = later.waiting }) is
    ∙ ap (λ (lines : List (List ℕ)). record { process = entered_process c facts alternate turn one.process; waiting = lines }) waiting

-- who joins changes no alternate, nor who the members are
counts_joined : (p d : ℕ) (table : List Conversation) → counts_of (change_at d (entered p) table) ≡ counts_of table
counts_joined p d [] = refl
counts_joined p zero (one ∷ table) = by one.talk.is_broken refl
  where
    by : (b : Bool) → one.talk.is_broken ≡ b → counts_of (change_at 0 (entered p) (one ∷ table)) ≡ counts_of (one ∷ table)
    by true e = rw e refl
    by false e = rw e refl
counts_joined p (suc d) (one ∷ table) = ap (λ (ns : List ℕ). one.alternates ∷ ns) (counts_joined p d table)

pub joined_talks : (table table' : List Conversation) (d p : ℕ) → table' ≡ change_at d (entered p) table → talks table' ≡ talks table
joined_talks table table' d p e = ap talks e ∙ (talks_are_the_worlds.1 table d p).entry

pub joined_groups : (table table' : List Conversation) (d p : ℕ) → table' ≡ change_at d (entered p) table → SameGroups table table'
joined_groups table table' d p e = record {
  members = ap memberships e ∙ (members_stay table d p).entry;
  counts = ap counts_of e ∙ counts_joined p d table;
}

-- the link of an entry leads to the last kept turn before
pub entry_link : (turn p before last : ℕ) (links links' : List Link) → before ≡ last
    → links' ≡ links ++ record { turn = turn; process = p; alternate = 0; before = before } ∷ []
    → links' ≡ links ++ record { turn = turn; process = p; alternate = 0; before = last } ∷ []
entry_link turn p before last links links' is linked =
    subst (λ (n : ℕ). links' ≡ links ++ record { turn = turn; process = p; alternate = 0; before = n } ∷ []) is linked

-- the newest link comes first
pub link_added : (slots : Slots) (links : List Link) (link : Link)
    → memory_of slots (links ++ link ∷ []) ≡ record { slots = slots; links = link_of link ∷ (memory_of slots links).links }
link_added slots links link =
    ap (λ (ls : List Kept). record { slots = slots; links = ls })
    (ap reverse (map-append link_of links (link ∷ [])) ∙ reverse-append (map link_of links) (link_of link ∷ []))

-- the conversation of a table, as its world has it
talk_there : (table : List Conversation) (d : ℕ) → d < length table → slice_get (talks table) d ≡ Some (conversation_at table d).talk
talk_there [] d h = absurd (omega (arith, h))
talk_there (x ∷ xs) zero h = refl
talk_there (x ∷ xs) (suc d) h = talk_there xs d (omega (arith, h))

-- no level is too many below the most
pub below_most : (n : ℕ) → n < 32 → nat_le most_levels n ≡ false
below_most n h = grind (arith, nat_tests)

module _ (c : Code) (table : List Conversation) (slots : Slots) (links : List Link) (turn p : ℕ) (procs : List Seen) (facts : Facts) where
  abbrev k : Kind Standing Copy Common
  k = kind_with c table

  abbrev before : WordWorld
  before = world_of procs table (memory_of slots links)

  -- a level was opened
  pub opened_world : (one : Seen) → slice_get procs p ≡ Some one → one.process.state.process ≡ p → (alternate : ℕ) (procs' : List Seen)
      (table' : List Conversation) (links' : List Link) → procs' ≡ change_at p (changed (entered_process c facts alternate turn)) procs
      → links' ≡ links ++ record { turn = turn; process = p; alternate = 0; before = one.process.state.last_kept } ∷ []
      → talks table' ≡ talks table
      → world_of procs' table' (memory_of slots links') ≡ (open_at k turn p facts alternate one.process before).world
  opened_world one here number alternate procs' table' links' opens linked same =
      let later = entered_process c facts alternate turn one.process in
      let link : ℕ → Kept = λ r. record { turn = turn; process = r; alternate = 0; before = one.process.state.last_kept } in
      let qs : processes_of procs' ≡ change_at p (λ _. later) (processes_of procs) =
      ap processes_of opens
      ∙ (processes_at p (entered_process c facts alternate turn) procs
      ∙ change_there p (entered_process c facts alternate turn) one.process (processes_of procs) (process_there procs p one here)) in
      let m : memory_of slots links' ≡ record { slots = slots; links = link one.process.state.process ∷ (memory_of slots links).links } =
      ap (memory_of slots) linked
      ∙ (link_added slots links (record { turn = turn; process = p; alternate = 0; before = one.process.state.last_kept })
      ∙ ap (λ (r : ℕ). record { slots = slots; links = link r ∷ (memory_of slots links).links }) (sym number)) in
      ap (λ (x : List (Process Standing Copy)). record { processes = x; talks = talks table'; memory = memory_of slots links' }) qs
      ∙ (ap (λ (x : List Talk). record { processes = change_at p (λ _. later) (processes_of procs); talks = x; memory = memory_of slots links' }) same
      ∙ ap (λ (x : Common). record { processes = change_at p (λ _. later) (processes_of procs); talks = talks table; memory = x }) m)

  -- a member has failed
  pub fallen_world : (procs' : List Seen) (table' : List Conversation)
      → procs' ≡ change_at p (changed (fallen (kind_of c) Broken)) procs → talks table' ≡ talks table
      → world_of procs' table' (memory_of slots links) ≡ with_process p (fallen k Broken) before
  fallen_world procs' table' falls same =
      ap (λ (x : List (Process Standing Copy)). record { processes = x; talks = talks table'; memory = memory_of slots links })
      (ap processes_of falls ∙ processes_at p (fallen k Broken) procs)
      ∙ ap (λ (x : List Talk). record {
        processes = change_at p (fallen k Broken) (processes_of procs);
        talks = x;
        memory =
            memory_of slots links;
      }) same

  module _ (q : Process Standing Copy) where
    abbrev Falls : Moved Standing Copy Common
    Falls = undone (with_process p (fallen k Broken) before, [])

    abbrev Opens : ℕ → Moved Standing Copy Common
    Opens a = open_at k turn p facts a q before

    -- which of the two comes of a conversation
    joins : (broken : Bool) (alternate a : ℕ) → cond broken None (Some alternate) ≡ Some a → cond broken Falls (Opens alternate) ≡ Opens a
    joins true alternate a e = absurd (none_some e)
    joins false alternate a e = ap Opens (some_same e)

    bars : (broken : Bool) (alternate : ℕ) → cond broken None (Some alternate) ≡ None → cond broken Falls (Opens alternate) ≡ Falls
    bars true alternate e = refl
    bars false alternate e = absurd (none_some (sym e))

    pub either_opens : (o : Option ℕ) (a : ℕ) → ((d : ℕ) → o ≡ Some d → d < length table) → entry_at table o ≡ Some a
        → enter_either k turn p facts o q before ≡ Opens a
    either_opens None a listed e = ap Opens (some_same e)
    either_opens (Some d) a listed e =
        let talk = (conversation_at table d).talk in
        ap (join k turn p facts q before) (talk_there table d (listed d refl)) ∙ joins talk.is_broken talk.alternate a e

    pub either_falls : (o : Option ℕ) → ((d : ℕ) → o ≡ Some d → d < length table) → entry_at table o ≡ None
        → enter_either k turn p facts o q before ≡ Falls
    either_falls None listed e = absurd (none_some (sym e))
    either_falls (Some d) listed e =
        let talk = (conversation_at table d).talk in
        ap (join k turn p facts q before) (talk_there table d (listed d refl)) ∙ bars talk.is_broken talk.alternate e

  -- where the most levels are open the entry is a trap
  pub entry_trapped : (one : Seen) → slice_get procs p ≡ Some one → (levels : ℕ) → levels ≡ length one.process.levels → 32 ≤ levels
      → enters k turn p facts one.process before ≡ undone (reject k p levels Depth before)
  entry_trapped one here levels e most =
      let many : 32 ≤ length one.process.levels = omega arith in
      ap (λ (b : Bool). cond b (trapped k p Depth before) (enter_either k turn p facts facts.conversation one.process before))
      (le-leb 32 (length one.process.levels) many)
      ∙ ap (λ (n : ℕ). undone (reject k p n Depth before))
      (ap (λ (o : Option (Process Standing Copy)). length (levels_of o)) (process_there procs p one here) ∙ sym e)

  -- and else no trap
  pub entry_allowed : (q : Process Standing Copy) → length q.levels < 32
      → enters k turn p facts q before ≡ enter_either k turn p facts facts.conversation q before
  entry_allowed q few =
      ap (λ (b : Bool). cond b (trapped k p Depth before) (enter_either k turn p facts facts.conversation q before))
      (below_most (length q.levels) few)

-- what a process that wants to enter a block has
module _ (c : Code) (t : ℕ) (procs : List Seen) (table : List Conversation) (slots : Slots) (links : List Link)
    (work : IsAtWork c t procs table slots links) (p : ℕ) (one : Seen) (here : slice_get procs p ≡ Some one) (acts : MayActNow one) where
  is_placed : IsPlaced c (memberships table) work.sound.table p one.process
  is_placed = work.known.placed p one.process (process_there procs p one here)

  pub own_number : one.process.state.process ≡ p
  own_number = is_placed.number

  pub few_levels : length one.process.levels ≤ 32
  few_levels = work.known.shallow p one.process (process_there procs p one here)

  module _ (b : ℕ) (facts : Facts) (wants : want c one.process.state ≡ Enters facts) (number : facts.number ≡ b) where
    is_entering : IsEntering c (memberships table) facts
    is_entering =
        let sound = work.sound in
        enters_block c
        (memberships table) sound.table sound.has sound.well.lists p one.process is_placed acts.running acts.away facts sound.well wants

    block_there : slice_get c.blocks b ≡ Some is_entering.block
    block_there =
        subst (λ (n : ℕ). slice_get c.blocks n ≡ Some is_entering.block) (sym (ap (λ (f : Facts). f.number) is_entering.facts_are) ∙ number)
        is_entering.there

    pub is_listed : IsListedBlock c table b
    is_listed = record {
      block = is_entering.block;
      there = block_there;
      listed = λ d of_it. omega (arith, is_entering.conversation d of_it, length-map table membership);
    }

    -- the conversation of the facts is in the table
    pub facts_listed : (d : ℕ) → facts.conversation ≡ Some d → d < length table
    facts_listed d of_it =
        let in_block = sym (ap (λ (f : Facts). f.conversation) is_entering.facts_are) ∙ of_it in
        omega (arith, is_entering.conversation d in_block, length-map table membership)

    pub same_conversation : conversation_of (slice_get c.blocks b) ≡ facts.conversation
    same_conversation = ap conversation_of block_there ∙ sym (ap (λ (f : Facts). f.conversation) is_entering.facts_are)

    -- what the answer to the entry says of the block's conversation
    answered : (answer : Option ℕ) → answer ≡ entry_at table (conversation_of (slice_get c.blocks b)) → entry_at table facts.conversation ≡ answer
    answered answer e = ap (entry_at table) (sym same_conversation) ∙ sym e

    module _ (turn : ℕ) (few : length one.process.levels < 32) (answer : Option ℕ)
        (answers : answer ≡ entry_at table (conversation_of (slice_get c.blocks b))) (procs' : List Seen) (table' : List Conversation)
        (same : talks table' ≡ talks table) where
      abbrev Moves : Moved Standing Copy Common
      Moves = enters (kind_with c table) turn p facts one.process (world_of procs table (memory_of slots links))

      pub has_opened : (alternate : ℕ) → answer ≡ Some alternate → procs' ≡ change_at p (changed (entered_process c facts alternate turn)) procs
          → (links' : List Link)
          → links' ≡ links ++ record { turn = turn; process = p; alternate = 0; before = one.process.state.last_kept } ∷ []
          → ComesTo procs' table' (memory_of slots links') Took Moves
      has_opened alternate is opens links' linked =
          subst (ComesTo procs' table' (memory_of slots links') Took)
          (sym (entry_allowed c table slots links turn p procs facts one.process few
          ∙ either_opens c table slots links turn p procs facts one.process facts.conversation alternate facts_listed (answered answer answers ∙ is)))
          (record {
            world = opened_world c table slots links turn p procs facts one here own_number alternate procs' table' links' opens linked same;
            kind = refl;
            rejections = refl;
            passes = refl;
          })

      pub has_failed : answer ≡ None → procs' ≡ change_at p (changed (fallen (kind_of c) Broken)) procs
          → ComesTo procs' table' (memory_of slots links) Undone Moves
      has_failed is falls =
          subst (ComesTo procs' table' (memory_of slots links) Undone)
          (sym (entry_allowed c table slots links turn p procs facts one.process few
          ∙ either_falls c table slots links turn p procs facts one.process facts.conversation facts_listed (answered answer answers ∙ is)))
          (record {
            world = fallen_world c table slots links turn p procs facts procs' table' falls same;
            kind = refl;
            rejections = refl;
            passes = refl;
          })
