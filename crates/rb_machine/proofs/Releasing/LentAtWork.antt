-- A machine that has lent a line is at work as before, and it tells as many counts as the code has channels.
use Rattle.std.proofs.Common.{◌≡◌, ◌≤◌, ◌+◌, ℕ, zero, suc, Bool, false, List, [], ◌∷◌, length, replicate, refl, ap, sym, ◌∙◌, subst}
use Rattle.rb_base.specs.Lines.{without_next}
use Rattle.rb_world.specs.Kind.{Ends}
use Rattle.rb_world.specs.Slots.{Slots}
use Rattle.rb_world.specs.World.{Process}
use Rattle.rb_code.specs.Instructions.Plain.{Code}
use Rattle.rb_code.specs.WordMachine.Turn.{Copy, Standing}
use Rattle.rb_code.specs.WordMachine.WordRun.{counts_sent, counts_taken}
use Rattle.rb_conv.specs.Conversations.{Conversation, memberships, talks}
use Rattle.rb_proc.specs.Process.{Seen}
use Rattle.rb_machine.specs.AtWork.{IsAtWork}
use Rattle.rb_recovery.specs.Known.{IsKnown}
use Rattle.rb_machine.specs.Machine.{IsTied}
use Rattle.rb_recovery.specs.Parts.{world}
use Rattle.rb_recovery.specs.Reading.{HasLent}
use Rattle.rb_machine.specs.Resting.{AreNoted, AreTallied}
use Rattle.rb_machine.specs.Telling.{AreFreed, running_of}
use Rattle.rb_recovery.specs.Worlds.{NoneWaits, counts_of, lines_of, memory_of, processes_of, world_of}
use Rattle.rb_recovery.specs.declared.links.Link.{Link}
use Rattle.rb_recovery.specs.declared.parts.Parts.{Parts}
use Rattle.rb_machine.specs.declared.rests.Resting.{Resting}
use Rattle.rb_machine.proofs.Turning.TurnOfParts.{none_wait}

-- the lines that wait are no part of a world
same_work : (c : Code) (t : ℕ) (procs later : List Seen) (table : List Conversation) (slots : Slots) (links : List Link)
    → processes_of later ≡ processes_of procs → IsAtWork c t procs table slots links → IsAtWork c t later table slots links
same_work c t procs later table slots links e work = record {
  executable = work.executable;
  few = work.few;
  sound = work.sound;
  known = subst (λ (processes : List (Process Standing Copy)). IsKnown c (memberships table) (counts_of table) work.sound.table t
      (record { processes = processes; talks = talks table; memory = memory_of slots links })) (sym e) work.known;
  sized = work.sized;
  turns = work.turns;
}

-- where each list of lines is empty, as many are
pub waits_none : (procs : List Seen) → NoneWaits procs → lines_of procs ≡ replicate (length procs) []
waits_none [] none = refl
waits_none (one ∷ procs) none =
    ap (λ (lines : List (List ℕ)). lines ∷ lines_of procs) none.0
    ∙ ap (λ (others : List (List (List ℕ))). [] ∷ others) (waits_none procs none.1)

-- and still are once a line would have been lent
empty_next : (n p : ℕ) → without_next (replicate n []) p ≡ replicate n []
empty_next zero p = refl
empty_next (suc n) zero = refl
empty_next (suc n) (suc p) = ap (λ (others : List (List (List ℕ))). [] ∷ others) (empty_next n p)

still_none : (old new : List Seen) (p : ℕ) → lines_of new ≡ without_next (lines_of old) p → NoneWaits old → NoneWaits new
still_none old new p lent none =
    none_wait new (length old)
    (lent ∙ (ap (λ (lines : List (List (List ℕ))). without_next lines p) (waits_none old none) ∙ empty_next (length old) p))

-- so parts with the same processes, and with all else the same, are tied again
pub tied_same : {L : Type 0} (c : Code) (old new : Parts L) (running : List Bool) (taken most : ℕ) (before released : Bool) (resting : Resting)
    → IsTied c old running taken most before resting
    → processes_of new.procs.items ≡ processes_of old.procs.items → new.mails ≡ old.mails → new.table ≡ old.table → new.links ≡ old.links
    → (released ≡ false → NoneWaits new.procs.items)
    → IsTied c new running taken most released resting
tied_same c old new running taken most before released resting tied processes mails table links none = record {
  work = subst (λ table. IsAtWork c (taken + 1) new.procs.items table new.mails new.links.items) (sym table)
      (subst (λ mails. IsAtWork c (taken + 1) new.procs.items old.table mails new.links.items) (sym mails)
      (subst (λ links. IsAtWork c (taken + 1) new.procs.items old.table old.mails links.items) (sym links)
      (same_work c (taken + 1) old.procs.items new.procs.items old.table old.mails old.links.items processes tied.work)));
  running_is = tied.running_is ∙ ap running_of (sym processes);
  freed = subst AreFreed (sym processes) tied.freed;
  none_waits = none;
  links_room = subst (λ links. most ≤ taken + links.room) (sym links) tied.links_room;
  taken_few = tied.taken_few;
  most_few = tied.most_few;
  noted = subst (λ table. AreNoted c (memberships table) (world_of new.procs.items table (memory_of new.mails new.links.items))
      resting.rests.items resting.changed taken) (sym table)
      (subst (λ mails. AreNoted c (memberships old.table) (world_of new.procs.items old.table (memory_of mails new.links.items))
      resting.rests.items resting.changed taken) (sym mails)
      (subst (λ links. AreNoted c (memberships old.table) (world_of new.procs.items old.table (memory_of old.mails links.items))
      resting.rests.items resting.changed taken) (sym links)
      (subst (λ (all : List (Process Standing Copy)). AreNoted c (memberships old.table) (record (world old) { processes = all })
      resting.rests.items resting.changed taken) (sym processes) tied.noted)));
  tallied = subst (λ (all : List (Process Standing Copy)). AreTallied (length all) resting.rests.items resting.changed resting.noted taken)
      (sym processes) tied.tallied;
}

pub tied_again : {L : Type 0} (c : Code) (old new : Parts L) (running : List Bool) (taken most : ℕ) (released : Bool) (resting : Resting) (p : ℕ)
    → IsTied c old running taken most released resting → HasLent p old new
    → IsTied c new running taken most released resting
tied_again c old new running taken most released resting p tied lent =
    tied_same c old new running taken most released released resting tied lent.processes lent.mails lent.table lent.links
    (λ e. still_none old.procs.items new.procs.items p lent.lines (tied.none_waits e))

-- each channel has its counts
pub sent_each : (c : Code) (standings : List Standing) (channel : ℕ) (ends : List Ends)
    → length (counts_sent c standings channel ends) ≡ length ends
sent_each c standings channel [] = refl
sent_each c standings channel (one ∷ others) = ap suc (sent_each c standings (channel + 1) others)

pub taken_each : (c : Code) (standings : List Standing) (channel : ℕ) (ends : List Ends)
    → length (counts_taken c standings channel ends) ≡ length ends
taken_each c standings channel [] = refl
taken_each c standings channel (one ∷ others) = ap suc (taken_each c standings (channel + 1) others)
