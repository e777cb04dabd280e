-- A turn of a process that rests leaves the machine as it is, but for the number of turns that it has taken.
use Rattle.std.proofs.Common.{◌≡◌, ℕ, zero, suc, ◌+◌, ◌-◌, ◌<◌, ◌≤◌, Bool, false, List, [], length, replicate, ap, sym, ◌∙◌, subst, arith}
use Rattle.std.proofs.lemmas.List.{length-map}
use Rattle.rb_base.specs.declared.event.TurnKind.{TurnKind}
use Rattle.rb_world.specs.Kind.{Membership}
use Rattle.rb_world.specs.Turn.{Told, turn}
use Rattle.rb_code.specs.Instructions.Plain.{Code}
use Rattle.rb_code.specs.SoundCode.WellFormed.{IsSound}
use Rattle.rb_code.specs.WordMachine.WordKind.{word_kind}
use Rattle.rb_code.specs.WordMachine.WordRun.{WordWorld}
use Rattle.rb_conv.specs.Conversations.{memberships}
use Rattle.rb_proc.specs.Process.{Seen}
use Rattle.rb_trace.specs.Report.{told_of}
use Rattle.rb_recovery.specs.Known.{IsKnown}
use Rattle.rb_machine.specs.Machine.{HasTurned, IsTied, seen}
use Rattle.rb_recovery.specs.Parts.{world}
use Rattle.rb_machine.specs.Resting.{AllRest, RestsAs}
use Rattle.rb_recovery.specs.Worlds.{NoneWaits, counts_of, lines_of}
use Rattle.rb_recovery.specs.declared.parts.Parts.{Parts}
use Rattle.rb_machine.specs.declared.rests.Resting.{Resting}
use Rattle.rb_machine.proofs.Knowing.KnownTurns.{known_turn}
use Rattle.rb_machine.proofs.Releasing.LentAtWork.{waits_none}
use Rattle.rb_machine.proofs.Unmoved.Noted.{rested}

module _ {L : Type 0} (c : Code) (parts : Parts L) (taken most p : ℕ) (kind : TurnKind)
    (rests : RestsAs c (memberships parts.table) (world parts) p kind) (none : NoneWaits parts.procs.items) where
  abbrev nothing_told : Told
  nothing_told = record { kind = kind; events = []; released = replicate (length (world parts).processes) [] }

  no_lines : lines_of parts.procs.items ≡ replicate (length (world parts).processes) []
  no_lines =
      waits_none parts.procs.items none
      ∙ ap (λ n. replicate n []) (sym (length-map parts.procs.items (λ (one : Seen). one.process)))

  -- the machine has turned
  pub rested_turn : HasTurned (seen c parts taken most) p (seen c parts (taken + 1) most) (told_of kind [] (lines_of parts.procs.items))
  rested_turn = record {
    machine = ap (λ (lines : List (List (List ℕ))). record (seen c parts (taken + 1) most) { waiting = lines }) no_lines
        ∙ ap (λ (pair : WordWorld × Told).
        record (seen c parts (taken + 1) most) { world = pair.0; waiting = pair.1.released }) (sym (rests (taken + 1)));
    told_is = ap (told_of kind []) no_lines ∙ ap (λ (pair : WordWorld × Told). pair.1) (sym (rests (taken + 1)));
  }

  -- and its parts are tied as before
  pub rested_tied : (running : List Bool) (before : Bool) (resting : Resting)
      → IsTied c parts running taken most before resting → taken < most
      → IsTied c parts running (taken + 1) most false resting
  rested_tied running before resting tied more =
      let groups : List Membership = memberships parts.table in
      let work = tied.work in
      record {
        work = record {
          executable = work.executable;
          few = work.few;
          sound = work.sound;
          known = subst (λ (pair : WordWorld × Told). IsKnown c groups (counts_of parts.table) work.sound.table (taken + 1 + 1) pair.0)
              (rests (taken + 1))
              (known_turn c groups (counts_of parts.table) work.sound (taken + 1) p (world parts) work.known);
          sized = work.sized;
          turns = omega (arith, more, tied.most_few);
        };
        running_is = tied.running_is;
        freed = tied.freed;
        none_waits = λ _. none;
        links_room = omega (arith, tied.links_room);
        taken_few = omega (arith, more);
        most_few = tied.most_few;
        noted = rested c groups resting.rests.items resting.changed taken (world parts) tied.noted;
        tallied = record { each = tied.tallied.each; last = omega (arith, tied.tallied.last); count = tied.tallied.count };
      }

-- Once all rest, the number of turns may rise at once.
module _ {L : Type 0} (c : Code) (parts : Parts L) (over : AllRest c (memberships parts.table) (world parts)) where
  -- what is known of the world is known of it before each later turn
  known_on : (counts : List ℕ) (sound : IsSound c (memberships parts.table) counts) (t n : ℕ)
      → IsKnown c (memberships parts.table) counts sound.table t (world parts)
      → IsKnown c (memberships parts.table) counts sound.table (n + t) (world parts)
  known_on counts sound t zero known = subst (λ m. IsKnown c (memberships parts.table) counts sound.table m (world parts)) (omega arith) known
  known_on counts sound t (suc n) known =
      let groups : List Membership = memberships parts.table in
      let before = known_on counts sound t n known in
      subst (λ (pair : WordWorld × Told). IsKnown c groups counts sound.table (suc n + t) pair.0) ((over 0).1 (n + t))
      (subst (λ m. IsKnown c groups counts sound.table m (turn (word_kind c groups) (n + t) 0 (world parts)).0) (omega arith)
      (known_turn c groups counts sound (n + t) 0 (world parts) before))

  pub over_tied : (running : List Bool) (taken most turns : ℕ) (released : Bool) (resting : Resting)
      → IsTied c parts running taken most released resting → taken ≤ turns → turns ≤ most
      → IsTied c parts running turns most released resting
  over_tied running taken most turns released resting tied later few =
      let work = tied.work in
      let groups : List Membership = memberships parts.table in
      let number : (turns - taken) + (taken + 1) ≡ turns + 1 = omega (arith, later) in
      record {
        work = record {
          executable = work.executable;
          few = work.few;
          sound = work.sound;
          known = subst (λ t. IsKnown c groups (counts_of parts.table) work.sound.table t (world parts)) number
              (known_on (counts_of parts.table) work.sound (taken + 1) (turns - taken) work.known);
          sized = work.sized;
          turns = omega (arith, few, tied.most_few);
        };
        running_is = tied.running_is;
        freed = tied.freed;
        none_waits = tied.none_waits;
        links_room = omega (arith, tied.links_room, later);
        taken_few = few;
        most_few = tied.most_few;
        noted = record { rest = tied.noted.rest; past = λ p one e. omega (arith, tied.noted.past p one e, later) };
        tallied = record { each = tied.tallied.each; last = omega (arith, tied.tallied.last, later); count = tied.tallied.count };
      }
