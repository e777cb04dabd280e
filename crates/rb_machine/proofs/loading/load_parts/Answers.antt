-- What was loaded is the machine before its first turn.
use Rattle.std.proofs.Common.{◌≡◌, List, length, map, replicate, ap, sym, ◌∙◌, subst, arith}
use Rattle.std.specs.List.{All}
use Rattle.std.proofs.lemmas.List.{length-map}
use Rattle.rb_base.specs.declared.event.TurnKind.TheVariants.{Idle}
use Rattle.rb_world.specs.Kind.{Membership}
use Rattle.rb_world.specs.Slots.{zero_slots}
use Rattle.rb_world.specs.World.{Process}
use Rattle.rb_code.specs.Instructions.Plain.{channel, code as plain}
use Rattle.rb_code.specs.SoundCode.WellFormed.{JoinsTwo}
use Rattle.rb_code.specs.WordMachine.Turn.{Copy, Standing}
use Rattle.rb_code.specs.WordMachine.WordRun.{WordWorld}
use Rattle.rb_code.specs.declared.code.ChannelCode.{ChannelCode}
use Rattle.rb_conv.specs.Conversations.{memberships, opening}
use Rattle.rb_proc.specs.Process.{Seen}
use Rattle.rb_machine.specs.Machine.{Seen as Machine}
use Rattle.rb_recovery.specs.Parts.{world}
use Rattle.rb_machine.specs.Resting.{AreNoted, AreTallied}
use Rattle.rb_machine.specs.Telling.{running_of}
use Rattle.rb_recovery.specs.Worlds.{processes_of}
use Rattle.rb_machine.specs.declared.rests.Rest.{Rest}
use Rattle.rb_machine.specs.declared.rests.Resting.{Resting}
use Rattle.rb_machine.proofs.Beginning.ExecutableCode.{is_executable}
use Rattle.rb_machine.proofs.Beginning.Opens.{channels_sized, opens_as, opens_at_work, opens_freed, settles}
use Rattle.rb_machine.proofs.Turning.TurnOfParts.{none_wait}
use Rattle.rb_machine.proofs.Unmoved.Noted.{none_noted}
use Rattle.rb_machine.proofs.Unmoved.Tallied.{none_tallied}
use Rattle.rb_machine.proofs.loading.load_parts.Goals as goal

pub load_processes-requires-clause-code : goal.load_processes-requires-clause-code
load_processes-requires-clause-code g c =
    is_executable (plain c.args.code.now) (memberships (opening c.args.nested.now)) c.requires.sound.well
    (c.is_numbered.ensures.instructions c.if-not-is_numbered.false) (c.is_numbered.ensures.alternates c.if-not-is_numbered.false)

pub load_processes-requires-clause-settle : goal.load_processes-requires-clause-settle
load_processes-requires-clause-settle g c = settles (plain c.args.code.now) c.args.nested.now c.requires.sound

pub load_mails-requires : goal.load_mails-requires
load_mails-requires g c =
    channels_sized (plain c.args.code.now) c.deref.result.now
    (subst (λ (channels : List ChannelCode). All (JoinsTwo (plain c.args.code.now)) (map channel channels)) (sym c.deref.ensures.value)
    c.requires.sound.well.channels)

pub returns-clause-seen : goal.returns-clause-seen
returns-clause-seen g c =
    opens_as (plain c.args.code.now) c.args.nested.now c.requires.sound c.args.links.held c.args.turns _ _ _ _ c.in_ok-procs.ensures
    c.in_ok-table.ensures.opening
    (c.in_ok-mails.ensures ∙ ap (λ (channels : List ChannelCode). zero_slots (map channel channels)) c.deref.ensures.value)
    c.requires.none

pub returns-clause-tied : goal.returns-clause-tied
returns-clause-tied g c = record {
  work = opens_at_work (plain c.args.code.now) c.args.nested.now c.requires.sound _ _ _ _
      (is_executable (plain c.args.code.now) (memberships (opening c.args.nested.now)) c.requires.sound.well
      (c.is_numbered.ensures.instructions c.if-not-is_numbered.false) (c.is_numbered.ensures.alternates c.if-not-is_numbered.false))
      (c.is_numbered.ensures.alternates c.if-not-is_numbered.false) c.in_ok-procs.ensures
      c.in_ok-table.ensures.opening
      (c.in_ok-mails.ensures ∙ ap (λ (channels : List ChannelCode). zero_slots (map channel channels)) c.deref.ensures.value)
      c.requires.none;
  running_is = c.in_ok-running.ensures ∙ ap (λ (procs : List Seen). running_of (processes_of procs)) c.deref-2.ensures.value;
  freed = opens_freed (plain c.args.code.now) c.args.nested.now c.requires.sound _ c.in_ok-procs.ensures;
  none_waits = λ _. none_wait _ (length (plain c.args.code.now).processes) (ap (λ (machine : Machine). machine.waiting) (returns-clause-seen g c));
  links_room = omega (arith, c.requires.room);
  taken_few = omega arith;
  most_few = c.requires.turns;
  noted =
      let code = plain c.args.code.now in
      let groups : List Membership = memberships c.in_ok-table.table in
      let resting : Resting = c.in_ok-resting.resting in
      let first : WordWorld = world {L = g.row.L.Denot} (record {
        procs = c.in_ok-procs.procs;
        mails = c.in_ok-mails.mails;
        table = c.in_ok-table.table;
        links = c.args.links;
      }) in
      let none : List Rest = replicate c.len.result (record { since = 0; kind = Idle }) in
      subst (λ (rests : List Rest). AreNoted code groups first rests resting.changed 0) (sym c.in_ok-resting.ensures.rests)
      (subst (λ changed. AreNoted code groups first none changed 0) (sym c.in_ok-resting.ensures.changed)
      (none_noted code groups first c.len.result));
  tallied =
      let resting : Resting = c.in_ok-resting.resting in
      let none : List Rest = replicate c.len.result (record { since = 0; kind = Idle }) in
      let all : List (Process Standing Copy) = processes_of c.in_ok-procs.procs.items in
      let each : c.len.result ≡ length all =
      omega (
        arith,
        c.len.ensures,
        c.deref-2.ensures.len,
        ap length c.deref-2.ensures.value,
        length-map c.in_ok-procs.procs.items (λ (one : Seen). one.process),
      ) in
      subst (λ (rests : List Rest). AreTallied (length all) rests resting.changed resting.noted 0) (sym c.in_ok-resting.ensures.rests)
      (subst (λ changed. AreTallied (length all) none changed resting.noted 0) (sym c.in_ok-resting.ensures.changed)
      (subst (λ noted. AreTallied (length all) none 0 noted 0) (sym c.in_ok-resting.ensures.noted)
      (subst (λ n. AreTallied n none 0 0 0) each (none_tallied c.len.result))));
}
