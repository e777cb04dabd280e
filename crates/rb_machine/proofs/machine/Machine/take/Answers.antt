-- The parts are at work before the next turn, no line waits, and who was noted to rest does.
use Rattle.std.proofs.Common.{◌≡◌, ℕ, ◌+◌, ◌≤◌, true, true≢false, List, length, set, slice_get, refl, ap, sym, ◌∙◌, subst, arith}
use Rattle.rb_world.specs.Kind.{Membership}
use Rattle.rb_world.specs.Turn.{Told}
use Rattle.rb_world.proofs.ListFacts.{second_holds}
use Rattle.rb_code.specs.Instructions.Plain.{code as plain}
use Rattle.rb_code.specs.WordMachine.WordKind.{word_kind}
use Rattle.rb_code.specs.WordMachine.WordRun.{WordWorld}
use Rattle.rb_conv.specs.Conversations.{memberships}
use Rattle.rb_proc.specs.Process.{Seen as Process}
use Rattle.rb_trace.specs.Report.{told_of}
use Rattle.rb_machine.specs.Machine.{IsKeptEntry, Seen}
use Rattle.rb_recovery.specs.Parts.{world}
use Rattle.rb_machine.specs.Resting.{AreNoted, AreTallied, IsBare, changed_after, is_still, one_more}
use Rattle.rb_recovery.specs.Work.{enters_there, turn_work}
use Rattle.rb_recovery.specs.Worlds.{lines_of, processes_of}
use Rattle.rb_machine.specs.declared.rests.Rest.{Rest}
use Rattle.rb_machine.proofs.Turning.TurnOfParts.{none_wait}
use Rattle.rb_machine.proofs.Knowing.Sizes.{turn-processes}
use Rattle.rb_machine.proofs.Unmoved.Noted.{noted_after}
use Rattle.rb_machine.proofs.Unmoved.StillBare.{bare_before}
use Rattle.rb_machine.proofs.Unmoved.Tallied.{forgotten_after, tallied_after}
use Rattle.rb_machine.proofs.machine.Machine.take.Goals as goal
use Rattle.rb_machine.proofs.machine.Machine.take.Goals.{else-quiet, else-released, then-quiet, then-released}

pub turn-left-requires-clause-work : goal.turn-left-requires-clause-work
turn-left-requires-clause-work g c = record {
  work = c.self.invariant.work;
  waits = none_wait c.self.inside.parts.procs.items (length c.args.self.now.world.processes)
      (ap (λ (machine : Seen). machine.waiting) c.self.view_is ∙ c.requires.waits);
}

pub invariant_of-self : goal.invariant_of-self
invariant_of-self g c =
    let inside = c.self.inside in
    let code = plain inside.code.now in
    let groups : List Membership = memberships inside.parts.table in
    let turned = c.turn-left in
    let after = turned.new.parts in
    let kind = turned.new.report.kind in
    let told : Told = told_of kind turned.new.report.events.items (lines_of after.procs.items) in
    let as_many : length (world inside.parts).processes ≡ length (world after).processes =
    sym (turn-processes (word_kind code groups) (inside.taken + 1) c.args.p (world inside.parts))
    ∙ ap (λ (pair : WordWorld × Told). length pair.0.processes) (sym turned.ensures.turned) in
    let both : IsBare (slice_get (processes_of after.procs.items) c.args.p) × (is_still kind ≡ true) =
    elim c.if-quiet.branch [
      | then-quiet w ↦ (
        subst (λ (procs : List Process). IsBare (slice_get (processes_of procs) c.args.p)) w.deref.ensures.value
            (w.is_bare-still.ensures (sym w.still-is ∙ c.if-still.true)),
        second_holds c.turn-left.result.rests (is_still kind) (sym c.leaves_still-quiet.ensures ∙ w.if-quiet.true),
      )
      | else-quiet w ↦ absurd (true≢false (sym c.if-still.true ∙ w.still-is ∙ w.if-quiet.false))
    ] in
    let rests : List Rest = set inside.resting.rests.items c.args.p (record { since = inside.taken + 1; kind = kind }) in
    let noted : AreNoted code groups (world after) rests inside.resting.changed (inside.taken + 1) =
    noted_after code groups inside.resting.rests.items inside.resting.changed inside.taken (world inside.parts) (world after)
    (inside.taken + 1) c.args.p told kind c.self.invariant.noted c.self.invariant.freed turned.ensures.turned refl
    (bare_before code groups (inside.taken + 1) c.args.p (world inside.parts) (world after) told turned.ensures.turned both.1 both.0) both.1 in
    let tallied = tallied_after (length (world inside.parts).processes) inside.resting.rests.items inside.resting.changed inside.resting.noted
    inside.taken c.args.p kind c.self.invariant.tallied in
    record {
      work = turned.ensures.at_work;
      running_is = turned.ensures.running;
      freed = turned.ensures.freed;
      none_waits =
          elim c.if-released.branch [
            | then-released w ↦ λ e. absurd (cc)
            | else-released w ↦ λ e. turned.ensures.none_waits w.if-released.false
          ];
      links_room = omega (arith, turned.ensures.room, c.self.invariant.links_room);
      taken_few = omega (
        arith,
        c.requires.more,
        ap (λ (machine : Seen). machine.taken) c.self.view_is,
        ap (λ (machine : Seen). machine.most) c.self.view_is,
      );
      most_few = c.self.invariant.most_few;
      noted =
          subst (λ (others : List Membership).
          AreNoted code others (world after) c.note.new.self.rests.items c.note.new.self.changed (inside.taken + 1))
          (sym turned.ensures.groups.members)
          (subst (λ (rests : List Rest). AreNoted code groups (world after) rests c.note.new.self.changed (inside.taken + 1))
          (sym c.note.ensures.rests)
          (subst (λ changed. AreNoted code groups (world after) rests changed (inside.taken + 1))
          (sym c.note.ensures.changed) noted));
      tallied =
          subst (λ (rests : List Rest).
          AreTallied (length (world after).processes) rests c.note.new.self.changed c.note.new.self.noted (inside.taken + 1))
          (sym c.note.ensures.rests)
          (subst (λ changed.
          AreTallied (length (world after).processes) rests changed c.note.new.self.noted (inside.taken + 1))
          (sym c.note.ensures.changed)
          (subst (λ n. AreTallied (length (world after).processes) rests inside.resting.changed n (inside.taken + 1))
          (sym c.note.ensures.noted)
          (subst (λ n. AreTallied n rests inside.resting.changed
          (inside.resting.noted + one_more inside.resting.changed (slice_get inside.resting.rests.items c.args.p)) (inside.taken + 1)) as_many tallied)));
    }

pub invariant_of-self-else-still : goal.invariant_of-self-else-still
invariant_of-self-else-still g c =
    let inside = c.self.inside in
    let code = plain inside.code.now in
    let groups : List Membership = memberships inside.parts.table in
    let turned = c.turn-left in
    let after = turned.new.parts in
    let as_many : length (world inside.parts).processes ≡ length (world after).processes =
    sym (turn-processes (word_kind code groups) (inside.taken + 1) c.args.p (world inside.parts))
    ∙ ap (λ (pair : WordWorld × Told). length pair.0.processes) (sym turned.ensures.turned) in
    let last : ℕ = changed_after inside.resting.noted inside.resting.changed (inside.taken + 1) in
    let forgotten = forgotten_after code groups (world inside.parts) (world after) (length (world inside.parts).processes)
    inside.resting.rests.items inside.resting.changed inside.resting.noted inside.taken c.self.invariant.noted c.self.invariant.tallied in
    let noted = forgotten.notes in
    let tallied = forgotten.tally in
    record {
      work = turned.ensures.at_work;
      running_is = turned.ensures.running;
      freed = turned.ensures.freed;
      none_waits = turned.ensures.none_waits;
      links_room = omega (arith, turned.ensures.room, c.self.invariant.links_room);
      taken_few = omega (
        arith,
        c.requires.more,
        ap (λ (machine : Seen). machine.taken) c.self.view_is,
        ap (λ (machine : Seen). machine.most) c.self.view_is,
      );
      most_few = c.self.invariant.most_few;
      noted =
          subst (λ (others : List Membership).
          AreNoted code others (world after) c.forget.new.self.rests.items c.forget.new.self.changed (inside.taken + 1))
          (sym turned.ensures.groups.members)
          (subst (λ (rests : List Rest). AreNoted code groups (world after) rests c.forget.new.self.changed (inside.taken + 1))
          (sym c.forget.ensures.rests)
          (subst (λ changed. AreNoted code groups (world after) inside.resting.rests.items changed (inside.taken + 1))
          (sym c.forget.ensures.changed) noted));
      tallied =
          subst (λ (rests : List Rest).
          AreTallied (length (world after).processes) rests c.forget.new.self.changed c.forget.new.self.noted (inside.taken + 1))
          (sym c.forget.ensures.rests)
          (subst (λ changed.
          AreTallied (length (world after).processes) inside.resting.rests.items changed c.forget.new.self.noted (inside.taken + 1))
          (sym c.forget.ensures.changed)
          (subst (λ n. AreTallied (length (world after).processes) inside.resting.rests.items last n (inside.taken + 1))
          (sym c.forget.ensures.noted)
          (subst (λ n. AreTallied n inside.resting.rests.items last 0 (inside.taken + 1)) as_many tallied)));
    }

pub returns-after-released-clause-work : goal.returns-after-released-clause-work
returns-after-released-clause-work g c =
    subst (λ (machine : Seen).
    c.turn-left.new.steps
    ≤ c.args.steps.now + turn_work machine.code machine.groups (machine.taken + 1) c.args.p machine.world)
    c.self.view_is c.turn-left.ensures.work

pub returns-after-released-clause-entry : goal.returns-after-released-clause-entry
returns-after-released-clause-entry g c e =
    let inside = c.self.inside in
    let entry = subst (λ (machine : Seen). IsKeptEntry machine c.args.p) (sym c.self.view_is) e in
    c.turn-left.ensures.entry
    (ap (λ (pair : WordWorld × Told). enters_there (plain inside.code.now) pair.1.kind (slice_get (processes_of inside.parts.procs.items) c.args.p))
    c.turn-left.ensures.turned
    ∙ entry)

pub returns-else-still-clause-work : goal.returns-else-still-clause-work
returns-else-still-clause-work g c =
    subst (λ (machine : Seen).
    c.turn-left.new.steps
    ≤ c.args.steps.now + turn_work machine.code machine.groups (machine.taken + 1) c.args.p machine.world)
    c.self.view_is c.turn-left.ensures.work

pub returns-else-still-clause-entry : goal.returns-else-still-clause-entry
returns-else-still-clause-entry g c e =
    let inside = c.self.inside in
    let entry = subst (λ (machine : Seen). IsKeptEntry machine c.args.p) (sym c.self.view_is) e in
    c.turn-left.ensures.entry
    (ap (λ (pair : WordWorld × Told). enters_there (plain inside.code.now) pair.1.kind (slice_get (processes_of inside.parts.procs.items) c.args.p))
    c.turn-left.ensures.turned
    ∙ entry)
