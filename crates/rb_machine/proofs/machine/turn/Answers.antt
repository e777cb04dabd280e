-- A turn is under way, and ends.
use Rattle.std.proofs.Common.{ℕ, ◌+◌, ◌≤◌, ap, ◌∙◌, arith}
use Rattle.rb_world.specs.Turn.{Told}
use Rattle.rb_code.specs.Instructions.Plain.{code as plain}
use Rattle.rb_code.specs.WordMachine.WordRun.{WordWorld}
use Rattle.rb_conv.specs.Conversations.{memberships}
use Rattle.rb_machine.specs.Ends.{IsUnderWay}
use Rattle.rb_recovery.specs.Parts.{world}
use Rattle.rb_recovery.specs.Work.{turn_work}
use Rattle.rb_recovery.specs.Worlds.{lines_of}
use Rattle.rb_machine.proofs.Working.TurnWork.{entry_adds_nothing, turn_costs}
use Rattle.rb_machine.proofs.machine.turn.Goals as goal

pub end_turn-released-requires-clause-way : goal.end_turn-released-requires-clause-way
end_turn-released-requires-clause-way g c = record {
  before = c.args.parts.now;
  way = record {
    work = c.requires.work;
    turns = c.requires.few;
    noted = c.requires.running;
    freed = c.requires.freed;
    stays = c.take_turn-moved.ensures.stays;
    ran = c.take_turn-moved.ensures.ran;
    leads = c.take_turn-moved.ensures.leads;
  };
}

at_most : (n : ℕ) → n ≤ n
at_most n = omega arith

pub returns : goal.returns
returns g c =
    let code = plain c.args.code.now in
    let parts = c.args.parts.now in
    let moved = c.take_turn-moved in
    let way : IsUnderWay code c.args.number c.args.p parts moved.new.parts c.args.running.now.items moved.result =
    record {
      work = c.requires.work;
      turns = c.requires.few;
      noted = c.requires.running;
      freed = c.requires.freed;
      stays = moved.ensures.stays;
      ran = moved.ensures.ran;
      leads = moved.ensures.leads;
    } in
    let ended = c.end_turn-released.ensures.ended parts way in
    let work : c.end_turn-released.new.steps ≤ c.args.steps.now + turn_work code (memberships parts.table) c.args.number c.args.p (world parts) =
    turn_costs code (memberships parts.table) c.args.number c.args.p (world parts) (lines_of c.end_turn-released.new.parts.procs.items) c.args.steps.now _
    c.end_turn-released.new.steps (at_most _) (ap (λ (pair : WordWorld × Told). pair.1.released) ended.turned.turned)
    (omega (arith, ended.work, moved.ensures.work)) in
    record {
      turned = ended.turned.turned;
      groups = ended.turned.groups;
      at_work = ended.turned.at_work;
      running = ended.turned.running_is;
      freed = ended.turned.freed;
      none_waits = ended.turned.none_waits;
      room = omega (arith, c.end_turn-released.ensures.room, moved.ensures.room);
      held = c.end_turn-released.ensures.held ∙ moved.ensures.held;
      work = work;
      entry =
          λ e. entry_adds_nothing code (memberships parts.table) c.args.number c.args.p (world parts) c.end_turn-released.new.report.kind _ _ c.requires.freed
          (ap (λ (pair : WordWorld × Told). pair.1.kind) ended.turned.turned) e work;
    }
