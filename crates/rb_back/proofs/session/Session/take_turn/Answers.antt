-- A turn of the machine is noted.
use Rattle.std.proofs.Common.{◌+◌, ◌<◌, List, length, vec_capacity, ap, sym, ◌∙◌, arith, subst}
use Rattle.std.proofs.lemmas.List.{length-map}
use Rattle.rb_cell.specs.Store.{Store}
use Rattle.rb_trace.specs.Report.{told_of}
use Rattle.rb_world.specs.Turn.{Told}
use Rattle.rb_code.specs.Instructions.Plain.{Code}
use Rattle.rb_recovery.specs.Reading.{variables_of}
use Rattle.rb_back.specs.declared.session.Turn.{Turn}
use Rattle.rb_back.specs.declared.view.Change.{Change}
use Rattle.rb_back.specs.Course.{Course}
use Rattle.rb_back.specs.Journal.{IsKept, processes_of}
use Rattle.rb_back.specs.Noting.{Notes}
use Rattle.rb_back.specs.Others.{all_keep_others}
use Rattle.rb_back.specs.Picture.{picture}
use Rattle.rb_back.specs.Stores.{AreRanges}
use Rattle.rb_back.proofs.Kept.{asked_alone, asked_numbered, asked_room, asked_states, asked_stores, asked_words, code_same, is_last, kept_more, none_waits}
use Rattle.rb_back.proofs.session.Session.take_turn.Goals as goal

pub turn-requires-clause-waits : goal.turn-requires-clause-waits
turn-requires-clause-waits g c = none_waits c.self.inside.machine (processes_of c.self.inside.turns.items) c.self.invariant.0.stands

pub note_turn-requires-clause-states : goal.note_turn-requires-clause-states
note_turn-requires-clause-states g c =
    let inside = c.self.inside in
    let turning = c.turn.new.self in
    let told : Told = told_of c.turn.new.report.kind c.turn.new.report.events.items turning.waiting in
    asked_states inside.machine turning c.drop_released.new.self (picture inside.view) inside.turns.items (vec_capacity inside.turns)
    inside.changes.items inside.most_changed inside.position c.args.p told c.self.invariant.0
    (is_last inside.machine inside.turns.items inside.position c.args.self.now c.self.view_is c.requires.farthest) c.turn.ensures.turned
    c.drop_released.ensures.machine

pub note_turn-requires-clause-words : goal.note_turn-requires-clause-words
note_turn-requires-clause-words g c =
    let inside = c.self.inside in
    let turning = c.turn.new.self in
    let told : Told = told_of c.turn.new.report.kind c.turn.new.report.events.items turning.waiting in
    asked_words inside.machine turning c.drop_released.new.self (picture inside.view) inside.turns.items (vec_capacity inside.turns)
    inside.changes.items inside.most_changed inside.position c.args.p told c.self.invariant.0
    (is_last inside.machine inside.turns.items inside.position c.args.self.now c.self.view_is c.requires.farthest) c.turn.ensures.turned
    c.drop_released.ensures.machine

pub note_turn-requires-clause-numbered : goal.note_turn-requires-clause-numbered
note_turn-requires-clause-numbered g c =
    let inside = c.self.inside in
    let turning = c.turn.new.self in
    let told : Told = told_of c.turn.new.report.kind c.turn.new.report.events.items turning.waiting in
    asked_numbered inside.machine turning c.drop_released.new.self (picture inside.view) inside.turns.items (vec_capacity inside.turns)
    inside.changes.items inside.most_changed inside.position c.args.p told c.self.invariant.0
    (is_last inside.machine inside.turns.items inside.position c.args.self.now c.self.view_is c.requires.farthest) c.turn.ensures.turned
    c.drop_released.ensures.machine

pub note_turn-requires-clause-alone : goal.note_turn-requires-clause-alone
note_turn-requires-clause-alone g c keep =
    let inside = c.self.inside in
    let turning = c.turn.new.self in
    let told : Told = told_of c.turn.new.report.kind c.turn.new.report.events.items turning.waiting in
    asked_alone inside.machine turning c.drop_released.new.self (picture inside.view) inside.turns.items (vec_capacity inside.turns)
    inside.changes.items inside.most_changed inside.position c.args.p told c.self.invariant.0
    (is_last inside.machine inside.turns.items inside.position c.args.self.now c.self.view_is c.requires.farthest) c.turn.ensures.turned
    c.drop_released.ensures.machine
    (ap all_keep_others (sym c.deref-2.ensures.0) ∙ sym c.keep_others-alone.ensures ∙ keep)

pub note_turn-requires-clause-stores : goal.note_turn-requires-clause-stores
note_turn-requires-clause-stores g c keep =
    let inside = c.self.inside in
    let turning = c.turn.new.self in
    let told : Told = told_of c.turn.new.report.kind c.turn.new.report.events.items turning.waiting in
    asked_stores inside.machine turning c.drop_released.new.self (picture inside.view) inside.turns.items (vec_capacity inside.turns)
    inside.changes.items inside.most_changed inside.position c.args.p told c.self.invariant.0
    (is_last inside.machine inside.turns.items inside.position c.args.self.now c.self.view_is c.requires.farthest) c.turn.ensures.turned
    c.drop_released.ensures.machine c.deref.result.now (subst (AreRanges inside.machine.code) (sym c.deref.ensures.value) c.self.invariant.1)
    c.len.result
    (omega (arith, c.len.ensures, length-map inside.view.words.items (λ (one : Store). one.words))) c.stores_of-own.result c.compared-stores.result
    c.stores_of-own.ensures c.compared-stores.ensures
    (ap all_keep_others (sym c.deref-2.ensures.0) ∙ sym c.keep_others-alone.ensures ∙ keep)

pub note_turn-requires-clause-room : goal.note_turn-requires-clause-room
note_turn-requires-clause-room g c =
    let inside = c.self.inside in
    let turning = c.turn.new.self in
    let told : Told = told_of c.turn.new.report.kind c.turn.new.report.events.items turning.waiting in
    let size = asked_room inside.machine turning c.drop_released.new.self (picture inside.view) inside.turns.items (vec_capacity inside.turns)
    inside.changes.items inside.most_changed inside.position c.args.p told c.self.invariant.0
    (is_last inside.machine inside.turns.items inside.position c.args.self.now c.self.view_is c.requires.farthest) c.turn.ensures.turned
    c.drop_released.ensures.machine in
    omega (arith, size, c.in_ok-try_reserve.ensures.ok, c.try_reserve.ensures.len)

pub invariant_of-self-2 : goal.invariant_of-self-2
invariant_of-self-2 g c =
    let inside = c.self.inside in
    let turning = c.turn.new.self in
    let now = c.drop_released.new.self in
    let told : Told = told_of c.turn.new.report.kind c.turn.new.report.events.items turning.waiting in
    let last = is_last inside.machine inside.turns.items inside.position c.args.self.now c.self.view_is c.requires.farthest in
    let turn : Turn = record { process = c.args.p; from = c.len-from.result; to = c.len-to.result } in
    let few : length inside.turns.items < inside.machine.most = omega (
      arith,
      last,
      c.requires.more,
      ap (λ (course : Course). course.position) c.self.view_is,
      ap (λ (course : Course). course.turns) c.self.view_is,
    ) in (
      subst (λ (turns : List Turn). IsKept now (picture c.note_turn.new.view) turns (vec_capacity c.add.new.turns) c.note_turn.new.changes.items
          inside.most_changed (inside.position + 1)) (sym c.add.ensures.items)
          (kept_more inside.machine turning now (picture inside.view) (picture c.note_turn.new.view) inside.turns.items turn
          (vec_capacity inside.turns) (vec_capacity c.add.new.turns) inside.changes.items c.note_turn.new.changes.items inside.most_changed inside.position
          told c.self.invariant.0 last few c.turn.ensures.turned c.drop_released.ensures.machine c.note_turn.ensures.view
          (subst (λ (changes : List Change). Notes (variables_of now.code now.world.processes) changes c.note_turn.new.changes.items
          (picture inside.view) (picture c.note_turn.new.view)) c.try_reserve.ensures.items c.note_turn.ensures.noted)
          (omega (arith, c.len-from.ensures, c.try_reserve.ensures.len)) (omega (arith, c.len-to.ensures)) c.add.ensures.room),
      subst (λ (code : Code). AreRanges code inside.ranges.items)
          (sym (code_same inside.machine (processes_of inside.turns.items) c.self.invariant.0.stands turning now c.args.p told c.turn.ensures.turned
          c.drop_released.ensures.machine)) c.self.invariant.1,
    )
