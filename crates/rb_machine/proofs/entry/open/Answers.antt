-- Only the process that enters is changed, and its last kept turn is read before.
use Rattle.std.proofs.Common.{◌≡◌, ap, sym, ◌∙◌, get_or, set, subst}
use Rattle.std.proofs.lemmas.Option.{get_or_from_slice_get, slice_get-get_or}
use Rattle.rb_world.specs.Kind.{Enters}
use Rattle.rb_code.specs.Instructions.Plain.{code as plain}
use Rattle.rb_code.specs.WordMachine.Turn.{want}
use Rattle.rb_conv.proofs.Places.{set-changes}
use Rattle.rb_proc.specs.Entries.{entered_process}
use Rattle.rb_proc.specs.Process.{Seen}
use Rattle.rb_recovery.specs.Rejections.{changed}
use Rattle.rb_machine.proofs.Turning.Entering.{entered_seen, entry_link}
use Rattle.rb_machine.proofs.entry.open.Goals as goal

pub enter-requires-clause-wants : goal.enter-requires-clause-wants
enter-requires-clause-wants g c =
    let procs = c.args.procs.now in
    let was = c.index-procs-p.result in
    c.requires.wants (get_or procs c.args.p was) (slice_get-get_or procs c.args.p was c.requires.process)

pub enter-requires-clause-running : goal.enter-requires-clause-running
enter-requires-clause-running g c =
    let procs = c.args.procs.now in
    let was = c.index-procs-p.result in
    (c.requires.acting (get_or procs c.args.p was) (slice_get-get_or procs c.args.p was c.requires.process)).running

pub enter-requires-clause-away : goal.enter-requires-clause-away
enter-requires-clause-away g c =
    let procs = c.args.procs.now in
    let was = c.index-procs-p.result in
    (c.requires.acting (get_or procs c.args.p was) (slice_get-get_or procs c.args.p was c.requires.process)).away

pub enter-requires-clause-restart : goal.enter-requires-clause-restart
enter-requires-clause-restart g c =
    let procs = c.args.procs.now in
    let was = c.index-procs-p.result in
    c.requires.restart (get_or procs c.args.p was) (slice_get-get_or procs c.args.p was c.requires.process)

pub returns-clause-processes : goal.returns-clause-processes
returns-clause-processes g c one facts there wants =
    let code = plain c.args.code.now in
    let procs = c.args.procs.now in
    let was = c.index-procs-p.result in
    let is : get_or procs c.args.p was ≡ one = get_or_from_slice_get procs c.args.p one was there in
    let entered = entered_seen code facts c.args.alternate c.args.turn (get_or procs c.args.p was) c.enter.new.self
    (subst (λ (x : Seen). want code x.process.state ≡ Enters facts) (sym is) wants) c.enter.ensures.process c.enter.ensures.waiting in
    ap (set procs c.args.p) entered
    ∙ set-changes (changed (entered_process code facts c.args.alternate c.args.turn)) procs c.args.p was c.requires.process

pub returns-clause-links : goal.returns-clause-links
returns-clause-links g c one there =
    let procs = c.args.procs.now in
    let was = c.index-procs-p.result in
    let last = ap (λ (x : Seen). x.process.state.last_kept) (get_or_from_slice_get procs c.args.p one was there) in
    entry_link c.args.turn c.args.p (get_or procs c.args.p was).process.state.last_kept one.process.state.last_kept c.args.links.now.items
    c.note.new.self.items last c.note.ensures.items
