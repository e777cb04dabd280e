use Rattle.std.proofs.Common.{[], length, slice_get, Some, None, sym, ap, ◌∙◌, arith}
use Rattle.std.proofs.lemmas.Option.{slice_get_past, slice_get_within}
use Rattle.rb_scope.proofs.Long.{got}
use Rattle.rb_outside.proofs.Puts.{puts_nothing, puts_same}
use Rattle.rb_trace.specs.Naming.{process_naming}
use Rattle.rb_changes.specs.Changes.{process_changes}
use Rattle.rb_changes.specs.Noted.{ProcessNoted, noted_of}
use Rattle.rb_changes.specs.Shown.{process_shown}
use Rattle.rb_picture.specs.Trace.{word_reading}
use Rattle.rb_view.specs.Noting.{processes_noted}
use Rattle.rb_view.specs.Steady.{shown_now}
use Rattle.rb_view.proofs.AtNumber.{countable, fits_own, with_held}
use Rattle.rb_view.proofs.Changed.{both_there, image_at, none_before}
use Rattle.rb_view.proofs.Kept.{process_there, words_at}
use Rattle.rb_view.proofs.writing.write_process_at.Goals as goal

pub returns-in_default : goal.returns-in_default
returns-in_default g c =
    let shown = slice_get (shown_now c.args.machine.now).processes c.args.p in
    puts_same _ _ _ _ _ _ _
    (none_before (process_changes c.args.turn (process_naming c.args.process.now)) (slice_get (processes_noted c.args.told.now) c.args.p) shown
    (image_at noted_of c.args.told.now c.args.p None (slice_get_past c.args.told.now c.args.p c.in_default.ensures.lookup.3)))
    (puts_nothing _ _ tt)

pub write_process-requires-clause-before : goal.write_process-requires-clause-before
write_process-requires-clause-before g c =
    let m = c.args.machine.now in
    let was = c.in-Some.was.now in
    let found = c.in-Some.ensures.lookup in
    let one = c.in-Some-get.one.now in
    let too = c.in-Some-get.ensures.lookup in
    let q = process_there m c.args.now.now c.requires.now c.args.p one (got c.args.now.now c.args.p one too.3.0 too.1) in
    fits_own m c.requires.steady c.args.p c.args.process.now c.requires.fit
    (omega (arith, c.requires.steady.processes, slice_get_within m.world.processes c.args.p q.0 q.1)) was.words.items
    (words_at m c.requires.steady c.args.told.now c.requires.sized c.args.p was (got c.args.told.now c.args.p was found.3.0 found.1))

pub write_process-requires-clause-after : goal.write_process-requires-clause-after
write_process-requires-clause-after g c =
    let m = c.args.machine.now in
    let one = c.in-Some-get.one.now in
    let too = c.in-Some-get.ensures.lookup in
    let q = process_there m c.args.now.now c.requires.now c.args.p one (got c.args.now.now c.args.p one too.3.0 too.1) in
    fits_own m c.requires.steady c.args.p c.args.process.now c.requires.fit
    (omega (arith, c.requires.steady.processes, slice_get_within m.world.processes c.args.p q.0 q.1)) one.words.items
    (ap (λ (n : ProcessNoted). length n.words) q.2 ∙ c.requires.steady.words c.args.p q.0 q.1)

pub write_process-requires-clause-then : goal.write_process-requires-clause-then
write_process-requires-clause-then g c =
    let was = c.in-Some.was.now in
    let found = c.in-Some.ensures.lookup in
    countable was (c.requires.told c.args.p was (got c.args.told.now c.args.p was found.3.0 found.1))

pub write_process-requires-clause-countable : goal.write_process-requires-clause-countable
write_process-requires-clause-countable g c =
    let one = c.in-Some-get.one.now in
    let too = c.in-Some-get.ensures.lookup in
    countable one (c.requires.ready c.args.p one (got c.args.now.now c.args.p one too.3.0 too.1))

pub returns : goal.returns
returns g c =
    let m = c.args.machine.now in
    let was = c.in-Some.was.now in
    let found = c.in-Some.ensures.lookup in
    let one = c.in-Some-get.one.now in
    let too = c.in-Some-get.ensures.lookup in
    let shown = process_shown (word_reading m.code m.groups []) m.world.memory in
    let q = process_there m c.args.now.now c.requires.now c.args.p one (got c.args.now.now c.args.p one too.3.0 too.1) in
    let text = process_changes c.args.turn (process_naming c.args.process.now) in
    puts_same _ _ _ _ _ _ _
    (ap (text (noted_of was)) (with_held m one q.0 q.2)
    ∙ both_there text (slice_get (processes_noted c.args.told.now) c.args.p) (slice_get (shown_now m).processes c.args.p) (noted_of was) (shown q.0)
    (image_at noted_of c.args.told.now c.args.p (Some was) (got c.args.told.now c.args.p was found.3.0 found.1))
    (image_at shown m.world.processes c.args.p (Some q.0) q.1))
    (c.write_process.ensures q.0.state.held (sym (ap (λ (n : ProcessNoted). n.held) q.2)) (c.last_held-last.ensures q.0 q.1))
