-- A process more.
use Rattle.std.proofs.Common.{◌≡◌, ◌<◌, length, refl, slice_get, Some, ◌∙◌, arith}
use Rattle.std.proofs.lemmas.List.{length-map}
use Rattle.std.proofs.lemmas.Option.{slice_get_read}
use Rattle.rb_changes.specs.Noted.{noted_of}
use Rattle.rb_view.specs.Noting.{IsReady, processes_noted, words_long}
use Rattle.rb_view.specs.Steady.{noted_now}
use Rattle.rb_view.proofs.Filling.{each_set, filled_all, images_more, numbers_stay}
use Rattle.rb_view.proofs.Kept.{as_many, kept_long, kept_same, noted_long, process_kept, words_at}
use Rattle.rb_view.proofs.noting.note_processes.Goals as goal

pub note_process-requires-clause-process : goal.note_process-requires-clause-process
note_process-requires-clause-process g c =
    as_many c.args.machine.now c.requires.steady c.args.kept.now.items c.requires.sized c.loop-p.p
    (omega (arith, c.loop-p-test.true, c.len-p-end.ensures))

pub note_process-requires-clause-words : goal.note_process-requires-clause-words
note_process-requires-clause-words g c =
    let kept = c.loop-p.kept.items in
    let within : c.loop-p.p < length kept =
    omega (arith, kept_same kept c.args.kept.now.items c.loop-p.invariant.long, c.loop-p-test.true, c.len-p-end.ensures) in
    words_at c.args.machine.now c.requires.steady kept (c.loop-p.invariant.long ∙ c.requires.sized) c.loop-p.p c.index_mut.result.now
    (slice_get_read kept (length kept) c.loop-p.p c.index_mut.result.now refl within c.index_mut.ensures.value)

pub note_process-requires-clause-ready : goal.note_process-requires-clause-ready
note_process-requires-clause-ready g c =
    let kept = c.loop-p.kept.items in
    let within : c.loop-p.p < length kept =
    omega (arith, kept_same kept c.args.kept.now.items c.loop-p.invariant.long, c.loop-p-test.true, c.len-p-end.ensures) in
    c.loop-p.invariant.ready c.loop-p.p c.index_mut.result.now
    (slice_get_read kept (length kept) c.loop-p.p c.index_mut.result.now refl within c.index_mut.ensures.value)

pub loop-p-preserved : goal.loop-p-preserved
loop-p-preserved g c =
    let m = c.args.machine.now in
    let kept = c.loop-p.kept.items in
    let new = c.note_process.new.kept in
    let within : c.loop-p.p < length kept =
    omega (arith, kept_same kept c.args.kept.now.items c.loop-p.invariant.long, c.loop-p-test.true, c.len-p-end.ensures) in
    let there : slice_get kept c.loop-p.p ≡ Some c.index_mut.result.now =
    slice_get_read kept (length kept) c.loop-p.p c.index_mut.result.now refl within c.index_mut.ensures.value in
    record {
      long = numbers_stay words_long noted_of kept c.loop-p.p new c.index_mut.result.now there c.note_process.ensures.words ∙ c.loop-p.invariant.long;
      ready = each_set IsReady kept c.loop-p.p new c.loop-p.invariant.ready c.note_process.ensures.ready;
      noted = images_more noted_of kept (noted_now m).processes c.loop-p.p new within
          (process_kept m c.loop-p.p (as_many m c.requires.steady c.args.kept.now.items c.requires.sized c.loop-p.p
          (omega (arith, c.loop-p-test.true, c.len-p-end.ensures))) (noted_of new) c.note_process.ensures.noted) c.loop-p.invariant.noted;
    }

pub returns-clause-noted : goal.returns-clause-noted
returns-clause-noted g c =
    let m = c.args.machine.now in
    let kept = c.loop-p.kept.items in
    let long = length-map kept noted_of in
    filled_all (processes_noted kept) (noted_now m).processes c.loop-p.p
    (omega (arith, long, kept_same kept c.args.kept.now.items c.loop-p.invariant.long, c.loop-p-test.false, c.len-p-end.ensures))
    (omega (arith, long, kept_long m c.requires.steady kept (c.loop-p.invariant.long ∙ c.requires.sized), noted_long m)) c.loop-p.invariant.noted
