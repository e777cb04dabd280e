use Rattle.std.proofs.Common.{◌∙◌, refl, sym, subst, arith, ap, ◌+◌}
use Rattle.rb_hall.specs.Ends.{wanted_of}
use Rattle.rb_hall.specs.Read.{StandsAtIn, StopsForFaultIn}
use Rattle.rb_hall.specs.Answers.{piece_bytes}
use Rattle.rb_hall.proofs.Driving.{begun, short_at_once, taken, read_on, refused_at, unjudged, unread_for_fault, unread_for_memory, all_read, read_here, at_next, none_wanted}
use Rattle.rb_hall.proofs.driver.gather.Goals as goal

pub returns-in_default-clause-stopped : goal.returns-in_default-clause-stopped
returns-in_default-clause-stopped g c = (short_at_once _ _ _ _, refl)

pub loop-slot-init : goal.loop-slot-init
loop-slot-init g c = record { files = refl; still = λ none. refl; quiet = refl; count = refl; reading = begun _ _ _ _ _ _ c.in-Ok.ensures _ refl }

pub returns-in-Err-Fault-clause-stopped : goal.returns-in-Err-Fault-clause-stopped
returns-in-Err-Fault-clause-stopped g c =
    let i = c.loop-slot.invariant in
    let stops = subst (λ files. StopsForFaultIn files c.in-Some.file.name.now c.in-Some.file.most (g.F.Shelf.starts c.loop-slot.shelf)
    (g.F.Shelf.starts c.read_file.new.shelf) (g.F.Shelf.faults c.loop-slot.shelf) (g.F.Shelf.faults c.read_file.new.shelf)) i.files
    (rw c.in-Err-Fault.field-0-is at c.in-Err-Fault.ensures.err) in
    unread_for_fault _ _ _ _ _ _ _ _ _ i.reading (wanted_of c.in-Some.file) c.in-Some.ensures _ _ _ _ i.quiet stops

pub returns-in-Err-Memory-clause-stopped : goal.returns-in-Err-Memory-clause-stopped
returns-in-Err-Memory-clause-stopped g c =
    let i = c.loop-slot.invariant in
    let stands = subst (λ files. StandsAtIn files c.in-Some.file.name.now (c.in-Some.file.most + piece_bytes) (g.F.Shelf.starts c.loop-slot.shelf)
    (g.F.Shelf.starts c.read_file.new.shelf)) i.files (let stop = rw c.in-Err-Memory.field-0-is at c.in-Err-Memory.ensures.err in stop.1) in (
      unread_for_memory _ _ _ _ _ _ _ _ _ i.reading (wanted_of c.in-Some.file) c.in-Some.ensures _ stands,
      (let stop = rw c.in-Err-Memory.field-0-is at c.in-Err-Memory.ensures.err in stop.0) ∙ i.quiet,
    )

pub judge-requires : goal.judge-requires
judge-requires g c κs =
    let i = c.loop-slot.invariant in
    let known = taken _ _ _ _ _ _ _ _ _ i.reading (wanted_of c.in-Some.file) c.in-Some.ensures in
    ((refl, tt), (i.reading.texts, wanted_of c.in-Some.file, known.1, refl, known.2))

pub returns-in-Err-Refused-clause-stopped : goal.returns-in-Err-Refused-clause-stopped
returns-in-Err-Refused-clause-stopped g c =
    let i = c.loop-slot.invariant in
    let read = c.as_slice-text.result.now in
    let was = read_here (wanted_of c.in-Some.file) _ _ i.files _ read (sym c.as_slice-text.ensures.value) _ _ c.in-Ok-read_file.ensures.ok in
    rw c.in-Err-Refused.field-0-is (
      refused_at _ _ _ _ _ _ _ _ _ i.reading (wanted_of c.in-Some.file) c.in-Some.ensures (g.C.Command.explains c.args.command.now) _ read
          (record { fault = c.in-Err-Refused.fault; number = c.loop-slot.number; text = c.as_slice-text.result; why = c.in-Err-Refused.why }) was refl refl
          (rw c.in-Err-Refused.field-0-is at c.in-Err-Refused.ensures),
      c.in-Ok-read_file.ensures.quiet ∙ i.quiet,
    )

pub returns-in-Err-Memory-judge-clause-stopped : goal.returns-in-Err-Memory-judge-clause-stopped
returns-in-Err-Memory-judge-clause-stopped g c =
    let i = c.loop-slot.invariant in
    let was = read_here (wanted_of c.in-Some.file) _ _ i.files _ _ refl _ _ c.in-Ok-read_file.ensures.ok in (
      unjudged _ _ _ _ _ _ _ _ _ i.reading (wanted_of c.in-Some.file) c.in-Some.ensures _ c.in-Ok-read_file.bytes.items was,
      c.in-Ok-read_file.ensures.quiet ∙ i.quiet,
    )

pub loop-slot-preserved : goal.loop-slot-preserved
loop-slot-preserved g c =
    let i = c.loop-slot.invariant in
    let read = c.as_slice-text.result.now in
    let was = read_here (wanted_of c.in-Some.file) _ _ i.files _ read (sym c.as_slice-text.ensures.value) _ _ c.in-Ok-read_file.ensures.ok in
    let judged = c.in-Ok-judge.ensures in
    record {
      files = c.read_file.ensures.files ∙ i.files;
      still = λ none. none_wanted (g.C.Command.wanted c.args.command.now) c.loop-slot.number (wanted_of c.in-Some.file) _ c.in-Some.ensures none;
      quiet = c.in-Ok-read_file.ensures.quiet ∙ i.quiet;
      count = ap (λ k. k + 1) i.count;
      reading = at_next _ _ _ _ _ _ _ _ _ (read_on _ _ _ _ _ _ _ _ _ i.reading (wanted_of c.in-Some.file) c.in-Some.ensures _ read c.in-Ok-judge.next was judged.0 judged.1);
    }

pub returns-in_default-file-clause-all : goal.returns-in_default-file-clause-all
returns-in_default-file-clause-all g c =
    all_read _ _ _ _ _ _ _ _ _ c.loop-slot.invariant.reading c.in_default-file.ensures _ _ _ c.after_texts.ensures.held c.after_texts.ensures.number c.after_texts.ensures.text

pub returns-clause-all : goal.returns-clause-all
returns-clause-all g c =
    let i = c.loop-slot.invariant in
    let count = i.count in
    let enough = c.requires in
    let over = c.loop-slot-test.false in
    all_read _ _ _ _ _ _ _ _ _ i.reading (omega (arith, count, enough, over)) _ _ _ c.after_texts-2.ensures.held c.after_texts-2.ensures.number
    c.after_texts-2.ensures.text
