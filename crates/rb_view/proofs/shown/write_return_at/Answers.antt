use Rattle.std.proofs.Common.{[], ◌∙◌}
use Rattle.rb_scope.proofs.Long.{got}
use Rattle.rb_outside.proofs.Puts.{puts_nothing, puts_same}
use Rattle.rb_trace.specs.Naming.{process_naming}
use Rattle.rb_changes.specs.Changes.{back_line, back_of, put_back}
use Rattle.rb_changes.specs.Noted.{noted_of, shown_with}
use Rattle.rb_view.proofs.Changed.{both_read, first_past, second_past}
use Rattle.rb_view.proofs.shown.write_return_at.Goals as goal

pub returns-in_default : goal.returns-in_default
returns-in_default g c =
    puts_same _ _ _ _ _ _ _
    (first_past (back_of c.args.turn (process_naming c.args.process.now)) noted_of (shown_with []) c.args.told.now c.args.now.now c.args.p
    c.in_default.ensures.lookup.3)
    (puts_nothing _ _ tt)

pub returns-in_default-get : goal.returns-in_default-get
returns-in_default-get g c =
    puts_same _ _ _ _ _ _ _
    (second_past (back_of c.args.turn (process_naming c.args.process.now)) noted_of (shown_with []) c.args.told.now c.args.now.now c.args.p
    c.in_default-get.ensures.lookup.3)
    (puts_nothing _ _ tt)

pub returns : goal.returns
returns g c =
    let was = c.in-Some.was.now in
    let one = c.in-Some-get.one.now in
    let found = c.in-Some.ensures.lookup in
    let too = c.in-Some-get.ensures.lookup in
    puts_same _ _ _ _ _ _ _
    ((λ j. back_line c.args.turn (c.as_bytes.ensures j) (put_back (c.deref.ensures.value j) (c.deref-2.ensures.value j)))
    ∙ both_read (back_of c.args.turn (process_naming c.args.process.now)) noted_of (shown_with []) c.args.told.now c.args.now.now c.args.p was one
    (got c.args.told.now c.args.p was found.3.0 found.1) (got c.args.now.now c.args.p one too.3.0 too.1))
    c.write_return.ensures
