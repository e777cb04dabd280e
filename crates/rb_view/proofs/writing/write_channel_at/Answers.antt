use Rattle.std.proofs.Common.{ℤ, ap, ◌∙◌, arith, rules, w64}
use Rattle.std.proofs.lemmas.Int.{to_z-of_z}
use Rattle.std.specs.Prelude.{slice_get}
use Rattle.std.proofs.lemmas.Option.{slice_get_past}
use Rattle.rb_scope.proofs.Long.{got}
use Rattle.rb_outside.proofs.Puts.{puts_nothing, puts_same}
use Rattle.rb_changes.specs.Changes.{channel_changes}
use Rattle.rb_view.specs.Steady.{shown_now}
use Rattle.rb_view.proofs.AtNumber.{channel_few, channel_kept, no_channel}
use Rattle.rb_view.proofs.Changed.{both_there, none_after, none_before}
use Rattle.rb_view.proofs.writing.write_channel_at.Goals as goal

pub returns-in_default : goal.returns-in_default
returns-in_default g c =
    let shown = slice_get (shown_now c.args.machine.now).channels c.args.c in
    puts_same _ _ _ _ _ _ _
    (none_before (channel_changes c.args.turn c.args.name.now) (slice_get c.args.told.now c.args.c) shown
    (slice_get_past c.args.told.now c.args.c c.in_default.ensures.lookup.3))
    (puts_nothing _ _ tt)

pub returns-in_default-get : goal.returns-in_default-get
returns-in_default-get g c =
    let shown = slice_get (shown_now c.args.machine.now).channels c.args.c in
    puts_same _ _ _ _ _ _ _
    (none_after (channel_changes c.args.turn c.args.name.now) (slice_get c.args.told.now c.args.c) shown
    (no_channel c.args.machine.now c.args.now.now c.requires.now c.args.c c.in_default-get.ensures.lookup.3))
    (puts_nothing _ _ tt)

pub overflow_cast-c : goal.overflow_cast-c
overflow_cast-c g c =
    omega (arith, channel_few c.args.machine.now c.requires.steady c.args.now.now c.requires.now c.args.c c.in-Some-get.ensures.lookup.3.0)

pub returns : goal.returns
returns g c =
    let was = c.in-Some.was.now in
    let one = c.in-Some-get.one.now in
    let found = c.in-Some.ensures.lookup in
    let too = c.in-Some-get.ensures.lookup in
    let shown = slice_get (shown_now c.args.machine.now).channels c.args.c in
    puts_same _ _ _ _ _ _ _
    (ap (λ (last : ℤ). channel_changes c.args.turn c.as_bytes.result.now was (record { numbers = one; last = last }))
    (to_z-of_z w64 c.last_sent-last.result (search rules))
    ∙ (λ j. channel_changes c.args.turn (c.as_bytes.ensures j) was (record { numbers = one; last = c.last_sent-last.ensures j }))
    ∙ both_there (channel_changes c.args.turn c.args.name.now) (slice_get c.args.told.now c.args.c) shown was _
    (got c.args.told.now c.args.c was found.3.0 found.1)
    (channel_kept c.args.machine.now c.args.now.now c.requires.now c.args.c one (got c.args.now.now c.args.c one too.3.0 too.1)))
    c.write_channel.ensures
