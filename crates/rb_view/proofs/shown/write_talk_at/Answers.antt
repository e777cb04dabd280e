use Rattle.std.proofs.Common.{ℕ, List, ap, ◌∙◌}
use Rattle.rb_scope.proofs.Long.{got}
use Rattle.rb_outside.proofs.Puts.{puts_nothing, puts_same}
use Rattle.rb_changes.specs.Changes.{talk_changes}
use Rattle.rb_changes.specs.Noted.{talk_of}
use Rattle.rb_view.proofs.Changed.{both_read, first_past, second_past}
use Rattle.rb_view.proofs.shown.write_talk_at.Goals as goal

pub returns-in_default : goal.returns-in_default
returns-in_default g c =
    puts_same _ _ _ _ _ _ _
    (first_past (talk_changes c.args.turn c.args.name.now) talk_of talk_of c.args.told.now c.args.now.now c.args.d c.in_default.ensures.lookup.3)
    (puts_nothing _ _ tt)

pub returns-in_default-get : goal.returns-in_default-get
returns-in_default-get g c =
    puts_same _ _ _ _ _ _ _
    (second_past (talk_changes c.args.turn c.args.name.now) talk_of talk_of c.args.told.now c.args.now.now c.args.d c.in_default-get.ensures.lookup.3)
    (puts_nothing _ _ tt)

pub returns : goal.returns
returns g c =
    let was = c.in-Some.was.now in
    let one = c.in-Some-get.one.now in
    let found = c.in-Some.ensures.lookup in
    let too = c.in-Some-get.ensures.lookup in
    puts_same _ _ _ _ _ _ _
    (ap (λ (name : List ℕ). talk_changes c.args.turn name (talk_of was) (talk_of one)) c.as_bytes.ensures
    ∙ both_read (talk_changes c.args.turn c.args.name.now) talk_of talk_of c.args.told.now c.args.now.now c.args.d was one
    (got c.args.told.now c.args.d was found.3.0 found.1) (got c.args.now.now c.args.d one too.3.0 too.1))
    c.write_talk.ensures
