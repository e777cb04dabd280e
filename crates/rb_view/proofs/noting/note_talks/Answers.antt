use Rattle.std.proofs.Common.{ap, sym, ◌∙◌, arith, Some}
use Rattle.std.proofs.lemmas.List.{length-map}
use Rattle.rb_world.proofs.ListFacts.{slice_get-there}
use Rattle.rb_changes.specs.Noted.{talk_of}
use Rattle.rb_view.specs.Noting.{talks_noted}
use Rattle.rb_view.proofs.Filling.{filled_all, images_more, long_set}
use Rattle.rb_view.proofs.noting.note_talks.Goals as goal

pub talk_at-requires : goal.talk_at-requires
talk_at-requires g c = omega (arith, c.loop-d-test.true, c.len-d-end.ensures, c.requires.sized, c.requires.steady.talks)

pub loop-d-preserved : goal.loop-d-preserved
loop-d-preserved g c =
    let m = c.args.machine.now in
    let talk = slice_get-there m.world.talks c.loop-d.d (omega (arith, c.loop-d-test.true, c.len-d-end.ensures, c.requires.sized, c.requires.steady.talks)) in
    record {
      long = long_set c.loop-d.kept.items c.loop-d.d c.talk_at.result ∙ c.loop-d.invariant.long;
      noted = images_more talk_of c.loop-d.kept.items m.world.talks c.loop-d.d c.talk_at.result
          (omega (arith, c.loop-d.invariant.long, c.loop-d-test.true, c.len-d-end.ensures))
          (talk.1 ∙ ap Some (sym (c.talk_at.ensures talk.0 talk.1))) c.loop-d.invariant.noted;
    }

pub returns : goal.returns
returns g c =
    let long = length-map c.loop-d.kept.items talk_of in
    filled_all (talks_noted c.loop-d.kept.items) c.args.machine.now.world.talks c.loop-d.d
    (omega (arith, long, c.loop-d.invariant.long, c.loop-d-test.false, c.len-d-end.ensures))
    (omega (arith, long, c.loop-d.invariant.long, c.requires.sized, c.requires.steady.talks)) c.loop-d.invariant.noted
