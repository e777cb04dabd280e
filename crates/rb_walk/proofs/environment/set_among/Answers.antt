use Rattle.std.proofs.Common.{◌≡◌, ◌-◌, get_or, w64, sym, ap, ◌∙◌, true, false, rules}
use Rattle.std.specs.Vec.{with_items}
use Rattle.std.proofs.lemmas.Int.{to_z-of_z}
use Rattle.rb_meaning.specs.Environment.{has, stored_in}
use Rattle.rb_walk.specs.Slots.{frame}
use Rattle.rb_walk.proofs.Innermost.{frame_in, next_further, next_same, next_found, next_stored, written}
use Rattle.rb_walk.proofs.environment.set_among.Goals as goal

pub returns-then-set : goal.returns-then-set
returns-then-set c =
    let x = c.args.name.now in
    let xs = c.loop-left.frames in
    let d = c.index-frames-left.result in
    let old = get_or xs (c.loop-left.left - 1) d in
    let new = with_items old c.set.new.slots in
    let lent = c.deref_mut.ensures.value in
    let one : has x (frame_in old) ≡ true = ap (λ slots. has x (frame slots)) (sym lent) ∙ sym c.set.ensures.found ∙ c.if-set.true in
    let e : frame_in new ≡ stored_in x c.args.index c.args.value (frame_in old) =
    written old c.deref_mut.result.now c.set.new.slots lent c.set.auto.slots
    ∙ c.set.ensures.after
    ∙ ap (λ v. stored_in x c.args.index v (frame c.deref_mut.result.now)) (to_z-of_z w64 c.args.value (search rules))
    ∙ ap (λ slots. stored_in x c.args.index c.args.value (frame slots)) lent in
    let inv = c.loop-left.invariant in
    record {
      found = sym (next_found x xs c.args.frames.now c.loop-left.left d inv.same inv.further_out c.loop-left-test.true one);
      after = next_stored x xs c.args.frames.now c.loop-left.left d inv.same inv.further_out c.loop-left-test.true c.args.index c.args.value new one e;
    }

pub loop-left-preserved : goal.loop-left-preserved
loop-left-preserved c =
    let x = c.args.name.now in
    let xs = c.loop-left.frames in
    let d = c.index-frames-left.result in
    let old = get_or xs (c.loop-left.left - 1) d in
    let new = with_items old c.set.new.slots in
    let lent = c.deref_mut.ensures.value in
    let none : has x (frame_in old) ≡ false = ap (λ slots. has x (frame slots)) (sym lent) ∙ sym c.set.ensures.found ∙ c.if-set.false in
    let e : frame_in new ≡ stored_in x c.args.index c.args.value (frame_in old) =
    written old c.deref_mut.result.now c.set.new.slots lent c.set.auto.slots
    ∙ c.set.ensures.after
    ∙ ap (λ v. stored_in x c.args.index v (frame c.deref_mut.result.now)) (to_z-of_z w64 c.args.value (search rules))
    ∙ ap (λ slots. stored_in x c.args.index c.args.value (frame slots)) lent in
    let inv = c.loop-left.invariant in
    record {
      same = next_same x xs c.args.frames.now c.loop-left.left d inv.same inv.further_out c.loop-left-test.true c.args.index c.args.value new none e;
      further_out = next_further x xs c.args.frames.now c.loop-left.left d inv.same inv.further_out c.loop-left-test.true none;
    }
