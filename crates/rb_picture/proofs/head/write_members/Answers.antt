use Rattle.std.proofs.Common.{◌+◌, drop, map, ap, refl, arith}
use Rattle.std.specs.List.{flat_map}
use Rattle.rb_outside.proofs.Puts.{puts_same}
use Rattle.rb_trace.proofs.Written.{written_nothing, written_more, written_part, written_all}
use Rattle.rb_trace.specs.Lines.{spaced_word}
use Rattle.rb_trace.specs.Naming.{naming}
use Rattle.rb_world.specs.Text.{process_word}
use Rattle.rb_changes.proofs.Parts.{flat_end, flat_next}
use Rattle.rb_picture.proofs.head.write_members.Goals as goal

pub loop-member-init : goal.loop-member-init
loop-member-init g c = written_nothing _ _ _

pub loop-member-preserved : goal.loop-member-preserved
loop-member-preserved g c =
    let text = spaced_word in
    let xs = c.args.members.now in
    let i = c.loop-member.member-index in
    let next = flat_next text (process_word (naming c.args.names.now)) i xs _ _ (omega (arith, c.loop-member-test.true)) refl in
    written_more _ _ _ (flat_map text (drop (i + 1) (map (process_word (naming c.args.names.now)) xs))) _ _ _ _ _ _
    c.loop-member.invariant next (puts_same _ _ _ _ _ _ _ (ap spaced_word c.process_at.ensures) c.in_ok-put_member.ensures)

pub returns-in_err-put_member : goal.returns-in_err-put_member
returns-in_err-put_member g c =
    let text = spaced_word in
    let xs = c.args.members.now in
    let i = c.loop-member.member-index in
    let next = flat_next text (process_word (naming c.args.names.now)) i xs _ _ (omega (arith, c.loop-member-test.true)) refl in
    written_part _ _ _ (flat_map text (drop (i + 1) (map (process_word (naming c.args.names.now)) xs))) _ _ _ _ _ _ _
    c.from_residual.result c.loop-member.invariant next (puts_same _ _ _ _ _ _ _ (ap spaced_word c.process_at.ensures) c.in_err-put_member.ensures) c.from_residual.ensures.0

pub returns : goal.returns
returns g c =
    written_all _ _ _ _ _ _ c.loop-member.invariant
    (flat_end (spaced_word) (process_word (naming c.args.names.now)) _ c.args.members.now (omega (arith, c.loop-member-test.false)))
