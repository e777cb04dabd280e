use Rattle.std.proofs.Common.{List, ℕ, map, ap}
use Rattle.rb_outside.proofs.Puts.{puts_both, puts_same, puts_stopped_at}
use Rattle.rb_trace.specs.Lines.{spaced}
use Rattle.rb_trace.specs.Naming.{naming}
use Rattle.rb_world.specs.Text.{process_word}
use Rattle.rb_picture.proofs.head.write_conversation.Goals as goal

pub returns-in_err-write_group : goal.returns-in_err-write_group
returns-in_err-write_group g c =
    puts_stopped_at _ _ _ _ _ _ _ c.from_residual.result c.from_residual.ensures.0 c.in_err-write_group.ensures

pub returns-in_err-write_members : goal.returns-in_err-write_members
returns-in_err-write_members g c =
    let members = ap (λ (xs : List ℕ). spaced (map (process_word (naming c.args.names.now)) xs)) c.deref.ensures.value in
    puts_both _ _ _ _ _ _ _ _ _ _ c.in_ok-write_group.ensures
    (puts_stopped_at _ _ _ _ _ _ _ c.from_residual-in_err-write_members.result c.from_residual-in_err-write_members.ensures.0
    (puts_same _ _ _ _ _ _ _ members c.in_err-write_members.ensures))

pub returns : goal.returns
returns g c =
    let members = ap (λ (xs : List ℕ). spaced (map (process_word (naming c.args.names.now)) xs)) c.deref.ensures.value in
    puts_both _ _ _ _ _ _ _ _ _ _ c.in_ok-write_group.ensures
    (puts_both _ _ _ _ _ _ _ _ _ _ (puts_same _ _ _ _ _ _ _ members c.in_ok-write_members.ensures) c.put.ensures)
