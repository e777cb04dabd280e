use Rattle.std.proofs.Common.{◌≡◌, Bool, true, false, cond, sym, ap, ◌∙◌}
use Rattle.std.specs.Option.{is_some}
use Rattle.rb_base.specs.declared.event.Cause.TheVariants.{Inner}
use Rattle.rb_world.specs.Reject.{fallen}
use Rattle.rb_world.specs.World.{is_inside}
use Rattle.rb_proc.specs.Process.{kind_of}
use Rattle.rb_recovery.specs.Rejections.{changed}
use Rattle.rb_recovery.proofs.Rejecting.WhoIsInside.{inside_by_place}
use Rattle.rb_recovery.proofs.cascade.fail_at.Goals as goal

pub returns-then-is_some : goal.returns-then-is_some
returns-then-is_some g c =
    let q = c.args.proc.now.process in
    let inside : is_inside c.args.conversation q ≡ true =
    inside_by_place c.args.conversation q ∙ ap is_some (sym c.place_in.ensures) ∙ sym c.is_some.ensures ∙ c.if-is_some.true in
    λ code. c.fail.ensures code ∙ ap (λ (b : Bool). changed (λ p. cond b (fallen (kind_of code) Inner p) p) c.args.proc.now) (sym inside)

pub returns-else-is_some : goal.returns-else-is_some
returns-else-is_some g c =
    let q = c.args.proc.now.process in
    let outside : is_inside c.args.conversation q ≡ false =
    inside_by_place c.args.conversation q ∙ ap is_some (sym c.place_in.ensures) ∙ sym c.is_some.ensures ∙ c.if-is_some.false in
    λ code. ap (λ (b : Bool). changed (λ p. cond b (fallen (kind_of code) Inner p) p) c.args.proc.now) (sym outside)
