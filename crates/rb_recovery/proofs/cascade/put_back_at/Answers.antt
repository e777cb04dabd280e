use Rattle.std.proofs.Common.{◌≡◌, Bool, true, cond, sym, ap, ◌∙◌, arith}
use Rattle.std.specs.Option.{is_some}
use Rattle.rb_world.specs.World.{is_inside}
use Rattle.rb_recovery.specs.Work.{inside_one}
use Rattle.rb_recovery.proofs.Rejecting.WhoIsInside.{inside_by_place}
use Rattle.rb_recovery.proofs.cascade.put_back_at.Goals as goal

pub returns-in-Some-clause-work : goal.returns-in-Some-clause-work
returns-in-Some-clause-work g c =
    let q = c.args.proc.now.process in
    let inside : is_inside c.args.conversation q ≡ true =
    inside_by_place c.args.conversation q ∙ ap is_some (sym c.place_in.ensures ∙ c.in-Some.is) in
    let one : inside_one c.args.conversation q ≡ 1 = ap (λ (b : Bool). cond b 1 0) inside in
    omega (arith, c.put_back.ensures.work)
