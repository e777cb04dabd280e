use Rattle.std.proofs.Common.{◌-◌, length, take, ap, sym, ◌∙◌, subst, arith}
use Rattle.rb_code.specs.SoundCode.Safe.{StayAbove}
use Rattle.rb_recoverable.specs.Contents.{Contents}
use Rattle.rb_recoverable.proofs.Tied.{seen_cut, tied_cut}
use Rattle.rb_recoverable.proofs.recoverable.Recoverable.drop_frame.Goals as goal

pub invariant_of-self : goal.invariant_of-self
invariant_of-self g c =
    let ws = c.self.inside.cells.words in
    let same = ap (λ (r : Contents). length r.words) c.self.view_is in
    let stay = subst (λ (r : Contents). StayAbove r.touched (length r.words - c.args.n)) (sym c.self.view_is) c.requires.copies in
    let stored = c.drop_to.ensures ∙ ap (λ h. record { words = take (h - c.args.n) ws; limit = c.self.inside.cells.limit }) c.height.ensures.words in
    tied_cut _ _ _ _ _ _ _ _ _ c.self.invariant c.drop_to.new.self (length ws - c.args.n) stored (omega arith) (omega arith) stay

pub returns : goal.returns
returns g c =
    let ws = c.self.inside.cells.words in
    let same = ap (λ (r : Contents). length r.words) c.self.view_is in
    let stay = subst (λ (r : Contents). StayAbove r.touched (length r.words - c.args.n)) (sym c.self.view_is) c.requires.copies in
    let stored = c.drop_to.ensures ∙ ap (λ h. record { words = take (h - c.args.n) ws; limit = c.self.inside.cells.limit }) c.height.ensures.words in
    seen_cut _ _ _ _ _ _ _ _ _ c.self.invariant c.drop_to.new.self (length ws - c.args.n) stored (omega arith) (omega arith) stay
    ∙ ap (λ (r : Contents). record r { words = take (length r.words - c.args.n) r.words }) c.self.view_is
