use Rattle.std.proofs.Common.{◌≡◌, ◌-◌, ◌^◌, List, [], ap, ◌∙◌, subst, rules}
use Rattle.std.specs.Prelude.{vec_capacity}
use Rattle.rb_recoverable.specs.Contents.{Contents}
use Rattle.rb_recoverable.specs.Inside.{IsTied, contents}
use Rattle.rb_recoverable.specs.declared.recoverable.LevelMark.{LevelMark}
use Rattle.rb_recoverable.proofs.Leaving.{seen_forget, tied_forget}
use Rattle.rb_recoverable.proofs.recoverable.Recoverable.forget_levels.Goals as goal

pub invariant_of-self : goal.invariant_of-self
invariant_of-self g c =
    let i = c.self.inside in
    subst
    (λ (ms : List LevelMark). IsTied i.clock (2 ^ 32 - 1) i.cells c.forget.new.cache i.calls.items (vec_capacity i.calls) ms
    (vec_capacity c.clear.new.self) i.hold)
    (search rules)
    (tied_forget _ _ _ _ _ _ _ _ _ c.self.invariant c.forget.new.cache c.forget.ensures.none (2 ^ 32 - 1) (vec_capacity c.clear.new.self)
    (search rules) c.forget.ensures.fits c.forget.ensures.limits)

pub returns : goal.returns
returns g c =
    let i = c.self.inside in
    let empty : c.clear.new.self.items ≡ [] = search rules in
    ap (λ (ms : List LevelMark). contents i.clock i.cells.words c.forget.new.cache i.calls.items ms i.hold) empty
    ∙ seen_forget _ _ _ _ _ _ _ _ _ c.self.invariant c.forget.new.cache c.forget.ensures.none
    ∙ ap (λ (r : Contents). record r { touched = []; levels = [] }) c.self.view_is
