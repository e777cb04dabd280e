use Rattle.std.proofs.Common.{ap, sym, ◌∙◌}
use Rattle.rb_hold.specs.Held.{TwoLists, held_bytes}
use Rattle.rb_hold.proofs.Lines.{held_is}
use Rattle.rb_hold.proofs.hold.Hold.length.Goals as goal

pub returns : goal.returns
returns c =
    let held = held_is c.self.inside.lines.items c.self.inside.held c.self.invariant.held_within c.self.invariant.held_lines in
    sym held ∙ ap (λ (two : TwoLists). held_bytes two.held) c.self.view_is
