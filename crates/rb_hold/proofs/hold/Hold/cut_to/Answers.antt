use Rattle.std.proofs.Common.{ℕ, List, take, drop, ap, ◌∙◌, sym, arith, subst}
use Rattle.rb_hold.specs.Held.{TwoLists, IsLengthOf}
use Rattle.rb_hold.specs.Stored.{lines_in}
use Rattle.rb_hold.proofs.Lines.{cut_within, cut_lines, cut_are_lines}
use Rattle.rb_hold.proofs.hold.Hold.cut_to.Goals as goal

pub invariant_of-self : goal.invariant_of-self
invariant_of-self c =
    let inside = c.self.inside in
    let old = c.self.invariant in
    let k = c.requires.prefix.0 in
    let cut = subst (λ (two : TwoLists). IsLengthOf c.args.length k two.held) (sym c.self.view_is) c.requires.prefix.1 in
    record {
      held_within = omega (arith, old.held_within, cut_within inside.lines.items inside.held c.args.length k old.held_within old.held_lines cut);
      waiting_within = old.waiting_within;
      few = old.few;
      has_room = old.has_room;
      held_lines = cut_are_lines inside.lines.items inside.held c.args.length k old.held_within old.held_lines cut;
      waiting_lines = old.waiting_lines;
    }

pub returns : goal.returns
returns c k kept =
    let inside = c.self.inside in
    let old = c.self.invariant in
    let cut = subst (λ (two : TwoLists). IsLengthOf c.args.length k two.held) (sym c.self.view_is) kept in
    let lines = cut_lines inside.lines.items inside.held c.args.length k old.held_within old.held_lines cut in
    ap (λ (held : List (List ℕ)). record { held = held; released = lines_in (drop inside.waiting inside.lines.items) }) lines
    ∙ ap (λ (two : TwoLists). record { held = take k two.held; released = two.released }) c.self.view_is
