use Rattle.std.proofs.Common.{◌≡◌, ℕ, ◌+◌, ◌-◌, List, take, drop, slice_get, Some, refl, ap, sym, ◌∙◌, arith}
use Rattle.rb_hold.specs.Held.{TwoLists}
use Rattle.rb_hold.specs.Stored.{lines_in}
use Rattle.rb_hold.proofs.Lines.{first_from, passed_within, passed_buffer, passed_others}
use Rattle.rb_hold.proofs.hold.Hold.next_line.Goals as goal

pub overflow_add-self : goal.overflow_add-self
overflow_add-self c =
    let first = first_from c.self.inside.lines.items c.deref.result.now c.self.inside.waiting c.in_ok-length.length c.deref.ensures.value c.self.invariant.waiting_lines
    (sym c.first_length.ensures ∙ c.in_ok-length.was) in
    let within = passed_within c.self.inside.lines.items c.self.inside.waiting c.in_ok-length.length c.self.invariant.waiting_within first in
    omega (arith, within, c.self.invariant.few)

pub invariant_of-self-2 : goal.invariant_of-self-2
invariant_of-self-2 c =
    let first = first_from c.self.inside.lines.items c.deref.result.now c.self.inside.waiting c.in_ok-length.length c.deref.ensures.value c.self.invariant.waiting_lines
    (sym c.first_length.ensures ∙ c.in_ok-length.was) in
    passed_buffer c.self.inside.lines.items c.self.inside.held c.self.inside.waiting c.in_ok-length.length _ c.self.invariant first

pub returns : goal.returns
returns c =
    let rest = drop c.self.inside.waiting c.self.inside.lines.items in
    let n = c.in_ok-length.length in
    let first = first_from c.self.inside.lines.items c.deref.result.now c.self.inside.waiting c.in_ok-length.length c.deref.ensures.value c.self.invariant.waiting_lines
    (sym c.first_length.ensures ∙ c.in_ok-length.was) in
    let long : c.self.inside.waiting + n - c.self.inside.waiting ≡ n = omega arith in
    let others = passed_others c.self.inside.lines.items c.self.inside.waiting n first in
    let after =
    ap (λ (lines : List (List ℕ)). record { held = lines_in (take c.self.inside.held c.self.inside.lines.items); released = lines }) others
    ∙ ap (λ (two : TwoLists). record { held = two.held; released = drop 1 two.released }) c.self.view_is in
    let lent = ap
    (λ (bytes : List ℕ). Some
    (take (c.self.inside.waiting + n - c.self.inside.waiting) (drop c.self.inside.waiting bytes))) c.deref-2.ensures.value
    ∙ ap (λ (m : ℕ). Some (take m rest)) long ∙ first.first ∙ ap (λ (two : TwoLists). slice_get two.released 0) c.self.view_is in
    ((refl, λ _. tt, after), record { lent = lent; after = tt })
