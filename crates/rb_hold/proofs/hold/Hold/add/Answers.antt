use Rattle.std.proofs.Common.{◌≡◌, ℕ, ◌+◌, ◌<◌, ◌≤◌, not, List, [], ◌∷◌, ◌++◌, length, take, drop, ap, sym, ◌∙◌, rules, arith, length-append, length-take-le}
use Rattle.std.proofs.lemmas.Bool.{lt-ltb, le-ltb}
use Rattle.rb_base.specs.declared.limits.TheConstants.{MOST_HELD_BYTES}
use Rattle.rb_hold.specs.Held.{TwoLists, held_bytes}
use Rattle.rb_hold.specs.Stored.{lines_in}
use Rattle.rb_hold.proofs.Lines.{held_is, one_more_buffer, one_more_held, none_waits}
use Rattle.rb_hold.proofs.hold.Hold.add.Goals as goal

pub returns-then-line-self-clause-room : goal.returns-then-line-self-clause-room
returns-then-line-self-clause-room c =
    let held = ap (λ (two : TwoLists). held_bytes two.held) (sym c.self.view_is)
    ∙ held_is c.self.inside.lines.items c.self.inside.held c.self.invariant.held_within c.self.invariant.held_lines in
    let above : MOST_HELD_BYTES < held_bytes c.args.self.now.held + (length c.args.line.now + 1) = omega (arith, held, c.if-line-self.true) in
    ap not (sym (lt-ltb _ _ above))

pub returns-clause-room : goal.returns-clause-room
returns-clause-room c =
    let held = ap (λ (two : TwoLists). held_bytes two.held) (sym c.self.view_is)
    ∙ held_is c.self.inside.lines.items c.self.inside.held c.self.invariant.held_within c.self.invariant.held_lines in
    let within : held_bytes c.args.self.now.held + (length c.args.line.now + 1) ≤ MOST_HELD_BYTES = omega (arith, held, c.if-line-self.false) in
    ap not (sym (le-ltb _ _ within))

pub invariant_of-self : goal.invariant_of-self
invariant_of-self c =
    let bytes = take c.self.inside.held c.self.inside.lines.items in
    let items : c.push.new.self.items ≡ (bytes ++ c.args.line.now) ++ 10 ∷ [] = search rules in
    let few : length c.push.new.self.items ≤ MOST_HELD_BYTES =
    omega (
      arith,
      ap length items,
      length-append (bytes ++ c.args.line.now) (10 ∷ []),
      length-append bytes c.args.line.now,
      length-take-le c.self.inside.held c.self.inside.lines.items c.self.invariant.held_within,
      c.if-line-self.false,
    ) in
    one_more_buffer bytes c.args.line.now c.push.new.self.items c.len-self-inside.result _ items
    (search rules) c.self.invariant.held_lines c.requires.line few (search rules)

pub returns-clause-after : goal.returns-clause-after
returns-clause-after c =
    let bytes = take c.self.inside.held c.self.inside.lines.items in
    let line = c.args.line.now in
    let items : c.push.new.self.items ≡ (bytes ++ line) ++ 10 ∷ [] = search rules in
    let held = one_more_held bytes line c.push.new.self.items c.len-self-inside.result items
    (search rules) c.self.invariant.held_lines c.requires.line in
    let none = none_waits c.push.new.self.items c.len-self-inside.result (search rules) in
    ap (λ (lines : List (List ℕ)). record { held = lines; released = lines_in (drop c.len-self-inside.result c.push.new.self.items) }) held
    ∙ ap (λ (lines : List (List ℕ)). record { held = lines_in bytes ++ line ∷ []; released = lines }) (none ∙ sym c.requires.none_waits)
    ∙ ap (λ (two : TwoLists). record { held = two.held ++ line ∷ []; released = c.args.self.now.released }) c.self.view_is
