use Rattle.std.proofs.lemmas.Grind.{common_steps}
use Rattle.std.proofs.Common.{◌≡◌, ℕ, List, ◌++◌, length, drop, Some, refl, sym, ap, ◌∙◌, rules, arith}
use Rattle.std.specs.List.{flat_map}
use Rattle.rb_base.specs.Lines.{belonging, next_line}
use Rattle.rb_trace.specs.Naming.{naming}
use Rattle.rb_trace.specs.Report.{out_line}
use Rattle.rb_trace.proofs.Written.{written_nothing, written_more, written_part}
use Rattle.rb_trace.proofs.Waiting.{set-belonging, next_first, taken, all_taken}
use Rattle.rb_trace.proofs.report.write_released.Goals as goal

pub lines-init : goal.lines-init
lines-init g c = (written_nothing _ _ _, sym (set-belonging _ _), c.requires, refl)

pub lines-smaller : goal.lines-smaller
lines-smaller g c =
    let p = c.args.process in
    let before = g.M.Lines.waiting c.lines.lines in
    let now = g.M.Lines.waiting c.released.follows.lender-at-none in
    let one = taken (g.M.Lines.waiting c.args.lines.now) before now p c.lines.invariant.1 c.lines.invariant.2 c.released.follows.holds-at-none.0 in
    let next : next_line before p ≡ Some c.in-Some.line.now = search rules in
    let first = next_first before p c.in-Some.line.now next in
    omega (arith, ap length one.left, ap length first)

pub lines-preserved : goal.lines-preserved
lines-preserved g c =
    let p = c.args.process in
    let before = g.M.Lines.waiting c.lines.lines in
    let now = g.M.Lines.waiting c.released.follows.lender-at-none in
    let one = taken (g.M.Lines.waiting c.args.lines.now) before now p c.lines.invariant.1 c.lines.invariant.2 c.released.follows.holds-at-none.0 in
    let next : next_line before p ≡ Some c.in-Some.line.now = search rules in
    let line = out_line (naming c.args.names.now) c.args.turn p in
    let splits : flat_map line (belonging before p) ≡ line c.in-Some.line.now ++ flat_map line (belonging now p) =
    ap (flat_map line) (next_first before p c.in-Some.line.now next)
    ∙ ap (λ (left : List (List ℕ)). line c.in-Some.line.now ++ flat_map line left) (sym one.left) in (
      written_more _ _ (line c.in-Some.line.now) (flat_map line (belonging now p)) _ _ _ _ _ _ c.lines.invariant.0 splits c.in_ok-write_out.ensures,
      one.others,
      one.within,
      c.released.follows.holds-at-none.1 ∙ c.lines.invariant.3,
    )

pub returns-in_err-write_out-clause-text : goal.returns-in_err-write_out-clause-text
returns-in_err-write_out-clause-text g c =
    let p = c.args.process in
    let before = g.M.Lines.waiting c.lines.lines in
    let next : next_line before p ≡ Some c.in-Some.line.now = search rules in
    let line = out_line (naming c.args.names.now) c.args.turn p in
    written_part _ _ (line c.in-Some.line.now) (flat_map line (drop 1 (belonging before p))) _ _ _ _ _ _ _ c.from_residual.result c.lines.invariant.0
    (ap (flat_map line) (next_first before p c.in-Some.line.now next)) c.in_err-write_out.ensures c.from_residual.ensures.0

pub returns-clause-none_waits : goal.returns-clause-none_waits
returns-clause-none_waits g c =
    all_taken (g.M.Lines.waiting c.args.lines.now) (g.M.Lines.waiting c.lines.lines)
    (g.M.Lines.waiting c.released.follows.lender-at-none) c.args.process
    c.lines.invariant.1 c.lines.invariant.2 c.released.follows.holds-at-none.0 (search rules)

pub returns-clause-rest : goal.returns-clause-rest
returns-clause-rest g c = grind (arith, common_steps)
