use Rattle.std.proofs.Common.{ℕ, ◌<◌, ◌≤◌, min, List, length, slice_index_or, ap, arith, ◌∙◌}
use Rattle.rb_outside.proofs.Puts.{puts_same}
use Rattle.rb_domino.specs.Written.{place_text}
use Rattle.rb_domino.proofs.Places.{places_next, places_part, places_whole}
use Rattle.rb_domino.proofs.text.write_line.Goals as goal

pub returns-in_err-write_place : goal.returns-in_err-write_place
returns-in_err-write_place g c =
    let names = c.args.names.now in
    let states = c.args.states.now in
    let p = c.loop-p.p in
    let here = c.index-names-p.result in
    let some : p < length names = omega arith in
    let also : p < length states = omega arith in
    let read = c.as_bytes.ensures ∙ c.index-names-p.is in
    places_part _ names states _ _ _ _ _ c.from_residual.result c.from_residual.ensures.0
    (places_next p names states here 0 some also _ _ _ _ _ _ _ _ c.loop-p.invariant
    (puts_same _ _ _ _ _ _ _ (ap (λ (name : List ℕ). place_text name (slice_index_or states p 0)) read) c.in_err-write_place.ensures))

pub loop-p-preserved : goal.loop-p-preserved
loop-p-preserved g c =
    let names = c.args.names.now in
    let states = c.args.states.now in
    let p = c.loop-p.p in
    let here = c.index-names-p.result in
    let some : p < length names = omega arith in
    let also : p < length states = omega arith in
    let read = c.as_bytes.ensures ∙ c.index-names-p.is in
    places_next p names states here 0 some also _ _ _ _ _ _ _ _ c.loop-p.invariant
    (puts_same _ _ _ _ _ _ _ (ap (λ (name : List ℕ). place_text name (slice_index_or states p 0)) read) c.in_ok-write_place.ensures)

pub returns : goal.returns
returns g c =
    let all : min (length c.args.names.now) (length c.args.states.now) ≤ c.loop-p.p = omega arith in
    places_whole c.loop-p.p c.args.names.now c.args.states.now _ _ _ _ _ all c.loop-p.invariant
