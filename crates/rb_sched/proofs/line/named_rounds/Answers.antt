use Rattle.std.proofs.Common.{ap, sym, ◌∙◌, arith}
use Rattle.std.proofs.lemmas.Result.{err_from_is_err_and}
use Rattle.rb_base.specs.Bytes.{digits_value}
use Rattle.rb_base.specs.Naming.{process_names}
use Rattle.rb_base.proofs.Named.{length_process_names}
use Rattle.rb_sched.specs.Lines.{fitting}
use Rattle.rb_sched.specs.Schedule.{One, Everyone, rounds, counted_line}
use Rattle.rb_sched.proofs.LineTurns.{all_named, one_named, counted_few, counted_fits, counted_refused}
use Rattle.rb_sched.proofs.line.named_rounds.Goals as goal

pub returns-in_err-count : goal.returns-in_err-count
returns-in_err-count c =
    let known = process_names c.args.names.now in
    let n = digits_value 0 c.args.count.now in
    let who = all_named known c.args.name.now c.as_slice.result.now c.as_slice.ensures c.if-eq.ensures in
    let p = err_from_is_err_and c.from_residual.result c.from_residual.ensures.1 in
    rw (p.1, p.2) (λ before. ap (λ w. counted_line known before w n) who
    ∙ counted_refused known before Everyone n c.in_err-count.field-0.0 c.in_err-count.ensures)

pub returns-in_err-count-2 : goal.returns-in_err-count-2
returns-in_err-count-2 c =
    let known = process_names c.args.names.now in
    let n = digits_value 0 c.args.count.now in
    let process = c.in_ok-process.process in
    let first = sym c.in_ok-process.ensures.ok_part ∙ c.process.ensures.first in
    let who = one_named known c.args.name.now c.as_slice.result.now process c.as_slice.ensures c.if-eq.ensures first in
    let p = err_from_is_err_and c.from_residual-in_err-count-2.result c.from_residual-in_err-count-2.ensures.1 in
    rw (p.1, p.2) (λ before. ap (λ w. counted_line known before w n) who
    ∙ counted_refused known before (One process) n c.in_err-count-2.field-0.0 c.in_err-count-2.ensures)

pub of_all-requires : goal.of_all-requires
of_all-requires c = counted_few (digits_value 0 c.args.count.now) c.in_ok-count.count c.in_ok-count.ensures

pub returns-then-eq : goal.returns-then-eq
returns-then-eq c =
    let known = process_names c.args.names.now in
    let n = digits_value 0 c.args.count.now in
    let count = c.in_ok-count.count in
    let who = all_named known c.args.name.now c.as_slice.result.now c.as_slice.ensures c.if-eq.ensures in
    λ before. ap (λ w. counted_line known before w n) who
    ∙ counted_fits known before Everyone n count c.in_ok-count.ensures
    ∙ ap (λ k. fitting before (rounds k count)) (length_process_names c.args.names.now ∙ sym c.len.ensures)
    ∙ ap (fitting before) (sym c.of_all.ensures)

pub of_one-requires-clause-known : goal.of_one-requires-clause-known
of_one-requires-clause-known c =
    let known = rw c.in_ok-process.ensures.ok_part at c.process.ensures.known in
    omega (arith, known)

pub of_one-requires-clause-few : goal.of_one-requires-clause-few
of_one-requires-clause-few c = counted_few (digits_value 0 c.args.count.now) c.in_ok-count-2.count c.in_ok-count-2.ensures

pub returns : goal.returns
returns c =
    let known = process_names c.args.names.now in
    let n = digits_value 0 c.args.count.now in
    let process = c.in_ok-process.process in
    let first = sym c.in_ok-process.ensures.ok_part ∙ c.process.ensures.first in
    let who = one_named known c.args.name.now c.as_slice.result.now process c.as_slice.ensures c.if-eq.ensures first in
    λ before. ap (λ w. counted_line known before w n) who
    ∙ counted_fits known before (One process) n c.in_ok-count-2.count c.in_ok-count-2.ensures
    ∙ ap (fitting before) (sym c.of_one.ensures)
