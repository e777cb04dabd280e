use Rattle.std.proofs.Common.{◌≡◌, ℕ, ◌+◌, ◌<◌, List, drop, length, get_or, slice_index, ap, ◌∙◌, arith, drop_of_length-le}
use Rattle.rb_outside.proofs.Puts.{puts_same}
use Rattle.rb_world.specs.Text.{channel_lines}
use Rattle.rb_trace.proofs.Written.{written_nothing, written_more, written_part, written_all}
use Rattle.rb_trace.proofs.Ended.{channel_line, channel_next}
use Rattle.rb_trace.proofs.final_state.write_channels.Goals as goal

pub loop-c-init : goal.loop-c-init
loop-c-init g c = (written_nothing _ _ _, omega arith)

pub loop-c-preserved : goal.loop-c-preserved
loop-c-preserved g c =
    let names = c.args.names.now.channels.items in
    let sent = g.M.Final.sent c.args.end.now in
    let taken = g.M.Final.taken c.args.end.now in
    let i = c.loop-c.c in
    let same = c.deref-name-items.ensures.value in
    let is : c.name-item.result ≡ get_or names i c.name-item.result =
    c.name-item.is ∙ ap (λ (xs : List (List ℕ)). get_or xs i c.name-item.result) same in
    let within : i < length names = omega (arith, c.loop-c-test.true, ap length same) in
    let next = channel_next names sent taken i c.name-item.result within is (omega (arith, within, c.requires.fit.sent))
    (omega (arith, within, c.requires.fit.taken)) in (
      written_more _ _ (channel_line c.name-item.result (slice_index sent i) (slice_index taken i))
          (channel_lines (drop (i + 1) names) (drop (i + 1) sent) (drop (i + 1) taken)) _ _ _ _ _ _ c.loop-c.invariant.0 next
          (puts_same _ _ _ _ _ _ _
          (ap (λ (name : List ℕ). channel_line name (slice_index sent i)
          (slice_index taken i)) c.as_bytes.ensures) c.in_ok-write_channel.ensures.text),
      omega (arith, c.loop-c.invariant.1, c.in_ok-write_channel.ensures.work),
    )

pub returns-in_err-write_channel-clause-text : goal.returns-in_err-write_channel-clause-text
returns-in_err-write_channel-clause-text g c =
    let names = c.args.names.now.channels.items in
    let sent = g.M.Final.sent c.args.end.now in
    let taken = g.M.Final.taken c.args.end.now in
    let i = c.loop-c.c in
    let same = c.deref-name-items.ensures.value in
    let is : c.name-item.result ≡ get_or names i c.name-item.result =
    c.name-item.is ∙ ap (λ (xs : List (List ℕ)). get_or xs i c.name-item.result) same in
    let within : i < length names = omega (arith, c.loop-c-test.true, ap length same) in
    let next = channel_next names sent taken i c.name-item.result within is (omega (arith, within, c.requires.fit.sent))
    (omega (arith, within, c.requires.fit.taken)) in
    written_part _ _ (channel_line c.name-item.result (slice_index sent i) (slice_index taken i))
    (channel_lines (drop (i + 1) names) (drop (i + 1) sent)
    (drop (i + 1) taken)) _ _ _ _ _ _ _ c.from_residual.result c.loop-c.invariant.0 next
    (puts_same _ _ _ _ _ _ _
    (ap (λ (name : List ℕ). channel_line name (slice_index sent i)
    (slice_index taken i)) c.as_bytes.ensures) c.in_err-write_channel.ensures.text) c.from_residual.ensures.0

pub returns-clause-text : goal.returns-clause-text
returns-clause-text g c =
    let names = c.args.names.now.channels.items in
    written_all _ _ _ _ _ _ c.loop-c.invariant.0
    (ap (λ (xs : List (List ℕ)). channel_lines xs (drop c.loop-c.c (g.M.Final.sent c.args.end.now))
    (drop c.loop-c.c (g.M.Final.taken c.args.end.now)))
    (drop_of_length-le names (omega (arith, c.loop-c-test.false, ap length c.deref-name-items.ensures.value))))

pub returns-in_err-write_channel-clause-work : goal.returns-in_err-write_channel-clause-work
returns-in_err-write_channel-clause-work g c =
    omega (arith, c.loop-c.invariant.1, c.in_err-write_channel.ensures.work, c.loop-c-test.true, ap length c.deref-name-items.ensures.value)

pub returns-clause-work : goal.returns-clause-work
returns-clause-work g c = omega (arith, c.loop-c.invariant.1, c.loop-c.auto.c-end, ap length c.deref-name-items.ensures.value)
