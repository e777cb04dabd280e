use Rattle.std.proofs.Common.{◌≡◌, ◌+◌, ◌<◌, ◌++◌, ℕ, List, drop, length, get_or, ap, sym, ◌∙◌, arith}
use Rattle.rb_syntax.specs.Plain.{tree}
use Rattle.rb_trace.proofs.Ended.{channel_line}
use Rattle.rb_trace.proofs.Written.{written_more, written_part}
use Rattle.rb_world.specs.Text.{channel_lines}
use Rattle.rb_meaning.specs.Groups.{channels_of}
use Rattle.rb_meaning.specs.Meaning.{count_sent, count_taken, states_of}
use Rattle.rb_levels.specs.Worlds.{world_of}
use Rattle.rb_plain.proofs.Endings.{next_channel}
use Rattle.rb_plain.proofs.values.write_channels.Goals as goal

pub loop-c-preserved : goal.loop-c-preserved
loop-c-preserved g c =
    let program = c.args.program.now in
    let states = states_of (world_of (tree program) c.args.processes.now) in
    let channels = channels_of (tree program) in
    let names = c.args.names.now.channels.items in
    let i = c.loop-c.c in
    let same = c.deref-name-items.ensures.value in
    let is : c.name-item.result ≡ get_or names i c.name-item.result =
    c.name-item.is ∙ ap (λ (xs : List (List ℕ)). get_or xs i c.name-item.result) same in
    let within : i < length names = omega (arith, c.loop-c-test.true, ap length same) in
    let there : i < length program.channels.items = omega (arith, within, c.requires) in
    let rest = channel_lines (drop (i + 1) names) (count_sent states (i + 1) (drop (i + 1) channels))
    (count_taken states (i + 1) (drop (i + 1) channels)) in
    let named = sym c.as_bytes.ensures in
    let sent = sym c.sent_by-sent.ensures in
    let taken = sym c.taken_by-taken.ensures in
    let next = next_channel program states names i c.name-item.result c.index-channel.result.now within is there c.index-channel.ensures
    ∙ (λ j. channel_line (named j) (sent j) (taken j) ++ rest) in
    written_more _ _ (channel_line c.as_bytes.result.now c.sent_by-sent.result c.taken_by-taken.result) rest _ _ _ _ _ _
    c.loop-c.invariant next c.in_ok-write_channel.ensures

pub returns-in_err-write_channel : goal.returns-in_err-write_channel
returns-in_err-write_channel g c =
    let program = c.args.program.now in
    let states = states_of (world_of (tree program) c.args.processes.now) in
    let channels = channels_of (tree program) in
    let names = c.args.names.now.channels.items in
    let i = c.loop-c.c in
    let same = c.deref-name-items.ensures.value in
    let is : c.name-item.result ≡ get_or names i c.name-item.result =
    c.name-item.is ∙ ap (λ (xs : List (List ℕ)). get_or xs i c.name-item.result) same in
    let within : i < length names = omega (arith, c.loop-c-test.true, ap length same) in
    let there : i < length program.channels.items = omega (arith, within, c.requires) in
    let rest = channel_lines (drop (i + 1) names) (count_sent states (i + 1) (drop (i + 1) channels))
    (count_taken states (i + 1) (drop (i + 1) channels)) in
    let named = sym c.as_bytes.ensures in
    let sent = sym c.sent_by-sent.ensures in
    let taken = sym c.taken_by-taken.ensures in
    let next = next_channel program states names i c.name-item.result c.index-channel.result.now within is there c.index-channel.ensures
    ∙ (λ j. channel_line (named j) (sent j) (taken j) ++ rest) in
    written_part _ _ (channel_line c.as_bytes.result.now c.sent_by-sent.result c.taken_by-taken.result) rest _ _ _ _ _ _ _
    c.from_residual.result c.loop-c.invariant next c.in_err-write_channel.ensures c.from_residual.ensures.0
