use Rattle.std.proofs.Common.{◌<◌, length, ◌∙◌, arith}
use Rattle.rb_view.proofs.Filling.{filled_all, filled_more, long_set}
use Rattle.rb_view.proofs.Kept.{channel_there}
use Rattle.rb_view.proofs.Shapes.{sized_now}
use Rattle.rb_view.proofs.noting.note_channels.Goals as goal

pub numbers_of-requires-clause-channel : goal.numbers_of-requires-clause-channel
numbers_of-requires-clause-channel g c = omega (arith, c.loop-channel-test.true, c.len-channel-end.ensures, c.requires.sized)

pub loop-channel-preserved : goal.loop-channel-preserved
loop-channel-preserved g c =
    let m = c.args.machine.now in
    let within : c.loop-channel.channel < length m.code.channels = omega (arith, c.loop-channel-test.true, c.len-channel-end.ensures, c.requires.sized) in
    record {
      long = long_set c.loop-channel.kept.items c.loop-channel.channel c.numbers_of.result ∙ c.loop-channel.invariant.long;
      noted = filled_more c.loop-channel.kept.items _ c.loop-channel.channel c.numbers_of.result
          (omega (arith, c.loop-channel.invariant.long, c.loop-channel-test.true, c.len-channel-end.ensures))
          (channel_there m c.loop-channel.channel within c.numbers_of.result c.numbers_of.ensures) c.loop-channel.invariant.noted;
    }

pub returns : goal.returns
returns g c =
    filled_all c.loop-channel.kept.items _ c.loop-channel.channel
    (omega (arith, c.loop-channel.invariant.long, c.loop-channel-test.false, c.len-channel-end.ensures))
    (omega (arith, c.loop-channel.invariant.long, c.requires.sized, (sized_now c.args.machine.now c.requires.steady).channels))
    c.loop-channel.invariant.noted
