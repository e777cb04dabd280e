use Rattle.std.proofs.Common.{slice_get, ap, sym, ◌∙◌}
use Rattle.rb_syntax.specs.Plain.{tree}
use Rattle.rb_meaning.specs.Groups.{channels_of}
use Rattle.rb_meaning.specs.Nesting.{Receives, Sends, is_end}
use Rattle.rb_uses.specs.Memory.{deed_of}
use Rattle.rb_uses.proofs.Channels.{channel_known, end_there}
use Rattle.rb_uses.proofs.rules.Rules.is_end.Goals as goal

pub returns-in-Sends : goal.returns-in-Sends
returns-in-Sends c =
    let rules = c.args.self.now in
    let channels = channels_of (tree rules.uses.now.program.now) in
    let ends = c.in-Some.ends.now in
    let found = slice_get channels c.args.number in
    let known =
    channel_known rules.channels.items c.deref.result.now channels c.args.number ends c.deref.ensures.value rules.ends
    c.in-Some.ensures.lookup.0 c.in-Some.ensures.lookup.1
    in
    end_there Sends c.args.process found ends known ∙ ap (λ d. is_end (deed_of d) c.args.process found) (sym c.in-Sends.is)

pub returns-in-Receives : goal.returns-in-Receives
returns-in-Receives c =
    let rules = c.args.self.now in
    let channels = channels_of (tree rules.uses.now.program.now) in
    let ends = c.in-Some.ends.now in
    let found = slice_get channels c.args.number in
    let known =
    channel_known rules.channels.items c.deref.result.now channels c.args.number ends c.deref.ensures.value rules.ends
    c.in-Some.ensures.lookup.0 c.in-Some.ensures.lookup.1
    in
    end_there Receives c.args.process found ends known ∙ ap (λ d. is_end (deed_of d) c.args.process found) (sym c.in-Receives.is)
