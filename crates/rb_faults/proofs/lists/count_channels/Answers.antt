use Rattle.std.proofs.Common.{sym, ◌∙◌}
use Rattle.rb_syntax.specs.Plain.{channel_declaration}
use Rattle.rb_syntax.specs.Tree.{ChannelDeclaration}
use Rattle.rb_faults.proofs.Long.{long_copy}
use Rattle.rb_faults.proofs.lists.count_channels.Goals as goal

pub returns-in_ok-note : goal.returns-in_ok-note
returns-in_ok-note c =
    c.in_ok-note.ensures
    ∙ sym (long_copy channel_declaration
    (λ (one : ChannelDeclaration). one.name.place) 64 c.args.finder.now c.args.channels.now _ c.if-channels-gt-MOST_CONNECTIONS.true)
