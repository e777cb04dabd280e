use Rattle.std.proofs.Common.{sym, ◌∙◌}
use Rattle.rb_syntax.specs.Plain.{channel_declaration}
use Rattle.rb_syntax.specs.Tree.{ChannelDeclaration}
use Rattle.rb_scope.proofs.Long.{long_copy}
use Rattle.rb_resolve.proofs.lists.count_channels.Goals as goal

pub returns-then-channels-gt-MOST_CONNECTIONS : goal.returns-then-channels-gt-MOST_CONNECTIONS
returns-then-channels-gt-MOST_CONNECTIONS c =
    c.note.ensures
    ∙ sym (long_copy channel_declaration
    (λ (one : ChannelDeclaration). one.name.place) 64 c.args.finder.now c.args.channels.now _ c.if-channels-gt-MOST_CONNECTIONS.true)
