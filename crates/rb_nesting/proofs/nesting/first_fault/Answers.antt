use Rattle.std.proofs.Common.{[], ◌++◌, None, ap, sym, ◌∙◌}
use Rattle.std.specs.List.{flat_map}
use Rattle.rb_syntax.specs.Plain.{tree}
use Rattle.rb_meaning.specs.Nesting.{uses_of}
use Rattle.rb_scope.specs.Finding.{first_after}
use Rattle.rb_nest.specs.Rules.{channel_faults, conversation_faults, uses_faults}
use Rattle.rb_uses.proofs.After.{after_append}
use Rattle.rb_nesting.proofs.nesting.first_fault.Goals as goal

pub returns : goal.returns
returns c =
    let whole = tree c.args.uses.now.program.now in
    let channels = flat_map (channel_faults whole) whole.channels in
    let conversations = flat_map (conversation_faults whole) whole.conversations in
    let uses = uses_faults whole [] (uses_of whole) in
    c.in_ok-note_uses.ensures
    ∙ ap (λ first. first_after first uses)
    (c.in_ok-conversations.ensures.found ∙ ap (λ first. first_after first conversations) c.in_ok-channels.ensures.found)
    ∙ sym (after_append (first_after None channels) conversations uses)
    ∙ sym (after_append None channels (conversations ++ uses))
