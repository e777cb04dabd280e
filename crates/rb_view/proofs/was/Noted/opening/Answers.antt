use Rattle.std.proofs.Common.{◌≡◌, ℕ, false, List, ap, length, map, replicate, ◌∙◌, arith}
use Rattle.rb_code.specs.declared.code.ChannelCode.{ChannelCode}
use Rattle.rb_code.specs.declared.code.ProcessCode.{ProcessCode}
use Rattle.rb_code.specs.Instructions.Plain.{channel, part}
use Rattle.rb_picture.specs.Trace.{process_before}
use Rattle.rb_view.specs.Noting.{first_numbers, talks_noted}
use Rattle.rb_view.proofs.Shapes.{first_talks}
use Rattle.rb_view.proofs.was.Noted.opening.Goals as goal

pub returns-clause-noted : goal.returns-clause-noted
returns-clause-noted c =
    let count : c.len.result ≡ length c.args.nested.now.conversations.items = omega (arith, c.len.ensures) in
    let processes = c.in_ok-processes.ensures.noted
    ∙ ap (λ (parts : List ProcessCode). map process_before (map part parts)) c.deref.ensures.value in
    let channels = c.in_ok-channels.ensures
    ∙ ap (λ (channels : List ChannelCode). map first_numbers (map channel channels)) c.deref-2.ensures.value in
    let talks = ap talks_noted c.in_ok-talks.ensures
    ∙ ap (λ (n : ℕ). talks_noted (replicate n (record { alternate = 1; is_broken = false }))) count
    ∙ first_talks c.args.nested.now.conversations.items in
    λ j. record { processes = processes j; channels = channels j; talks = talks j }
