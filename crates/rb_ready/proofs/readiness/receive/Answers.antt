-- A receipt is ready where a message is there, and without one where it does not wait for one.
use Rattle.std.proofs.Common.{Some, w64, ap, sym, ◌∙◌, rules}
use Rattle.std.proofs.lemmas.Int.{to_z-of_z}
use Rattle.rb_code.specs.Instructions.Plain.{code as plain}
use Rattle.rb_conv.specs.Conversations.{memberships, talks}
use Rattle.rb_ready.proofs.Readying.{taking_ready}
use Rattle.rb_ready.proofs.readiness.receive.Goals as goal

pub returns-in-Some-clause-ready : goal.returns-in-Some-clause-ready
returns-in-Some-clause-ready g c =
    let code = plain c.args.code.now in
    let mails = c.args.mails.now in
    taking_ready code c.args.procs.now mails c.args.p c.args.channel _ c.args.waits c.requires.wants
    (λ table links. c.in-Some.ensures.there (memberships table) (talks table) (record { slots = mails; links = links })
    ∙ ap Some (c.message_at.ensures code c.requires.sized ∙ sym (to_z-of_z w64 c.message_at.result (search rules))))
