use Rattle.std.proofs.Common.{◌≡◌, ◌<◌, length, false, None, Some, Ok, Err, cond, refl, ap, sym, ◌∙◌, subst, arith}
use Rattle.std.specs.Option.{is_some}
use Rattle.rb_base.specs.declared.fault.FaultName.TheVariants.{H2, H3}
use Rattle.rb_domino.specs.History.{before_failure, has_failed, if_known, message_of, process_of, read_send, sends}
use Rattle.rb_domino.specs.Reading.{Takes, story_of}
use Rattle.rb_domino.proofs.Named.{named_below}
use Rattle.rb_domino.proofs.LinesAdded.{none_known, told_quiet}
use Rattle.rb_domino.proofs.reader.Reader.read_send.Goals as goal

pub add_message-requires-clause-unknown : goal.add_message-requires-clause-unknown
add_message-requires-clause-unknown c =
    sym c.message.ensures ∙ none_known c.message.result (sym c.is_some.ensures ∙ c.if-is_some.false)

pub add_message-requires-clause-sender : goal.add_message-requires-clause-sender
add_message-requires-clause-sender c =
    let below : c.in_ok-sender.sender < length c.args.self.now.processes.items = named_below _ _ c.in_ok-sender.sender c.in_ok-sender.ensures in
    omega (arith, below, c.args.self.now.processes.ok.0)

pub add_message-requires-clause-receiver : goal.add_message-requires-clause-receiver
add_message-requires-clause-receiver c =
    let below : c.in_ok-receiver.receiver < length c.args.self.now.processes.items =
    named_below _ _ c.in_ok-receiver.receiver c.in_ok-receiver.ensures in
    omega (arith, below, c.args.self.now.processes.ok.0)

pub returns-clause-takes : goal.returns-clause-takes
returns-clause-takes c =
    let story = story_of c.args.self.now in
    let name = c.args.name.now in
    let to = c.args.to.now in
    let p = c.in_ok-sender.sender in
    let q = c.in_ok-receiver.receiver in
    let quiet : has_failed story ≡ false = c.in_ok-before_failure.ensures in
    let unknown : message_of story name ≡ None =
    sym c.message.ensures ∙ none_known c.message.result (sym c.is_some.ensures ∙ c.if-is_some.false) in
    let known : process_of story c.args.from.now ≡ Some p = c.in_ok-sender.ensures in
    let known_to : process_of story to ≡ Some q = c.in_ok-receiver.ensures in
    let told : before_failure story (read_send story name c.args.from.now to) ≡ Ok (sends story name p q) =
    told_quiet story (sends story name p q) _ _ quiet
    (ap (λ o. if_known H2 o (λ p. if_known H2 (process_of story to) (λ q. cond (is_some (message_of story name)) (Err H3) (Ok (sends story name p q))))) known
    ∙ ap (λ o. if_known H2 o (λ q. cond (is_some (message_of story name)) (Err H3) (Ok (sends story name p q)))) known_to
    ∙ ap (λ o. cond (is_some o) (Err H3) (Ok (sends story name p q))) unknown) refl in
    subst (λ t. Takes t c.add_message.new.self c.add_message.result) (sym told) c.add_message.ensures.takes

pub add_message-requires-clause-few : goal.add_message-requires-clause-few
add_message-requires-clause-few c = c.requires.few

pub add_message-requires-clause-stands : goal.add_message-requires-clause-stands
add_message-requires-clause-stands c = c.requires.stands

pub returns-clause-grows : goal.returns-clause-grows
returns-clause-grows c = c.add_message.ensures.grows
