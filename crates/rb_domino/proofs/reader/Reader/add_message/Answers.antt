use Rattle.std.proofs.Common.{◌≡◌, ℕ, ◌<◌, ◌∷◌, ◌++◌, [], Ok, length, ap, sym, ◌∙◌, arith}
use Rattle.std.proofs.lemmas.List.{length-map}
use Rattle.rb_domino.specs.declared.line.Line.TheVariants.{Send}
use Rattle.rb_domino.specs.History.{sends, sent, sent_by}
use Rattle.rb_domino.specs.Reading.{story_of}
use Rattle.rb_domino.proofs.Named.{finds_added}
use Rattle.rb_domino.proofs.LinesAdded.{names_of, stands_message, takes_line}
use Rattle.rb_domino.proofs.reader.Reader.add_message.Goals as goal

pub returns-clause-takes : goal.returns-clause-takes
returns-clause-takes c =
    let old = c.args.self.now in
    let story = story_of old in
    let stands = c.requires.stands in
    let name = c.args.name.now in
    let p = c.args.sender in
    let q = c.args.receiver in
    let from : p < length story.processes = omega (arith, c.requires.sender, old.processes.ok.0) in
    let to : q < length story.processes = omega (arith, c.requires.receiver, old.processes.ok.0) in
    let number : c.len-number.result ≡ length old.messages.items = c.len-number.ensures ∙ old.messages.ok.0 in
    let next : c.len-number.result ≡ length (names_of old.messages.items) = number ∙ sym (length-map old.messages.items (λ one. one.name)) in
    let here : c.len-sent.result ≡ length old.lines.items = c.len-sent.ensures ∙ old.lines.ok.0 in
    let told : c.push.new.self.items ≡ old.messages.items ++ sent_by story name p q ∷ [] =
    c.in_ok-push.ensures.items
    ∙ (λ i. old.messages.items ++ record { name = c.in_ok-name.ensures i; sender = p; receiver = q; sent = here i } ∷ []) in
    let lines = c.add_line.new.lines in
    takes_line (Ok (sends story name p q))
    (record old { messages = c.push.new.self; message_numbers = c.insert.new.self; taken = c.push-2.new.self; lines = lines }) _ _
    c.add_line.result c.add_line.ensures.added c.add_line.ensures.len
    (λ more longer.
    let line : lines.items ≡ old.lines.items ++ Send (length old.messages.items) ∷ [] =
    more ∙ ap (λ (n : ℕ). old.lines.items ++ Send n ∷ []) number in (
      λ i. Ok (record { processes = story.processes; messages = sym told i; lines = sym line i }),
      stands_message old c.push.new.self c.insert.new.self c.push-2.new.self lines name p q stands
          (sent name p q stands.history c.requires.quiet c.requires.unknown from to) told c.in_ok-push.ensures.len
          (finds_added old.message_numbers c.insert.new.self c.args.name (names_of old.messages.items) c.len-number.result stands.messages
          c.requires.unknown next c.in_ok-insert.ensures.updates.0)
          c.in_ok-push-2.ensures.items c.in_ok-push-2.ensures.len line longer,
    ))
