use Rattle.std.proofs.Common.{◌≡◌, ℕ, List, ◌∷◌, ◌++◌, [], false, None, Ok, Err, cond, length, ap, sym, ◌∙◌}
use Rattle.std.specs.Option.{is_some}
use Rattle.rb_base.specs.declared.fault.FaultName.TheVariants.{H3}
use Rattle.rb_domino.specs.declared.line.Line.TheVariants.{Begin}
use Rattle.rb_domino.specs.History.{begins, has_failed, process_of}
use Rattle.rb_domino.specs.Reading.{story_of}
use Rattle.rb_domino.proofs.Named.{finds_added}
use Rattle.rb_domino.proofs.LinesAdded.{none_known, stands_process, takes_line, told_quiet}
use Rattle.rb_domino.proofs.reader.Reader.read_process.Goals as goal

pub returns-clause-takes : goal.returns-clause-takes
returns-clause-takes c =
    let old = c.args.self.now in
    let story = story_of old in
    let stands = c.requires.stands in
    let name = c.args.name.now in
    let quiet : has_failed story ≡ false = c.in_ok-before_failure.ensures in
    let unknown : process_of story name ≡ None =
    sym c.process.ensures ∙ none_known c.process.result (sym c.is_some.ensures ∙ c.if-is_some.false) in
    let next : c.len-number.result ≡ length old.processes.items = c.len-number.ensures ∙ old.processes.ok.0 in
    let named : c.push.new.self.items ≡ old.processes.items ++ name ∷ [] =
    c.in_ok-push.ensures.items ∙ ap (λ (text : List ℕ). old.processes.items ++ text ∷ []) c.in_ok-from_slice.ensures in
    let lines = c.add_line.new.lines in
    takes_line _ (record old { processes = c.push.new.self; process_numbers = c.insert.new.self; lines = lines }) _ _ c.add_line.result
    c.add_line.ensures.added c.add_line.ensures.len
    (λ more longer.
    let begun : lines.items ≡ old.lines.items ++ Begin (length old.processes.items) ∷ [] =
    more ∙ ap (λ (n : ℕ). old.lines.items ++ Begin n ∷ []) next in (
      told_quiet story (begins story name) _ _ quiet (ap (λ o. cond (is_some o) (Err H3) (Ok (begins story name))) unknown)
          (λ i. record { processes = sym named i; messages = story.messages; lines = sym begun i }),
      stands_process old c.push.new.self c.insert.new.self lines name stands quiet unknown named c.in_ok-push.ensures.len
          (finds_added old.process_numbers c.insert.new.self c.args.name old.processes.items c.len-number.result stands.processes unknown next
          c.in_ok-insert.ensures.updates.0) begun longer,
    ))
