use Rattle.std.proofs.Common.{◌≡◌, false, true, Some, Ok, refl, ap, sym, ◌∙◌}
use Rattle.std.specs.List.{list_any}
use Rattle.rb_domino.specs.declared.line.Line.TheVariants.{Fail}
use Rattle.rb_base.specs.declared.fault.FaultName.TheVariants.{H2}
use Rattle.rb_domino.specs.History.{failed, has_failed, if_known, is_failure, process_of, with_line}
use Rattle.rb_domino.specs.Reading.{story_of}
use Rattle.rb_domino.proofs.Named.{any_now, named_below}
use Rattle.rb_domino.proofs.LinesAdded.{stands_line, takes_line, told_quiet, untaken_still}
use Rattle.rb_domino.proofs.reader.Reader.read_fail.Goals as goal

pub returns-clause-takes : goal.returns-clause-takes
returns-clause-takes c =
    let old = c.args.self.now in
    let story = story_of old in
    let stands = c.requires.stands in
    let p = c.in_ok-process.process in
    let known : process_of story c.args.name.now ≡ Some p = c.in_ok-process.ensures in
    let quiet : has_failed story ≡ false = c.in_ok-before_failure.ensures in
    let lines = c.add_line.new.lines in
    takes_line _ (record old { lines = lines; failed = true }) _ _ c.add_line.result c.add_line.ensures.added c.add_line.ensures.len
    (λ more longer. (
      told_quiet story (with_line story (Fail p)) _ _ quiet (ap (λ o. if_known H2 o (λ q. Ok (with_line story (Fail q)))) known)
          (λ i. record { processes = story.processes; messages = story.messages; lines = sym more i }),
      stands_line old lines old.taken true (Fail p) stands (failed p stands.history quiet (named_below _ _ p known)) more longer
          (λ m. untaken_still old (Fail p) lines.items m stands more refl) refl
          (sym (ap (list_any is_failure) more ∙ any_now is_failure old.lines.items (Fail p) refl)),
    ))
