-- What each outcome of the step leaves.
use Rattle.std.proofs.Common.{ℕ, List, [], ◌∷◌, ◌++◌, ap, ◌∙◌}
use Rattle.rb_code.specs.Instructions.Plain.{code as plain}
use Rattle.rb_machine.specs.Stepping.{turn_kept}
use Rattle.rb_recovery.specs.declared.links.Link.{Link}
use Rattle.rb_machine.proofs.Turning.StepLinks.{held_link, went_link}
use Rattle.rb_machine.proofs.step.step_kept.Goals as goal

pub returns-then-is_quiet-clause-done : goal.returns-then-is_quiet-clause-done
returns-then-is_quiet-clause-done g c = (
  record {
    later = c.step.new.self.process;
    comes = c.in-Went.ensures.came;
    kept = c.keep.ensures
        ∙ ap (λ (lines : List (List ℕ)). turn_kept c.args.turn (record { process = c.step.new.self.process; waiting = lines }))
        (c.step.ensures.waiting ∙ c.requires.may.none_waits);
  },
  record { running = c.is_quiet.ensures.running c.if-is_quiet.true; same = λ code. c.is_quiet.ensures.same code c.if-is_quiet.true },
)

pub returns-else-is_quiet-clause-done : goal.returns-else-is_quiet-clause-done
returns-else-is_quiet-clause-done g c = record {
  later = c.step.new.self.process;
  comes = c.in-Went.ensures.came;
  kept = c.keep.ensures
      ∙ ap (λ (lines : List (List ℕ)). turn_kept c.args.turn (record { process = c.step.new.self.process; waiting = lines }))
      (c.step.ensures.waiting ∙ c.requires.may.none_waits);
}

pub returns-in-Accepts-clause-done : goal.returns-in-Accepts-clause-done
returns-in-Accepts-clause-done g c = record {
  later = c.step.new.self.process;
  comes = c.in-Accepts.ensures.came;
  kept = c.keep-in-Accepts.ensures
      ∙ ap (λ (lines : List (List ℕ)). turn_kept c.args.turn (record { process = c.step.new.self.process; waiting = lines }))
      (c.step.ensures.waiting ∙ c.requires.may.none_waits);
}

pub returns-in-Trap-clause-done : goal.returns-in-Trap-clause-done
returns-in-Trap-clause-done g c =
    (c.in-Trap.ensures.came, c.step.ensures.waiting ∙ c.requires.may.none_waits, c.levels.ensures)

pub returns-then-is_quiet-clause-links : goal.returns-then-is_quiet-clause-links
returns-then-is_quiet-clause-links g c =
    c.note.ensures.items
    ∙ ap (λ (link : Link). c.args.links.now.items ++ link ∷ [])
    (went_link c.args.turn c.args.p c.args.wanted (plain c.args.code.now) c.args.proc.now.process c.args.mails.now c.args.message
    c.step.new.self.process c.step.new.mails c.in-Went.ensures.came)

pub returns-else-is_quiet-clause-links : goal.returns-else-is_quiet-clause-links
returns-else-is_quiet-clause-links g c =
    c.note.ensures.items
    ∙ ap (λ (link : Link). c.args.links.now.items ++ link ∷ [])
    (went_link c.args.turn c.args.p c.args.wanted (plain c.args.code.now) c.args.proc.now.process c.args.mails.now c.args.message
    c.step.new.self.process c.step.new.mails c.in-Went.ensures.came)

pub returns-in-Accepts-clause-links : goal.returns-in-Accepts-clause-links
returns-in-Accepts-clause-links g c =
    c.note-in-Accepts.ensures.items
    ∙ ap (λ (link : Link). c.args.links.now.items ++ link ∷ [])
    (held_link c.args.turn c.args.p c.args.wanted (plain c.args.code.now) c.args.proc.now.process c.args.mails.now c.args.message
    c.step.new.self.process c.step.new.mails c.in-Accepts.ensures.came)
