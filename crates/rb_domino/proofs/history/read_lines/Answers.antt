use Rattle.std.proofs.Common.{◌≡◌, Ok, Err, cond, length, ap, subst, arith, sym, ◌∙◌}
use Rattle.std.proofs.lemmas.Bool.{eqb-true}
use Rattle.std.proofs.lemmas.List.{nil_from_length}
use Rattle.rb_base.specs.declared.fault.FaultName.TheVariants.{H5}
use Rattle.rb_sched.specs.Schedule.{lines_of}
use Rattle.rb_domino.specs.History.{Story, history_of, read_lines}
use Rattle.rb_domino.specs.Reading.{IsRefusedFor, story_of}
use Rattle.rb_domino.proofs.ReadLines.{read_end, read_more}
use Rattle.rb_domino.proofs.history.read_lines.Goals as goal

pub loop-rest-preserved : goal.loop-rest-preserved
loop-rest-preserved c =
    read_more _ _ _ _ _ _ _ c.loop-rest.invariant c.first_line.ensures.lines c.first_line.ensures.shorter c.in-Ok.ensures.takes.0
    c.in-Ok.ensures.takes.1 c.in-Ok.ensures.grows

pub returns-then-has_failed-clause-whole : goal.returns-then-has_failed-clause-whole
returns-then-has_failed-clause-whole c =
    let stands = c.loop-rest.invariant.stands in
    record {
      history = stands.history;
      fails = sym stands.failed ∙ sym c.has_failed.ensures ∙ c.if-has_failed.true;
      few_lines = omega (arith, c.loop-rest.invariant.few, c.loop-rest.reader.lines.ok.0);
    }

pub returns-then-has_failed-clause-told : goal.returns-then-has_failed-clause-told
returns-then-has_failed-clause-told c =
    let story = story_of c.loop-rest.reader in
    read_end _ _ _ _ c.loop-rest.invariant (nil_from_length _ (eqb-true _ _ (sym c.is_empty.ensures ∙ c.loop-rest-test.false)))
    ∙ ap (λ b. cond b (Ok story) (Err (record { name = H5; at = c.loop-rest.at })))
    (sym c.loop-rest.invariant.stands.failed ∙ sym c.has_failed.ensures ∙ c.if-has_failed.true)

pub loop-rest-init : goal.loop-rest-init
loop-rest-init c =
    let lines = c.args.reader.now.lines in
    let none : length lines.items ≡ 0 = ap (λ (story : Story). length story.lines) c.requires.empty in
    record {
      goes_on = ap (λ (story : Story). read_lines story 1 (lines_of c.args.text.now)) (sym c.requires.empty);
      stands = c.requires.stands;
      few = omega (arith, none, lines.ok.0, c.requires.short);
      few_lines = omega (arith, c.requires.short);
    }

pub returns-else-has_failed-clause-told : goal.returns-else-has_failed-clause-told
returns-else-has_failed-clause-told c =
    let story = story_of c.loop-rest.reader in
    subst (IsRefusedFor (history_of c.args.text.now)) (sym c.fault-else-has_failed.ensures)
    (read_end _ _ _ _ c.loop-rest.invariant (nil_from_length _ (eqb-true _ _ (sym c.is_empty.ensures ∙ c.loop-rest-test.false)))
    ∙ ap (λ b. cond b (Ok story) (Err (record { name = H5; at = c.loop-rest.at })))
    (sym c.loop-rest.invariant.stands.failed ∙ sym c.has_failed.ensures ∙ c.if-has_failed.false))
