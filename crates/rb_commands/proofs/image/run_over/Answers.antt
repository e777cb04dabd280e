use Rattle.std.proofs.Common.{◌≡◌, [], ◌∷◌, ap, refl, subst}
use Rattle.rb_code.specs.Instructions.Plain.{code}
use Rattle.rb_code.specs.WordMachine.WordRun.{word_text}
use Rattle.rb_nest.specs.Groups.{memberships}
use Rattle.rb_trace.specs.Naming.{naming}
use Rattle.rb_verdict.specs.Judging.{OverTurns}
use Rattle.rb_verdict.specs.Programs.{names_in, program_of}
use Rattle.rb_turns.specs.Written.{PutsOrMemory}
use Rattle.rb_commands.specs.Written.{KnowsNames}
use Rattle.rb_commands.proofs.Ending.{whole_ends}
use Rattle.rb_commands.proofs.Images.{names_fit_code, run_told, sound_opened, turns_refused, turns_run}
use Rattle.rb_commands.proofs.image.run_over.Goals as goal

pub run_turns-requires-clause-sound : goal.run_turns-requires-clause-sound
run_turns-requires-clause-sound g c = sound_opened c.args.code c.args.nested c.requires.fit

pub run_turns-requires-clause-fit : goal.run_turns-requires-clause-fit
run_turns-requires-clause-fit g c = names_fit_code c.args.code c.args.nested c.requires.fit

pub returns-in-Ok : goal.returns-in-Ok
returns-in-Ok g c =
    let held = c.args.code in
    let nested = c.args.nested in
    let text_of = word_text (code held) (memberships nested) in
    let all = c.in-Ok.schedule.all in
    let listed = c.in-Ok.ensures.turns in
    let w0 = g.S.Sink.written c.args.out.now in
    let w1 = g.S.Sink.written c.run_turns.new.out in
    let f0 = g.S.Sink.faults c.args.out.now in
    let f1 = g.S.Sink.faults c.run_turns.new.out in
    whole_ends (OverTurns (names_in (program_of held nested)) text_of (c.args.text.now ∷ []))
    (KnowsNames (λ names. naming names ≡ (code held).names)) ⊥ (text_of all)
    (turns_run held nested text_of c.args.text.now listed.0 all listed.1 (ap (λ s. s.all) listed.2)) w0 w1 f0 f1 c.run_turns.result
    (subst (λ bytes. PutsOrMemory bytes w0 w1 f0 f1 c.run_turns.result) (run_told held nested all) c.run_turns.ensures)

pub returns : goal.returns
returns g c = (
  turns_refused c.args.code c.args.nested (word_text (code c.args.code) (memberships c.args.nested)) c.args.text.now c.in-Err.fault
      c.in-Err.ensures.turns,
  (c.into_names.result, refl, ap naming c.into_names.ensures),
  refl,
  refl,
)
