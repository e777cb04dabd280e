use Rattle.std.proofs.Common.{ℕ, List, [], ◌∷◌, ap, option_map, refl, subst, sym}
use Rattle.rb_picture.specs.Meant.{tree_trace_text}
use Rattle.rb_verdict.specs.Judging.{OverTurns}
use Rattle.rb_verdict.specs.Texts.{names_of}
use Rattle.rb_commands.specs.Explained.{NamesOfSource}
use Rattle.rb_turns.specs.Written.{PutsOrMemory}
use Rattle.rb_commands.specs.Written.{KnowsNames}
use Rattle.rb_commands.proofs.Ending.{whole_ends}
use Rattle.rb_commands.proofs.Loaded.{code_names_fit, is_sound}
use Rattle.rb_commands.proofs.Scheduled.{its_names, turns_refused, turns_run}
use Rattle.rb_show.specs.Drawing.{text_in}
use Rattle.rb_show.proofs.Ready.{traced_for}
use Rattle.rb_show.proofs.put_run.draw.Goals as goal

pub draw_turns-requires-clause-sound : goal.draw_turns-requires-clause-sound
draw_turns-requires-clause-sound g c = is_sound c.args.source.now c.args.traced.prepared c.requires.traced.prepared

pub draw_turns-requires-clause-fit : goal.draw_turns-requires-clause-fit
draw_turns-requires-clause-fit g c = code_names_fit c.args.source.now c.args.traced.prepared c.requires.traced.prepared

pub returns-in-Ok : goal.returns-in-Ok
returns-in-Ok g c ready =
    let page = option_map (λ p. p.now) c.args.page in
    let source = c.args.source.now in
    let text = c.args.schedule.now in
    let tree = ready.prepared.tree in
    let text_of = λ (turns : List ℕ). text_in page source text (tree_trace_text tree turns) in
    let all = c.in-Ok.turns.all in
    let listed = c.in-Ok.ensures.turns in
    let w0 = g.S.Sink.written c.args.out in
    let w1 = g.S.Sink.written c.draw_turns.result.sink in
    let f0 = g.S.Sink.faults c.args.out in
    let f1 = g.S.Sink.faults c.draw_turns.result.sink in
    let ended = c.draw_turns.result.ended in
    whole_ends (OverTurns (names_of tree) text_of (text ∷ [])) (KnowsNames (NamesOfSource source)) ⊥ (text_of all)
    (turns_run source c.args.traced.prepared ready.prepared text_of text listed.0 all listed.1 (ap (λ s. s.all) listed.2))
    w0 w1 f0 f1 ended
    (subst (λ bytes. PutsOrMemory bytes w0 w1 f0 f1 ended) (ap (text_in page source text) (traced_for source c.args.traced ready all))
    c.draw_turns.ensures)

pub returns : goal.returns
returns g c ready =
    let page = option_map (λ p. p.now) c.args.page in
    let source = c.args.source.now in
    let text = c.args.schedule.now in
    let tree = ready.prepared.tree in (
      turns_refused source c.args.traced.prepared ready.prepared (λ (turns : List ℕ). text_in page source text (tree_trace_text tree turns)) text
          c.in-Err.fault c.in-Err.ensures.turns,
      (c.into_names.result, refl, subst (NamesOfSource source) (sym c.into_names.ensures) (its_names source c.args.traced.prepared ready.prepared)),
      refl,
      refl,
    )
