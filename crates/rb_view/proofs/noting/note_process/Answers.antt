use Rattle.std.proofs.Common.{ap, length, sym, ◌∙◌, arith}
use Rattle.rb_code.specs.WordMachine.Turn.{Copy, Standing}
use Rattle.rb_code.specs.WordMachine.WordRun.{variable_words}
use Rattle.rb_world.specs.World.{Process}
use Rattle.rb_view.proofs.Kept.{belongs, words_few, words_here}
use Rattle.rb_view.proofs.noting.note_process.Goals as goal

pub note_words-requires-clause-long : goal.note_words-requires-clause-long
note_words-requires-clause-long g c =
    c.requires.words ∙ sym (words_here c.args.machine.now c.requires.steady c.args.p c.requires.process)

pub note_words-requires-clause-few : goal.note_words-requires-clause-few
note_words-requires-clause-few g c =
    omega (arith, c.requires.words, words_few c.args.machine.now c.requires.steady c.args.p c.requires.process)

pub returns-clause-noted : goal.returns-clause-noted
returns-clause-noted g c q there =
    let m = c.args.machine.now in
    let words = c.note_words.ensures ∙ belongs (λ (one : Process Standing Copy). variable_words m.code one.state) m.world.processes c.args.p q there in
    λ j. record {
      words = words j;
      levels = c.note_levels.ensures.levels q there j;
      held = c.held_lines-kept.ensures.count q there j;
      stand = c.stand_at-kept.ensures q there j;
    }

pub returns-clause-words : goal.returns-clause-words
returns-clause-words g c =
    let m = c.args.machine.now in
    omega (arith, ap length c.note_words.ensures, words_here m c.requires.steady c.args.p c.requires.process, c.requires.words)

pub returns-clause-ready : goal.returns-clause-ready
returns-clause-ready g c = record {
  room = omega (arith, c.requires.ready.room, c.note_levels.ensures.room);
  levels = c.note_levels.ensures.few;
  held = c.held_lines-kept.ensures.few;
}
