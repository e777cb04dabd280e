use Rattle.std.proofs.Common.{ℕ, ◌<◌, length, w64, ap, sym, ◌∙◌, subst, rules}
use Rattle.std.specs.Prelude.{slice_get}
use Rattle.std.proofs.lemmas.Int.{to_z-of_z}
use Rattle.rb_world.specs.World.{copy_of}
use Rattle.rb_meaning.specs.Environment.{natural}
use Rattle.rb_code.specs.Instructions.Plain.{code as plain}
use Rattle.rb_code.specs.WordMachine.Workspace.{word_at}
use Rattle.rb_code.specs.WordMachine.Turn.{prior_words}
use Rattle.rb_proc.specs.Process.{Seen}
use Rattle.rb_recoverable.specs.Views.{CursorThen}
use Rattle.rb_recoverable.proofs.Looked.{cursor_there}
use Rattle.rb_proc.proofs.process.Proc.cursor_then.Goals as goal

pub returns-clause-cursor : goal.returns-clause-cursor
returns-clause-cursor g c =
    let code = plain c.args.code.now in
    let i = c.self.inside in
    let level_open = subst (λ (now : Seen). c.args.level < length now.process.levels) (sym c.self.view_is) c.requires.level in
    let word = to_z-of_z w64 c.at_entry.result (search rules) ∙ c.at_entry.ensures.word
    ∙ ap (λ (n : ℕ). word_at (prior_words (copy_of (slice_get i.memory.levels c.args.level))) n) c.cursor_place-place.ensures.place in
    subst (λ (now : Seen). CursorThen code now.process.state.process c.args.channel
    (slice_get now.process.levels c.args.level) c.natural.result) c.self.view_is
    (cursor_there code i.process c.args.channel c.natural.result i.memory.levels c.args.level level_open (c.natural.ensures ∙ ap natural word))
