use Rattle.std.proofs.Common.{ℕ, ◌+◌, ◌<◌, ℤ, w64, length, ap, sym, ◌∙◌, subst, rules}
use Rattle.std.specs.Prelude.{slice_get, Some}
use Rattle.std.proofs.lemmas.Int.{to_z-of_z}
use Rattle.rb_code.specs.Instructions.Plain.{code as plain}
use Rattle.rb_code.specs.WordMachine.Workspace.{part_of, variables_place, word_at}
use Rattle.rb_code.specs.WordMachine.WordRun.{variable_words}
use Rattle.rb_proc.specs.Process.{Seen}
use Rattle.rb_recoverable.proofs.Looked.{word_there}
use Rattle.rb_proc.proofs.process.Proc.word.Goals as goal

pub returns-clause-word : goal.returns-clause-word
returns-clause-word g c =
    let code = plain c.args.code.now in
    let i = c.self.inside in
    let part = part_of code i.process in
    let at = subst (λ (now : Seen). c.args.at < length (variable_words code now.process.state)) (sym c.self.view_is) c.requires.at in
    let word = to_z-of_z w64 c.load.result (search rules) ∙ c.load.ensures.word
    ∙ ap (λ (n : ℕ). word_at i.memory.words (n + c.args.at)) c.first_variable-first.ensures.place in
    ap (λ (now : Seen). slice_get (variable_words code now.process.state) c.args.at) (sym c.self.view_is)
    ∙ word_there i.memory.words (variables_place part) part.words c.args.at at
    ∙ ap (λ (w : ℤ). Some w) (sym word)
