use Rattle.std.proofs.Common.{◌≡◌, ℕ, zero, suc, ℤ, pos, List, [], ◌∷◌, refl, ap, ◌∙◌, rules, w64}
use Rattle.std.specs.Prelude.{get_or}
use Rattle.std.proofs.lemmas.Int.{to_z-of_z}
use Rattle.rb_code.specs.WordMachine.Workspace.{word_at}
use Rattle.rb_recoverable.specs.Contents.{Contents}
use Rattle.rb_recoverable.proofs.recoverable.Recoverable.load.Goals as goal

read_is : (words : List ℤ) (at : ℕ) → get_or words at (pos 0) ≡ word_at words at
read_is [] zero = refl
read_is [] (suc at) = refl
read_is (word ∷ words) zero = refl
read_is (word ∷ words) (suc at) = read_is words at

pub returns-clause-word : goal.returns-clause-word
returns-clause-word g c =
    to_z-of_z w64 c.read.result (search rules) ∙ c.read.ensures.word ∙ read_is c.self.inside.cells.words c.args.at
    ∙ ap (λ (r : Contents). word_at r.words c.args.at) c.self.view_is
