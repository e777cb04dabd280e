-- What the text that a command wrote says of the very run that it was written of.
use Rattle.std.specs.Prelude.{◌≡◌, ℕ, List, [], ◌∷◌}
use Rattle.rb_syntax.specs.Tree.{Tree}
use Rattle.rb_meaning.specs.Laws.{IsErased}
use Rattle.rb_meaning.specs.Meaning.{run_text}
use Rattle.rb_judge.specs.Verdict.{IsAccepted}
use Rattle.rb_stuck.specs.AsTold.{StandsAsTold}
use Rattle.rb_stuck.specs.Programs.{tree_standing_text}
use Rattle.rb_verdict.specs.Texts.{ListsTurns, survivors_text}
use Rattle.rb_verdict.specs.Words.{Command, Run, Survive, Survey}

-- The texts are a source, which is accepted, and a schedule, which lists turns; this is the text of their run, of which that is so.
pub record OfTheirRun (text_of : Tree → List ℕ → List ℕ) (IsSo : Tree → List ℕ → List ℕ → Type 0) (texts : List (List ℕ)) (text : List ℕ)
    : Type 0 where
  pub source : List ℕ
  pub schedule : List ℕ
  pub tree : Tree
  pub turns : List ℕ
  pub both : texts ≡ source ∷ schedule ∷ []
  pub accepted : IsAccepted source tree
  pub listed : ListsTurns tree schedule turns
  pub written : text ≡ text_of tree turns
  pub is_so : IsSo tree turns text

-- what survived the run, run alone, ends as the run ended, whatever was written of it
abbrev pub EndsAlike : Tree → List ℕ → List ℕ → Type 0
EndsAlike tree turns text = IsErased tree turns

-- Where a command wrote this of these texts, what survived the run that `run` or `survive` wrote of, run alone, ends alike; and the run that
-- `stuck` wrote of stands as it says. Of other commands it says nothing.
abbrev pub Lasts : Command → List (List ℕ) → List ℕ → Type 0
Lasts Run texts text = OfTheirRun run_text EndsAlike texts text
Lasts Survive texts text = OfTheirRun survivors_text EndsAlike texts text
Lasts Survey texts text = OfTheirRun tree_standing_text StandsAsTold texts text
Lasts command texts text = Unit {0}
