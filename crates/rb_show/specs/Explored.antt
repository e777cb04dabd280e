-- What `explore` makes of a source: a search over all its schedules, and what is told of the answer.
use Rattle.std.specs.Prelude.{◌≡◌, ℕ, List, [], Option, Some, None}
use Rattle.rb_syntax.specs.Tree.{Tree}
use Rattle.rb_world.specs.Text.{Naming}
use Rattle.rb_meaning.specs.Groups.{groups_of}
use Rattle.rb_meaning.specs.Meaning.{naming_of}
use Rattle.rb_code.specs.Instructions.Plain.{Code}
use Rattle.rb_hall.specs.Judgement.{Judgement, Judging, RefusedWith, Writes}
use Rattle.rb_hall.specs.declared.fault.Fault.TheVariants.{NoOutcome}
use Rattle.rb_verdict.specs.Judging.{JudgesSource}
use Rattle.rb_verdict.specs.Programs.{IsCodeFor}
use Rattle.rb_schedules.specs.Answer.{Answer, answer_text, schedule_of, schedule_text}
use Rattle.rb_schedules.specs.Promises.{AnswersCode, AnswersTree}
use Rattle.rb_schedules.specs.declared.answer.TheConstants.{LIMITS}

-- The answer is one to the search over all schedules of the code that stands for a tree, within the limits; it is so of the code, and its outcomes
-- are those of the tree.
pub record IsAnswerFor (tree : Tree) (a : Answer) : Type 0 where
  pub code : Code
  pub made : IsCodeFor tree code
  pub of_code : AnswersCode code (groups_of tree) LIMITS a
  pub of_tree : AnswersTree tree a

-- the schedule of the outcome that was asked for by its number; where there is none that is refused
abbrev pub told_schedule : Naming → ℕ → Option (List ℕ) → Judgement
told_schedule names number None = RefusedWith (NoOutcome number)
told_schedule names number (Some turns) = Writes (schedule_text names turns)

-- what is told of an answer: all of it, or a schedule that leads to the outcome of a number
abbrev pub told_of : Naming → Option ℕ → Answer → Judgement
told_of names None a = Writes (answer_text names a)
told_of names (Some number) a = told_schedule names number (schedule_of a number)

-- with an accepted source: an answer is told
pub data ExploreGoesOn (number : Option ℕ) (tree : Tree) : List (List ℕ) → Judgement → Type 0 where
  tells : (judgement : Judgement) (a : Answer) → IsAnswerFor tree a → judgement ≡ told_of (naming_of tree) number a
      → ExploreGoesOn number tree [] judgement

-- what `explore` makes of the texts that it has read, of which the source is the only one
abbrev pub JudgesExplored : Option ℕ → Judging
JudgesExplored number = JudgesSource (ExploreGoesOn number)
