-- What the text that a command wrote says of the very run that it was written of.
use Rattle.std.proofs.Common.{◌≡◌, ℕ, List}
use Rattle.rb_syntax.specs.Tree.{Tree}
use Rattle.rb_meaning.specs.Laws.{IsAlwaysErased}
use Rattle.rb_meaning.specs.Meaning.{run_text}
use Rattle.rb_meaning.proofs.Trees.TreeErasure.{erasure}
use Rattle.rb_judge.specs.Verdict.{IsAccepted}
use Rattle.rb_judge.proofs.Accepted.{of_accepted}
use Rattle.rb_hall.specs.Judgement.{Writes}
use Rattle.rb_stuck.specs.AsTold.{StandsAsTold}
use Rattle.rb_stuck.specs.Programs.{tree_standing_text}
use Rattle.rb_stuck.proofs.AsTold.{standing_told}
use Rattle.rb_verdict.specs.Words.{Command, Run, Survive, Replay, Check, ListCode, Trial, Session, Analyse, Survey, Compile, Load, Trace, Page, Explain, Usage}
use Rattle.rb_verdict.specs.Texts.{survivors_text}
use Rattle.rb_verdict.specs.Judging.{JudgesSource, Judges, OverSchedule}
use Rattle.rb_verdict.specs.Lasting.{EndsAlike, Lasts, OfTheirRun}
use Rattle.rb_verdict.proofs.Wrote.{wrote}

-- what is so of all turns of an accepted source is so of those of which a text was written
of_their_run : (text_of : Tree → List ℕ → List ℕ) (IsSo : Tree → List ℕ → List ℕ → Type 0)
    → ((source : List ℕ) (tree : Tree) (turns text : List ℕ) → IsAccepted source tree → text ≡ text_of tree turns → IsSo tree turns text)
    → (texts : List (List ℕ)) (text : List ℕ) → JudgesSource (OverSchedule text_of) texts (Writes text) → OfTheirRun text_of IsSo texts text
of_their_run text_of IsSo always texts text judged =
    let found = wrote text_of text texts judged in
    record {
      source = found.source;
      schedule = found.schedule;
      tree = found.tree;
      turns = found.ran.turns;
      both = found.both;
      accepted = found.accepted;
      listed = found.ran.listed;
      written = found.ran.is;
      is_so = always found.source found.tree found.ran.turns text found.accepted found.ran.is;
    }

ends_alike : (text_of : Tree → List ℕ → List ℕ) (source : List ℕ) (tree : Tree) (turns text : List ℕ) → IsAccepted source tree
    → text ≡ text_of tree turns → EndsAlike tree turns text
ends_alike text_of source tree turns text accepted is = of_accepted IsAlwaysErased erasure source tree accepted turns

pub lasts : (command : Command) (texts : List (List ℕ)) (text : List ℕ) → Judges command texts (Writes text) → Lasts command texts text
lasts Run texts text judged = of_their_run run_text EndsAlike (ends_alike run_text) texts text judged
lasts Survive texts text judged = of_their_run survivors_text EndsAlike (ends_alike survivors_text) texts text judged
lasts Replay texts text judged = tt
lasts Check texts text judged = tt
lasts ListCode texts text judged = tt
lasts (Trial n) texts text judged = tt
lasts Session texts text judged = tt
lasts Analyse texts text judged = tt
lasts Survey texts text judged =
    of_their_run tree_standing_text StandsAsTold (λ source tree turns told accepted is. standing_told tree turns told is) texts text judged
lasts Compile texts text judged = tt
lasts Load texts text judged = tt
lasts Trace texts text judged = tt
lasts Page texts text judged = tt
lasts (Explain told) texts text judged = tt
lasts (Usage line) texts text judged = tt
