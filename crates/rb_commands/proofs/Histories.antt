-- `domino`: what is made of a history.
use Rattle.std.proofs.Common.{ℕ, List, sym, subst, refl}
use Rattle.rb_domino.specs.History.{Story}
use Rattle.rb_domino.specs.Recovery.{outcome_of}
use Rattle.rb_domino.specs.Written.{outcome_text}
use Rattle.rb_hall.specs.Judgement.{Writes}
use Rattle.rb_verdict.specs.Judging.{JudgesHistory, history_told}
use Rattle.rb_commands.specs.Held.{HoldsHistory}
use Rattle.rb_commands.specs.declared.domino.Told.TheVariants as told

-- its outcome is told
pub history_writes : (story : Story) (texts : List (List ℕ)) → HoldsHistory texts (told.Story story)
    → JudgesHistory texts (Writes (outcome_text story (outcome_of story)))
history_writes story texts (text, e, listed) =
    subst (λ (ts : List (List ℕ)). JudgesHistory ts (Writes (outcome_text story (outcome_of story)))) (sym e)
    (history_told text (outcome_text story (outcome_of story)) (record { story = story; listed = listed; is = refl }))
