-- What `faults` makes of a source: each fault that is told of it with its reason, or that it is accepted.
use Rattle.std.specs.Prelude.{◌≡◌, ℕ, List, [], ◌∷◌, ◌++◌}
use Rattle.rb_base.specs.declared.fault.SourceFault.{SourceFault}
use Rattle.rb_faults.specs.Told.{AreTold}
use Rattle.rb_hall.specs.Judgement.{Judgement, ReadsOn, Writes}
use Rattle.rb_verdict.specs.Judging.{accepted_line}
use Rattle.rb_why.specs.Source.{IsReason}
use Rattle.rb_show.specs.declared.faults.Listed.{Listed}
use Rattle.rb_show.specs.declared.faults.Listed.TheVariants as listed

-- the reasons why a source of this file is refused for these faults, one behind the other
abbrev pub AreReasons : List ℕ → List ℕ → List SourceFault → List ℕ → Type 0
AreReasons file source [] text = text ≡ []
AreReasons file source (fault ∷ faults) text =
    (reason : List ℕ) × (rest : List ℕ) × IsReason file source fault reason × AreReasons file source faults rest × (text ≡ reason ++ rest)

-- what is told of a source of this file with these faults
abbrev pub IsListOf : List ℕ → List ℕ → List SourceFault → List ℕ → Type 0
IsListOf file source [] text = text ≡ accepted_line
IsListOf file source (fault ∷ faults) text = AreReasons file source (fault ∷ faults) text

-- What `faults` makes of the texts that it has read, of which the source is the only one: it is never refused for its faults.
pub data JudgesFaults (file : List ℕ) : List (List ℕ) → Judgement → Type 0 where
  reads_source : JudgesFaults file [] ReadsOn
  lists : (source : List ℕ) (faults : List SourceFault) (text : List ℕ) → AreTold source faults → IsListOf file source faults text
      → JudgesFaults file (source ∷ []) (Writes text)

-- what is held: what is written of the source
abbrev pub HoldsListed : List ℕ → List (List ℕ) → Listed → Type 0
HoldsListed file texts listed.Nothing = texts ≡ []
HoldsListed file texts (listed.Text text) = JudgesFaults file texts (Writes text.items)
