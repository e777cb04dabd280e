-- How a command ends that looks at a source first, with the source and a second text at hand.
use Rattle.std.proofs.Common.{ℕ, List, [], ◌∷◌}
use Rattle.rb_syntax.specs.Tree.{Tree}
use Rattle.rb_judge.specs.Verdict.{IsAccepted}
use Rattle.rb_hall.specs.declared.fault.Fault.{Fault}
use Rattle.rb_hall.specs.Judgement.{Judgement, ReadsOn, RefusedWith, Writes, EndsBy, refused_here, written_here, later}
use Rattle.rb_verdict.specs.Texts.{SourceRefused}
use Rattle.rb_verdict.specs.Judging.{JudgesSource, at_first, first_refused, first_accepted}

module _ (goes_on : Tree → List (List ℕ) → Judgement → Type 0) (source second : List ℕ) where
  abbrev pub BothEnd : Judgement → Type 0
  BothEnd judgement = EndsBy (JudgesSource goes_on) [] (source ∷ second ∷ []) judgement

  -- the source is refused
  pub refused_at_first : (fault : Fault) → SourceRefused source fault → BothEnd (RefusedWith fault)
  refused_at_first fault refused =
      later [] source (second ∷ []) (RefusedWith fault) at_first (refused_here (source ∷ []) (second ∷ []) fault (first_refused source fault refused))

  module _ (tree : Tree) (accepted : IsAccepted source tree) (reads : goes_on tree [] ReadsOn) where
    -- it is accepted, and the second text is read
    second_read : (judgement : Judgement) → EndsBy (JudgesSource goes_on) (source ∷ second ∷ []) [] judgement → BothEnd judgement
    second_read judgement ends =
        later [] source (second ∷ []) judgement at_first
        (later (source ∷ []) second [] judgement (first_accepted source tree [] ReadsOn accepted reads) ends)

    -- which is refused
    pub second_refused : (fault : Fault) → goes_on tree (second ∷ []) (RefusedWith fault) → BothEnd (RefusedWith fault)
    second_refused fault refused =
        second_read (RefusedWith fault)
        (refused_here (source ∷ second ∷ []) [] fault (first_accepted source tree (second ∷ []) (RefusedWith fault) accepted refused))

    -- or the command has its text
    pub second_writes : (text : List ℕ) → goes_on tree (second ∷ []) (Writes text) → BothEnd (Writes text)
    second_writes text written =
        second_read (Writes text)
        (written_here (source ∷ second ∷ []) [] text (first_accepted source tree (second ∷ []) (Writes text) accepted written))
