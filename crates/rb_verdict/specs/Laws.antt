-- Laws of verdicts.
use Rattle.std.specs.Prelude.{◌≡◌, ◌≤◌, ◌↔◌, ℕ, List, [], ◌∷◌, ◌++◌, length}
use Rattle.rb_base.specs.declared.limits.TheConstants.{MOST_BYTES}
use Rattle.rb_syntax.specs.Tree.{Tree}
use Rattle.rb_world.specs.Erased.{numbered}
use Rattle.rb_world.specs.Text.{outs_text, values_text}
use Rattle.rb_meaning.specs.Laws.{IsAlwaysErased}
use Rattle.rb_meaning.specs.Meaning.{final_of, naming_of, run_of, run_text}
use Rattle.rb_judge.specs.Verdict.{IsAccepted}
use Rattle.rb_hall.specs.Judgement.{Judgement, Writes}
use Rattle.rb_verdict.specs.Judging.{EndsWith}
use Rattle.rb_verdict.specs.Texts.{ListsTurns}
use Rattle.rb_verdict.specs.Words.{Command, HasItsFiles, Load, Request, compile_of, files_of, load_of, plain_of, request_for, run_of as run_request, survive_of}

-- a request ends in one way at most with the texts of its files
abbrev pub AreJudgedOnce : Type 0
AreJudgedOnce = (request : Request) (texts : List (List ℕ)) (v w : Judgement) → EndsWith request texts v → EndsWith request texts w → v ≡ w

-- Whether code is sound is told by a search for which memory may be wanting, so that of `load` it is only said that texts are not without
-- a verdict.
abbrev pub IsTold : Command → Type 0 → Type 0
IsTold Load Verdict = (Verdict → ⊥) → ⊥
IsTold command Verdict = Verdict

-- a request for the files of its command ends in some way with their texts
abbrev pub AreJudged : Type 0
AreJudged =
    (request : Request) (texts : List (List ℕ)) → HasItsFiles request → length texts ≡ files_of request.command
    → IsTold request.command ((v : Judgement) × EndsWith request texts v)

-- what words ask for names the files of its command
abbrev pub RequestsHaveTheirFiles : Type 0
RequestsHaveTheirFiles = (words : List (List ℕ)) → HasItsFiles (request_for words)

-- the `out` lines of a run, in their order, and the values in which it ends
abbrev pub replayed_text : Tree → List ℕ → List ℕ
replayed_text tree turns =
    outs_text (naming_of tree) (numbered 1 (run_of tree turns).1) ++ values_text (naming_of tree) (final_of tree (run_of tree turns).0)

-- A source is accepted with a tree, and its schedule lists turns; `run` writes the text of their run, and `plain` of this record has the
-- run's `out` lines and its values. The names of the files are of no matter.
pub record Replays (source schedule kept : List ℕ) : Type 0 where
  pub tree : Tree
  pub turns : List ℕ
  pub accepted : IsAccepted source tree
  pub listed : ListsTurns tree schedule turns
  pub replayed : (program record_name : List ℕ) → EndsWith (plain_of program record_name) (source ∷ kept ∷ []) (Writes (replayed_text tree turns))
  pub ran : (program plan : List ℕ) → EndsWith (run_request program plan) (source ∷ schedule ∷ []) (Writes (run_text tree turns))

-- What `survive` wrote, if it is not too long to be read, `plain` replays.
abbrev pub SurvivorsReplay : Type 0
SurvivorsReplay =
    (program plan source schedule kept : List ℕ) → EndsWith (survive_of program plan) (source ∷ schedule ∷ []) (Writes kept)
    → length kept ≤ MOST_BYTES → Replays source schedule kept

-- Of an accepted source, whatever the turns: the plain run of the survivors is not stuck, ends in the states in which the run ended, and
-- releases the same lines in the same turns.
abbrev pub SurvivorsEndAlike : Type 0
SurvivorsEndAlike = (source : List ℕ) (tree : Tree) → IsAccepted source tree → IsAlwaysErased tree

-- What `compile` wrote of a source, `load` runs as `run` runs the source: over each schedule both write one text, or are refused for one fault.
-- The names of the files are of no matter.
abbrev pub ImagesRunAsTheirSources : Type 0
ImagesRunAsTheirSources =
    (program compiled plan source image : List ℕ) → EndsWith (compile_of program) (source ∷ []) (Writes image)
    → (schedule : List ℕ) (judgement : Judgement)
    → EndsWith (load_of compiled plan) (image ∷ schedule ∷ []) judgement ↔ EndsWith (run_request program plan) (source ∷ schedule ∷ []) judgement
