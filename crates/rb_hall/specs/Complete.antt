-- When a command ends as the verdict on its texts says: it answers a fault only where there was one.
use Rattle.std.specs.Prelude.{◌≡◌, ◌⊎◌, ℕ, List, [], ◌∷◌, ◌++◌, Option, Some}
use Rattle.rb_outside.specs.Outside.{File, Rose, bytes_of}
use Rattle.rb_hall.specs.Judgement.{Judgement, Judging, ReadsOn, RefusedWith, Writes, EndsBy, Wants, line_of}
use Rattle.rb_hall.specs.Answers.{Scene}
use Rattle.rb_hall.specs.declared.outcome.Outcome.{Outcome}
use Rattle.rb_hall.specs.declared.outcome.Outcome.TheVariants as out
use Rattle.rb_hall.specs.declared.outcome.Refusal.{Refusal}

-- these are the texts under the names of the wanted files
abbrev pub AreStored : List File → List Wants → List (List ℕ) → Type 0
AreStored files [] [] = Unit {0}
AreStored files [] (text ∷ texts) = ⊥
AreStored files (one ∷ wanted) [] = ⊥
AreStored files (one ∷ wanted) (text ∷ texts) = (bytes_of files one.name ≡ Some text) × AreStored files wanted texts

-- Nothing outside stands in the way: the shelf tells its files and the sink its bytes, all texts stand on the shelf, and neither count of
-- faults rose in the call.
pub record IsUnhindered (wanted : List Wants) (old new : Scene) (files : List File) (before : List ℕ) (texts : List (List ℕ)) : Type 0 where
  pub files_told : old.files ≡ Some files
  pub bytes_told : old.written ≡ Some before
  pub stored : AreStored files wanted texts
  pub no_read_fault : Rose old.read_faults new.read_faults → ⊥
  pub no_write_fault : Rose old.write_faults new.write_faults → ⊥

-- the call is refused for this fault, with its line written
pub record EndsRefused {W : Type 0} (fault : Judgement) (before : List ℕ) (written : Option (List ℕ)) (outcome : Outcome W) : Type 0 where
  pub refusal : Refusal W
  pub is : outcome ≡ out.Refused refusal
  pub same : fault ≡ RefusedWith refusal.fault
  pub line : written ≡ Some (before ++ line_of refusal.fault)

-- the call ends as judged, with the text or the line written behind these bytes, and nothing else
abbrev pub EndsAs : {W : Type 0} → Judgement → List ℕ → Option (List ℕ) → Outcome W → Type 0
EndsAs ReadsOn before written outcome = ⊥
EndsAs (Writes text) before written outcome = (outcome ≡ out.Done) × (written ≡ Some (before ++ text))
EndsAs (RefusedWith fault) before written outcome = EndsRefused (RefusedWith fault) before written outcome

-- The texts have this verdict, and the call ends as it says.
pub record EndsAsJudged {W : Type 0} (judges : Judging) (before : List ℕ) (texts : List (List ℕ)) (new : Scene) (outcome : Outcome W) : Type 0 where
  pub judgement : Judgement
  pub judged : EndsBy judges [] texts judgement
  pub ended : EndsAs judgement before new.written outcome

-- Where nothing outside stands in the way, the call ends as the verdict on the texts says, or memory was wanting. (Where a count already stood
-- at its last value it counts as risen.)
abbrev pub IsComplete : {W : Type 0} → Judging → List Wants → Scene → Scene → Outcome W → Type 0
IsComplete judges wanted old new outcome =
    (files : List File) (before : List ℕ) (texts : List (List ℕ)) → IsUnhindered wanted old new files before texts →
    (outcome ≡ out.Memory) ⊎ EndsAsJudged judges before texts new outcome
