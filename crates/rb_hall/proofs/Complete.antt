-- From the answers of a call, each with its cause, to their completeness: where no cause of a fault is there, the call ends as the verdict says.
use Rattle.std.proofs.Common.{◌≡◌, ℕ, List, [], ◌∷◌, ◌++◌, Option, Some, None, refl, sym, ap, subst, ◌∙◌, inl, inr, arith, append_assoc}
use Rattle.rb_outside.specs.Outside.{File, Start, Faults, Rose, bytes_of, failed_once, then_written}
use Rattle.rb_outside.specs.Outside as outside
use Rattle.rb_hall.specs.declared.outcome.Refusal.{Refusal}
use Rattle.rb_hall.specs.declared.outcome.Outcome.{Outcome}
use Rattle.rb_hall.specs.declared.outcome.Outcome.TheVariants as out
use Rattle.rb_hall.specs.Judgement.{Explaining, Judgement, Judging, RefusedWith, Writes, EndsBy, refused_here, written_here, later, Wants, line_of}
use Rattle.rb_hall.specs.Answers.{Scene, HasRead, nothing_yet, one_more, EndedIn, RefusesIn, StoppedByMissing, StoppedByMissingIn, by_fault, by_missing, Answers}
use Rattle.rb_hall.specs.Complete.{AreStored, IsComplete}

-- ---- the texts that were read, against those that stand on the shelf

-- The texts that stand on the shelf are those that were read, and these.
pub record Left (files : List File) (texts read : List (List ℕ)) (rest : List Wants) : Type 0 where
  pub left : List (List ℕ)
  pub parts : texts ≡ read ++ left
  pub stored : AreStored files rest left

-- The next of the texts that are left.
pub record Next (files : List File) (left : List (List ℕ)) (name : List ℕ) (rest : List Wants) : Type 0 where
  pub text : List ℕ
  pub others : List (List ℕ)
  pub is : left ≡ text ∷ others
  pub stored : bytes_of files name ≡ Some text
  pub after : AreStored files rest others

next_stored : (files : List File) (left : List (List ℕ)) (next : Wants) (rest : List Wants)
    → AreStored files (next ∷ rest) left → Next files left next.name rest
next_stored files [] next rest stored = absurd stored
next_stored files (text ∷ others) next rest stored = record { text = text; others = others; is = refl; stored = stored.0; after = stored.1 }

same_bytes : (stored : Option (List ℕ)) (a b : List ℕ) → stored ≡ Some a → stored ≡ Some b → a ≡ b
same_bytes stored a b x y = cc

not_missing : (stored : Option (List ℕ)) (a : List ℕ) → stored ≡ Some a → stored ≡ None → ⊥
not_missing stored a x y = cc

module _ (files : List File) (judges : Judging) (wanted : List Wants) where
  -- what was read is what stands first
  left_of : (read : List (List ℕ)) (rest : List Wants) (starts : List Start) (texts : List (List ℕ)) →
      HasRead files judges wanted read rest starts → AreStored files wanted texts → Left files texts read rest
  left_of read rest starts texts nothing_yet stored = record { left = texts; parts = refl; stored = stored }
  left_of read rest starts texts (one_more earlier next others before bytes passed ended has goes here is) stored =
      let back = left_of earlier (next ∷ others) before texts has stored in
      let after = next_stored files back.left next others back.stored in
      let same : after.text ≡ bytes = same_bytes (bytes_of files next.name) after.text bytes after.stored here in
      record {
        left = after.others;
        parts = back.parts ∙ ap (λ (ts : List (List ℕ)). earlier ++ ts) after.is ∙ ap (λ (t : List ℕ). earlier ++ t ∷ after.others) same
            ∙ sym (append_assoc earlier (bytes ∷ []) after.others);
        stored = after.after;
      }

  -- a command that has read these texts ends from there as it ends from the start
  ends_from : (read : List (List ℕ)) (rest : List Wants) (starts : List Start) (left : List (List ℕ)) (judgement : Judgement) →
      HasRead files judges wanted read rest starts → EndsBy judges read left judgement → EndsBy judges [] (read ++ left) judgement
  ends_from read rest starts left judgement nothing_yet ends = ends
  ends_from read rest starts left judgement (one_more earlier next others before bytes passed ended has goes here is) ends =
      let back = ends_from earlier (next ∷ others) before (bytes ∷ left) judgement has (later earlier bytes left judgement goes ends) in
      subst (λ (ts : List (List ℕ)). EndsBy judges [] ts judgement) (sym (append_assoc earlier (bytes ∷ []) left)) back

  module _ (texts : List (List ℕ)) (stored : AreStored files wanted texts) where
    -- a judgement of what was read that ends is that of the texts on the shelf
    judged : (read : List (List ℕ)) (rest : List Wants) (starts : List Start) (judgement : Judgement) → HasRead files judges wanted read rest starts
        → ((left : List (List ℕ)) → EndsBy judges read left judgement) → EndsBy judges [] texts judgement
    judged read rest starts judgement has ends =
        let left = left_of read rest starts texts has stored in
        subst (λ (ts : List (List ℕ)). EndsBy judges [] ts judgement) (sym left.parts)
        (ends_from read rest starts left.left judgement has (ends left.left))

    none_missing : (old new : List Start) (number : ℕ) → StoppedByMissing files judges wanted old new number → ⊥
    none_missing old new number gone =
        let at = gone.stopped in
        let left = left_of at.texts (gone.next ∷ at.rest) at.starts texts at.read stored in
        let next = next_stored files left.left gone.next at.rest left.stored in
        not_missing (bytes_of files gone.next.name) next.text next.stored gone.missing

    writes_judged : (old new : List Start) (text : List ℕ) → EndedIn (Some files) judges wanted old new (Writes text) → EndsBy judges [] texts (Writes text)
    writes_judged old new text ended =
        judged ended.texts ended.rest ended.read.starts (Writes text) ended.read.read (λ left. written_here ended.texts left text ended.judged)

    refuses_judged : {W : Type 0} (explains : Explaining W) (old new : List Start) (refusal : Refusal W)
        → RefusesIn (Some files) judges explains wanted old new refusal
        → EndsBy judges [] texts (RefusedWith refusal.fault)
    refuses_judged explains old new refusal refuses =
        judged refuses.texts refuses.rest refuses.read.starts (RefusedWith refusal.fault) refuses.read.read
        (λ left. refused_here refuses.texts left refusal.fault refuses.judged)

-- ---- each answer, where nothing outside stands in the way

-- what was written behind bytes that are told
told_after : (old new : Option (List ℕ)) (before bytes : List ℕ) → old ≡ Some before → new ≡ then_written old bytes → new ≡ Some (before ++ bytes)
told_after old new before bytes told e = e ∙ ap (λ w. then_written w bytes) told

-- a call that failed is a rise
rose : (before after : Faults) → after ≡ failed_once before → Rose before after
rose before after failed =
    let count : after.count ≡ outside.one_more before.count = ap (λ f. f.count) failed in
    omega arith

pub completed : {W : Type 0} (judges : Judging) (explains : Explaining W) (wanted : List Wants) (takes : Type 0) (old new : Scene)
    (outcome : Outcome W) → Answers judges explains wanted takes old new outcome
    → IsComplete judges wanted old new outcome
completed judges explains wanted takes old new out.Done (text, ended, well, all) files before texts free =
    inr (record {
      judgement = Writes text;
      judged = writes_judged files judges wanted texts free.stored old.starts new.starts text
          (subst (λ told. EndedIn told judges wanted old.starts new.starts (Writes text)) free.files_told ended);
      ended = (refl, told_after old.written new.written before text free.bytes_told all.written);
    })
completed judges explains wanted takes old new (out.Refused refusal) (refuses, well, all) files before texts free =
    inr (record {
      judgement = RefusedWith refusal.fault;
      judged = refuses_judged files judges wanted texts free.stored explains old.starts new.starts refusal
          (subst (λ told. RefusesIn told judges explains wanted old.starts new.starts refusal) free.files_told refuses);
      ended = record {
        refusal = refusal;
        is = refl;
        same = refl;
        line = told_after old.written new.written before (line_of refusal.fault) free.bytes_told all.written;
      };
    })
completed judges explains wanted takes old new (out.ReadFault number) (by_fault failed stopped, nothing) files before texts free =
    absurd (free.no_read_fault (rose old.read_faults new.read_faults failed))
completed judges explains wanted takes old new (out.ReadFault number) (by_missing was stopped, nothing) files before texts free =
    absurd (none_missing files judges wanted texts free.stored old.starts new.starts number
    (subst (λ told. StoppedByMissingIn told judges wanted old.starts new.starts number) free.files_told stopped))
completed judges explains wanted takes old new out.WriteFault (bytes, would, well, part) files before texts free =
    absurd (free.no_write_fault (rose old.write_faults new.write_faults part.failed))
completed judges explains wanted takes old new out.Memory h files before texts free = inl refl
