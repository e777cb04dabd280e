-- From the end of a program over files in memory to the verdict on their texts.
use Rattle.std.proofs.Common.{◌≡◌, ◌≤◌, ℕ, List, [], ◌∷◌, ◌++◌, length, take, Some, refl, sym, ap, subst, ◌∙◌, inl, inr, arith, length-take}
use Rattle.rb_outside.specs.Outside.{File, Start, Rose, no_faults, one_more as next_count}
use Rattle.rb_hall.specs.declared.fault.Fault.{Fault}
use Rattle.rb_hall.specs.declared.outcome.Outcome.{Outcome}
use Rattle.rb_hall.specs.declared.outcome.Outcome.TheVariants as out
use Rattle.rb_hall.specs.declared.outcome.Refusal.{Refusal}
use Rattle.rb_hall.specs.Answers.{Scene, HasRead, nothing_yet, one_more, EndedIn, WouldWrite, its_text, its_line, Answers}
use Rattle.rb_hall.specs.Complete.{AreStored, EndsAs, EndsAsJudged, IsComplete}
use Rattle.rb_hall.specs.Ending.{SeenBehind}
use Rattle.rb_hall.specs.Judgement.{Explaining, Judgement, Judging, ReadsOn, RefusedWith, Writes, EndsBy, refused_here, written_here, later, Wants, line_of}
use Rattle.rb_hall.proofs.Complete.{completed}
use Rattle.rb_verdict.specs.Judging.{TakesWhileWriting}
use Rattle.rb_verdict.specs.Words.{request_for}
use Rattle.rb_commands.specs.Requests.{explains_of}
use Rattle.rb_commands.specs.declared.why.Why.{Why}
use Rattle.rb_tell.specs.Entrance.{number_of}
use Rattle.rb_show.specs.Wished.{Carries, Task, explains_of as view_explains_of, judges_of, request_of}
use Rattle.rb_web.specs.Ending.{opening}
use Rattle.rb_web.specs.Kept.{FailsWhenFull}
use Rattle.rb_web.specs.Laws.{EndsOverTexts, IsWhole, TextsDecide, written_for}
use Rattle.rb_web.specs.declared.over_texts.Program.TheVariants as programs

-- ---- what was to be written where a write failed

-- the same judging, in which what was refused for this fault has a text
abbrev AsText : Judging → Fault → Judging
AsText judges fault texts ReadsOn = judges texts ReadsOn
AsText judges fault texts (RefusedWith other) = ⊥
AsText judges fault texts (Writes text) = judges texts (RefusedWith fault)

module _ (files : List File) (judges : Judging) (wanted : List Wants) (fault : Fault) where
  read_as_text : (texts : List (List ℕ)) (rest : List Wants) (starts : List Start) → HasRead files judges wanted texts rest starts
      → HasRead files (AsText judges fault) wanted texts rest starts
  read_as_text texts rest starts nothing_yet = nothing_yet
  read_as_text texts rest starts (one_more earlier next others before bytes passed ended has goes here is) =
      one_more earlier next others before bytes passed ended (read_as_text earlier (next ∷ others) before has) goes here is

  refused_as_text : (read left : List (List ℕ)) (judgement : Judgement) → EndsBy (AsText judges fault) read left judgement
      → EndsBy judges read left (RefusedWith fault)
  refused_as_text read left judgement (refused_here a b other never) = absurd never
  refused_as_text read left judgement (written_here a b text refused) = refused_here read left fault refused
  refused_as_text read left judgement (later a next rest made goes ends) =
      later read next rest (RefusedWith fault) goes (refused_as_text (read ++ next ∷ []) rest made ends)

  ended_as_text : (new : List Start) → EndedIn (Some files) judges wanted [] new (RefusedWith fault)
      → EndedIn (Some files) (AsText judges fault) wanted [] new (Writes [])
  ended_as_text new ended = record {
    texts = ended.texts;
    rest = ended.rest;
    read = record {
      starts = ended.read.starts;
      read = read_as_text ended.texts ended.rest ended.read.starts ended.read.read;
      started = ended.read.started;
    };
    judged = ended.judged;
  }

none_rose : Rose no_faults no_faults → ⊥
none_rose rose = omega (arith, rose)

some_same : (a b : List ℕ) → Some a ≡ Some b → a ≡ b
some_same a b e = cc

done_not_refused : (refusal : Refusal (Unit {0})) → out.Done ≡ out.Refused refusal → ⊥
done_not_refused refusal e = cc

done_not_memory : (a b : Outcome (Unit {0})) → a ≡ out.Done → b ≡ out.Memory → a ≡ b → ⊥
done_not_memory a b is was e = cc

module _ (files : List File) (wanted : List Wants) (texts : List (List ℕ)) (stored : AreStored files wanted texts) (new : List Start) where
  -- the scene of a call that wrote all of it
  abbrev written_all : List ℕ → Scene
  written_all text = record { files = Some files; starts = new; read_faults = no_faults; written = Some text; write_faults = no_faults }

  as_judged : (judges : Judging) (text : List ℕ) → EndedIn (Some files) judges wanted [] new (Writes text)
      → EndsAsJudged {W = Unit {0}} judges [] texts (written_all text) out.Done
  as_judged judges text ended =
      elim (completed {W = Unit {0}} judges (λ ts fault why. Unit {0}) wanted ⊥ (opening files) (written_all text) out.Done
      (text, ended, refl, record { written = refl; well = refl }) files [] texts (record {
        files_told = refl;
        bytes_told = refl;
        stored = stored;
        no_read_fault = none_rose;
        no_write_fault = none_rose;
      })) [
        | inl memory ↦ absurd (done_not_memory out.Done out.Memory refl refl memory)
        | inr ends ↦ ends
      ]

  text_judged : (judges : Judging) (text : List ℕ) (judgement : Judgement) → EndsBy judges [] texts judgement
      → EndsAs {W = Unit {0}} judgement [] (Some text) out.Done → EndsBy judges [] texts (Writes text)
  text_judged judges text ReadsOn ends never = absurd never
  text_judged judges text (Writes other) ends (done, wrote) =
      subst (λ (t : List ℕ). EndsBy judges [] texts (Writes t)) (sym (some_same text other wrote)) ends
  text_judged judges text (RefusedWith fault) ends refused = absurd (done_not_refused refused.refusal refused.is)

  -- what would have been written is what is written for the verdict on the texts
  would_be_written : (judges : Judging) (scene : Scene) (bytes : List ℕ) → scene.starts ≡ new → WouldWrite judges wanted (opening files) scene bytes
      → (judgement : Judgement) × EndsBy judges [] texts judgement × (bytes ≡ written_for judgement)
  would_be_written judges scene bytes same (its_text ended) =
      let here = subst (λ starts. EndedIn (Some files) judges wanted [] starts (Writes bytes)) same ended in
      let ends = as_judged judges bytes here in
      (Writes bytes, text_judged judges bytes ends.judgement ends.judged ends.ended, refl)
  would_be_written judges scene bytes same (its_line fault ended line) =
      let here = subst (λ starts. EndedIn (Some files) judges wanted [] starts (RefusedWith fault)) same ended in
      let ends = as_judged (AsText judges fault) [] (ended_as_text files judges wanted fault new here) in
      (RefusedWith fault, refused_as_text files judges wanted fault [] texts ends.judgement ends.judged, line)

-- ---- each end

module _ (explains : Explaining Why) (task : Task) (files : List File) (room : ℕ) (bytes : List ℕ) (scene : Scene) (number : ℕ)
    (reads_well : scene.read_faults.count ≡ 0) (wrote : scene.written ≡ Some bytes) (writes_well : FailsWhenFull room bytes scene.write_faults)
    (texts : List (List ℕ)) (stored : AreStored files (request_of task).files texts) where
  whole_as : (outcome : Outcome Why) (judgement : Judgement) → number ≡ number_of (request_of task).command outcome
      → EndsAs judgement [] scene.written outcome → IsWhole (request_of task).command judgement bytes number
  whole_as outcome ReadsOn is never = absurd never
  whole_as outcome (Writes text) is (done, written) =
      (some_same bytes text (sym wrote ∙ written), is ∙ ap (number_of (request_of task).command) done)
  whole_as outcome (RefusedWith fault) is refused =
      let line : bytes ≡ line_of refused.refusal.fault = some_same bytes (line_of refused.refusal.fault) (sym wrote ∙ refused.line) in (
        line ∙ ap written_for (sym refused.same),
        is ∙ ap (number_of (request_of task).command) refused.is,
      )

  whole : (outcome : Outcome Why) → number ≡ number_of (request_of task).command outcome → scene.write_faults.count ≡ 0
      → IsComplete (judges_of task) (request_of task).files (opening files) scene outcome → EndsOverTexts task texts room bytes number
  whole outcome is well complete =
      elim (complete files [] texts (record {
        files_told = refl;
        bytes_told = refl;
        stored = stored;
        no_read_fault = λ rose. omega (arith, rose, reads_well);
        no_write_fault = λ rose. omega (arith, rose, well);
      })) [
        | inl memory ↦ inl (is ∙ ap (number_of (request_of task).command) memory)
        | inr ends ↦ inr (ends.judgement, ends.judged, inl (whole_as outcome ends.judgement is ends.ended))
      ]

  -- the place is full where a write failed
  full : (count : ℕ) → scene.write_faults.count ≡ count → count ≡ next_count 0 → length bytes ≡ room
  full count is one =
      elim writes_well.1 [
        | inl none ↦ absurd (omega (arith, none, is, one))
        | inr filled ↦ filled
      ]

  ended : (outcome : Outcome Why) (told : Scene) → number ≡ number_of (request_of task).command outcome
      → Answers (judges_of task) explains (request_of task).files (TakesWhileWriting (request_of task).command) (opening files) told outcome
      → SeenBehind told scene → IsComplete (judges_of task) (request_of task).files (opening files) scene outcome
      → EndsOverTexts task texts room bytes number
  ended out.Memory told is answers seen complete = inl is
  ended out.Done told is (text, judged, well, all) seen complete = whole out.Done is (seen.write_faults ∙ all.well) complete
  ended (out.Refused refusal) told is (refuses, well, all) seen complete = whole (out.Refused refusal) is (seen.write_faults ∙ all.well) complete
  ended (out.ReadFault file) told is (fails, nothing) seen complete =
      whole (out.ReadFault file) is (seen.write_faults ∙ ap (λ f. f.count) nothing.faults) complete
  ended out.WriteFault told is (text, would, well, part) seen complete =
      let verdict = would_be_written files (request_of task).files texts stored told.starts (judges_of task) told text refl would in
      let k = part.written.0 in
      let front : bytes ≡ take k text = some_same bytes (take k text) (sym wrote ∙ seen.written ∙ part.written.2) in
      let many : length bytes ≡ length (take k text) = ap length front in
      let filled = full told.write_faults.count seen.write_faults (ap (λ f. f.count) part.failed) in
      let within : k ≤ length text = part.written.1 in
      let at : k ≡ room = omega (arith, many, filled, within, length-take k text) in
      let same : text ≡ written_for verdict.0 = verdict.2 in
      inr (
        verdict.0,
        verdict.1,
        inr (record {
          too_small = subst (λ (t : List ℕ). room ≤ length t) same (omega (arith, at, within));
          front = front ∙ ap (λ n. take n text) at ∙ ap (take room) same;
          says = is;
        }),
      )

pub texts_decide : TextsDecide
texts_decide programs.Rbl words files room reason_room bytes told number telling ends =
    let task = Carries (request_for words) in
    let so = ends.ends in (
      task,
      refl,
      λ texts stored.
          ended (explains_of (request_of task).command) task files room bytes ends.scene number ends.reads_well ends.wrote ends.writes_well texts stored
          so.outcome so.ends.told so.is so.ends.answers so.ends.seen so.ends.complete,
    )
texts_decide programs.Rblview words files room reason_room bytes told number telling ends =
    let task = ends.ends.0 in
    let so = ends.ends.2 in (
      task,
      ends.ends.1,
      λ texts stored.
          ended (view_explains_of (request_of task).command) task files room bytes ends.scene number ends.reads_well ends.wrote ends.writes_well texts
          stored so.outcome so.ends.told so.is so.ends.answers so.ends.seen so.ends.complete,
    )
