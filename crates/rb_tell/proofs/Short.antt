-- What is refused, of texts within the limits of a command's files: where the reason looks at it, it is no longer than a text may be.
use Rattle.std.proofs.Common.{◌≡◌, ◌⊎◌, ℕ, ◌≤◌, List, [], ◌∷◌, ◌++◌, length, map, Option, Some, None, refl, ap, subst, ◌∙◌, inl, inr, arith}
use Rattle.rb_base.specs.declared.limits.TheConstants.{MOST_BYTES}
use Rattle.rb_outside.specs.Outside.{File}
use Rattle.rb_hall.specs.declared.fault.Fault.{Fault}
use Rattle.rb_hall.specs.declared.fault.Fault.TheVariants as of
use Rattle.rb_hall.specs.declared.outcome.Outcome.{Outcome}
use Rattle.rb_hall.specs.declared.outcome.Outcome.TheVariants as out
use Rattle.rb_hall.specs.Judgement.{Explaining, Judgement, Judging, RefusedWith, Limited, Wants, as_judged, too_long}
use Rattle.rb_hall.specs.Answers.{IsFrontIn, IsOfLast, Scene, of_last, of_none}
use Rattle.rb_hall.specs.Ending.{EndsBehind}
use Rattle.rb_hall.proofs.Limits.{AreWithin, read_within}
use Rattle.rb_verdict.specs.Judging.{Judges, JudgesWithin, OverTurns, at_first, first_accepted, first_refused, reads_schedule, runs, schedule_refused}
use Rattle.rb_verdict.specs.Texts.{ImageRefused, no_image, unsound_image}
use Rattle.rb_verdict.specs.Words.{Command, Run, Survive, Replay, Check, ListCode, Trial, Session, Analyse, Survey, Compile, Load, Trace, Page, Explain, Usage, HasItsFiles, Request, limits_of}
use Rattle.rb_commands.specs.declared.why.Why.{Why}
use Rattle.rb_tell.specs.Reasons.{IsShort}
use Rattle.rb_tell.specs.Telling.{IsShortEnd}

-- what is no longer than a text may be is short
short_text : (fault : Fault) (bytes : List ℕ) → length bytes ≤ MOST_BYTES → IsShort fault bytes
short_text (of.Source fault) bytes few = few
short_text (of.Text fault) bytes few = few
short_text (of.Stuck turn) bytes few = few
short_text of.NoImage bytes few = tt
short_text of.Unsound bytes few = tt
short_text (of.NoOutcome number) bytes few = tt
short_text of.Long bytes few = tt

-- of a refused image nothing is looked at
of_image : (image : List ℕ) (fault : Fault) (bytes : List ℕ) → ImageRefused image fault → IsShort fault bytes
of_image image fault bytes (no_image none) = tt
of_image image fault bytes (unsound_image program is never) = tt

-- ---- the last of texts within the limits

-- none of these limits is above that of a text
abbrev pub AreSmall : List ℕ → Type 0
AreSmall [] = Unit {0}
AreSmall (most ∷ more) = (most ≤ MOST_BYTES) × AreSmall more

last_small : (limits : List ℕ) (files : List Wants) → map (λ (file : Wants). file.most) files ≡ limits → AreSmall limits
    → (before : List (List ℕ)) (text : List ℕ) → AreWithin files (before ++ text ∷ []) → length text ≤ MOST_BYTES
last_small limits [] has small [] text within = absurd within
last_small limits [] has small (one ∷ before) text within = absurd within
last_small [] (file ∷ files) has small before text within = absurd (cc)
last_small (most ∷ more) (file ∷ files) has small [] text within =
    let same : file.most ≡ most = cc in
    omega (arith, same, within.0, small.0)
last_small (most ∷ more) (file ∷ files) has small (one ∷ before) text within =
    let rest : map (λ (file : Wants). file.most) files ≡ more = cc in
    last_small more files rest small.1 before text within.1

-- behind the first of two files, of which the second holds a text
second_small : (first : ℕ) (files : List Wants) → map (λ (file : Wants). file.most) files ≡ first ∷ MOST_BYTES ∷ []
    → (one : List ℕ) (before : List (List ℕ)) (text : List ℕ) → AreWithin files (one ∷ (before ++ text ∷ [])) → length text ≤ MOST_BYTES
second_small first [] has one before text within = absurd within
second_small first (file ∷ files) has one before text within =
    let rest : map (λ (file : Wants). file.most) files ≡ MOST_BYTES ∷ [] = cc in
    last_small (MOST_BYTES ∷ []) files rest (omega arith, tt) before text within.1

-- a command of which no file may be longer than a text
small_or_load : (command : Command) → (command ≡ Load) ⊎ AreSmall (limits_of command)
small_or_load Run = inr (omega arith, (omega arith, tt))
small_or_load Survive = inr (omega arith, (omega arith, tt))
small_or_load Replay = inr (omega arith, (omega arith, tt))
small_or_load Check = inr (omega arith, tt)
small_or_load ListCode = inr (omega arith, tt)
small_or_load (Trial number) = inr tt
small_or_load Session = inr (omega arith, (omega arith, (omega arith, tt)))
small_or_load Analyse = inr (omega arith, tt)
small_or_load Survey = inr (omega arith, (omega arith, tt))
small_or_load Compile = inr (omega arith, tt)
small_or_load Load = inl refl
small_or_load Trace = inr (omega arith, (omega arith, tt))
small_or_load Page = inr (omega arith, (omega arith, (omega arith, tt)))
small_or_load (Explain text) = inr tt
small_or_load (Usage line) = inr tt

-- ---- `load`, whose first file is longer

same_fault : (a b : Fault) → RefusedWith a ≡ RefusedWith b → a ≡ b
same_fault a b e = cc

-- with the image alone it is refused for the image
image_alone : (texts : List (List ℕ)) (judgement : Judgement) → Judges Load texts judgement → (image : List ℕ) (fault : Fault) (bytes : List ℕ)
    → texts ≡ image ∷ [] → judgement ≡ RefusedWith fault → IsShort fault bytes
image_alone texts judgement at_first image fault bytes alone refused = absurd (cc)
image_alone texts judgement (first_refused first other bad) image fault bytes alone refused =
    subst (λ (f : Fault). IsShort f bytes) (same_fault other fault refused) (of_image first other bytes bad)
image_alone texts judgement (first_accepted first held more j holds goes) image fault bytes alone refused =
    let none : more ≡ [] = cc in
    goes_on more j goes none refused
  where
    goes_on : {names : List (List ℕ)} {text_of : List ℕ → List ℕ} (more : List (List ℕ)) (j : Judgement) → OverTurns names text_of more j
        → more ≡ [] → j ≡ RefusedWith fault → IsShort fault bytes
    goes_on more j reads_schedule none refused = absurd (cc)
    goes_on more j (schedule_refused schedule other bad) none refused = absurd (cc)
    goes_on more j (runs schedule text ran) none refused = absurd (cc)

image_last : (files : List Wants) → map (λ (file : Wants). file.most) files ≡ limits_of Load → (before : List (List ℕ)) (text : List ℕ) (fault : Fault)
    (bytes : List ℕ) → AreWithin files (before ++ text ∷ []) → Judges Load (before ++ text ∷ []) (RefusedWith fault) → length bytes ≤ length text
    → IsShort fault bytes
image_last files has [] text fault bytes within judged front = image_alone (text ∷ []) (RefusedWith fault) judged text fault bytes refl refl
image_last files has (one ∷ before) text fault bytes within judged front =
    let few = second_small _ files has one before text within in
    short_text fault bytes (omega (arith, few, front))

-- ---- of a refusal

-- What is refused of the last text that was read is short: so is what an end tells that it is refused.
module _ (wanted : List Wants) (judges : Judging)
    (last : (before : List (List ℕ)) (text : List ℕ) (fault : Fault) (bytes : List ℕ) → AreWithin wanted (before ++ text ∷ [])
    → judges (before ++ text ∷ []) (RefusedWith fault) → length bytes ≤ length text → IsShort fault bytes) where
  front_short : (files : Option (List File)) (most : ℕ) (text bytes : List ℕ) → IsFrontIn files most text bytes → length bytes ≤ length text
  front_short None most text bytes same = omega (arith, ap length same)
  front_short (Some files) most text bytes front = front.read.within

  kept_short : (files : Option (List File)) (texts : List (List ℕ)) (number : ℕ) (bytes : List ℕ) → IsOfLast files wanted texts number bytes
      → (fault : Fault) → AreWithin wanted texts → judges texts (RefusedWith fault) → IsShort fault bytes
  kept_short files texts number bytes (of_none nothing first empty) fault within judged =
      let few : length bytes ≡ 0 = ap length empty in
      short_text fault bytes (omega (arith, few))
  kept_short files texts number bytes (of_last before text next all its stands front) fault within judged =
      last before text fault bytes (subst (AreWithin wanted) all within)
      (subst (λ (ts : List (List ℕ)). judges ts (RefusedWith fault)) all judged)
      (front_short files next.most text bytes front)

  limited_short : (files : Option (List File)) (texts : List (List ℕ)) (judgement : Judgement) → Limited judges wanted texts judgement
      → (fault : Fault) → judgement ≡ RefusedWith fault → (number : ℕ) (bytes : List ℕ) → IsOfLast files wanted texts number bytes
      → IsShort fault bytes
  limited_short files texts judgement (as_judged all rest j short judged) fault refused number bytes keeps =
      kept_short files texts number bytes keeps fault (read_within wanted texts rest short) (subst (judges texts) refused judged)
  limited_short files texts judgement (too_long before next rest text short goes long) fault refused number bytes keeps =
      subst (λ (f : Fault). IsShort f bytes) (same_fault of.Long fault refused) tt

  end_short : (explains : Explaining Why) (takes : Type 0) (old new : Scene) (outcome : Outcome Why)
      → EndsBehind (Limited judges wanted) explains wanted takes old new outcome → IsShortEnd outcome
  end_short explains takes old new out.Done ends = tt
  end_short explains takes old new (out.Refused refusal) ends =
      let refuses = ends.answers.0 in
      limited_short old.files refuses.texts (RefusedWith refusal.fault) refuses.judged refusal.fault refl refusal.number refusal.text.now refuses.keeps
  end_short explains takes old new (out.ReadFault number) ends = tt
  end_short explains takes old new out.WriteFault ends = tt
  end_short explains takes old new out.Memory ends = tt

-- whatever is made of texts of files none of which may be longer than a text
pub small_end : (wanted : List Wants) → AreSmall (map (λ (file : Wants). file.most) wanted) → (judges : Judging) (explains : Explaining Why)
    (takes : Type 0) (old new : Scene) (outcome : Outcome Why) → EndsBehind (Limited judges wanted) explains wanted takes old new outcome
    → IsShortEnd outcome
small_end wanted small judges =
    end_short wanted judges (λ before text fault bytes within judged front.
    let few = last_small (map (λ (file : Wants). file.most) wanted) wanted refl small before text within in
    short_text fault bytes (omega (arith, few, front)))

module _ (request : Request) (has : HasItsFiles request) where
  last_short : (before : List (List ℕ)) (text : List ℕ) (fault : Fault) (bytes : List ℕ) → AreWithin request.files (before ++ text ∷ [])
      → Judges request.command (before ++ text ∷ []) (RefusedWith fault) → length bytes ≤ length text → IsShort fault bytes
  last_short before text fault bytes within judged front = elim (small_or_load request.command) [
    | inl load ↦ image_last request.files (has ∙ ap limits_of load) before text fault bytes within
        (subst (λ (c : Command). Judges c (before ++ text ∷ []) (RefusedWith fault)) load judged) front
    | inr small ↦
        let few = last_small (limits_of request.command) request.files has small before text within in
        short_text fault bytes (omega (arith, few, front))
  ]

  -- The text of which a command's end tells that it is refused is short.
  pub short_end : (explains : Explaining Why) (takes : Type 0) (old new : Scene) (outcome : Outcome Why)
      → EndsBehind (JudgesWithin request) explains request.files takes old new outcome → IsShortEnd outcome
  short_end = end_short request.files (Judges request.command) last_short
