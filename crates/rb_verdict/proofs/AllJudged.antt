-- Texts have a verdict: a source has one, and a schedule, a record, a session or a history is a list or has a fault; so each request for the files
-- of its command ends in some way.
use Rattle.std.proofs.Common.{◌≡◌, ◌⊎◌, ℕ, ◌<◌, ◌≤◌, List, [], ◌∷◌, ◌++◌, length, map, Result, Ok, Err, refl, sym, ap, inl, inr, arith}
use Rattle.std.proofs.lemmas.Bool.{cases_lt}
use Rattle.std.proofs.lemmas.List.{length-map}
use Rattle.rb_base.specs.declared.fault.SourceFault.{SourceFault}
use Rattle.rb_base.specs.declared.fault.TextFault.{TextFault}
use Rattle.rb_base.specs.declared.kept.Kept.{Kept}
use Rattle.rb_base.specs.declared.limits.TheConstants.{MOST_BYTES}
use Rattle.rb_syntax.specs.Tree.{Tree}
use Rattle.rb_meaning.specs.Groups.{groups_of}
use Rattle.rb_meaning.specs.Meaning.{run_text}
use Rattle.rb_meaning.specs.PlainRun.{plain_text}
use Rattle.rb_judge.specs.Verdict.{IsAccepted, IsRefusedFor}
use Rattle.rb_judge.proofs.BlocksInOrder.{parsed_are_numbered}
use Rattle.rb_judge.proofs.OwnNumbers.{parsed_have_own_numbers}
use Rattle.rb_judge.proofs.Verdicts.{have_verdicts}
use Rattle.rb_scope.specs.Finding.{nothing_found, visited}
use Rattle.rb_scope.specs.Resolved.{IsResolved}
use Rattle.rb_scope.specs.Sites.{tree_sites}
use Rattle.rb_scope.proofs.Answer.{slots_found}
use Rattle.rb_scope.proofs.ResolvedInFrames.{resolved_in_frames}
use Rattle.rb_code.specs.Instructions.Listing.{listing_text}
use Rattle.rb_code.specs.Instructions.Plain.{Code}
use Rattle.rb_code.specs.WordMachine.WordRun.{word_text}
use Rattle.rb_gen.proofs.ExistsProcesses.{code_exists}
use Rattle.rb_image.specs.Image.{image_of}
use Rattle.rb_sched.specs.Schedule.{schedule_of}
use Rattle.rb_record.specs.Record.{record_of}
use Rattle.rb_make.specs.Trial.{schedule_of as made_schedule, source_of}
use Rattle.rb_domino.specs.History.{Story, history_of}
use Rattle.rb_domino.specs.Recovery.{outcome_of}
use Rattle.rb_domino.specs.Written.{outcome_text}
use Rattle.rb_stuck.specs.Programs.{tree_standing_text}
use Rattle.rb_picture.specs.Meant.{tree_trace_text}
use Rattle.rb_page.specs.Page.{page_text}
use Rattle.rb_script.specs.declared.order.Order.{Order}
use Rattle.rb_script.specs.Script.{script_of}
use Rattle.rb_script.specs.Shown.{tree_session_text}
use Rattle.rb_hall.specs.declared.fault.Fault.{Fault}
use Rattle.rb_hall.specs.declared.fault.Fault.TheVariants as of
use Rattle.rb_hall.specs.Judgement.{Judgement, Judging, ReadsOn, RefusedWith, Writes, Wants, as_judged, too_long, none_yet, EndsBy, refused_here, written_here, later}
use Rattle.rb_hall.proofs.Limits.{EndsLimited, limited_ends, short_ends}
use Rattle.rb_verdict.specs.Words.{Command, Run, Survive, Replay, Check, ListCode, Trial, Session, Analyse, Survey, Compile, Load, Trace, Page, Explain, Usage, files_of, limits_of}
use Rattle.rb_verdict.specs.Programs.{IsCodeFor, Program, counts_from, names_in}
use Rattle.rb_verdict.specs.Summary.{summary_text}
use Rattle.rb_verdict.specs.Texts.{SourceRefused, bad_source, names_of, ScheduleRefused, bad_schedule, ScheduleRuns, survivors_text, RecordRefused, bad_record, stuck_record, RecordPlays, ListsTurns}
use Rattle.rb_verdict.specs.Texts.{bad_session, ImageRefused, no_image, unsound_image, ImageHolds, bad_history}
use Rattle.rb_verdict.specs.Judging.{at_first, first_refused, first_accepted, JudgesSource, reads_schedule, schedule_refused, runs, OverSchedule, PlainGoesOn, reads_record, record_refused, plays}
use Rattle.rb_verdict.specs.Judging.{SessionGoesOn, reads_turns, turns_refused, reads_session, session_refused, shows, accepted_line, CheckGoesOn, accepts, CodeGoesOn, lists, CompileGoesOn, compiles}
use Rattle.rb_verdict.specs.Judging.{JudgesHistory, reads_history, history_refused, history_told, in_page, JudgesPage, reads_page, behind_page, Judges}
use Rattle.rb_verdict.specs.Laws.{AreJudged, IsTold}
use Rattle.rb_verdict.proofs.BothTexts.{BothEnd, refused_at_first, second_refused, second_writes}
use Rattle.rb_verdict.proofs.InRanges.{code_in_ranges}

-- ---- a source

-- it is refused for a fault, or accepted with a tree
abbrev Sourced : List ℕ → Type 0
Sourced source = ((fault : Fault) × SourceRefused source fault) ⊎ ((tree : Tree) × IsAccepted source tree)

by_verdict : (source : List ℕ) → ((tree : Tree) × IsAccepted source tree) ⊎ ((fault : SourceFault) × IsRefusedFor source fault) → Sourced source
by_verdict source (inl (tree, accepted)) = inr (tree, accepted)
by_verdict source (inr (fault, bad)) = inl (of.Source fault, bad_source fault bad)

sourced : (source : List ℕ) → Sourced source
sourced source = by_verdict source (have_verdicts source)

-- a command that looks at a source first ends with it and a second text
abbrev Judged : (Tree → List (List ℕ) → Judgement → Type 0) → List ℕ → List ℕ → Type 0
Judged goes_on source second = (judgement : Judgement) × BothEnd goes_on source second judgement

-- ---- a schedule

module _ (names : List (List ℕ)) (text_of : List ℕ → List ℕ) (schedule : List ℕ) where
  -- it is refused for a fault, or has a text
  abbrev pub Turned : Type 0
  Turned = ((fault : Fault) × ScheduleRefused names schedule fault) ⊎ ((text : List ℕ) × ScheduleRuns names text_of schedule text)

  by_turns : (read : Result (List ℕ) TextFault) → schedule_of names schedule ≡ read → Turned
  by_turns (Ok turns) e = inr (text_of turns, record { turns = turns; listed = e; is = refl })
  by_turns (Err fault) e = inl (of.Text fault, bad_schedule fault e)

  pub turned : Turned
  turned = by_turns (schedule_of names schedule) refl

module _ (text_of : Tree → List ℕ → List ℕ) (source schedule : List ℕ) where
  abbrev Scheduled : Type 0
  Scheduled = Judged (OverSchedule text_of) source schedule

  scheduled : (tree : Tree) → IsAccepted source tree → Turned (names_of tree) (text_of tree) schedule → Scheduled
  scheduled tree accepted (inl (fault, refused)) = (
    RefusedWith fault,
    second_refused (OverSchedule text_of) source schedule tree accepted reads_schedule fault (schedule_refused schedule fault refused),
  )
  scheduled tree accepted (inr (text, ran)) =
      (Writes text, second_writes (OverSchedule text_of) source schedule tree accepted reads_schedule text (runs schedule text ran))

  over_schedule : Sourced source → Scheduled
  over_schedule (inl (fault, refused)) = (RefusedWith fault, refused_at_first (OverSchedule text_of) source schedule fault refused)
  over_schedule (inr (tree, accepted)) = scheduled tree accepted (turned (names_of tree) (text_of tree) schedule)

-- ---- a record

module _ (source kept : List ℕ) where
  abbrev Recorded : Type 0
  Recorded = Judged PlainGoesOn source kept

  module _ (tree : Tree) (accepted : IsAccepted source tree) where
    refuses_record : (fault : Fault) → RecordRefused tree kept fault → Recorded
    refuses_record fault refused =
        (RefusedWith fault, second_refused PlainGoesOn source kept tree accepted reads_record fault (record_refused kept fault refused))

    -- its plain run has a text, or is stuck
    played : (turns : List Kept) → record_of (names_of tree) kept ≡ Ok turns → (text : Result (List ℕ) ℕ) → plain_text tree turns ≡ text → Recorded
    played turns e (Ok text) is =
        let ran : RecordPlays tree kept text = record { turns = turns; listed = e; is = is } in
        (Writes text, second_writes PlainGoesOn source kept tree accepted reads_record text (plays kept text ran))
    played turns e (Err turn) is = refuses_record (of.Stuck turn) (stuck_record turns turn e is)

    -- it is a list of kept turns, or has a first fault
    recorded : (read : Result (List Kept) TextFault) → record_of (names_of tree) kept ≡ read → Recorded
    recorded (Ok turns) e = played turns e (plain_text tree turns) refl
    recorded (Err fault) e = refuses_record (of.Text fault) (bad_record fault e)

  over_record : Sourced source → Recorded
  over_record (inl (fault, refused)) = (RefusedWith fault, refused_at_first PlainGoesOn source kept fault refused)
  over_record (inr (tree, accepted)) = recorded tree accepted (record_of (names_of tree) kept) refl

-- ---- a schedule and a session

module _ (source schedule session : List ℕ) where
  abbrev Followed : Type 0
  Followed = (v : Judgement) × EndsBy (JudgesSource SessionGoesOn) [] (source ∷ schedule ∷ session ∷ []) v

  module _ (tree : Tree) (accepted : IsAccepted source tree) where
    -- the schedule is read
    with_schedule : (v : Judgement) → EndsBy (JudgesSource SessionGoesOn) (source ∷ schedule ∷ []) (session ∷ []) v → Followed
    with_schedule v ends = (
      v,
      later [] source (schedule ∷ session ∷ []) v at_first
          (later (source ∷ []) schedule (session ∷ []) v (first_accepted source tree [] ReadsOn accepted reads_turns) ends),
    )

    refuses_turns : (fault : Fault) → ScheduleRefused (names_of tree) schedule fault → Followed
    refuses_turns fault refused =
        with_schedule (RefusedWith fault)
        (refused_here (source ∷ schedule ∷ []) (session ∷ []) fault
        (first_accepted source tree (schedule ∷ []) (RefusedWith fault) accepted (turns_refused schedule fault refused)))

    module _ (turns : List ℕ) (lists : ListsTurns tree schedule turns) where
      -- and the session
      with_session : (v : Judgement) → EndsBy (JudgesSource SessionGoesOn) (source ∷ schedule ∷ session ∷ []) [] v → Followed
      with_session v ends =
          with_schedule v
          (later (source ∷ schedule ∷ []) session [] v
          (first_accepted source tree (schedule ∷ []) ReadsOn accepted (reads_session schedule turns lists)) ends)

      -- it gives orders, or has a first fault
      orders_read : (read : Result (List Order) TextFault) → script_of (names_of tree) (length turns) session ≡ read → Followed
      orders_read (Ok orders) e =
          let text = tree_session_text tree turns orders in
          with_session (Writes text)
          (written_here (source ∷ schedule ∷ session ∷ []) [] text
          (first_accepted source tree (schedule ∷ session ∷ []) (Writes text) accepted
          (shows schedule turns session text lists (record { orders = orders; listed = e; is = refl }))))
      orders_read (Err fault) e =
          with_session (RefusedWith (of.Text fault))
          (refused_here (source ∷ schedule ∷ session ∷ []) [] (of.Text fault)
          (first_accepted source tree (schedule ∷ session ∷ []) (RefusedWith (of.Text fault)) accepted
          (session_refused schedule turns session (of.Text fault) lists (bad_session fault e))))

    -- the schedule is a list of turns, or has a first fault
    turns_read : (read : Result (List ℕ) TextFault) → schedule_of (names_of tree) schedule ≡ read → Followed
    turns_read (Ok turns) e = orders_read turns e (script_of (names_of tree) (length turns) session) refl
    turns_read (Err fault) e = refuses_turns (of.Text fault) (bad_schedule fault e)

  followed_over : Sourced source → Followed
  followed_over (inl (fault, refused)) = (
    RefusedWith fault,
    later [] source (schedule ∷ session ∷ []) (RefusedWith fault) at_first
        (refused_here (source ∷ []) (schedule ∷ session ∷ []) fault (first_refused source fault refused)),
  )
  followed_over (inr (tree, accepted)) = turns_read tree accepted (schedule_of (names_of tree) schedule) refl

-- `session` reads three texts
session_judged : (texts : List (List ℕ)) → length texts ≡ 3 → (v : Judgement) × EndsBy (JudgesSource SessionGoesOn) [] texts v
session_judged [] three = absurd (omega (arith, three))
session_judged (source ∷ []) three = absurd (omega (arith, three))
session_judged (source ∷ schedule ∷ []) three = absurd (omega (arith, three))
session_judged (source ∷ schedule ∷ session ∷ []) three = followed_over source schedule session (sourced source)
session_judged (source ∷ schedule ∷ session ∷ other ∷ more) three = absurd (omega (arith, three))

-- ---- commands that read two texts

module _ (goes_on : Tree → List (List ℕ) → Judgement → Type 0)
    (judged : (source second : List ℕ) → Sourced source → Judged goes_on source second) where
  two_judged : (texts : List (List ℕ)) → length texts ≡ 2 → (v : Judgement) × EndsBy (JudgesSource goes_on) [] texts v
  two_judged [] two = absurd (omega (arith, two))
  two_judged (source ∷ []) two = absurd (omega (arith, two))
  two_judged (source ∷ second ∷ []) two = judged source second (sourced source)
  two_judged (source ∷ second ∷ other ∷ more) two = absurd (omega (arith, two))

-- ---- `trial`

-- whoever ends does not read on
no_end_reads_on : (judges : List (List ℕ) → Judgement → Type 0) (read left : List (List ℕ)) (v : Judgement)
    → EndsBy judges read left v → v ≡ ReadsOn → ⊥
no_end_reads_on judges read left v (refused_here a b fault h) e = cc
no_end_reads_on judges read left v (written_here a b text h) e = cc
no_end_reads_on judges read left v (later a next rest j h ends) e = no_end_reads_on judges (read ++ next ∷ []) rest v ends e

module _ (n : ℕ) where
  -- what is made of the two texts that are made for trial n
  abbrev judges_made : List (List ℕ) → Judgement → Type 0
  judges_made = JudgesSource (OverSchedule (summary_text n))

  -- how these end is how it ends
  trial_ended : (v : Judgement) → EndsBy judges_made [] (source_of n ∷ made_schedule n ∷ []) v → EndsBy (Judges (Trial n)) [] [] v
  trial_ended ReadsOn ends = absurd (no_end_reads_on judges_made [] (source_of n ∷ made_schedule n ∷ []) ReadsOn ends refl)
  trial_ended (RefusedWith fault) ends = refused_here [] [] fault (refl, ends)
  trial_ended (Writes text) ends = written_here [] [] text (refl, ends)

-- it reads none, and the two texts that are made for it are judged
trial_judged : (n : ℕ) (texts : List (List ℕ)) → length texts ≡ 0 → (v : Judgement) × EndsBy (Judges (Trial n)) [] texts v
trial_judged n [] none = let made =
    over_schedule (summary_text n) (source_of n) (made_schedule n) (sourced (source_of n)) in (made.0, trial_ended n made.0 made.1)
trial_judged n (text ∷ more) none = absurd (omega (arith, none))

-- ---- over a source alone

-- a command that looks at a source first, and has a text of each that is accepted
module _ (goes_on : Tree → List (List ℕ) → Judgement → Type 0) (source : List ℕ)
    (written : (tree : Tree) → IsAccepted source tree → (text : List ℕ) × goes_on tree [] (Writes text)) where
  from_one : Sourced source → (v : Judgement) × EndsBy (JudgesSource goes_on) [] (source ∷ []) v
  from_one (inl (fault, refused)) =
      (RefusedWith fault, later [] source [] (RefusedWith fault) at_first (refused_here (source ∷ []) [] fault (first_refused source fault refused)))
  from_one (inr (tree, accepted)) =
      let made = written tree accepted in (
        Writes made.0,
        later [] source [] (Writes made.0) at_first
            (written_here (source ∷ []) [] made.0 (first_accepted source tree [] (Writes made.0) accepted made.1)),
      )

module _ (goes_on : Tree → List (List ℕ) → Judgement → Type 0)
    (written : (source : List ℕ) (tree : Tree) → IsAccepted source tree → (text : List ℕ) × goes_on tree [] (Writes text)) where
  one_judged : (texts : List (List ℕ)) → length texts ≡ 1 → (v : Judgement) × EndsBy (JudgesSource goes_on) [] texts v
  one_judged [] one = absurd (omega (arith, one))
  one_judged (source ∷ []) one = from_one goes_on source (written source) (sourced source)
  one_judged (source ∷ other ∷ more) one = absurd (omega (arith, one))

-- `check` has one
check_written : (source : List ℕ) (tree : Tree) → IsAccepted source tree → (text : List ℕ) × CheckGoesOn tree [] (Writes text)
check_written source tree accepted = (accepted_line, accepts)

-- there is code for each accepted source
has_code : (source : List ℕ) (tree : Tree) → IsAccepted source tree → (c : Code) × IsCodeFor tree c
has_code source tree accepted =
    let slots = (visited (nothing_found tree.names) (tree_sites tree)).slots in
    let resolved : IsResolved tree slots = record {
      no_fault = accepted.scoped;
      slots_of = slots_found tree (parsed_have_own_numbers source tree accepted.derived);
    } in
    let frames = resolved_in_frames tree slots resolved in
    let made = code_exists tree slots frames (parsed_are_numbered source tree accepted.derived) in
    (made.0, record { slots = slots; resolved = resolved; frames = frames; stands = made.1 })

-- so `code` has one
code_written : (source : List ℕ) (tree : Tree) → IsAccepted source tree → (text : List ℕ) × CodeGoesOn tree [] (Writes text)
code_written source tree accepted =
    let made = has_code source tree accepted in
    (listing_text made.0, lists (listing_text made.0) (record { listed = made.0; made = made.1; is = refl }))

-- and so has `compile`, of a source that is not too long
image_written : (source : List ℕ) → length source ≤ MOST_BYTES → (tree : Tree) → IsAccepted source tree
    → (text : List ℕ) × CompileGoesOn tree [] (Writes text)
image_written source short tree accepted =
    let made = has_code source tree accepted in
    let text = image_of made.0 (groups_of tree) (counts_from tree 0 (groups_of tree)) in (
      text,
      compiles text (record {
        compiled = made.0;
        made = made.1;
        is_image = record { spelled = refl; ranges = code_in_ranges source tree made.0 short accepted made.1 };
      }),
    )

module _ (file : Wants) (most : file.most ≡ MOST_BYTES) (source : List ℕ) where
  compile_measured : (file.most < length source) ⊎ (length source ≤ file.most) → (v : Judgement) × EndsLimited (Judges Compile) (file ∷ []) [] (source ∷ []) v
  compile_measured (inl long) = (
    RefusedWith of.Long,
    later [] source [] (RefusedWith of.Long) (as_judged [] (file ∷ []) ReadsOn none_yet at_first)
        (refused_here (source ∷ []) [] of.Long (too_long [] file [] source none_yet at_first long)),
  )
  compile_measured (inr short) =
      let made = from_one CompileGoesOn source (image_written source (omega (arith, short, most))) (sourced source) in
      (made.0, short_ends (Judges Compile) (file ∷ []) (source ∷ []) made.0 (short, tt) made.1)

first_most : (file : Wants) (most n : ℕ) (files : List Wants) → file.most ∷ map (λ one. one.most) files ≡ n ∷ [] → file.most ≡ n
first_most file most n files e = cc

compile_judged : (files : List Wants) → map (λ file. file.most) files ≡ MOST_BYTES ∷ [] → (texts : List (List ℕ)) → length texts ≡ 1
    → (v : Judgement) × EndsLimited (Judges Compile) files [] texts v
compile_judged [] limits texts one = absurd (cc)
compile_judged (file ∷ other ∷ more) limits texts one = absurd (cc)
compile_judged (file ∷ []) limits [] one = absurd (omega (arith, one))
compile_judged (file ∷ []) limits (source ∷ []) one =
    compile_measured file (first_most file file.most MOST_BYTES [] limits) source (cases_lt file.most (length source))
compile_judged (file ∷ []) limits (source ∷ other ∷ more) one = absurd (omega (arith, one))

-- ---- a page with a trace

-- in a page a text stays one
text_in_page : (page : List ℕ) (texts : List (List ℕ)) (trace : List ℕ) → (text : List ℕ) × (in_page page texts (Writes trace) ≡ Writes text)
text_in_page page [] trace = (trace, refl)
text_in_page page (source ∷ []) trace = (trace, refl)
text_in_page page (source ∷ schedule ∷ more) trace = (page_text page source schedule trace, refl)

-- whatever ends behind a page ends in it
page_ended : (page : List ℕ) (read left : List (List ℕ)) (v : Judgement) → EndsBy (JudgesSource (OverSchedule tree_trace_text)) read left v
    → (w : Judgement) × EndsBy JudgesPage (page ∷ read) left w
page_ended page read left v (refused_here a b fault h) =
    (RefusedWith fault, refused_here (page ∷ read) left fault (behind_page page read (RefusedWith fault) (RefusedWith fault) h refl))
page_ended page read left v (written_here a b trace h) =
    let made = text_in_page page read trace in
    (Writes made.0, written_here (page ∷ read) left made.0 (behind_page page read (Writes trace) (Writes made.0) h (sym made.1)))
page_ended page read left v (later a next rest j goes ends) =
    let made = page_ended page (read ++ next ∷ []) rest v ends in
    (made.0, later (page ∷ read) next rest made.0 (behind_page page read ReadsOn ReadsOn goes refl) made.1)

paged : (page source schedule : List ℕ) → (v : Judgement) × EndsBy JudgesPage [] (page ∷ source ∷ schedule ∷ []) v
paged page source schedule =
    let traced = over_schedule tree_trace_text source schedule (sourced source) in
    let made = page_ended page [] (source ∷ schedule ∷ []) traced.0 traced.1 in
    (made.0, later [] page (source ∷ schedule ∷ []) made.0 reads_page made.1)

-- `page` reads three texts
page_judged : (texts : List (List ℕ)) → length texts ≡ 3 → (v : Judgement) × EndsBy JudgesPage [] texts v
page_judged [] three = absurd (omega (arith, three))
page_judged (page ∷ []) three = absurd (omega (arith, three))
page_judged (page ∷ source ∷ []) three = absurd (omega (arith, three))
page_judged (page ∷ source ∷ schedule ∷ []) three = paged page source schedule
page_judged (page ∷ source ∷ schedule ∷ other ∷ more) three = absurd (omega (arith, three))

-- ---- a history

module _ (text : List ℕ) where
  is_history : (told : Result Story TextFault) → history_of text ≡ told → (v : Judgement) × EndsBy JudgesHistory [] (text ∷ []) v
  is_history (Ok story) e =
      let written = outcome_text story (outcome_of story) in (
        Writes written,
        later [] text [] (Writes written) reads_history
            (written_here (text ∷ []) [] written (history_told text written (record { story = story; listed = e; is = refl }))),
      )
  is_history (Err fault) e = (
    RefusedWith (of.Text fault),
    later [] text [] (RefusedWith (of.Text fault)) reads_history
        (refused_here (text ∷ []) [] (of.Text fault) (history_refused text (of.Text fault) (bad_history fault e))),
  )

-- `domino` reads one
history_judged : (texts : List (List ℕ)) → length texts ≡ 1 → (v : Judgement) × EndsBy JudgesHistory [] texts v
history_judged [] one = absurd (omega (arith, one))
history_judged (text ∷ []) one = is_history text (history_of text) refl
history_judged (text ∷ other ∷ more) one = absurd (omega (arith, one))

-- ---- an image and a schedule

module _ (image schedule : List ℕ) where
  abbrev pub LoadEnds : Judgement → Type 0
  LoadEnds judgement = EndsBy (Judges Load) [] (image ∷ schedule ∷ []) judgement

  abbrev Loaded : Type 0
  Loaded = (v : Judgement) × LoadEnds v

  refuses_image : (fault : Fault) → ImageRefused image fault → Loaded
  refuses_image fault refused = (
    RefusedWith fault,
    later [] image (schedule ∷ []) (RefusedWith fault) at_first
        (refused_here (image ∷ []) (schedule ∷ []) fault (first_refused image fault refused)),
  )

  module _ (program : Program) (holds : ImageHolds image program) where
    -- a program that may be run reads the schedule, which is refused
    pub load_refuses : (fault : Fault) → ScheduleRefused (names_in program) schedule fault → LoadEnds (RefusedWith fault)
    load_refuses fault refused =
        later [] image (schedule ∷ []) (RefusedWith fault) at_first
        (later (image ∷ []) schedule [] (RefusedWith fault) (first_accepted image program [] ReadsOn holds reads_schedule)
        (refused_here (image ∷ schedule ∷ []) [] fault
        (first_accepted image program (schedule ∷ []) (RefusedWith fault) holds (schedule_refused schedule fault refused))))

    -- or of which it has a text
    pub load_writes : (text : List ℕ) → ScheduleRuns (names_in program) (word_text program.code program.groups) schedule text → LoadEnds (Writes text)
    load_writes text ran =
        later [] image (schedule ∷ []) (Writes text) at_first
        (later (image ∷ []) schedule [] (Writes text) (first_accepted image program [] ReadsOn holds reads_schedule)
        (written_here (image ∷ schedule ∷ []) [] text
        (first_accepted image program (schedule ∷ []) (Writes text) holds (runs schedule text ran))))

    over_program : Turned (names_in program) (word_text program.code program.groups) schedule → Loaded
    over_program (inl (fault, refused)) = (RefusedWith fault, load_refuses fault refused)
    over_program (inr (text, ran)) = (Writes text, load_writes text ran)

  -- and no image is without a verdict
  loaded : (Loaded → ⊥) → ⊥
  loaded none =
      none (refuses_image of.NoImage (no_image (λ c groups counts is.
      let program : Program = record { code = c; groups = groups; counts = counts } in
      none (refuses_image of.Unsound (unsound_image program is (λ may.
      none (over_program program (record { image = is; may_run = may })
      (turned (names_in program) (word_text program.code program.groups) schedule))))))))

load_judged : (texts : List (List ℕ)) → length texts ≡ 2 → ((v : Judgement) × EndsBy (Judges Load) [] texts v → ⊥) → ⊥
load_judged [] two = absurd (omega (arith, two))
load_judged (image ∷ []) two = absurd (omega (arith, two))
load_judged (image ∷ schedule ∷ []) two = loaded image schedule
load_judged (image ∷ schedule ∷ other ∷ more) two = absurd (omega (arith, two))

-- ---- one that reads nothing

telling_judged : (judges : Judging) (text : List ℕ) → judges [] (Writes text) → (texts : List (List ℕ)) → length texts ≡ 0
    → (v : Judgement) × EndsBy judges [] texts v
telling_judged judges text writes [] none = (Writes text, written_here [] [] text writes)
telling_judged judges text writes (one ∷ more) none = absurd (omega (arith, none))

-- ---- all commands, with their limits

as_many_limits : (command : Command) → length (limits_of command) ≡ files_of command
as_many_limits Run = refl
as_many_limits Survive = refl
as_many_limits Replay = refl
as_many_limits Check = refl
as_many_limits ListCode = refl
as_many_limits (Trial n) = refl
as_many_limits Session = refl
as_many_limits Analyse = refl
as_many_limits Survey = refl
as_many_limits Compile = refl
as_many_limits Load = refl
as_many_limits Trace = refl
as_many_limits Page = refl
as_many_limits (Explain text) = refl
as_many_limits (Usage line) = refl

module _ (command : Command) (files : List Wants) (limits : map (λ file. file.most) files ≡ limits_of command) (texts : List (List ℕ))
    (many : length texts ≡ files_of command) where
  all_read : length texts ≤ length files
  all_read =
      let size : length (map (λ file. file.most) files) ≡ length files = length-map files (λ file. file.most) in
      omega (arith, size, ap length limits, as_many_limits command, many)

  -- what ends without limits ends with them
  limited : (v : Judgement) × EndsBy (Judges command) [] texts v → (v : Judgement) × EndsLimited (Judges command) files [] texts v
  limited ends = limited_ends (Judges command) files texts all_read ends

judged : (command : Command) (files : List Wants) (texts : List (List ℕ)) → map (λ file. file.most) files ≡ limits_of command
    → length texts ≡ files_of command → IsTold command ((v : Judgement) × EndsLimited (Judges command) files [] texts v)
judged Run files texts limits two = limited Run files limits texts two (two_judged (OverSchedule run_text) (over_schedule run_text) texts two)
judged Survive files texts limits two =
    limited Survive files limits texts two (two_judged (OverSchedule survivors_text) (over_schedule survivors_text) texts two)
judged Replay files texts limits two = limited Replay files limits texts two (two_judged PlainGoesOn over_record texts two)
judged Check files texts limits one = limited Check files limits texts one (one_judged CheckGoesOn check_written texts one)
judged ListCode files texts limits one = limited ListCode files limits texts one (one_judged CodeGoesOn code_written texts one)
judged (Trial n) files texts limits none = limited (Trial n) files limits texts none (trial_judged n texts none)
judged Session files texts limits three = limited Session files limits texts three (session_judged texts three)
judged Analyse files texts limits one = limited Analyse files limits texts one (history_judged texts one)
judged Survey files texts limits two =
    limited Survey files limits texts two (two_judged (OverSchedule tree_standing_text) (over_schedule tree_standing_text) texts two)
judged Compile files texts limits one = compile_judged files limits texts one
judged Load files texts limits two = λ none. load_judged texts two (λ ends. none (limited Load files limits texts two ends))
judged Trace files texts limits two =
    limited Trace files limits texts two (two_judged (OverSchedule tree_trace_text) (over_schedule tree_trace_text) texts two)
judged Page files texts limits three = limited Page files limits texts three (page_judged texts three)
judged (Explain text) files texts limits none =
    limited (Explain text) files limits texts none (telling_judged (Judges (Explain text)) text (refl, refl) texts none)
judged (Usage line) files texts limits none =
    limited (Usage line) files limits texts none (telling_judged (Judges (Usage line)) line (refl, refl) texts none)

pub are_judged : AreJudged
are_judged request texts limits many = judged request.command request.files texts limits many
