-- Texts are judged in one way: a source has one verdict, a schedule, a record, a session or a history is one list or has one fault, and what a
-- command makes of them is one text.
use Rattle.std.proofs.Common.{◌≡◌, ℕ, List, [], ◌∷◌, Ok, Err, refl, sym, ap, subst, ◌∙◌}
use Rattle.rb_base.specs.declared.kept.Kept.{Kept}
use Rattle.rb_syntax.specs.Tree.{Tree}
use Rattle.rb_meaning.specs.Groups.{groups_of}
use Rattle.rb_meaning.specs.Meaning.{run_text}
use Rattle.rb_meaning.specs.PlainRun.{plain_text}
use Rattle.rb_judge.specs.Verdict.{IsAccepted}
use Rattle.rb_judge.proofs.BlocksInOrder.{parsed_are_numbered}
use Rattle.rb_judge.proofs.Verdicts.{have_one_verdict}
use Rattle.rb_code.specs.Instructions.Listing.{listing_text}
use Rattle.rb_code.specs.Instructions.Plain.{Code}
use Rattle.rb_code.specs.WordMachine.WordRun.{word_text}
use Rattle.rb_code.proofs.Alike.OneCode.{one_code_stands}
use Rattle.rb_image.specs.Image.{image_of}
use Rattle.rb_image.specs.Laws.{IsImage}
use Rattle.rb_image.proofs.Found.{images_are_of_one}
use Rattle.rb_sched.specs.Schedule.{schedule_of}
use Rattle.rb_record.specs.Record.{record_of}
use Rattle.rb_make.specs.Trial.{schedule_of as made_schedule, source_of}
use Rattle.rb_domino.specs.History.{Story}
use Rattle.rb_domino.specs.Recovery.{outcome_of}
use Rattle.rb_domino.specs.Written.{outcome_text}
use Rattle.rb_stuck.specs.Programs.{tree_standing_text}
use Rattle.rb_picture.specs.Meant.{tree_trace_text}
use Rattle.rb_script.specs.declared.order.Order.{Order}
use Rattle.rb_script.specs.Shown.{tree_session_text}
use Rattle.rb_hall.specs.declared.fault.Fault.{Fault}
use Rattle.rb_hall.specs.declared.fault.Fault.TheVariants as of
use Rattle.rb_hall.specs.Judgement.{Judgement, RefusedWith, Writes}
use Rattle.rb_hall.proofs.Limits.{ends_once, limited_ends_once}
use Rattle.rb_verdict.specs.Words.{Command, Run, Survive, Replay, Check, ListCode, Trial, Session, Analyse, Survey, Compile, Load, Trace, Page, Explain, Usage}
use Rattle.rb_verdict.specs.Programs.{IsCodeFor, MayRun, Program, counts_from, names_in}
use Rattle.rb_verdict.specs.Summary.{summary_text}
use Rattle.rb_verdict.specs.Texts.{SourceRefused, bad_source, names_of, ScheduleRefused, bad_schedule, ScheduleRuns, survivors_text, RecordRefused, bad_record, stuck_record, RecordPlays, ListsTurns}
use Rattle.rb_verdict.specs.Texts.{SessionRefused, bad_session, SessionShows, ImageRefused, no_image, unsound_image, ImageHolds, HistoryRefused, bad_history, HistoryTells}
use Rattle.rb_verdict.specs.Judging.{JudgesFirst, at_first, first_refused, first_accepted, JudgesSource, OverTurns, reads_schedule, schedule_refused, runs, OverSchedule, PlainGoesOn, reads_record, record_refused, plays}
use Rattle.rb_verdict.specs.Judging.{SessionGoesOn, reads_turns, turns_refused, reads_session, session_refused, shows, CheckGoesOn, accepts, CodeGoesOn, lists, CompileGoesOn, compiles, LoadGoesOn}
use Rattle.rb_verdict.specs.Judging.{JudgesHistory, reads_history, history_refused, history_told, in_page, JudgesPage, reads_page, behind_page, Tells, Judges}
use Rattle.rb_verdict.specs.Laws.{AreJudgedOnce}

-- ---- a source

-- it has one fault
source_once : (source : List ℕ) (fault other : Fault) → SourceRefused source fault → SourceRefused source other → fault ≡ other
source_once source fault other (bad_source one bad) (bad_source second worse) = ap of.Source ((have_one_verdict source).1 one second bad worse)

-- one that is accepted has none
accepted_stands : (source : List ℕ) (fault : Fault) (tree : Tree) → IsAccepted source tree → SourceRefused source fault → ⊥
accepted_stands source fault tree accepted (bad_source one bad) = (have_one_verdict source).2 tree one accepted bad

-- and one tree
accepted_once : (source : List ℕ) (tree other : Tree) → IsAccepted source tree → IsAccepted source other → tree ≡ other
accepted_once source tree other a b = (have_one_verdict source).0 tree other a b

-- ---- a schedule

schedule_once : (names : List (List ℕ)) (text : List ℕ) (fault other : Fault) → ScheduleRefused names text fault
    → ScheduleRefused names text other → fault ≡ other
schedule_once names text fault other (bad_schedule one bad) (bad_schedule second worse) =
    let same : one ≡ second = cc (bad, worse) in ap of.Text same

-- a schedule that lists turns is not refused
listed_stands : (names : List (List ℕ)) (text : List ℕ) (fault : Fault) (turns : List ℕ) → schedule_of names text ≡ Ok turns
    → ScheduleRefused names text fault → ⊥
listed_stands names text fault turns listed (bad_schedule one bad) = cc (listed, bad)

-- a command goes on in one way from an accepted source
abbrev GoesOnOnce : (Tree → List (List ℕ) → Judgement → Type 0) → Type 0
GoesOnOnce goes_on =
    (source : List ℕ) (tree : Tree) (texts : List (List ℕ)) (v w : Judgement) → IsAccepted source tree → goes_on tree texts v
    → goes_on tree texts w → v ≡ w

module _ (names : List (List ℕ)) (text_of : List ℕ → List ℕ) where
  -- one text
  run_once : (schedule text other : List ℕ) → ScheduleRuns names text_of schedule text → ScheduleRuns names text_of schedule other → text ≡ other
  run_once schedule text other r s = let turned : r.turns ≡ s.turns = cc (r.listed, s.listed) in r.is ∙ ap text_of turned ∙ sym s.is

  -- a text is no refusal
  run_stands : (schedule text : List ℕ) (fault : Fault) → ScheduleRuns names text_of schedule text → ScheduleRefused names schedule fault → ⊥
  run_stands schedule text fault r refused = listed_stands names schedule fault r.turns r.listed refused

  over_once : (texts : List (List ℕ)) (v w : Judgement) → OverTurns names text_of texts v → OverTurns names text_of texts w → v ≡ w
  over_once texts v w reads_schedule reads_schedule = refl
  over_once texts v w (schedule_refused schedule fault r) (schedule_refused again other s) =
      ap RefusedWith (schedule_once names schedule fault other r s)
  over_once texts v w (schedule_refused schedule fault r) (runs again text s) = absurd (run_stands schedule text fault s r)
  over_once texts v w (runs schedule text r) (schedule_refused again fault s) = absurd (run_stands schedule text fault r s)
  over_once texts v w (runs schedule text r) (runs again other s) = ap Writes (run_once schedule text other r s)

-- so `run`, `survive`, `stuck` and `trial` go on in one way
runs_once : (text_of : Tree → List ℕ → List ℕ) → GoesOnOnce (OverSchedule text_of)
runs_once text_of source tree texts v w accepted r s = over_once (names_of tree) (text_of tree) texts v w r s

-- ---- a record

record_once : (tree : Tree) (text : List ℕ) (fault other : Fault) → RecordRefused tree text fault → RecordRefused tree text other → fault ≡ other
record_once tree text fault other (bad_record one bad) (bad_record second worse) =
    let same : one ≡ second = cc (bad, worse) in ap of.Text same
record_once tree text fault other (bad_record one bad) (stuck_record turns turn listed stuck) = absurd (cc (bad, listed))
record_once tree text fault other (stuck_record turns turn listed stuck) (bad_record one bad) = absurd (cc (bad, listed))
record_once tree text fault other (stuck_record turns turn listed stuck) (stuck_record others second told worse) =
    let same : turns ≡ others = cc (listed, told) in
    let at : turn ≡ second = cc (stuck, worse, same) in
    ap of.Stuck at

-- one text of its plain run
plays_once : (tree : Tree) (kept text other : List ℕ) → RecordPlays tree kept text → RecordPlays tree kept other → text ≡ other
plays_once tree kept text other r s =
    let same : r.turns ≡ s.turns = cc (r.listed, s.listed) in
    let played : Ok text ≡ plain_text tree s.turns = sym r.is ∙ ap (plain_text tree) same in
    cc (played, s.is)

-- a plain run that has a text is not stuck
not_stuck : (tree : Tree) (turns others : List Kept) (kept text : List ℕ) (turn : ℕ)
    → record_of (names_of tree) kept ≡ Ok turns → plain_text tree turns ≡ Ok text →
    record_of (names_of tree) kept ≡ Ok others → plain_text tree others ≡ Err turn → ⊥
not_stuck tree turns others kept text turn listed played told stuck =
    let same : turns ≡ others = cc (listed, told) in
    let both : Ok text ≡ Err turn = sym played ∙ ap (plain_text tree) same ∙ stuck in
    cc

-- a text is no refusal
plays_stand : (tree : Tree) (kept text : List ℕ) (fault : Fault) → RecordPlays tree kept text → RecordRefused tree kept fault → ⊥
plays_stand tree kept text fault r (bad_record one bad) = let listed = r.listed in cc (listed, bad)
plays_stand tree kept text fault r (stuck_record turns turn listed stuck) = not_stuck tree r.turns turns kept text turn r.listed r.is listed stuck

-- so `plain` goes on in one way
plain_once : GoesOnOnce PlainGoesOn
plain_once source tree texts v w accepted reads_record reads_record = refl
plain_once source tree texts v w accepted (record_refused kept fault r) (record_refused again other s) =
    ap RefusedWith (record_once tree kept fault other r s)
plain_once source tree texts v w accepted (record_refused kept fault r) (plays again text s) = absurd (plays_stand tree kept text fault s r)
plain_once source tree texts v w accepted (plays kept text r) (record_refused again fault s) = absurd (plays_stand tree kept text fault r s)
plain_once source tree texts v w accepted (plays kept text r) (plays again other s) = ap Writes (plays_once tree kept text other r s)

-- ---- a schedule and a session

-- one list of turns
turns_once : (tree : Tree) (schedule turns others : List ℕ) → ListsTurns tree schedule turns → ListsTurns tree schedule others → turns ≡ others
turns_once tree schedule turns others a b = cc (a, b)

module _ (tree : Tree) (turns session : List ℕ) where
  session_once : (fault other : Fault) → SessionRefused tree turns session fault → SessionRefused tree turns session other → fault ≡ other
  session_once fault other (bad_session one bad) (bad_session second worse) =
      let same : one ≡ second = cc (bad, worse) in ap of.Text same

  -- one text
  shows_once : (text other : List ℕ) → SessionShows tree turns session text → SessionShows tree turns session other → text ≡ other
  shows_once text other r s =
      let same : r.orders ≡ s.orders = cc (r.listed, s.listed) in
      r.is ∙ ap (λ (orders : List Order). tree_session_text tree turns orders) same ∙ sym s.is

  -- a text is no refusal
  shown_stands : (text : List ℕ) (fault : Fault) → SessionShows tree turns session text → SessionRefused tree turns session fault → ⊥
  shown_stands text fault r (bad_session one bad) = let listed = r.listed in cc (listed, bad)

-- so `session` goes on in one way
sessions_once : GoesOnOnce SessionGoesOn
sessions_once source tree texts v w accepted reads_turns reads_turns = refl
sessions_once source tree texts v w accepted (turns_refused schedule fault r) (turns_refused again other s) =
    ap RefusedWith (schedule_once (names_of tree) schedule fault other r s)
sessions_once source tree texts v w accepted (turns_refused schedule fault r) (reads_session again turns s) =
    absurd (listed_stands (names_of tree) schedule fault turns s r)
sessions_once source tree texts v w accepted (reads_session schedule turns r) (turns_refused again fault s) =
    absurd (listed_stands (names_of tree) schedule fault turns r s)
sessions_once source tree texts v w accepted (reads_session schedule turns r) (reads_session again others s) = refl
sessions_once source tree texts v w accepted (session_refused schedule turns session fault l r) (session_refused again others repeated other m s) =
    let same = turns_once tree schedule turns others l m in
    ap RefusedWith (session_once tree others session fault other (subst (λ ts. SessionRefused tree ts session fault) same r) s)
sessions_once source tree texts v w accepted (session_refused schedule turns session fault l r) (shows again others repeated text m s) =
    let same = turns_once tree schedule turns others l m in
    absurd (shown_stands tree others session text fault s (subst (λ ts. SessionRefused tree ts session fault) same r))
sessions_once source tree texts v w accepted (shows schedule turns session text l r) (session_refused again others repeated fault m s) =
    let same = turns_once tree schedule turns others l m in
    absurd (shown_stands tree others session text fault (subst (λ ts. SessionShows tree ts session text) same r) s)
sessions_once source tree texts v w accepted (shows schedule turns session text l r) (shows again others repeated other m s) =
    let same = turns_once tree schedule turns others l m in
    ap Writes (shows_once tree others session text other (subst (λ ts. SessionShows tree ts session text) same r) s)

-- ---- a source alone

-- `check` goes on in one way
checks_once : GoesOnOnce CheckGoesOn
checks_once source tree texts v w accepted accepts accepts = refl

-- and so does `code`: one code stands for a tree
code_once : (source : List ℕ) (tree : Tree) (c d : Code) → IsAccepted source tree → IsCodeFor tree c → IsCodeFor tree d → c ≡ d
code_once source tree c d accepted a b =
    one_code_stands tree a.slots b.slots c d (parsed_are_numbered source tree accepted.derived) a.frames b.frames
    a.resolved.slots_of b.resolved.slots_of a.stands b.stands

codes_once : GoesOnOnce CodeGoesOn
codes_once source tree texts v w accepted (lists text a) (lists other b) =
    ap Writes (a.is ∙ ap listing_text (code_once source tree a.listed b.listed accepted a.made b.made) ∙ sym b.is)

-- so it has one image
images_once : GoesOnOnce CompileGoesOn
images_once source tree texts v w accepted (compiles text a) (compiles other b) =
    ap Writes
    (a.is_image.spelled
    ∙ ap (λ c. image_of c (groups_of tree) (counts_from tree 0 (groups_of tree))) (code_once source tree a.compiled b.compiled accepted a.made b.made)
    ∙ sym b.is_image.spelled)

module _ (goes_on : Tree → List (List ℕ) → Judgement → Type 0) (once : GoesOnOnce goes_on) where
  -- a command that looks at a source first makes one thing of what it has read
  source_judged_once : (texts : List (List ℕ)) (v w : Judgement) → JudgesSource goes_on texts v → JudgesSource goes_on texts w → v ≡ w
  source_judged_once texts v w at_first at_first = refl
  source_judged_once texts v w (first_refused source fault r) (first_refused again other s) =
      ap RefusedWith (source_once source fault other r s)
  source_judged_once texts v w (first_refused source fault r) (first_accepted again tree more j a on) =
      absurd (accepted_stands source fault tree a r)
  source_judged_once texts v w (first_accepted source tree more j a on) (first_refused again fault r) =
      absurd (accepted_stands source fault tree a r)
  source_judged_once texts v w (first_accepted source tree more j a on) (first_accepted again other others k b off) =
      once again other more j k b (subst (λ t. goes_on t more j) (accepted_once source tree other a b) on) off

-- ---- a page

pages_once : (texts : List (List ℕ)) (v w : Judgement) → JudgesPage texts v → JudgesPage texts w → v ≡ w
pages_once texts v w reads_page reads_page = refl
pages_once texts v w (behind_page page more i j on e) (behind_page again others k l off f) =
    e ∙ ap (in_page page more) (source_judged_once (OverSchedule tree_trace_text) (runs_once tree_trace_text) more i k on off) ∙ sym f

-- ---- an image

image_once : (image : List ℕ) (fault other : Fault) → ImageRefused image fault → ImageRefused image other → fault ≡ other
image_once image fault other (no_image none) (no_image nothing) = refl
image_once image fault other (no_image none) (unsound_image p is bad) = absurd (none p.code p.groups p.counts is)
image_once image fault other (unsound_image p is bad) (no_image none) = absurd (none p.code p.groups p.counts is)
image_once image fault other (unsound_image p is bad) (unsound_image q other_is worse) = refl

-- it is one of one program
program_once : (image : List ℕ) (p q : Program) → IsImage image p.code p.groups p.counts → IsImage image q.code q.groups q.counts → p ≡ q
program_once image p q one other =
    let same = images_are_of_one image p.code q.code p.groups q.groups p.counts q.counts one other in
    λ i. record { code = same.0 i; groups = same.1 i; counts = same.2 i }

-- an image that is accepted is not refused
held_stands : (image : List ℕ) (fault : Fault) (p : Program) → ImageHolds image p → ImageRefused image fault → ⊥
held_stands image fault p holds (no_image none) = none p.code p.groups p.counts holds.image
held_stands image fault p holds (unsound_image q is bad) = bad (subst MayRun (program_once image p q holds.image is) holds.may_run)

-- so `load` makes one thing of what it has read
loads_once : (texts : List (List ℕ)) (v w : Judgement) → JudgesFirst ImageRefused ImageHolds LoadGoesOn texts v
    → JudgesFirst ImageRefused ImageHolds LoadGoesOn texts w → v ≡ w
loads_once texts v w at_first at_first = refl
loads_once texts v w (first_refused image fault r) (first_refused again other s) = ap RefusedWith (image_once image fault other r s)
loads_once texts v w (first_refused image fault r) (first_accepted again p more j a on) = absurd (held_stands image fault p a r)
loads_once texts v w (first_accepted image p more j a on) (first_refused again fault r) = absurd (held_stands image fault p a r)
loads_once texts v w (first_accepted image p more j a on) (first_accepted again q others k b off) =
    over_once (names_in q) (word_text q.code q.groups) more j k
    (subst (λ x. LoadGoesOn x more j) (program_once image p q a.image b.image) on) off

-- ---- a history

history_once : (text : List ℕ) (fault other : Fault) → HistoryRefused text fault → HistoryRefused text other → fault ≡ other
history_once text fault other (bad_history one bad) (bad_history second worse) =
    let same : one ≡ second = cc (bad, worse) in ap of.Text same

told_once : (text written other : List ℕ) → HistoryTells text written → HistoryTells text other → written ≡ other
told_once text written other a b =
    let same : a.story ≡ b.story = cc (a.listed, b.listed) in
    a.is ∙ ap (λ (story : Story). outcome_text story (outcome_of story)) same ∙ sym b.is

told_stands : (text written : List ℕ) (fault : Fault) → HistoryTells text written → HistoryRefused text fault → ⊥
told_stands text written fault told (bad_history one bad) = let listed = told.listed in cc (listed, bad)

-- so `domino` makes one thing of it
histories_once : (texts : List (List ℕ)) (v w : Judgement) → JudgesHistory texts v → JudgesHistory texts w → v ≡ w
histories_once texts v w reads_history reads_history = refl
histories_once texts v w (history_refused text fault r) (history_refused again other s) = ap RefusedWith (history_once text fault other r s)
histories_once texts v w (history_refused text fault r) (history_told again written s) = absurd (told_stands text written fault s r)
histories_once texts v w (history_told text written r) (history_refused again fault s) = absurd (told_stands text written fault r s)
histories_once texts v w (history_told text written r) (history_told again other s) = ap Writes (told_once text written other r s)

-- ---- all commands

-- who writes one text in any case makes one thing of nothing
tells_once : (text : List ℕ) (texts : List (List ℕ)) (v w : Judgement) → Tells text texts v → Tells text texts w → v ≡ w
tells_once text texts v w r s = r.1 ∙ sym s.1

-- each command makes one thing of what it has read
pub judges_once : (command : Command) (texts : List (List ℕ)) (v w : Judgement) → Judges command texts v → Judges command texts w → v ≡ w
judges_once Run texts v w r s = source_judged_once (OverSchedule run_text) (runs_once run_text) texts v w r s
judges_once Survive texts v w r s = source_judged_once (OverSchedule survivors_text) (runs_once survivors_text) texts v w r s
judges_once Replay texts v w r s = source_judged_once PlainGoesOn plain_once texts v w r s
judges_once Check texts v w r s = source_judged_once CheckGoesOn checks_once texts v w r s
judges_once ListCode texts v w r s = source_judged_once CodeGoesOn codes_once texts v w r s
judges_once (Trial n) texts v w r s =
    ends_once (JudgesSource (OverSchedule (summary_text n))) (source_judged_once (OverSchedule (summary_text n)) (runs_once (summary_text n))) []
    (source_of n ∷ made_schedule n ∷ []) v w r.1 s.1
judges_once Session texts v w r s = source_judged_once SessionGoesOn sessions_once texts v w r s
judges_once Analyse texts v w r s = histories_once texts v w r s
judges_once Survey texts v w r s = source_judged_once (OverSchedule tree_standing_text) (runs_once tree_standing_text) texts v w r s
judges_once Compile texts v w r s = source_judged_once CompileGoesOn images_once texts v w r s
judges_once Load texts v w r s = loads_once texts v w r s
judges_once Trace texts v w r s = source_judged_once (OverSchedule tree_trace_text) (runs_once tree_trace_text) texts v w r s
judges_once Page texts v w r s = pages_once texts v w r s
judges_once (Explain text) texts v w r s = tells_once text texts v w r s
judges_once (Usage line) texts v w r s = tells_once line texts v w r s

pub are_judged_once : AreJudgedOnce
are_judged_once request texts v w a b =
    limited_ends_once request.files (Judges request.command) (judges_once request.command) [] texts v w a b
