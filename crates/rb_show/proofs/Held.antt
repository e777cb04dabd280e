-- What `trace` and `page` hold of the texts that they have read, and how they end.
use Rattle.std.proofs.Common.{◌≡◌, ℕ, ◌≤◌, List, [], ◌∷◌, ◌++◌, length, Option, Some, None, Bor, Result, Err, refl, sym, ap, subst, arith}
use Rattle.rb_base.specs.declared.limits.TheConstants.{MOST_BYTES}
use Rattle.rb_outside.specs.Outside.{Faults}
use Rattle.rb_syntax.specs.Tree.{Tree}
use Rattle.rb_page.specs.Page.{page_text}
use Rattle.rb_picture.specs.Meant.{tree_trace_text}
use Rattle.rb_judge.specs.Verdict.{IsAccepted}
use Rattle.rb_hall.specs.declared.command.Stop.{Stop}
use Rattle.rb_hall.specs.declared.command.Unwritten.{Unwritten}
use Rattle.rb_hall.specs.declared.fault.Fault.{Fault}
use Rattle.rb_hall.specs.Ends.{HoldsOn, IfRefused, Refuses, WriteEnds}
use Rattle.rb_hall.specs.Judgement.{Judgement, ReadsOn, RefusedWith, Wants, Writes}
use Rattle.rb_hall.proofs.Ends.{ends_as}
use Rattle.rb_verdict.specs.Judging.{Judges, JudgesPage, OverSchedule, OverTurns, at_first, behind_page, first_accepted, first_refused, reads_page, reads_schedule, runs, schedule_refused}
use Rattle.rb_verdict.specs.Texts.{SourceRefused, names_of}
use Rattle.rb_verdict.specs.Words.{Trace, Page, text_named}
use Rattle.rb_commands.specs.Explained.{ExplainsProgram, NamesOfSource, of_program, of_text}
use Rattle.rb_commands.specs.Written.{KnowsNames}
use Rattle.rb_commands.specs.declared.why.Why.{Why}
use Rattle.rb_commands.specs.declared.why.Why.TheVariants as why
use Rattle.rb_commands.proofs.Taken.{refused_as}
use Rattle.rb_show.specs.Drawing.{EndsDrawn, ExplainsPage, HoldsPage, HoldsTrace, behind_page as explained_behind}
use Rattle.rb_show.specs.Traced.{IsTraced}
use Rattle.rb_show.specs.declared.page.Pages.{Pages}
use Rattle.rb_show.specs.declared.page.Pages.TheVariants as pages
use Rattle.rb_show.specs.declared.trace.Traces.{Traces}
use Rattle.rb_show.specs.declared.trace.Traces.TheVariants as traces
use Rattle.rb_show.specs.declared.traced.Traced.{Traced}

-- ---- `trace`

abbrev files : List ℕ → List ℕ → List Wants
files a b = text_named a ∷ text_named b ∷ []

pub trace_begins : (a b : List ℕ) → HoldsOn (Judges Trace) (files a b) HoldsTrace [] traces.Nothing
trace_begins a b = (refl, λ more. at_first)

-- the source is the first text
pub source_traced : (a b : List ℕ) (source : Bor (List ℕ)) (traced : Traced) → IsTraced source.now traced → (texts : List (List ℕ))
    → HoldsTrace texts traces.Nothing → HoldsOn (Judges Trace) (files a b) HoldsTrace (texts ++ source.now ∷ []) (traces.Program source traced)
source_traced a b source traced is texts none =
    subst (λ (ts : List (List ℕ)). HoldsOn (Judges Trace) (files a b) HoldsTrace (ts ++ source.now ∷ []) (traces.Program source traced)) (sym none)
    ((refl, is), λ more. first_accepted source.now is.prepared.tree [] ReadsOn is.prepared.accepted reads_schedule)

-- why it is refused
first_untraced : (source : List ℕ) (fault : Fault) (known : Why) → SourceRefused source fault × (known ≡ why.Plain)
    → Refuses (Judges Trace) (ExplainsProgram NamesOfSource) (source ∷ []) fault known
first_untraced source fault known (bad, plain) = (
  first_refused source fault bad,
  subst (ExplainsProgram NamesOfSource (source ∷ []) fault) (sym plain) (of_program source fault),
)

pub source_untraced : (source : List ℕ) (stop : Stop Why)
    → IfRefused {T = Traced} (Err stop) (λ fault known. SourceRefused source fault × (known ≡ why.Plain))
    → IfRefused {T = Traces} (Err stop) (λ fault known. (texts : List (List ℕ)) → HoldsTrace texts traces.Nothing
    → Refuses (Judges Trace) (ExplainsProgram NamesOfSource) (texts ++ source ∷ []) fault known)
source_untraced source stop =
    refused_as Traced Traces (λ fault known. SourceRefused source fault × (known ≡ why.Plain))
    (λ fault known. (texts : List (List ℕ)) → HoldsTrace texts traces.Nothing
    → Refuses (Judges Trace) (ExplainsProgram NamesOfSource) (texts ++ source ∷ []) fault known)
    stop
    (λ fault known said texts none. subst (λ (ts : List (List ℕ)). Refuses (Judges Trace) (ExplainsProgram NamesOfSource) (ts ++ source ∷ []) fault known)
    (sym none) (first_untraced source fault known said))

-- the schedule is the second, and still to be judged
pub schedule_taken : (a b : List ℕ) (source text : Bor (List ℕ)) (traced : Traced) → length text.now ≤ MOST_BYTES → (texts : List (List ℕ))
    → HoldsTrace texts (traces.Program source traced)
    → HoldsOn (Judges Trace) (files a b) HoldsTrace (texts ++ text.now ∷ []) (traces.Both source traced text)
schedule_taken a b source text traced short texts (e, is) =
    subst (λ (ts : List (List ℕ)). HoldsOn (Judges Trace) (files a b) HoldsTrace (ts ++ text.now ∷ []) (traces.Both source traced text)) (sym e)
    ((refl, is, short), λ more. absurd (omega (arith, more)))

-- what is known of a fault of a schedule
known_of : (source schedule : List ℕ) (fault : Fault) (known : Why) → KnowsNames (NamesOfSource source) fault known
    → ExplainsProgram NamesOfSource (source ∷ schedule ∷ []) fault known
known_of source schedule fault known (names, is_names, so) =
    subst (ExplainsProgram NamesOfSource (source ∷ schedule ∷ []) fault) (sym is_names) (of_text source schedule [] fault names so)

-- both were read
pub trace_ends : (source schedule : Bor (List ℕ)) (traced : Traced) (old new : Option (List ℕ)) (before after : Faults)
    (result : Result (Unit {0}) (Unwritten Why))
    → ((ready : IsTraced source.now traced) → EndsDrawn None source.now ready.prepared.tree schedule.now old new before after result)
    → (texts : List (List ℕ)) → HoldsTrace texts (traces.Both source traced schedule)
    → WriteEnds (Judges Trace texts) (ExplainsProgram NamesOfSource texts) ⊥ old new before after result
trace_ends source schedule traced old new before after result ends texts (e, is, short) =
    let tree = is.prepared.tree in
    subst (λ (ts : List (List ℕ)). WriteEnds (Judges Trace ts) (ExplainsProgram NamesOfSource ts) ⊥ old new before after result) (sym e)
    (ends_as (OverTurns (names_of tree) (tree_trace_text tree) (schedule.now ∷ [])) (Judges Trace (source.now ∷ schedule.now ∷ []))
    (KnowsNames (NamesOfSource source.now)) (ExplainsProgram NamesOfSource (source.now ∷ schedule.now ∷ [])) ⊥ ⊥ old new before after result
    (λ j h. first_accepted source.now tree (schedule.now ∷ []) j is.prepared.accepted h)
    (known_of source.now schedule.now) (λ never. never) (ends is))

-- ---- `page`

abbrev page_files : List ℕ → List ℕ → List ℕ → List Wants
page_files p a b = text_named p ∷ text_named a ∷ text_named b ∷ []

pub page_begins : (p a b : List ℕ) → HoldsOn (Judges Page) (page_files p a b) HoldsPage [] pages.Nothing
page_begins p a b = (refl, λ more. reads_page)

-- the page is the first text
pub page_taken : (p a b : List ℕ) (page : Bor (List ℕ)) (texts : List (List ℕ)) → HoldsPage texts pages.Nothing
    → HoldsOn (Judges Page) (page_files p a b) HoldsPage (texts ++ page.now ∷ []) (pages.Page page)
page_taken p a b page texts none =
    subst (λ (ts : List (List ℕ)). HoldsOn (Judges Page) (page_files p a b) HoldsPage (ts ++ page.now ∷ []) (pages.Page page)) (sym none)
    (refl, λ more. behind_page page.now [] ReadsOn ReadsOn at_first refl)

-- the source is the second
pub source_paged : (p a b : List ℕ) (page source : Bor (List ℕ)) (traced : Traced) → IsTraced source.now traced → (texts : List (List ℕ))
    → HoldsPage texts (pages.Page page)
    → HoldsOn (Judges Page) (page_files p a b) HoldsPage (texts ++ source.now ∷ []) (pages.Program page source traced)
source_paged p a b page source traced is texts e =
    subst (λ (ts : List (List ℕ)). HoldsOn (Judges Page) (page_files p a b) HoldsPage (ts ++ source.now ∷ []) (pages.Program page source traced)) (sym e) (
      (refl, is),
      λ more. behind_page page.now (source.now ∷ []) ReadsOn ReadsOn
          (first_accepted source.now is.prepared.tree [] ReadsOn is.prepared.accepted reads_schedule) refl,
    )

-- why it is refused
second_unpaged : (page source : List ℕ) (fault : Fault) (known : Why) → SourceRefused source fault × (known ≡ why.Plain)
    → Refuses (Judges Page) ExplainsPage (page ∷ source ∷ []) fault known
second_unpaged page source fault known said =
    let (refused, explained) = first_untraced source fault known said in (
      behind_page page (source ∷ []) (RefusedWith fault) (RefusedWith fault) refused refl,
      explained_behind page (source ∷ []) fault known explained,
    )

pub source_unpaged : (page : Bor (List ℕ)) (source : List ℕ) (stop : Stop Why)
    → IfRefused {T = Traced} (Err stop) (λ fault known. SourceRefused source fault × (known ≡ why.Plain))
    → IfRefused {T = Pages} (Err stop) (λ fault known. (texts : List (List ℕ)) → HoldsPage texts (pages.Page page)
    → Refuses (Judges Page) ExplainsPage (texts ++ source ∷ []) fault known)
source_unpaged page source stop =
    refused_as Traced Pages (λ fault known. SourceRefused source fault × (known ≡ why.Plain))
    (λ fault known. (texts : List (List ℕ)) → HoldsPage texts (pages.Page page)
    → Refuses (Judges Page) ExplainsPage (texts ++ source ∷ []) fault known)
    stop
    (λ fault known said texts e. subst (λ (ts : List (List ℕ)). Refuses (Judges Page) ExplainsPage (ts ++ source ∷ []) fault known) (sym e)
    (second_unpaged page.now source fault known said))

-- the schedule is the third, and still to be judged
pub schedule_paged : (p a b : List ℕ) (page source text : Bor (List ℕ)) (traced : Traced) → length text.now ≤ MOST_BYTES → (texts : List (List ℕ))
    → HoldsPage texts (pages.Program page source traced)
    → HoldsOn (Judges Page) (page_files p a b) HoldsPage (texts ++ text.now ∷ []) (pages.All page source traced text)
schedule_paged p a b page source text traced short texts (e, is) =
    subst (λ (ts : List (List ℕ)). HoldsOn (Judges Page) (page_files p a b) HoldsPage (ts ++ text.now ∷ []) (pages.All page source traced text)) (sym e)
    ((refl, is, short), λ more. absurd (omega (arith, more)))

-- what a schedule comes to behind a page and an accepted source
paged : (page source schedule : List ℕ) (tree : Tree) → IsAccepted source tree → (texts : List (List ℕ)) → texts ≡ schedule ∷ [] → (j : Judgement)
    → OverTurns (names_of tree) (λ turns. page_text page source schedule (tree_trace_text tree turns)) texts j
    → JudgesPage (page ∷ source ∷ schedule ∷ []) j
paged page source schedule tree accepted texts e j reads_schedule = absurd (cc)
paged page source schedule tree accepted texts e j (schedule_refused other fault bad) =
    let same : other ≡ schedule = cc in
    behind_page page (source ∷ schedule ∷ []) (RefusedWith fault) (RefusedWith fault)
    (first_accepted source tree (schedule ∷ []) (RefusedWith fault) accepted
    (subst (λ (s : List ℕ). OverSchedule tree_trace_text tree (s ∷ []) (RefusedWith fault)) same (schedule_refused other fault bad)))
    refl
paged page source schedule tree accepted texts e j (runs other text ran) =
    let same : other ≡ schedule = cc in
    let trace = tree_trace_text tree ran.turns in
    behind_page page (source ∷ schedule ∷ []) (Writes trace) (Writes text)
    (first_accepted source tree (schedule ∷ []) (Writes trace) accepted
    (subst (λ (s : List ℕ). OverSchedule tree_trace_text tree (s ∷ []) (Writes trace)) same
    (runs other trace (record { turns = ran.turns; listed = ran.listed; is = refl }))))
    (ap Writes ran.is)

-- all were read
pub page_ends : (page source schedule : Bor (List ℕ)) (traced : Traced) (old new : Option (List ℕ)) (before after : Faults)
    (result : Result (Unit {0}) (Unwritten Why))
    → ((ready : IsTraced source.now traced) → EndsDrawn (Some page.now) source.now ready.prepared.tree schedule.now old new before after result)
    → (texts : List (List ℕ)) → HoldsPage texts (pages.All page source traced schedule)
    → WriteEnds (Judges Page texts) (ExplainsPage texts) ⊥ old new before after result
page_ends page source schedule traced old new before after result ends texts (e, is, short) =
    let tree = is.prepared.tree in
    let all = page.now ∷ source.now ∷ schedule.now ∷ [] in
    subst (λ (ts : List (List ℕ)). WriteEnds (Judges Page ts) (ExplainsPage ts) ⊥ old new before after result) (sym e)
    (ends_as (OverTurns (names_of tree) (λ turns. page_text page.now source.now schedule.now (tree_trace_text tree turns)) (schedule.now ∷ []))
    (Judges Page all) (KnowsNames (NamesOfSource source.now)) (ExplainsPage all) ⊥ ⊥ old new before after result
    (λ j h. paged page.now source.now schedule.now tree is.prepared.accepted (schedule.now ∷ []) refl j h)
    (λ fault known so. explained_behind page.now (source.now ∷ schedule.now ∷ []) fault known (known_of source.now schedule.now fault known so))
    (λ never. never) (ends is))
