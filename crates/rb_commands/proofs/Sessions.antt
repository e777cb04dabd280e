-- What `session` makes of a source, a schedule for it and a session.
use Rattle.std.proofs.Common.{◌≡◌, ℕ, ◌≤◌, List, [], ◌∷◌, ◌++◌, length, Option, Bor, IfOk, Result, Ok, Err, refl, sym, ap, subst, ◌∙◌, arith}
use Rattle.rb_base.specs.Naming.{process_names}
use Rattle.rb_base.specs.declared.fault.TextFault.{TextFault}
use Rattle.rb_base.specs.declared.limits.TheConstants.{MOST_BYTES}
use Rattle.rb_outside.specs.Outside.{Faults}
use Rattle.rb_code.specs.Instructions.Plain.{code}
use Rattle.rb_conv.specs.Conversations.{memberships, opening}
use Rattle.rb_sched.specs.Schedule.{schedule_of}
use Rattle.rb_prepare.specs.Prepared.{IsPrepared}
use Rattle.rb_prepare.specs.declared.preparing.Prepared.{Prepared}
use Rattle.rb_script.specs.declared.order.Order.{Order}
use Rattle.rb_script.specs.Script.{script_of}
use Rattle.rb_script.specs.Shown.{session_text}
use Rattle.rb_hall.specs.declared.command.Stop.{Stop}
use Rattle.rb_hall.specs.declared.command.Stop.TheVariants as stop
use Rattle.rb_hall.specs.declared.command.Unwritten.{Unwritten}
use Rattle.rb_hall.specs.declared.fault.Fault.{Fault}
use Rattle.rb_hall.specs.declared.fault.Fault.TheVariants as of
use Rattle.rb_hall.specs.Ends.{HoldsOn, IfRefused, Refuses, WriteEnds}
use Rattle.rb_hall.specs.Judgement.{ReadsOn, RefusedWith, Wants, Writes}
use Rattle.rb_hall.proofs.Ends.{ends_as}
use Rattle.rb_verdict.specs.Judging.{Judges, SessionGoesOn, first_accepted, first_refused, reads_session, reads_turns, session_refused, shows, turns_refused}
use Rattle.rb_verdict.specs.Texts.{ListsTurns, SourceRefused, bad_schedule, bad_session, names_of}
use Rattle.rb_verdict.specs.Words.{Session, text_named}
use Rattle.rb_commands.specs.Explained.{ExplainsProgram, NamesOfSource, of_program, of_text}
use Rattle.rb_commands.specs.Held.{HoldsSession, TakesTurns}
use Rattle.rb_commands.specs.Written.{EndsSession, KnowsNames}
use Rattle.rb_commands.specs.declared.session.Shown.{Shown}
use Rattle.rb_commands.specs.declared.session.Shown.TheVariants as shown
use Rattle.rb_commands.specs.declared.why.Why.{Why}
use Rattle.rb_commands.specs.declared.why.Why.TheVariants as why
use Rattle.rb_commands.proofs.Loaded.{session_as_meant}
use Rattle.rb_commands.proofs.Scheduled.{its_names, listed_for, names_are}
use Rattle.rb_commands.proofs.Taken.{refused_as}

abbrev files : List ℕ → List ℕ → List ℕ → List Wants
files a b c = text_named a ∷ text_named b ∷ text_named c ∷ []

-- ---- the source is the first text

pub source_taken : (a b c text : List ℕ) (prepared : Prepared) → IsPrepared text prepared → (texts : List (List ℕ)) → HoldsSession texts shown.Nothing
    → HoldsOn (Judges Session) (files a b c) HoldsSession (texts ++ text ∷ []) (shown.Program prepared)
source_taken a b c text prepared is texts none =
    subst (λ (ts : List (List ℕ)). HoldsOn (Judges Session) (files a b c) HoldsSession (ts ++ text ∷ []) (shown.Program prepared)) (sym none)
    ((text, refl, is), λ more. first_accepted text is.tree [] ReadsOn is.accepted reads_turns)

pub source_not_taken : (text : List ℕ) (stop : Stop Why)
    → IfRefused {T = Prepared} (Err stop) (λ fault known. SourceRefused text fault × (known ≡ why.Plain))
    → IfRefused {T = Shown} (Err stop) (λ fault known. (texts : List (List ℕ)) → HoldsSession texts shown.Nothing
    → Refuses (Judges Session) (ExplainsProgram NamesOfSource) (texts ++ text ∷ []) fault known)
source_not_taken text stop refused =
    refused_as Prepared Shown (λ fault known. SourceRefused text fault × (known ≡ why.Plain))
    (λ fault known. (texts : List (List ℕ)) → HoldsSession texts shown.Nothing
    → Refuses (Judges Session) (ExplainsProgram NamesOfSource) (texts ++ text ∷ []) fault known)
    stop said refused
  where
    said : (fault : Fault) (known : Why) → SourceRefused text fault × (known ≡ why.Plain) → (texts : List (List ℕ)) → HoldsSession texts shown.Nothing
        → Refuses (Judges Session) (ExplainsProgram NamesOfSource) (texts ++ text ∷ []) fault known
    said fault known (bad, plain) texts none =
        subst (λ (ts : List (List ℕ)). Refuses (Judges Session) (ExplainsProgram NamesOfSource) (ts ++ text ∷ []) fault known) (sym none)
        (first_refused text fault bad, subst (ExplainsProgram NamesOfSource (text ∷ []) fault) (sym plain) (of_program text fault))

-- ---- the schedule is the second

module _ (source : List ℕ) (prepared : Prepared) (accepted : IsPrepared source prepared) where
  -- it lists so many turns
  pub turns_listed : (schedule : Bor (List ℕ)) (turns : List ℕ) (many : ℕ) → schedule_of (process_names prepared.code.names) schedule.now ≡ Ok turns
      → many ≡ length turns
      → HoldsSession (source ∷ schedule.now ∷ []) (shown.Turns prepared schedule many) × Judges Session (source ∷ schedule.now ∷ []) ReadsOn
  turns_listed schedule turns many listed as_many = (
    (source, refl, accepted, (turns, listed, as_many)),
    first_accepted source accepted.tree (schedule.now ∷ []) ReadsOn accepted.accepted
        (reads_session schedule.now turns (listed_for source prepared accepted schedule.now (Ok turns) listed)),
  )

  -- or it has a fault
  pub turns_not_listed : (schedule : List ℕ) (fault : TextFault) → schedule_of (process_names prepared.code.names) schedule ≡ Err fault
      → Refuses (Judges Session) (ExplainsProgram NamesOfSource) (source ∷ schedule ∷ []) (of.Text fault) (why.Names prepared.code.names)
  turns_not_listed schedule fault bad = (
    first_accepted source accepted.tree (schedule ∷ []) (RefusedWith (of.Text fault)) accepted.accepted
        (turns_refused schedule (of.Text fault) (bad_schedule fault (listed_for source prepared accepted schedule (Err fault) bad))),
    of_text source schedule [] (of.Text fault) prepared.code.names (its_names source prepared accepted),
  )

-- which the command then holds
module _ (schedule : List ℕ) (prepared : Prepared) where
  held_after : (a b c : List ℕ) (next : Shown) → ((source : List ℕ) → IsPrepared source prepared → TakesTurns source schedule (Ok next))
      → (texts : List (List ℕ)) → HoldsSession texts (shown.Program prepared)
      → HoldsOn (Judges Session) (files a b c) HoldsSession (texts ++ schedule ∷ []) next
  held_after a b c next takes texts (source, e, is) =
      subst (λ (ts : List (List ℕ)). HoldsOn (Judges Session) (files a b c) HoldsSession (ts ++ schedule ∷ []) next) (sym e)
      ((takes source is).0, λ more. (takes source is).1)

  refused_after : (fault : Fault) (known : Why)
      → ((source : List ℕ) → IsPrepared source prepared → TakesTurns source schedule (Err (stop.Refused fault known)))
      → (texts : List (List ℕ)) → HoldsSession texts (shown.Program prepared)
      → Refuses (Judges Session) (ExplainsProgram NamesOfSource) (texts ++ schedule ∷ []) fault known
  refused_after fault known takes texts (source, e, is) =
      subst (λ (ts : List (List ℕ)). Refuses (Judges Session) (ExplainsProgram NamesOfSource) (ts ++ schedule ∷ []) fault known) (sym e)
      (takes source is)

  pub turns_held : (a b c : List ℕ) (result : Result Shown (Stop Why))
      → ((source : List ℕ) → IsPrepared source prepared → TakesTurns source schedule result)
      → IfOk result (λ next. (texts : List (List ℕ)) → HoldsSession texts (shown.Program prepared)
      → HoldsOn (Judges Session) (files a b c) HoldsSession (texts ++ schedule ∷ []) next)
  turns_held a b c (Ok next) takes = held_after a b c next takes
  turns_held a b c (Err stopped) takes = tt

  pub turns_not_held : (result : Result Shown (Stop Why))
      → ((source : List ℕ) → IsPrepared source prepared → TakesTurns source schedule result)
      → IfRefused result (λ fault known. (texts : List (List ℕ)) → HoldsSession texts (shown.Program prepared)
      → Refuses (Judges Session) (ExplainsProgram NamesOfSource) (texts ++ schedule ∷ []) fault known)
  turns_not_held (Ok next) takes = tt
  turns_not_held (Err (stop.Refused fault known)) takes = refused_after fault known takes
  turns_not_held (Err stop.Memory) takes = tt

-- the session is the third, and still to be judged
pub session_taken : (a b c : List ℕ) (schedule : Bor (List ℕ)) (turns : ℕ) (text : Bor (List ℕ)) (prepared : Prepared) → length text.now ≤ MOST_BYTES
    → (texts : List (List ℕ)) → HoldsSession texts (shown.Turns prepared schedule turns)
    → HoldsOn (Judges Session) (files a b c) HoldsSession (texts ++ text.now ∷ []) (shown.All prepared schedule turns text)
session_taken a b c schedule turns text prepared short texts (source, e, is, had) =
    subst (λ (ts : List (List ℕ)). HoldsOn (Judges Session) (files a b c) HoldsSession (ts ++ text.now ∷ []) (shown.All prepared schedule turns text))
    (sym e) ((source, refl, is, had, short), λ more. absurd (omega (arith, more)))

-- ---- all were read

module _ (source : List ℕ) (prepared : Prepared) (accepted : IsPrepared source prepared) (schedule session turns : List ℕ)
    (listed : schedule_of (process_names prepared.code.names) schedule ≡ Ok turns) where
  lists : ListsTurns accepted.tree schedule turns
  lists = listed_for source prepared accepted schedule (Ok turns) listed

  scripted : script_of (names_of accepted.tree) (length turns) session ≡ script_of (process_names prepared.code.names) (length turns) session
  scripted = ap (λ (names : List (List ℕ)). script_of names (length turns) session) (sym (names_are source prepared accepted))

  -- the session has a fault
  pub orders_refused : (fault : TextFault) → script_of (process_names prepared.code.names) (length turns) session ≡ Err fault
      → SessionGoesOn accepted.tree (schedule ∷ session ∷ []) (RefusedWith (of.Text fault))
  orders_refused fault bad = session_refused schedule turns session (of.Text fault) lists (bad_session fault (scripted ∙ bad))

  -- or its orders are followed
  pub orders_followed : (orders : List Order) → script_of (process_names prepared.code.names) (length turns) session ≡ Ok orders
      → SessionGoesOn accepted.tree (schedule ∷ session ∷ [])
      (Writes (session_text (code prepared.code) (memberships (opening prepared.nested)) turns orders))
  orders_followed orders given =
      shows schedule turns session (session_text (code prepared.code) (memberships (opening prepared.nested)) turns orders) lists
      (record { orders = orders; listed = scripted ∙ given; is = session_as_meant source prepared accepted turns orders })

pub all_end : (prepared : Prepared) (schedule : Bor (List ℕ)) (turns : ℕ) (session : Bor (List ℕ)) (old new : Option (List ℕ)) (before after : Faults)
    (result : Result (Unit {0}) (Unwritten Why))
    → ((source : List ℕ) (accepted : IsPrepared source prepared) → EndsSession source accepted.tree schedule.now session.now old new before after result)
    → (texts : List (List ℕ)) → HoldsSession texts (shown.All prepared schedule turns session)
    → WriteEnds (Judges Session texts) (ExplainsProgram NamesOfSource texts) (Unit {0}) old new before after result
all_end prepared schedule turns session old new before after result ends texts (source, e, is, had, short) =
    subst (λ (ts : List (List ℕ)). WriteEnds (Judges Session ts) (ExplainsProgram NamesOfSource ts) (Unit {0}) old new before after result) (sym e)
    (ends_as (SessionGoesOn is.tree (schedule.now ∷ session.now ∷ [])) (Judges Session (source ∷ schedule.now ∷ session.now ∷ []))
    (KnowsNames (NamesOfSource source)) (ExplainsProgram NamesOfSource (source ∷ schedule.now ∷ session.now ∷ [])) (Unit {0}) (Unit {0})
    old new before after result
    (λ j h. first_accepted source is.tree (schedule.now ∷ session.now ∷ []) j is.accepted h)
    known_of (λ may. may) (ends source is))
  where
    known_of : (fault : Fault) (known : Why) → KnowsNames (NamesOfSource source) fault known
        → ExplainsProgram NamesOfSource (source ∷ schedule.now ∷ session.now ∷ []) fault known
    known_of fault known (names, is_names, so) =
        subst (ExplainsProgram NamesOfSource (source ∷ schedule.now ∷ session.now ∷ []) fault) (sym is_names)
        (of_text source schedule.now (session.now ∷ []) fault names so)
