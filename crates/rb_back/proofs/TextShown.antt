-- What is written of a process at a session's position.
use Rattle.std.proofs.Common.{◌≡◌, ◌<◌, ◌≤◌, ◌+◌, ◌-◌, ℕ, List, ◌∷◌, ◌++◌, length, get_or, slice_get, take, option_map, Option, Some, Result, Ok, Err, refl, sym, ap, ◌∙◌, subst, arith, append_assoc}
use Rattle.std.proofs.lemmas.List.{length-append, take-append-le, take_all}
use Rattle.std.proofs.lemmas.Option.{slice_get-map}
use Rattle.std.proofs.lemmas.Simd.{map-map}
use Rattle.std.proofs.lemmas.Slice.Zip.{AllZip-long}
use Rattle.std.specs.Result.{IsErrAnd}
use Rattle.rb_base.specs.declared.event.State.{State}
use Rattle.rb_base.specs.declared.names.Names.{Names}
use Rattle.rb_base.specs.declared.names.ProcessNames.{ProcessNames}
use Rattle.rb_base.specs.Lines.{belonging}
use Rattle.rb_outside.specs.declared.Failed.{Failed}
use Rattle.rb_outside.specs.Outside.{Faults, then_written}
use Rattle.rb_outside.specs.Puts.{Puts}
use Rattle.rb_outside.proofs.Puts.{puts_both, puts_same, puts_stopped_at}
use Rattle.rb_sched.specs.Schedule.{Plan}
use Rattle.rb_trace.specs.Ended.{process_text, state_of}
use Rattle.rb_trace.specs.Fitting.{ProcessFits}
use Rattle.rb_trace.specs.Naming.{naming, process_naming}
use Rattle.rb_trace.proofs.Ended.{fits_at}
use Rattle.rb_trace.proofs.Written.{Written}
use Rattle.rb_world.specs.Kind.{Membership}
use Rattle.rb_world.specs.Text.{Naming, ProcessNaming}
use Rattle.rb_meaning.specs.Meaning.{standing}
use Rattle.rb_code.specs.Instructions.Plain.{Code}
use Rattle.rb_code.specs.WordMachine.WordRun.{word_final, word_run}
use Rattle.rb_recovery.specs.Known.{IsSoundFor}
use Rattle.rb_code.specs.Instructions.Variables.{VariablesLie}
use Rattle.rb_run.specs.Running.{NamesFit}
use Rattle.rb_run.proofs.EndingFits.{ending_fits}
use Rattle.rb_run.proofs.OwnWords.{runs_own}
use Rattle.rb_back.specs.Course.{Course, shown_states, shown_variables}
use Rattle.rb_script.specs.declared.order.Order.{Order}
use Rattle.rb_script.specs.declared.order.Order.TheVariants.{Forth, Back, Show}
use Rattle.rb_back.specs.declared.showing.Stopped.{Stopped}
use Rattle.rb_back.specs.declared.showing.Stopped.TheVariants.{WriteFault, Memory}
use Rattle.rb_script.specs.Script.{CanFollow}
use Rattle.rb_script.specs.Shown.{all_shown, final_shown, position_line, process_shown, shown_text, word_shown, words_shown}
use Rattle.rb_back.specs.Showing.{HasMoved, Shows, ShowsOne}
use Rattle.rb_back.proofs.Noted.{there_is}
use Rattle.rb_back.proofs.Sizes.{run_processes, run_states}

-- the name of a process
named_at : (names : Names) (p : ℕ) (process : ProcessNames) → p < length names.processes.items → process ≡ get_or names.processes.items p process
    → slice_get (naming names).processes p ≡ Some (process_naming process)
named_at names p process less is =
    slice_get-map process_naming names.processes.items p
    ∙ ap (option_map process_naming) (there_is names.processes.items p process less is)

module _ (s : Course) (names : Names) (p : ℕ) (less : p < length names.processes.items) where
  pub state_there : NamesFit s.code names → p < length (shown_states s)
  state_there fit = omega (
    arith,
    less,
    AllZip-long VariablesLie names.processes.items s.code.processes fit.processes,
    run_states s.code s.groups (take s.position s.ran),
  )

  module _ (process : ProcessNames) (is : process ≡ get_or names.processes.items p process) where
    pub process_fits : IsSoundFor s.code s.groups → NamesFit s.code names → ProcessFits process (belonging (shown_variables s) p)
    process_fits (counts, sound) fit =
        let turns = take s.position s.ran in
        fits_at names.processes.items (shown_variables s) p process
        (ending_fits s.code s.groups counts names (word_run s.code s.groups turns).0 sound fit (run_processes s.code s.groups turns)
        (runs_own s.code s.groups counts sound turns)).processes less is

    pub few_shown : words_shown (Some (process_naming process)) ≡ words_shown (slice_get (naming names).processes p)
    few_shown = ap words_shown (sym (named_at names p process less is))

    pub shown_here : (state : State) → naming names ≡ s.code.names → slice_get (shown_states s) p ≡ Some state
        → position_line s.position ++ process_text (process_naming process) state (belonging (shown_variables s) p)
        ≡ word_shown s.code s.groups s.ran s.position p
    shown_here state named stands =
        let w = (word_run s.code s.groups (take s.position s.ran)).0 in
        ap (λ (o : Option ProcessNaming). position_line s.position ++ process_shown o (Some state) (belonging (shown_variables s) p))
        (sym (named_at names p process less is))
        ∙ ap (λ (o : Option State).
        position_line s.position ++ process_shown (slice_get (naming names).processes p) o (belonging (shown_variables s) p)) (sym stands)
        ∙ ap (λ (one : Naming). shown_text one s.position p (shown_states s) (shown_variables s)) named
        ∙ ap (λ (states : List State). shown_text s.code.names s.position p states (shown_variables s)) (sym (map-map state_of standing w.processes))

-- what is shown where a session has come to a position over a schedule
abbrev shown_over : Code → List Membership → List ℕ → ℕ → ℕ → List ℕ
shown_over c groups turns position p = final_shown c.names position p (word_final c (word_run c groups turns).0)

pub moved_text : (s later : Course) (schedule rest : Plan) (position p : ℕ) → HasMoved s schedule position later rest
    → word_shown later.code later.groups later.ran later.position p ≡ word_shown s.code s.groups schedule.all position p
moved_text s later schedule rest position p h =
    let turns : take later.position later.ran ≡ take position schedule.all =
    ap (λ n. take n later.ran) h.at ∙ sym (take-append-le position later.ran rest.left h.taken)
    ∙ ap (take position) (h.goes.splits ∙ h.all) in
    λ i. shown_over (h.code i) (h.groups i) (turns i) (h.at i) p

-- how far a text was written, where it was written whole for now
pub as_stopped : (text : List ℕ) (w0 w1 : Option (List ℕ)) (f0 f1 : Faults) → Puts {T = Unit {0}} {E = Failed} text w0 w1 f0 f1 (Ok tt)
    → Puts {T = Unit {0}} {E = Stopped} text w0 w1 f0 f1 (Ok tt)
as_stopped text w0 w1 f0 f1 h = record { ok = h.ok; quiet = h.quiet; err = tt; failed = tt }

pub as_failed : (text : List ℕ) (w0 w1 : Option (List ℕ)) (f0 f1 : Faults) → Puts {T = Unit {0}} {E = Stopped} text w0 w1 f0 f1 (Ok tt)
    → Puts {T = Unit {0}} {E = Failed} text w0 w1 f0 f1 (Ok tt)
as_failed text w0 w1 f0 f1 h = record { ok = h.ok; quiet = h.quiet; err = tt; failed = tt }

-- it stopped at one text of all
pub stopped_at : (whole rest part after : List ℕ) (w0 w1 w2 : Option (List ℕ)) (f0 f1 f2 : Faults) (why : Stopped)
    → Written whole rest w0 w1 f0 f1 → rest ≡ part ++ after → ShowsOne part w1 w2 f1 f2 (Err why) → Shows whole w0 w2 f0 f2 (Err why)
stopped_at whole rest part after w0 w1 w2 f0 f1 f2 WriteFault so_far is h =
    puts_same _ _ w0 w2 f0 f2 (Err WriteFault)
    (append_assoc so_far.front part after ∙ ap (λ (x : List ℕ). so_far.front ++ x) (sym is) ∙ so_far.splits)
    (puts_stopped_at (so_far.front ++ part) after w0 w2 f0 f2 WriteFault (Err WriteFault) refl
    (puts_both so_far.front part w0 w1 w2 f0 f1 f2 tt (Err WriteFault) so_far.puts h))
stopped_at whole rest part after w0 w1 w2 f0 f1 f2 Memory so_far is h =
    let front : take (length so_far.front) whole ≡ so_far.front =
    ap (take (length so_far.front)) (sym so_far.splits) ∙ take-append-le (length so_far.front) so_far.front rest (omega arith)
    ∙ take_all (length so_far.front) so_far.front (omega arith) in (
      (
        length so_far.front,
        omega (arith, length-append so_far.front rest, ap length so_far.splits),
        h.0 ∙ so_far.puts.ok ∙ ap (then_written w0) (sym front),
      ),
      ap (λ (f : Faults). f.count) h.1 ∙ so_far.puts.quiet,
    )

-- the orders that are left, by the first of them
module _ (show : ℕ → ℕ → List ℕ) (processes turns position : ℕ) (rest : List Order) (script : List Order) where
  pub by_forth : (n : ℕ) → script ≡ Forth n ∷ rest → CanFollow processes turns position script
      → (position + n ≤ turns) × CanFollow processes turns (position + n) rest × (all_shown show position script ≡ all_shown show (position + n) rest)
  by_forth n is can =
      let here = subst (CanFollow processes turns position) is can in
      (here.0, here.1, ap (all_shown show position) is)

  pub by_back : (n : ℕ) → script ≡ Back n ∷ rest → CanFollow processes turns position script
      → (n ≤ position) × CanFollow processes turns (position - n) rest × (all_shown show position script ≡ all_shown show (position - n) rest)
  by_back n is can =
      let here = subst (CanFollow processes turns position) is can in
      (here.0, here.1, ap (all_shown show position) is)

  pub by_show : (p : ℕ) → script ≡ Show p ∷ rest → CanFollow processes turns position script
      → (p < processes) × CanFollow processes turns position rest
      × (all_shown show position script ≡ show position p ++ all_shown show position rest)
  by_show p is can =
      let here = subst (CanFollow processes turns position) is can in
      (here.0, here.1, ap (all_shown show position) is)

-- the same is left to write
pub same_left : (whole rest other : List ℕ) (w0 w1 : Option (List ℕ)) (f0 f1 : Faults) → rest ≡ other → Written whole rest w0 w1 f0 f1
    → Written whole other w0 w1 f0 f1
same_left whole rest other w0 w1 f0 f1 e h = subst (λ (left : List ℕ). Written whole left w0 w1 f0 f1) e h

-- the same code over the same turns
pub same_shown_text : {c d : Code} {groups others : List Membership} {turns more : List ℕ} → c ≡ d → groups ≡ others → turns ≡ more
    → (position p : ℕ) → word_shown c groups turns position p ≡ word_shown d others more position p
same_shown_text code groups turns position p i = word_shown (code i) (groups i) (turns i) position p

-- an answer that passes on why it stopped
pub stopped_as : (text : List ℕ) (w0 w1 : Option (List ℕ)) (f0 f1 : Faults) (given : Stopped) (r : Result (Unit {0}) Stopped)
    → IsErrAnd r (λ why. why ≡ given) → Shows text w0 w1 f0 f1 (Err given) → Shows text w0 w1 f0 f1 r
stopped_as text w0 w1 f0 f1 given (Ok done) is h = absurd is
stopped_as text w0 w1 f0 f1 given (Err why) is h = subst (λ (one : Stopped). Shows text w0 w1 f0 f1 (Err one)) (sym is) h
