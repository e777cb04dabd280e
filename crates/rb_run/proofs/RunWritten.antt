-- The text of a run: turn 0, the turns and the ending, each as it was written.
use Rattle.std.proofs.Common.{◌≡◌, ℕ, zero, suc, ◌+◌, Bool, List, [], ◌++◌, length, map, replicate, Option, Result, Ok, Err, IsErr, refl, sym, ap, ◌∙◌, subst}
use Rattle.std.proofs.lemmas.List.{length-map, length-replicate}
use Rattle.std.proofs.lemmas.Simd.{map-map}
use Rattle.std.proofs.lemmas.Slice.Zip.{AllZip-long}
use Rattle.rb_base.specs.declared.event.Event.{Event}
use Rattle.rb_base.specs.declared.event.TurnKind.{TurnKind}
use Rattle.rb_base.specs.declared.names.Names.{Names}
use Rattle.rb_outside.specs.declared.Failed.{Failed}
use Rattle.rb_outside.specs.Outside.{Faults}
use Rattle.rb_outside.specs.Puts.{Puts}
use Rattle.rb_outside.proofs.Puts.{puts_both, puts_same, puts_stopped_at}
use Rattle.rb_trace.specs.Ended.{IsEndOf, state_of}
use Rattle.rb_trace.specs.Fitting.{Fits}
use Rattle.rb_trace.specs.Naming.{naming}
use Rattle.rb_trace.specs.Report.{told_of}
use Rattle.rb_meaning.specs.Meaning.{standing}
use Rattle.rb_world.specs.Text.{Naming, all_told, end_text, out_lines, told_text}
use Rattle.rb_world.specs.Turn.{Told, run, told_at_opening}
use Rattle.rb_world.specs.World.{Process}
use Rattle.rb_world.proofs.Keeping.StandingFacts.{run-size}
use Rattle.rb_code.specs.WordMachine.Turn.{Copy, Standing}
use Rattle.rb_code.specs.WordMachine.WordKind.{word_kind}
use Rattle.rb_code.specs.WordMachine.WordRun.{WordWorld, counts_sent, counts_taken, opening_of, opening_standings, variable_words, word_final, word_run, word_text}
use Rattle.rb_recovery.specs.Known.{IsSoundFor}
use Rattle.rb_machine.specs.Machine.{Seen, opening_seen}
use Rattle.rb_machine.proofs.Knowing.Sizes.{length-opening}
use Rattle.rb_code.specs.Instructions.Variables.{VariablesLie}
use Rattle.rb_run.specs.Running.{NamesFit, NoneWaits, ran}
use Rattle.rb_run.proofs.EndingFits.{ending_fits}
use Rattle.rb_run.proofs.OwnWords.{runs_own}
use Rattle.rb_run.proofs.TurnsTaken.{same_but_lines, turns_left}

-- where no line waits none is printed
out_none : (names : Naming) (t p n : ℕ) → out_lines names t p (replicate n []) ≡ []
out_none names t p zero = refl
out_none names t p (suc n) = out_none names t (p + 1) n

-- the lines of a turn, by those that are released
text_out : (names : Naming) (t : ℕ) (one : Told) (more : List (List (List ℕ))) → out_lines names t 0 more ≡ out_lines names t 0 one.released
    → told_text names t (record one { released = more }) ≡ told_text names t one
text_out names t one more e = rw e

pub opening_text : (names : Naming) (kind : TurnKind) (events : List Event) (waiting : List (List (List ℕ))) (n : ℕ) (w : WordWorld)
    → waiting ≡ replicate n [] → told_of kind events [] ≡ told_at_opening w
    → told_text names 0 (told_of kind events waiting) ≡ told_text names 0 (told_at_opening w)
opening_text names kind events waiting n w none told =
    text_out names 0 (told_of kind events []) waiting (ap (out_lines names 0 0) none ∙ out_none names 0 0 n) ∙ ap (told_text names 0) told

-- how a machine ended
pub is_end : (m : Seen) → IsEndOf (map (λ (q : Process Standing Copy). state_of (q.status, length q.levels)) m.world.processes)
    (map (λ (q : Process Standing Copy). variable_words m.code q.state) m.world.processes)
    (counts_sent m.code (map (λ (q : Process Standing Copy). q.state) m.world.processes) 0 m.code.channels)
    (counts_taken m.code (map (λ (q : Process Standing Copy). q.state) m.world.processes) 0 m.code.channels) (word_final m.code m.world)
is_end m = record { states = map-map state_of standing m.world.processes; words = refl; sent = refl; taken = refl }

-- A machine that was just loaded: its names, and where it stands once turn 0 was written.
module _ (old : Seen) (keeps : Bool) (fresh : old ≡ opening_seen old.code old.groups keeps old.most) (names : Names) (fit : NamesFit old.code names) where
  pub waiting_none : old.waiting ≡ replicate (length old.code.processes) []
  waiting_none = ap (λ (m : Seen). m.waiting) fresh

  pub first_text : naming names ≡ old.code.names → (kind : TurnKind) (events : List Event) → told_of kind events [] ≡ told_at_opening old.world
      → told_text (naming names) 0 (told_of kind events old.waiting)
      ≡ told_text old.code.names 0 (told_at_opening (opening_of old.code old.groups))
  first_text named kind events told =
      ap (λ one. told_text one 0 (told_of kind events old.waiting)) named
      ∙ opening_text old.code.names kind events old.waiting (length old.code.processes) (opening_of old.code old.groups) waiting_none
      (told ∙ ap (λ (m : Seen). told_at_opening m.world) fresh)

  processes_each : length old.world.processes ≡ length old.code.processes
  processes_each =
      ap (λ (m : Seen). length m.world.processes) fresh
      ∙ (length-map (opening_standings 0 old.code.processes) _ ∙ length-opening 0 old.code.processes)

  pub names_each : length names.processes.items ≡ length old.world.processes
  names_each = sym (AllZip-long VariablesLie names.processes.items old.code.processes fit.processes) ∙ sym processes_each

  waiting_each : length old.waiting ≡ length old.world.processes
  waiting_each = ap length waiting_none ∙ (length-replicate (length old.code.processes) [] ∙ sym processes_each)

  pub lines_each : length old.waiting ≡ length names.processes.items
  lines_each = waiting_each ∙ sym names_each

  module _ (now : Seen) (none : now.waiting ≡ replicate (length old.waiting) [])
      (rest : record now { waiting = [] } ≡ record old { waiting = [] }) where
    pub is_old : now ≡ old
    is_old =
        same_but_lines old now rest
        ∙ ap (λ (w : List (List (List ℕ))). record old { waiting = w })
        (none ∙ ap (λ n. replicate n []) (waiting_each ∙ processes_each) ∙ sym waiting_none)

    pub named_now : length names.processes.items ≡ length now.world.processes
    named_now = names_each ∙ ap (λ (m : Seen). length m.world.processes) (sym is_old)

    pub waits_now : NoneWaits now
    waits_now = none ∙ ap (λ n. replicate n []) (waiting_each ∙ ap (λ (m : Seen). length m.world.processes) (sym is_old))

    module _ (all left : List ℕ) (whole : left ≡ all) where
      -- what is told of all turns
      pub turns_text : naming names ≡ old.code.names
          → turns_left (naming names) now left ≡ all_told old.code.names 1 (word_run old.code old.groups all).1
      turns_text named =
          ap (λ one. turns_left one now left) named ∙ ap (λ (m : Seen). turns_left old.code.names m left) (is_old ∙ fresh)
          ∙ ap (turns_left old.code.names (opening_seen old.code old.groups keeps old.most)) whole

      module _ (later : Seen) (led : later ≡ ran now left) where
        to_all : later ≡ ran old all
        to_all = led ∙ ap (λ (m : Seen). ran m left) is_old ∙ ap (ran old) whole

        code_later : later.code ≡ old.code
        code_later = ap (λ (m : Seen). m.code) to_all

        world_later : later.world ≡ (word_run old.code old.groups all).0
        world_later =
            ap (λ (m : Seen). m.world) to_all
            ∙ ap (λ (m : Seen). (run (word_kind m.code m.groups) (m.taken + 1) all m.world).0) fresh

        same_later : length later.world.processes ≡ length old.world.processes
        same_later =
            ap (λ (m : Seen). length m.world.processes) to_all
            ∙ (run-size (word_kind old.code old.groups) (old.taken + 1) all old.world).of_processes

        pub states_each : {A : Type 0} (f : Process Standing Copy → A) → length (map f later.world.processes) ≡ length names.processes.items
        states_each f = length-map later.world.processes f ∙ same_later ∙ sym names_each

        pub end_fits : IsSoundFor old.code old.groups
            → Fits names (map (λ (q : Process Standing Copy). variable_words later.code q.state) later.world.processes)
            (counts_sent later.code (map (λ (q : Process Standing Copy). q.state) later.world.processes) 0 later.code.channels)
            (counts_taken later.code (map (λ (q : Process Standing Copy). q.state) later.world.processes) 0 later.code.channels)
        end_fits (counts, sound) =
            let w = (word_run old.code old.groups all).0 in
            let as_many : length w.processes ≡ length old.code.processes =
            ap (λ (v : WordWorld). length v.processes) (sym world_later) ∙ same_later ∙ processes_each in
            let at_end = ending_fits old.code old.groups counts names w sound fit as_many (runs_own old.code old.groups counts sound all) in
            subst (λ c. Fits names (map (λ (q : Process Standing Copy). variable_words c q.state) later.world.processes)
            (counts_sent c (map (λ (q : Process Standing Copy). q.state) later.world.processes) 0 c.channels)
            (counts_taken c (map (λ (q : Process Standing Copy). q.state) later.world.processes) 0 c.channels)) (sym code_later)
            (subst (λ (v : WordWorld). Fits names (map (λ (q : Process Standing Copy). variable_words old.code q.state) v.processes)
            (counts_sent old.code (map (λ (q : Process Standing Copy). q.state) v.processes) 0 old.code.channels)
            (counts_taken old.code (map (λ (q : Process Standing Copy). q.state) v.processes) 0 old.code.channels)) (sym world_later) at_end)

        pub ending_text : naming names ≡ old.code.names → (n : ℕ) → n ≡ length all
            → end_text (naming names) n (word_final later.code later.world)
            ≡ end_text old.code.names (length all) (word_final old.code (word_run old.code old.groups all).0)
        ending_text named n counted =
            ap (λ one. end_text one n (word_final later.code later.world)) named
            ∙ ap (λ k. end_text old.code.names k (word_final later.code later.world)) counted
            ∙ ap (λ c. end_text old.code.names (length all) (word_final c later.world)) code_later
            ∙ ap (λ (v : WordWorld). end_text old.code.names (length all) (word_final old.code v)) world_later

-- The three parts of a run's text.
module _ (m : Seen) (all : List ℕ) where
  abbrev first_part : List ℕ
  first_part = told_text m.code.names 0 (told_at_opening (opening_of m.code m.groups))

  abbrev second_part : List ℕ
  second_part = all_told m.code.names 1 (word_run m.code m.groups all).1

  abbrev third_part : List ℕ
  third_part = end_text m.code.names (length all) (word_final m.code (word_run m.code m.groups all).0)

  pub stopped_at_first : {D : Type 0} (w0 w1 : Option (List ℕ)) (f0 f1 : Faults) (e : Failed) (r : Result (Unit {0}) D) → IsErr r
      → (text : List ℕ) → text ≡ first_part → Puts {T = Unit {0}} {E = Failed} text w0 w1 f0 f1 (Err e)
      → Puts (word_text m.code m.groups all) w0 w1 f0 f1 r
  stopped_at_first w0 w1 f0 f1 e r is_err text same wrote =
      puts_stopped_at first_part (second_part ++ third_part) w0 w1 f0 f1 e r is_err
      (puts_same text first_part w0 w1 f0 f1 (Err e) same wrote)

  pub stopped_at_second : {D : Type 0} (w0 w1 w2 : Option (List ℕ)) (f0 f1 f2 : Faults) (e : Failed) (r : Result (Unit {0}) D) → IsErr r
      → (text turns : List ℕ) → text ≡ first_part → turns ≡ second_part
      → Puts {T = Unit {0}} {E = Failed} text w0 w1 f0 f1 (Ok tt) → Puts {T = Unit {0}} {E = Failed} turns w1 w2 f1 f2 (Err e)
      → Puts (word_text m.code m.groups all) w0 w2 f0 f2 r
  stopped_at_second w0 w1 w2 f0 f1 f2 e r is_err text turns same too wrote wrote_turns =
      puts_both first_part (second_part ++ third_part) w0 w1 w2 f0 f1 f2 tt r
      (puts_same text first_part w0 w1 f0 f1 (Ok tt) same wrote)
      (puts_stopped_at second_part third_part w1 w2 f1 f2 e r is_err (puts_same turns second_part w1 w2 f1 f2 (Err e) too wrote_turns))

  pub written_whole : (w0 w1 w2 w3 : Option (List ℕ)) (f0 f1 f2 f3 : Faults) (r : Result (Unit {0}) Failed) (text turns ending : List ℕ)
      → text ≡ first_part → turns ≡ second_part → ending ≡ third_part
      → Puts {T = Unit {0}} {E = Failed} text w0 w1 f0 f1 (Ok tt) → Puts {T = Unit {0}} {E = Failed} turns w1 w2 f1 f2 (Ok tt)
      → Puts ending w2 w3 f2 f3 r → Puts (word_text m.code m.groups all) w0 w3 f0 f3 r
  written_whole w0 w1 w2 w3 f0 f1 f2 f3 r text turns ending same too last wrote wrote_turns wrote_end =
      puts_both first_part (second_part ++ third_part) w0 w1 w3 f0 f1 f3 tt r
      (puts_same text first_part w0 w1 f0 f1 (Ok tt) same wrote)
      (puts_both second_part third_part w1 w2 w3 f1 f2 f3 tt r (puts_same turns second_part w1 w2 f1 f2 (Ok tt) too wrote_turns)
      (puts_same ending third_part w2 w3 f2 f3 r last wrote_end))
