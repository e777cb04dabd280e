-- What a machine tells of a process that runs is what it waits for.
use Rattle.std.proofs.Common.{◌≡◌, ℕ, ◌+◌, ◌<◌, Bool, true, false, cond, List, [], ◌∷◌, ◌++◌, codes, drop, get_or, length, Option, Some, None, slice_get, refl, sym, ap, ap₂, ◌∙◌}
use Rattle.std.specs.Option.{option_map}
use Rattle.std.proofs.lemmas.Option.{slice_get-get_or, slice_get-map}
use Rattle.rb_base.specs.declared.names.Names.{Names}
use Rattle.rb_base.specs.declared.names.ProcessNames.{ProcessNames}
use Rattle.rb_base.specs.declared.event.State.{State}
use Rattle.rb_base.specs.declared.event.State.TheVariants as state
use Rattle.rb_trace.specs.Ended.{state_of}
use Rattle.rb_trace.specs.Naming.{naming, process_naming}
use Rattle.rb_world.specs.Kind.{Want, NothingLeft, SendsOn, ReceivesOn, MayReceiveOn, Enters, Starts, Acts}
use Rattle.rb_world.specs.Text.{Naming, line_of, process_name, process_word}
use Rattle.rb_world.specs.World.{Level, Process, ProcessStatus, Running, Finished, FailedWith, last_of}
use Rattle.rb_code.specs.Instructions.Plain.{Code}
use Rattle.rb_code.specs.WordMachine.Turn.{Copy, Standing, want}
use Rattle.rb_code.specs.WordMachine.WordKind.{word_kind}
use Rattle.rb_world.specs.Kind.{Membership}
use Rattle.rb_proc.specs.Process.{wanted_by, wanted_now, wanted_of}
use Rattle.rb_proc.specs.declared.answers.Wanted.{Wanted}
use Rattle.rb_proc.specs.declared.answers.Wanted.TheVariants.{Line}
use Rattle.rb_recovery.specs.Channels.{conversation_in}
use Rattle.rb_recovery.specs.Reading.{line_stood_at, states_of}
use Rattle.rb_stuck.specs.Stuck.{conversation_words, has_ended, is_final, line_words, waiting_line, waiting_text, waiting_words, want_words}
use Rattle.rb_stuck.specs.Wanted.{wanted_words}
use Rattle.rb_stuck.proofs.Surveyed.{ended_state, is_ended, left_from, process_seen}

module _ (names : Naming) where
  line_told : (o : Option (Level Copy)) → line_words names o ≡ conversation_words names (conversation_in o)
  line_told None = refl
  line_told (Some level) = refl

  want_told : (w : Want) → want_words names w ≡ wanted_words names (wanted_by w) None
  want_told NothingLeft = refl
  want_told (SendsOn c) = refl
  want_told (ReceivesOn c) = refl
  want_told (MayReceiveOn c) = refl
  want_told (Enters facts) = refl
  want_told Starts = refl
  want_told Acts = refl

  either_told : (b : Bool) (o : Option (Level Copy)) (w : Want)
      → cond b (codes "at" ∷ codes "line" ∷ line_words names o) (want_words names w)
      ≡ wanted_words names (cond b Line (wanted_by w)) (cond b (conversation_in o) None)
  either_told true o w = ap (λ (words : List (List ℕ)). codes "at" ∷ codes "line" ∷ words) (line_told o)
  either_told false o w = want_told w

  -- of a process that runs
  pub words_told : (c : Code) (groups : List Membership) (q : Process Standing Copy) (wanted : Wanted) (line : Option ℕ) → q.status ≡ Running
      → wanted ≡ wanted_of c q → line ≡ line_stood_at q → waiting_words (word_kind c groups) names q ≡ wanted_words names wanted line
  words_told c groups q wanted line runs is stood =
      either_told q.at_line (last_of q.levels) (want c q.state)
      ∙ ap₂ (wanted_words names)
      (sym (is ∙ ap (λ (status : ProcessStatus). wanted_now c status q.at_line q.state) runs)) (sym stood)

-- what is left to write, from one process on
pub waiting_next : (c : Code) (groups : List Membership) (names : Naming) (qs : List (Process Standing Copy)) (p : ℕ) (q : Process Standing Copy)
    → slice_get qs p ≡ Some q
    → waiting_text (word_kind c groups) names p (drop p qs)
    ≡ cond (has_ended q) [] (waiting_line (word_kind c groups) names p q) ++ waiting_text (word_kind c groups) names (p + 1) (drop (p + 1) qs)
waiting_next c groups names qs p q there = ap (waiting_text (word_kind c groups) names p) (left_from qs p q there)

-- who has a state of one that runs, runs
pub runs_told : (status : ProcessStatus) (levels n : ℕ) → state_of (status, levels) ≡ state.Running n → status ≡ Running
runs_told Running levels n e = refl
runs_told Finished levels n e = absurd (cc)
runs_told (FailedWith cause) levels n e = absurd (cc)

-- the name with which the line of process number p begins
name_told : (names : Names) (p : ℕ) (process : ProcessNames) → p < length names.processes.items → process ≡ get_or names.processes.items p process
    → process_word (naming names) p ≡ process.name
name_told names p process less is =
    ap process_name (slice_get-map process_naming names.processes.items p)
    ∙ ap (λ (o : Option ProcessNames). process_name (option_map process_naming o))
    (slice_get-get_or names.processes.items p process less ∙ ap Some (sym is))

-- What is left to write from process number p on, of which this state is told.
module _ (c : Code) (groups : List Membership) (names : Names) (qs : List (Process Standing Copy)) (p : ℕ) (one : State)
    (told : slice_get (states_of qs) p ≡ Some one) where
  abbrev left : ℕ → List ℕ
  left r = waiting_text (word_kind c groups) (naming names) r (drop r qs)

  -- the line of one that runs, and the others
  pub line_then : (process : ProcessNames) (levels : ℕ) (wanted : Wanted) (line : Option ℕ) → one ≡ state.Running levels
      → p < length names.processes.items → process ≡ get_or names.processes.items p process
      → ((q : Process Standing Copy) → slice_get qs p ≡ Some q → wanted ≡ wanted_of c q)
      → ((q : Process Standing Copy) → slice_get qs p ≡ Some q → line ≡ line_stood_at q)
      → left p ≡ line_of (process.name ∷ codes "waits" ∷ wanted_words (naming names) wanted line) ++ left (p + 1)
  line_then process levels wanted line runs less is wants stands =
      let seen = process_seen qs p one told in
      let q = seen.0 in
      let running : q.status ≡ Running = runs_told q.status (length q.levels) levels (seen.2 ∙ runs) in
      waiting_next c groups (naming names) qs p q seen.1
      ∙ ap (λ (part : List ℕ). part ++ left (p + 1))
      (ap (λ (status : ProcessStatus). cond (is_final status) [] (waiting_line (word_kind c groups) (naming names) p q)) running
      ∙ ap₂ (λ (word : List ℕ) (words : List (List ℕ)). line_of (word ∷ codes "waits" ∷ words)) (name_told names p process less is)
      (words_told (naming names) c groups q wanted line running (wants q seen.1) (stands q seen.1)))

  -- and nothing of one that has ended
  pub none_then : is_ended one ≡ true → left p ≡ left (p + 1)
  none_then ended =
      let seen = process_seen qs p one told in
      let q = seen.0 in
      waiting_next c groups (naming names) qs p q seen.1
      ∙ ap (λ b. cond b [] (waiting_line (word_kind c groups) (naming names) p q) ++ left (p + 1))
      (sym (ended_state q.status (length q.levels)) ∙ ap is_ended seen.2 ∙ ended)
