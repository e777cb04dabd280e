-- The values in which a plain run ends, one after another.
use Rattle.std.proofs.Common.{◌≡◌, ◌<◌, ◌≤◌, ◌+◌, ℕ, ℤ, pos, zero, suc, List, [], ◌∷◌, ◌++◌, length, map, drop, take, get_or, slice_get, option_map, Option, Some, None, refl, sym, ap, ap₂, ◌∙◌, subst, arith, length-drop, subst₂}
use Rattle.std.specs.List.{AllByRecursion, flat_map}
use Rattle.std.specs.Option.{unwrap_or}
use Rattle.std.proofs.lemmas.List.{get_or-drop, get_or-map, length-map, take_more}
use Rattle.std.proofs.lemmas.Option.{slice_get-map, unwrap_or-slice_get}
use Rattle.rb_base.specs.declared.names.ProcessNames.{ProcessNames}
use Rattle.rb_base.specs.declared.names.Variable.{Variable}
use Rattle.rb_syntax.specs.declared.program.Channel.{Channel}
use Rattle.rb_syntax.specs.declared.program.Program.{Program}
use Rattle.rb_syntax.specs.Plain.{channel_declaration, tree}
use Rattle.rb_syntax.specs.Tree.{Tree}
use Rattle.rb_trace.proofs.Ended.{channel_line, from_item}
use Rattle.rb_trace.specs.Fitting.{LiesWithin}
use Rattle.rb_trace.specs.Naming.{process_naming, variable_naming}
use Rattle.rb_world.specs.Kind.{Ends}
use Rattle.rb_world.specs.World.{Process as Seen}
use Rattle.rb_world.specs.Text.{channel_lines, size_of, value_lines, variable_line, variable_lines}
use Rattle.rb_meaning.specs.Environment.{global_words}
use Rattle.rb_meaning.specs.Groups.{channels_of, ends_of}
use Rattle.rb_meaning.specs.Meaning.{by_state, count_sent, count_taken, sent_on, states_of, taken_on}
use Rattle.rb_meaning.specs.State.{State}
use Rattle.rb_meaning.specs.PlainRun.{EntryPoint}
use Rattle.rb_levels.specs.declared.process.Process.{Process}
use Rattle.rb_plain.specs.Played.{ProcessesLie, VariablesLie, own_words, words_of_all}
use Rattle.rb_walk.specs.States.{state_of}
use Rattle.rb_plain.proofs.LentEnds.{none_at, there_at}
use Rattle.rb_levels.specs.Worlds.{process_of, world_of}

-- what the state of a process answers that is there
pub state_there : {A : Type 0} (f : State → A) (d : A) (tree : Tree) (processes : List Process) (i : ℕ) (one : Process)
    → i < length processes → one ≡ get_or processes i one → f (state_of one.state) ≡ by_state f d (slice_get (states_of (world_of tree processes)) i)
state_there f d tree processes i one within is =
    sym (ap (by_state f d) (slice_get-map (λ (q : Seen State EntryPoint). q.state) (map process_of processes) i
    ∙ ap (option_map (λ (q : Seen State EntryPoint). q.state)) (there_at processes i one within is)))

-- what is answered where there is none
pub state_past : {A : Type 0} (f : State → A) (d : A) (tree : Tree) (processes : List Process) (i : ℕ)
    → length processes ≤ i → d ≡ by_state f d (slice_get (states_of (world_of tree processes)) i)
state_past f d tree processes i past =
    sym (ap (by_state f d) (slice_get-map (λ (q : Seen State EntryPoint). q.state) (map process_of processes) i
    ∙ ap (option_map (λ (q : Seen State EntryPoint). q.state)) (none_at processes i past)))

-- a variable without a size has one word
pub size_same : (size : Option ℕ) → unwrap_or size 1 ≡ size_of size
size_same None = refl
size_same (Some n) = refl

-- one more word of a variable
pub word_more : (words : List ℤ) (at size k : ℕ) (so_far now : List ℤ) (word : ℤ) → at + size ≤ length words → k < size
    → so_far ≡ take k (drop at words) → word ≡ unwrap_or (slice_get words (at + k)) (pos 0) → now ≡ so_far ++ word ∷ []
    → now ≡ take (k + 1) (drop at words)
word_more words at size k so_far now word within small e is grown =
    let own = drop at words in
    let long : k < length own = omega (arith, length-drop at words, within, small) in
    grown
    ∙ ap₂ (λ (xs : List ℤ) (x : ℤ). xs ++ x ∷ []) e (is ∙ unwrap_or-slice_get words (at + k) (pos 0) ∙ sym (get_or-drop at words k (pos 0)))
    ∙ sym (take_more own k (pos 0) long)

-- the next of the variables that are left
pub next_variable : (process : List ℕ) (words : List ℤ) (variables : List Variable) (i : ℕ) (one : Variable)
    → i < length variables → one ≡ get_or variables i one
    → flat_map (variable_line process words) (map variable_naming (drop i variables))
    ≡ variable_line process words (variable_naming one) ++ flat_map (variable_line process words) (map variable_naming (drop (i + 1) variables))
next_variable process words variables i one within is =
    ap (λ (vs : List Variable). flat_map (variable_line process words) (map variable_naming vs)) (from_item variables i one within is)

-- one of several for which a fact holds by recursion
pub lies_at : (words : List ℤ) (variables : List Variable) (i : ℕ) (one : Variable) → AllByRecursion (LiesWithin (length words)) variables
    → i < length variables → one ≡ get_or variables i one → LiesWithin (length words) one
lies_at words [] i one h within is = absurd (omega (arith, within))
lies_at words (first ∷ variables) zero one h within is = subst (LiesWithin (length words)) (sym is) h.0
lies_at words (first ∷ variables) (suc i) one h within is = lies_at words variables i one h.1 (omega (arith, within)) is

-- as many processes have words as have names, and the variables of each lie within its words
lie_length : (names : List ProcessNames) (words : List (List ℤ)) → ProcessesLie names words → length words ≡ length names
lie_length [] [] h = refl
lie_length [] (ws ∷ words) h = absurd h
lie_length (one ∷ names) [] h = absurd h
lie_length (one ∷ names) (ws ∷ words) h = ap suc (lie_length names words h.1)

lie_at : (names : List ProcessNames) (words : List (List ℤ)) (i : ℕ) (one : ProcessNames) (own : List ℤ) → ProcessesLie names words → i < length names
    → one ≡ get_or names i one → own ≡ get_or words i own → VariablesLie one own
lie_at [] words i one own h within is at = absurd (omega (arith, within))
lie_at (first ∷ names) [] i one own h within is at = absurd h
lie_at (first ∷ names) (ws ∷ words) zero one own h within is at = subst₂ VariablesLie (sym is) (sym at) h.0
lie_at (first ∷ names) (ws ∷ words) (suc i) one own h within is at = lie_at names words i one own h.1 (omega (arith, within)) is at

-- the process of a name is there
pub is_there : (names : List ProcessNames) (processes : List Process) (i : ℕ) → ProcessesLie names (words_of_all processes)
    → i < length names → i < length processes
is_there names processes i lie within =
    omega (arith, within, lie_length names (words_of_all processes) lie, length-map processes (λ (p : Process). global_words p.state.environment))

module _ (names : List ProcessNames) (processes : List Process) (i : ℕ) (one : ProcessNames) (process : Process)
    (lie : ProcessesLie names (words_of_all processes))
    (within : i < length names) (is : one ≡ get_or names i one) (at : process ≡ get_or processes i process) where
  own_words_at : global_words process.state.environment ≡ get_or (words_of_all processes) i (global_words process.state.environment)
  own_words_at =
      ap (λ (p : Process). global_words p.state.environment) at
      ∙ sym (get_or-map (λ (p : Process). global_words p.state.environment) processes i process
      (global_words process.state.environment) (is_there names processes i lie within))

  -- its variables lie within its words
  pub own_lie : VariablesLie one (global_words process.state.environment)
  own_lie = lie_at names (words_of_all processes) i one (global_words process.state.environment) lie within is own_words_at

  -- they are the next of those that are left
  pub next_values : value_lines (map process_naming (drop i names)) (drop i (words_of_all processes))
      ≡ variable_lines (process_naming one) (global_words process.state.environment)
      ++ value_lines (map process_naming (drop (i + 1) names)) (drop (i + 1) (words_of_all processes))
  next_values =
      ap₂ (λ (ns : List ProcessNames) (wss : List (List ℤ)). value_lines (map process_naming ns) wss) (from_item names i one within is)
      (from_item (words_of_all processes) i (global_words process.state.environment)
      (omega (arith, is_there names processes i lie within, length-map processes (λ (p : Process). global_words p.state.environment))) own_words_at)

-- the words of the processes of a world are those in memory
pub words_same : (tree : Tree) (processes : List Process) → own_words (world_of tree processes) ≡ words_of_all processes
words_same tree [] = refl
words_same tree (process ∷ processes) = ap (λ (words : List (List ℤ)). global_words process.state.environment ∷ words) (words_same tree processes)

-- the next of the channels that are left
pub next_channel : (program : Program) (states : List State) (names : List (List ℕ)) (i : ℕ) (name : List ℕ) (channel : Channel)
    → i < length names → name ≡ get_or names i name → i < length program.channels.items → channel ≡ get_or program.channels.items i channel
    → let channels = channels_of (tree program) in
    let ends = ends_of (tree program) (channel_declaration channel) in
    channel_lines (drop i names) (count_sent states i (drop i channels)) (count_taken states i (drop i channels))
    ≡ channel_line name (by_state (λ s. length (sent_on s i)) 0 (slice_get states ends.sender))
    (by_state (λ s. taken_on s i) 0 (slice_get states ends.receiver))
    ++ channel_lines (drop (i + 1) names) (count_sent states (i + 1) (drop (i + 1) channels)) (count_taken states (i + 1) (drop (i + 1) channels))
next_channel program states names i name channel within is there at =
    let declared = map channel_declaration program.channels.items in
    let channels = channels_of (tree program) in
    let ends = ends_of (tree program) (channel_declaration channel) in
    let long : i < length declared = omega (arith, there, length-map program.channels.items channel_declaration) in
    let found : ends ≡ get_or channels i ends =
    ap (λ (c : Channel). ends_of (tree program) (channel_declaration c)) at
    ∙ sym (get_or-map (ends_of (tree program)) declared i (channel_declaration channel) ends long
    ∙ ap (ends_of (tree program)) (get_or-map channel_declaration program.channels.items i channel (channel_declaration channel) there)) in
    ap₂ (λ (ns : List (List ℕ)) (es : List Ends). channel_lines ns (count_sent states i es) (count_taken states i es))
    (from_item names i name within is)
    (from_item channels i ends (omega (arith, long, length-map declared (ends_of (tree program)))) found)
