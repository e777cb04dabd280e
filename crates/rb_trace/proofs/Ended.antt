-- The lines of how a run ended.
use Rattle.std.proofs.Common.{◌≡◌, ℕ, ℤ, zero, suc, ◌+◌, ◌<◌, ◌≤◌, List, [], ◌∷◌, ◌++◌, length, map, take, drop, get_or, slice_get, slice_index, codes, decimal, Some, refl, sym, ap, ◌∙◌, subst, arith, append_assoc, drop-cons, add-one, drop_of_length-le, length-drop, length-take}
use Rattle.std.specs.List.{AllByRecursion, AllZip}
use Rattle.std.specs.Fmt.{signed_decimal}
use Rattle.std.specs.Option.{unwrap_or}
use Rattle.std.proofs.lemmas.List.{get_or-take, get_or-drop, length-take-le}
use Rattle.std.proofs.lemmas.Option.{unwrap_or-slice_get}
use Rattle.rb_base.specs.declared.event.State.{State}
use Rattle.rb_base.specs.declared.names.Names.{Names}
use Rattle.rb_base.specs.declared.names.ProcessNames.{ProcessNames}
use Rattle.rb_base.specs.Lines.{belonging}
use Rattle.rb_trace.proofs.Waiting.{from_own}
use Rattle.rb_world.specs.World.{ProcessStatus, Running, Finished, FailedWith}
use Rattle.rb_world.specs.Text.{ProcessNaming, Final, status_words, process_lines, end_text, values_text, line_of, variable_lines, value_lines, channel_lines}
use Rattle.rb_trace.specs.Naming.{naming, process_naming}
use Rattle.rb_trace.specs.Lines.{spaced}
use Rattle.rb_trace.specs.Ending.{state_words}
use Rattle.rb_trace.specs.Fitting.{ProcessFits}
use Rattle.rb_trace.specs.Ended.{state_of, IsEndOf, process_text, processes_text, ended_text}

-- an element that is there is the first of those from its place on
pub from_found : {X : Type 0} (xs : List X) (i : ℕ) (x : X) → slice_get xs i ≡ Some x → drop i xs ≡ x ∷ drop (i + 1) xs
from_found {X} [] i x e = cc
from_found {X} (one ∷ xs) zero x e = let same : one ≡ x = cc in ap (λ (y : X). y ∷ xs) same
from_found {X} (one ∷ xs) (suc i) x e =
    from_found xs i x e ∙ ap (λ (n : ℕ). x ∷ drop n xs) (add-one i) ∙ ap (λ (n : ℕ). x ∷ drop n (one ∷ xs)) (sym (add-one (suc i)))

-- a status is printed as its state
words_same : (status : ProcessStatus × ℕ) → state_words (state_of status) ≡ status_words status
words_same (Running, levels) = refl
words_same (Finished, levels) = refl
words_same (FailedWith cause, levels) = refl

processes_same : (processes : List ProcessNaming) (statuses : List (ProcessStatus × ℕ)) (words : List (List ℤ)) →
    processes_text processes (map state_of statuses) words ≡ process_lines processes statuses words
processes_same [] statuses words = refl
processes_same (p ∷ ps) [] words = refl
processes_same (p ∷ ps) (s ∷ ss) [] = refl
processes_same (p ∷ ps) (s ∷ ss) (ws ∷ wss) =
    append_assoc (line_of (p.name ∷ state_words (state_of s))) (variable_lines p ws) (processes_text ps (map state_of ss) wss)
    ∙ ap (λ (words : List (List ℕ)). line_of (p.name ∷ words) ++ (variable_lines p ws ++ processes_text ps (map state_of ss) wss)) (words_same s)
    ∙ ap (λ (rest : List ℕ). line_of (p.name ∷ status_words s) ++ (variable_lines p ws ++ rest)) (processes_same ps ss wss)

-- an element of a list is the first of those from its place on
pub from_item : {X : Type 0} (xs : List X) (i : ℕ) (x : X) → i < length xs → x ≡ get_or xs i x → drop i xs ≡ x ∷ drop (i + 1) xs
from_item xs i x within is =
    drop-cons xs i x within ∙ ap (λ y. y ∷ drop (suc i) xs) (sym is) ∙ ap (λ (n : ℕ). x ∷ drop n xs) (sym (add-one i))

-- the first of the processes that are left
pub process_next : (processes : List ProcessNames) (states : List State) (words : List (List ℤ)) (i : ℕ) (process : ProcessNames) (state : State) →
    i < length processes → process ≡ get_or processes i process → slice_get states i ≡ Some state → i < length words →
    processes_text (map process_naming (drop i processes)) (drop i states) (drop i words)
    ≡ process_text (process_naming process) state (belonging words i)
    ++ processes_text (map process_naming (drop (i + 1) processes)) (drop (i + 1) states) (drop (i + 1) words)
process_next processes states words i process state within is known long =
    ap (λ (ps : List ProcessNames). processes_text (map process_naming ps) (drop i states) (drop i words)) (from_item processes i process within is)
    ∙ ap (λ (ss : List State). processes_text (map process_naming (process ∷ drop (i + 1) processes)) ss (drop i words))
    (from_found states i state known)
    ∙ ap
    (λ (wss : List (List ℤ)). processes_text (map process_naming (process ∷ drop (i + 1) processes)) (state ∷ drop (i + 1) states) wss)
    (from_own i words long)

-- and of those whose variables alone are written
pub values_next : (processes : List ProcessNames) (words : List (List ℤ)) (i : ℕ) (process : ProcessNames) →
    i < length processes → process ≡ get_or processes i process → i < length words →
    value_lines (map process_naming (drop i processes)) (drop i words)
    ≡ variable_lines (process_naming process) (belonging words i) ++ value_lines (map process_naming (drop (i + 1) processes)) (drop (i + 1) words)
values_next processes words i process within is long =
    ap (λ (ps : List ProcessNames). value_lines (map process_naming ps) (drop i words)) (from_item processes i process within is)
    ∙ ap (λ (wss : List (List ℤ)). value_lines (map process_naming (process ∷ drop (i + 1) processes)) wss) (from_own i words long)

-- a count at its place
from_count : (counts : List ℕ) (i : ℕ) → i < length counts → drop i counts ≡ slice_index counts i ∷ drop (i + 1) counts
from_count counts i within = drop-cons counts i 0 within ∙ ap (λ (n : ℕ). slice_index counts i ∷ drop n counts) (sym (add-one i))

-- the line of a channel
abbrev pub channel_line : List ℕ → ℕ → ℕ → List ℕ
channel_line name sent taken = line_of (name ∷ codes "sent" ∷ decimal sent ∷ codes "taken" ∷ decimal taken ∷ [])

-- the first of the channels that are left
pub channel_next : (names : List (List ℕ)) (sent taken : List ℕ) (i : ℕ) (name : List ℕ) →
    i < length names → name ≡ get_or names i name → i < length sent → i < length taken →
    channel_lines (drop i names) (drop i sent) (drop i taken)
    ≡ channel_line name (slice_index sent i) (slice_index taken i) ++ channel_lines (drop (i + 1) names) (drop (i + 1) sent) (drop (i + 1) taken)
channel_next names sent taken i name within is long_sent long_taken =
    ap (λ (cs : List (List ℕ)). channel_lines cs (drop i sent) (drop i taken)) (from_item names i name within is)
    ∙ ap (λ (ss : List ℕ). channel_lines (name ∷ drop (i + 1) names) ss (drop i taken)) (from_count sent i long_sent)
    ∙ ap (λ (ts : List ℕ). channel_lines (name ∷ drop (i + 1) names) (slice_index sent i ∷ drop (i + 1) sent) ts) (from_count taken i long_taken)

-- the first of the words of a variable that are left
pub word_next : (words : List ℤ) (at size k : ℕ) (value : ℤ) → at + size ≤ length words → k < size → slice_get words (at + k) ≡ Some value →
    spaced (map signed_decimal (drop k (take size (drop at words))))
    ≡ (32 ∷ signed_decimal value) ++ spaced (map signed_decimal (drop (k + 1) (take size (drop at words))))
word_next words at size k value within small found =
    let own = take size (drop at words) in
    let long : k < length own = omega (arith, length-take-le size (drop at words) (omega (arith, length-drop at words)), small) in
    let is : value ≡ get_or own k value =
    sym (get_or-take size (drop at words) k value small ∙ get_or-drop at words k value
    ∙ sym (unwrap_or-slice_get words (at + k) value) ∙ ap (λ o. unwrap_or o value) found) in
    ap (λ (values : List ℤ). spaced (map signed_decimal values)) (from_item own k value long is)

-- none is left
pub no_word : (words : List ℤ) (at size k : ℕ) → size ≤ k → spaced (map signed_decimal (drop k (take size (drop at words)))) ≡ []
no_word words at size k past =
    ap (λ (values : List ℤ). spaced (map signed_decimal values))
    (drop_of_length-le (take size (drop at words)) (omega (arith, past, length-take size (drop at words))))

-- the words of a process whose variables fit
pub fits_at : (processes : List ProcessNames) (words : List (List ℤ)) (i : ℕ) (process : ProcessNames)
    → AllZip ProcessFits processes words → i < length processes
    → process ≡ get_or processes i process → ProcessFits process (belonging words i)
fits_at [] words i process h within is = absurd (omega (arith, within))
fits_at (p ∷ ps) [] i process h within is = absurd h
fits_at (p ∷ ps) (ws ∷ wss) zero process h within is = subst (λ (one : ProcessNames). ProcessFits one ws) (sym is) h.0
fits_at (p ∷ ps) (ws ∷ wss) (suc i) process h within is = fits_at ps wss i process h.1 (omega (arith, within)) is

pub fits_length : (processes : List ProcessNames) (words : List (List ℤ)) → AllZip ProcessFits processes words → length words ≡ length processes
fits_length [] [] h = refl
fits_length [] (ws ∷ wss) h = absurd h
fits_length (p ∷ ps) [] h = absurd h
fits_length (p ∷ ps) (ws ∷ wss) h = ap suc (fits_length ps wss h.1)

-- one of several for which a fact holds
pub each_at : {X : Type 0} (P : X → Type 0) (xs : List X) (i : ℕ) (x : X) → AllByRecursion P xs → i < length xs → x ≡ get_or xs i x → P x
each_at P [] i x h within is = absurd (omega (arith, within))
each_at P (one ∷ xs) zero x h within is = subst P (sym is) h.0
each_at P (one ∷ xs) (suc i) x h within is = each_at P xs i x h.1 (omega (arith, within)) is

-- the texts of an ending, for each way to tell it
pub ended_is : (names : Names) (states : List State) (words : List (List ℤ)) (sent taken : List ℕ) (final : Final) (turns : ℕ)
    → IsEndOf states words sent taken final →
    line_of (codes "end" ∷ decimal turns ∷ []) ++ ended_text (naming names) states words sent taken ≡ end_text (naming names) turns final
ended_is names states words sent taken final turns ended =
    let processes = map process_naming names.processes.items in
    let channels = names.channels.items in
    let line = line_of (codes "end" ∷ decimal turns ∷ []) in
    let first : processes_text processes states words ≡ process_lines processes final.statuses final.words =
    ap (λ (ss : List State). processes_text processes ss words) (sym ended.states)
    ∙ ap (processes_text processes (map state_of final.statuses)) (sym ended.words)
    ∙ processes_same processes final.statuses final.words in
    ap (λ (x : List ℕ). line ++ (x ++ channel_lines channels sent taken)) first
    ∙ ap (λ (ss : List ℕ). line ++ (process_lines processes final.statuses final.words ++ channel_lines channels ss taken)) (sym ended.sent)
    ∙ ap (λ (ts : List ℕ). line ++ (process_lines processes final.statuses final.words ++ channel_lines channels final.sent ts)) (sym ended.taken)

pub values_are : (names : Names) (states : List State) (words : List (List ℤ)) (sent taken : List ℕ) (final : Final)
    → IsEndOf states words sent taken final →
    value_lines (map process_naming names.processes.items) words ++ channel_lines names.channels.items sent taken ≡ values_text (naming names) final
values_are names states words sent taken final ended =
    let processes = map process_naming names.processes.items in
    let channels = names.channels.items in
    ap (λ (wss : List (List ℤ)). value_lines processes wss ++ channel_lines channels sent taken) (sym ended.words)
    ∙ ap (λ (ss : List ℕ). value_lines processes final.words ++ channel_lines channels ss taken) (sym ended.sent)
    ∙ ap (λ (ts : List ℕ). value_lines processes final.words ++ channel_lines channels final.sent ts) (sym ended.taken)
