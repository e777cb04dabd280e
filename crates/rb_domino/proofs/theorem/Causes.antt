-- What stands before what in each history, line by line.
use Rattle.std.proofs.Common.{◌≡◌, ◌≢◌, ℕ, zero, suc, ◌+◌, ◌≤◌, ◌<◌, true, false, ◌⊎◌, inl, inr, List, [], ◌∷◌, ◌++◌, length, slice_get, slice_index_or, Some, refl, ap, ◌∙◌, sym, subst, arith}
use Rattle.std.specs.List.{list_any}
use Rattle.std.proofs.lemmas.Bool.{cases_eq}
use Rattle.std.proofs.lemmas.List.{get_or_append_left}
use Rattle.std.proofs.lemmas.Map.Keys.{any_passes_from_place}
use Rattle.std.proofs.lemmas.Option.{slice_get-get_or}
use Rattle.rb_domino.specs.declared.line.Line.{Line}
use Rattle.rb_domino.specs.declared.line.Line.TheVariants.{Begin, Point, Send, Take, Fail}
use Rattle.rb_domino.specs.declared.line.Message.{Message}
use Rattle.rb_domino.specs.History.{FailsAt, IsHistory, IsTakenAt, Story, begun, failed, has_failed, is_failure, nothing, pointed, sent, sent_by, taken}
use Rattle.rb_domino.specs.Recovery.{message_at, no_message}
use Rattle.rb_domino.specs.Board.{IsBetween, IsOrderly, NamesKnown}
use Rattle.rb_domino.proofs.FirstFall.{all_at}
use Rattle.rb_domino.proofs.Orderly.{get_added, length_added, orderly}

-- a process begins before a place
pub record BeginsBefore (lines : List Line) (p end : ℕ) : Type 0 where
  pub place : ℕ
  pub before : place < end
  pub is : slice_get lines place ≡ Some (Begin p)

-- a message is sent before it is taken, processes begin before they take or fail, and a failure is last
pub record IsCausal (story : Story) : Type 0 where
  pub begins : (p : ℕ) → p < length story.processes → BeginsBefore story.lines p (length story.lines)
  pub sends : (m at : ℕ) → IsTakenAt story m at → (message_at story m).sent < at
  pub takes : (m at : ℕ) → IsTakenAt story m at → BeginsBefore story.lines (message_at story m).receiver at
  pub fails : (p at : ℕ) → FailsAt story p at → BeginsBefore story.lines p at
  pub last : (p at : ℕ) → FailsAt story p at → at + 1 ≡ length story.lines

-- an element stays where it is
get_more : {X : Type 0} (xs ys : List X) (i : ℕ) (x : X) → slice_get xs i ≡ Some x → slice_get (xs ++ ys) i ≡ Some x
get_more [] ys i x is = absurd (cc)
get_more (z ∷ xs) ys zero x is = is
get_more (z ∷ xs) ys (suc i) x is = get_more xs ys i x is

-- and the last is the last
get_seam : {X : Type 0} (xs : List X) (x : X) → slice_get (xs ++ x ∷ []) (length xs) ≡ Some x
get_seam [] x = refl
get_seam (y ∷ xs) x = get_seam xs x

-- a line more, or a later place
before_more : (lines : List Line) (line : Line) (p end more : ℕ) → end ≤ more → BeginsBefore lines p end → BeginsBefore (lines ++ line ∷ []) p more
before_more lines line p end more up b = record {
  place = b.place;
  before = omega (arith, b.before);
  is = get_more lines (line ∷ []) b.place (Begin p) b.is;
}

-- a message that was taken is known, and lies between processes that are
pub message_known : (story : Story) (m : ℕ) → IsOrderly story → m < length story.messages
    → IsBetween (length story.processes) (length story.lines) (message_at story m)
message_known story m orderly below =
    all_at (IsBetween (length story.processes) (length story.lines)) story.messages m (message_at story m) orderly.messages
    (slice_get-get_or story.messages m no_message below)

-- a line more
added : (story : Story) (processes : List (List ℕ)) (messages : List Message) (line : Line) → IsOrderly story → IsCausal story
    → has_failed story ≡ false
    → ((m : ℕ) → m < length story.messages → slice_index_or messages m no_message ≡ message_at story m)
    → ((p : ℕ) → p < length processes → (p < length story.processes) ⊎ (line ≡ Begin p))
    → ((m : ℕ) → line ≡ Take m → m < length story.messages) → ((p : ℕ) → line ≡ Fail p → p < length story.processes)
    → IsCausal (record { processes = processes; messages = messages; lines = story.lines ++ line ∷ [] })
added story processes messages line orderly causal quiet same new take_known fail_known = record {
  begins = λ p below. begin p (new p below);
  sends = λ m at is. send m at (get_added story.lines line (Take m) at is);
  takes = λ m at is. take m at (get_added story.lines line (Take m) at is);
  fails = λ p at is. fail p at (get_added story.lines line (Fail p) at is);
  last = λ p at is. at_last p at (get_added story.lines line (Fail p) at is);
}
  where
    more : length story.lines ≤ length (story.lines ++ line ∷ [])
    more = omega (arith, length_added story.lines line)

    begin : (p : ℕ) → (p < length story.processes) ⊎ (line ≡ Begin p)
        → BeginsBefore (story.lines ++ line ∷ []) p (length (story.lines ++ line ∷ []))
    begin p (inl below) = before_more story.lines line p (length story.lines) (length (story.lines ++ line ∷ [])) more (causal.begins p below)
    begin p (inr is) = record {
      place = length story.lines;
      before = omega (arith, length_added story.lines line);
      is = get_seam story.lines line ∙ ap (λ (l : Line). Some l) is;
    }

    known : (m at : ℕ) → IsTakenAt story m at → m < length story.messages
    known m at is = all_at (NamesKnown (length story.processes) (length story.messages)) story.lines at (Take m) orderly.lines is

    send : (m at : ℕ) → (IsTakenAt story m at) ⊎ ((at ≡ length story.lines) × (line ≡ Take m)) → (slice_index_or messages m no_message).sent < at
    send m at (inl is) = subst (λ (k : Message). k.sent < at) (sym (same m (known m at is))) (causal.sends m at is)
    send m at (inr (end, is)) =
        let low : (message_at story m).sent < length story.lines = (message_known story m orderly (take_known m is)).sent in
        subst (λ (k : Message). k.sent < at) (sym (same m (take_known m is))) (omega arith)

    take : (m at : ℕ) → (IsTakenAt story m at) ⊎ ((at ≡ length story.lines) × (line ≡ Take m))
        → BeginsBefore (story.lines ++ line ∷ []) (slice_index_or messages m no_message).receiver at
    take m at (inl is) = subst (λ (k : Message). BeginsBefore (story.lines ++ line ∷ []) k.receiver at) (sym (same m (known m at is)))
        (before_more story.lines line (message_at story m).receiver at at (omega arith) (causal.takes m at is))
    take m at (inr (end, is)) = subst (λ (k : Message). BeginsBefore (story.lines ++ line ∷ []) k.receiver at) (sym (same m (take_known m is)))
        (before_more story.lines line (message_at story m).receiver (length story.lines) at (omega arith)
        (causal.begins (message_at story m).receiver (message_known story m orderly (take_known m is)).receiver))

    fail : (p at : ℕ) → (FailsAt story p at) ⊎ ((at ≡ length story.lines) × (line ≡ Fail p)) → BeginsBefore (story.lines ++ line ∷ []) p at
    fail p at (inl is) = before_more story.lines line p at at (omega arith) (causal.fails p at is)
    fail p at (inr (end, is)) = before_more story.lines line p (length story.lines) at (omega arith) (causal.begins p (fail_known p is))

    at_last : (p at : ℕ) → (FailsAt story p at) ⊎ ((at ≡ length story.lines) × (line ≡ Fail p)) → at + 1 ≡ length (story.lines ++ line ∷ [])
    at_last p at (inl is) =
        let loud : list_any is_failure story.lines ≡ true = any_passes_from_place is_failure story.lines at (Fail p) is refl in
        absurd (cc)
    at_last p at (inr (end, is)) = omega (arith, length_added story.lines line)

-- a process of the names with one more
first_or_last : (story : Story) (name : List ℕ) (p : ℕ) → p < length (story.processes ++ name ∷ [])
    → (p < length story.processes) ⊎ (Begin (length story.processes) ≡ Begin p)
first_or_last story name p below = by (cases_eq p (length story.processes))
  where
    by : (p ≡ length story.processes) ⊎ (p ≢ length story.processes) → (p < length story.processes) ⊎ (Begin (length story.processes) ≡ Begin p)
    by (inl same) = inr (ap (λ k. Begin k) (sym same))
    by (inr other) = inl (omega (arith, length_added story.processes name))

-- each history is causal
pub causal : {story : Story} → IsHistory story → IsCausal story
causal nothing = record {
  begins = λ p below. absurd (let never : ⊥ = omega arith in never);
  sends = λ m at is. absurd (cc);
  takes = λ m at is. absurd (cc);
  fails = λ p at is. absurd (cc);
  last = λ p at is. absurd (cc);
}
causal (begun {story} name h quiet new) =
    added story (story.processes ++ name ∷ []) story.messages (Begin (length story.processes)) (orderly h) (causal h) quiet (λ m below. refl)
    (λ p below. first_or_last story name p below) (λ m e. absurd (cc)) (λ p e. absurd (cc))
causal (pointed {story} q h quiet known) =
    added story story.processes story.messages (Point q) (orderly h) (causal h) quiet (λ m below. refl)
    (λ p below. inl below) (λ m e. absurd (cc)) (λ p e. absurd (cc))
causal (sent {story} name p q h quiet new from to) =
    added story story.processes (story.messages ++ sent_by story name p q ∷ []) (Send (length story.messages)) (orderly h) (causal h) quiet
    (λ m below. get_or_append_left story.messages (sent_by story name p q ∷ []) no_message m below)
    (λ p below. inl below) (λ m e. absurd (cc)) (λ p e. absurd (cc))
causal (taken {story} n h quiet known untaken) =
    added story story.processes story.messages (Take n) (orderly h) (causal h) quiet (λ m below. refl)
    (λ p below. inl below) (λ m e. let same : n ≡ m = cc in subst (λ k. k < length story.messages) same known) (λ p e. absurd (cc))
causal (failed {story} q h quiet known) =
    added story story.processes story.messages (Fail q) (orderly h) (causal h) quiet (λ m below. refl)
    (λ p below. inl below) (λ m e. absurd (cc)) (λ p e. let same : q ≡ p = cc in subst (λ k. k < length story.processes) same known)
