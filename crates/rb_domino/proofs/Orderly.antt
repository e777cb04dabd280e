-- What is known of the lines of each history, line by line.
use Rattle.std.proofs.Common.{◌≡◌, ℕ, zero, suc, ◌+◌, ◌≤◌, ◌<◌, true, false, ◌⊎◌, inl, inr, List, [], ◌∷◌, ◌++◌, length, slice_get, slice_index_or, Some, refl, ap, ◌∙◌, sym, subst, arith, length-append, eq-eqb}
use Rattle.std.specs.List.{AllByRecursion, list_any}
use Rattle.std.proofs.lemmas.List.{get_or_append_left}
use Rattle.std.proofs.lemmas.Map.Keys.{any_passes_from_place}
use Rattle.std.proofs.lemmas.Option.{slice_get-get_or}
use Rattle.std.proofs.Math.Seq.{get_or-append_seam}
use Rattle.std.proofs.lemmas.Bool.{cases_eq}
use Rattle.rb_domino.specs.declared.line.Line.{Line}
use Rattle.rb_domino.specs.declared.line.Line.TheVariants.{Begin, Point, Send, Take, Fail}
use Rattle.rb_domino.specs.declared.line.Message.{Message}
use Rattle.rb_domino.specs.History.{IsHistory, Story, begun, failed, is_take_of, nothing, pointed, sent, sent_by, taken}
use Rattle.rb_domino.specs.Recovery.{message_at, no_message}
use Rattle.rb_domino.specs.Board.{IsBetween, IsOrderly, NamesKnown}
use Rattle.rb_domino.proofs.FirstFall.{all_at}

-- one more at the end
pub all_added : {X : Type 0} (P : X → Type 0) (xs : List X) (x : X) → AllByRecursion P xs → P x → AllByRecursion P (xs ++ x ∷ [])
all_added P [] x all here = (here, tt)
all_added P (y ∷ ys) x all here = (all.0, all_added P ys x all.1 here)

-- what one fact says of each, another does
pub all_weaker : {X : Type 0} (P Q : X → Type 0) (xs : List X) → ((x : X) → P x → Q x) → AllByRecursion P xs → AllByRecursion Q xs
all_weaker P Q [] weaker all = tt
all_weaker P Q (x ∷ xs) weaker all = (weaker x all.0, all_weaker P Q xs weaker all.1)

pub length_added : {X : Type 0} (xs : List X) (x : X) → length (xs ++ x ∷ []) ≡ length xs + 1
length_added xs x = length-append xs (x ∷ [])

-- an element of a list with one more at its end
pub get_added : {X : Type 0} (xs : List X) (x y : X) (i : ℕ) → slice_get (xs ++ x ∷ []) i ≡ Some y
    → (slice_get xs i ≡ Some y) ⊎ ((i ≡ length xs) × (x ≡ y))
get_added [] x y zero e = inr (refl, cc)
get_added [] x y (suc i) e = absurd (cc)
get_added (z ∷ zs) x y zero e = inl e
get_added (z ∷ zs) x y (suc i) e = by (get_added zs x y i e)
  where
    by : (slice_get zs i ≡ Some y) ⊎ ((i ≡ length zs) × (x ≡ y)) → (slice_get (z ∷ zs) (suc i) ≡ Some y) ⊎ ((suc i ≡ length (z ∷ zs)) × (x ≡ y))
    by (inl h) = inl h
    by (inr (at, same)) = inr (ap suc at, same)

known_more : (p m q n : ℕ) → p ≤ q → m ≤ n → (line : Line) → NamesKnown p m line → NamesKnown q n line
known_more p m q n low below (Begin k) h = omega arith
known_more p m q n low below (Point k) h = omega arith
known_more p m q n low below (Send k) h = omega arith
known_more p m q n low below (Take k) h = omega arith
known_more p m q n low below (Fail k) h = omega arith

between_more : (p e q f : ℕ) → p ≤ q → e ≤ f → (message : Message) → IsBetween p e message → IsBetween q f message
between_more p e q f low below message h = record {
  sender = omega (arith, h.sender);
  receiver = omega (arith, h.receiver);
  sent = omega (arith, h.sent);
}

-- no message is taken twice
abbrev IsOnce : List Line → Type 0
IsOnce lines = (m a b : ℕ) → slice_get lines a ≡ Some (Take m) → slice_get lines b ≡ Some (Take m) → a ≡ b

-- a message that was taken
taken_before : (lines : List Line) (m a : ℕ) → slice_get lines a ≡ Some (Take m) → list_any (is_take_of m) lines ≡ true
taken_before lines m a is = any_passes_from_place (is_take_of m) lines a (Take m) is (eq-eqb m m refl)

once_added : (lines : List Line) (line : Line) → ((m : ℕ) → line ≡ Take m → list_any (is_take_of m) lines ≡ false) → IsOnce lines
    → IsOnce (lines ++ line ∷ [])
once_added lines line new once m a b is_a is_b = by (get_added lines line (Take m) a is_a) (get_added lines line (Take m) b is_b)
  where
    by : (slice_get lines a ≡ Some (Take m)) ⊎ ((a ≡ length lines) × (line ≡ Take m))
        → (slice_get lines b ≡ Some (Take m)) ⊎ ((b ≡ length lines) × (line ≡ Take m)) → a ≡ b
    by (inl x) (inl y) = once m a b x y
    by (inl x) (inr (at, same)) = absurd (let t = taken_before lines m a x in let f = new m same in cc)
    by (inr (at, same)) (inl y) = absurd (let t = taken_before lines m b y in let f = new m same in cc)
    by (inr (at_a, same)) (inr (at_b, also)) = at_a ∙ sym at_b

-- a line that names what is there already
line_more : (story : Story) (line : Line) → IsOrderly story → NamesKnown (length story.processes) (length story.messages) line
    → ((m : ℕ) → line ≡ Take m → list_any (is_take_of m) story.lines ≡ false)
    → IsOrderly (record { processes = story.processes; messages = story.messages; lines = story.lines ++ line ∷ [] })
line_more story line orderly known new = record {
  lines = all_added (NamesKnown (length story.processes) (length story.messages)) story.lines line orderly.lines known;
  messages = all_weaker (IsBetween (length story.processes) (length story.lines))
      (IsBetween (length story.processes) (length (story.lines ++ line ∷ []))) story.messages
      (between_more (length story.processes) (length story.lines) (length story.processes) (length (story.lines ++ line ∷ []))
      (omega arith) (omega (arith, length_added story.lines line))) orderly.messages;
  in_order = orderly.in_order;
  once = once_added story.lines line new orderly.once;
}

process_more : (story : Story) (name : List ℕ) → IsOrderly story
    → IsOrderly
    (record { processes = story.processes ++ name ∷ []; messages = story.messages; lines = story.lines ++ Begin (length story.processes) ∷ [] })
process_more story name orderly =
    let one : length (story.processes ++ name ∷ []) ≡ length story.processes + 1 = length_added story.processes name in
    record {
      lines = all_added (NamesKnown (length (story.processes ++ name ∷ [])) (length story.messages)) story.lines (Begin (length story.processes))
          (all_weaker (NamesKnown (length story.processes) (length story.messages))
          (NamesKnown (length (story.processes ++ name ∷ [])) (length story.messages)) story.lines
          (known_more (length story.processes) (length story.messages) (length (story.processes ++ name ∷ [])) (length story.messages) (omega arith)
          (omega arith)) orderly.lines)
          (omega arith);
      messages = all_weaker (IsBetween (length story.processes) (length story.lines))
          (IsBetween (length (story.processes ++ name ∷ [])) (length (story.lines ++ Begin (length story.processes) ∷ []))) story.messages
          (between_more (length story.processes) (length story.lines) (length (story.processes ++ name ∷ []))
          (length (story.lines ++ Begin (length story.processes) ∷ []))
          (omega arith) (omega (arith, length_added story.lines (Begin (length story.processes))))) orderly.messages;
      in_order = orderly.in_order;
      once = once_added story.lines (Begin (length story.processes)) (λ m e. absurd (cc)) orderly.once;
    }

message_more : (story : Story) (message : Message) → IsOrderly story → message.sent ≡ length story.lines
    → message.sender < length story.processes → message.receiver < length story.processes
    → IsOrderly
    (record { processes = story.processes; messages = story.messages ++ message ∷ []; lines = story.lines ++ Send (length story.messages) ∷ [] })
message_more story message orderly at from to =
    let one : length (story.messages ++ message ∷ []) ≡ length story.messages + 1 = length_added story.messages message in
    let more : length (story.lines ++ Send (length story.messages) ∷ []) ≡ length story.lines + 1 =
    length_added story.lines (Send (length story.messages)) in
    record {
      lines = all_added (NamesKnown (length story.processes) (length (story.messages ++ message ∷ []))) story.lines (Send (length story.messages))
          (all_weaker (NamesKnown (length story.processes) (length story.messages))
          (NamesKnown (length story.processes) (length (story.messages ++ message ∷ []))) story.lines
          (known_more (length story.processes) (length story.messages) (length story.processes) (length (story.messages ++ message ∷ []))
          (omega arith) (omega arith)) orderly.lines)
          (omega arith);
      messages = all_added (IsBetween (length story.processes) (length (story.lines ++ Send (length story.messages) ∷ []))) story.messages message
          (all_weaker (IsBetween (length story.processes) (length story.lines))
          (IsBetween (length story.processes) (length (story.lines ++ Send (length story.messages) ∷ []))) story.messages
          (between_more (length story.processes) (length story.lines) (length story.processes)
          (length (story.lines ++ Send (length story.messages) ∷ [])) (omega arith) (omega arith)) orderly.messages)
          (record { sender = from; receiver = to; sent = omega arith });
      in_order = λ m n lt below. by m n lt below (cases_eq n (length story.messages));
      once = once_added story.lines (Send (length story.messages)) (λ m e. absurd (cc)) orderly.once;
    }
  where
    old : (m : ℕ) → m < length story.messages → slice_index_or (story.messages ++ message ∷ []) m no_message ≡ message_at story m
    old m below = get_or_append_left story.messages (message ∷ []) no_message m below

    earlier : (m : ℕ) → m < length story.messages → (message_at story m).sent < length story.lines
    earlier m below =
        let there = slice_get-get_or story.messages m no_message below in
        (all_at (IsBetween (length story.processes) (length story.lines)) story.messages m (message_at story m) orderly.messages there).sent

    by : (m n : ℕ) → m < n → n < length (story.messages ++ message ∷ []) → (n ≡ length story.messages) ⊎ (n ≡ length story.messages → ⊥)
        → (slice_index_or (story.messages ++ message ∷ []) m no_message).sent < (slice_index_or (story.messages ++ message ∷ []) n no_message).sent
    by m n lt below (inl last) =
        let low : m < length story.messages = omega arith in
        let new : slice_index_or (story.messages ++ message ∷ []) n no_message ≡ message =
        ap (λ k. slice_index_or (story.messages ++ message ∷ []) k no_message) last ∙ get_or-append_seam story.messages message [] no_message in
        let was : (message_at story m).sent < length story.lines = earlier m low in
        let left : (slice_index_or (story.messages ++ message ∷ []) m no_message).sent ≡ (message_at story m).sent =
        ap (λ (k : Message). k.sent) (old m low) in
        let right : (slice_index_or (story.messages ++ message ∷ []) n no_message).sent ≡ message.sent = ap (λ (k : Message). k.sent) new in
        omega arith
    by m n lt below (inr other) =
        let more : length (story.messages ++ message ∷ []) ≡ length story.messages + 1 = length_added story.messages message in
        let low : n < length story.messages = omega arith in
        let under : m < length story.messages = omega arith in
        let left : (slice_index_or (story.messages ++ message ∷ []) m no_message).sent ≡ (message_at story m).sent =
        ap (λ (k : Message). k.sent) (old m under) in
        let right : (slice_index_or (story.messages ++ message ∷ []) n no_message).sent ≡ (message_at story n).sent =
        ap (λ (k : Message). k.sent) (old n low) in
        let was : (message_at story m).sent < (message_at story n).sent = orderly.in_order m n lt low in
        omega arith

-- each history is orderly
pub orderly : {story : Story} → IsHistory story → IsOrderly story
orderly nothing = record {
  lines = tt;
  messages = tt;
  in_order = λ m n lt below. absurd (let never : ⊥ = omega arith in never);
  once = λ m a b x y. absurd (cc);
}
orderly (begun {story} name h quiet new) = process_more story name (orderly h)
orderly (pointed {story} p h quiet known) = line_more story (Point p) (orderly h) known (λ m e. absurd (cc))
orderly (sent {story} name p q h quiet new from to) = message_more story (sent_by story name p q) (orderly h) refl from to
orderly (taken {story} m h quiet known untaken) =
    line_more story (Take m) (orderly h) known (λ n e. let same : m ≡ n = cc in subst (λ k. list_any (is_take_of k) story.lines ≡ false) same untaken)
orderly (failed {story} p h quiet known) = line_more story (Fail p) (orderly h) known (λ m e. absurd (cc))

-- each process and each message has a line of its own
pub few_named : {story : Story} → IsHistory story → length story.processes + length story.messages ≤ length story.lines
few_named nothing = omega arith
few_named (begun {story} name h quiet new) =
    let was = few_named h in
    omega (arith, length_added story.lines (Begin (length story.processes)), length_added story.processes name)
few_named (pointed {story} p h quiet known) = let was = few_named h in omega (arith, length_added story.lines (Point p))
few_named (sent {story} name p q h quiet new from to) =
    let was = few_named h in
    omega (arith, length_added story.lines (Send (length story.messages)), length_added story.messages (sent_by story name p q))
few_named (taken {story} m h quiet known untaken) = let was = few_named h in omega (arith, length_added story.lines (Take m))
few_named (failed {story} p h quiet known) = let was = few_named h in omega (arith, length_added story.lines (Fail p))
