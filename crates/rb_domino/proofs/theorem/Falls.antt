-- Which falls there are: that of the process that fails, and those by messages, one after another.
use Rattle.std.proofs.Common.{◌≡◌, ℕ, zero, suc, ◌+◌, Bool, true, false, cond, List, [], ◌∷◌, ◌++◌, slice_get, Option, Some, None, refl, ap, ◌∙◌, sym, subst, arith, append_assoc}
use Rattle.std.specs.List.{list_any}
use Rattle.std.proofs.lemmas.List.{append-nil}
use Rattle.rb_domino.specs.declared.analysis.Dropped.{Dropped}
use Rattle.rb_domino.specs.declared.line.Line.{Line}
use Rattle.rb_domino.specs.declared.line.Line.TheVariants.{Begin, Point, Send, Take, Fail}
use Rattle.rb_domino.specs.declared.state.State.{State}
use Rattle.rb_domino.specs.declared.state.Fall.{Fall}
use Rattle.rb_domino.specs.History.{FailsAt, IsTakenAt, Story, has_failed, is_failure}
use Rattle.rb_domino.specs.Recovery.{breaks, drops_of, failure_from, fall_at, fall_by, falls, falls_by_messages, first_fall, first_fall_from, left_after, message_at, or_later}

-- a message among these lines, the first of which stands at a place, breaks the recovery line
record Breaking (story : Story) (left : List (List State)) (at : ℕ) (lines : List Line) (fall : Fall) : Type 0 where
  message : ℕ
  on : ℕ
  taken : slice_get lines on ≡ Some (Take message)
  broken : breaks left (at + on) (message_at story message) ≡ true
  is : fall ≡ fall_by (message_at story message) message (at + on)

-- so it does among these and a line before them
one_more : (story : Story) (left : List (List State)) (at : ℕ) (line : Line) (lines : List Line) (fall : Fall)
    → Breaking story left (at + 1) lines fall → Breaking story left at (line ∷ lines) fall
one_more story left at line lines fall b =
    let next : at + 1 + b.on ≡ at + suc b.on = omega arith in
    record {
      message = b.message;
      on = suc b.on;
      taken = b.taken;
      broken = ap (λ k. breaks left k (message_at story b.message)) (sym next) ∙ b.broken;
      is = b.is ∙ ap (λ k. fall_by (message_at story b.message) b.message k) next;
    }

-- the fall that comes first is by such a message
breaking_from : (story : Story) (left : List (List State)) (at : ℕ) (lines : List Line) (fall : Fall)
    → first_fall_from story left at lines ≡ Some fall → Breaking story left at lines fall
breaking_from story left at [] fall e = absurd (cc)
breaking_from story left at (Begin p ∷ lines) fall e = one_more story left at (Begin p) lines fall (breaking_from story left (at + 1) lines fall e)
breaking_from story left at (Point p ∷ lines) fall e = one_more story left at (Point p) lines fall (breaking_from story left (at + 1) lines fall e)
breaking_from story left at (Send m ∷ lines) fall e = one_more story left at (Send m) lines fall (breaking_from story left (at + 1) lines fall e)
breaking_from story left at (Fail p ∷ lines) fall e = one_more story left at (Fail p) lines fall (breaking_from story left (at + 1) lines fall e)
breaking_from story left at (Take m ∷ lines) fall e =
    by (breaks left at (message_at story m)) refl (λ none. breaking_from story left (at + 1) lines fall none) e
  where
    by : (b : Bool) → breaks left at (message_at story m) ≡ b
        → (first_fall_from story left (at + 1) lines ≡ Some fall → Breaking story left (at + 1) lines fall)
        → or_later (cond b (Some (fall_by (message_at story m) m at)) None) (first_fall_from story left (at + 1) lines) ≡ Some fall
        → Breaking story left at (Take m ∷ lines) fall
    by true broken rest e =
        let here : at ≡ at + 0 = omega arith in
        let same : fall_by (message_at story m) m at ≡ fall = cc in
        record {
          message = m;
          on = zero;
          taken = refl;
          broken = ap (λ k. breaks left k (message_at story m)) (sym here) ∙ broken;
          is = sym same ∙ ap (λ k. fall_by (message_at story m) m k) here;
        }
    by false whole rest e = one_more story left at (Take m) lines fall (rest e)

-- the message that makes a process fall first
pub record Breaks (story : Story) (left : List (List State)) (fall : Fall) : Type 0 where
  pub message : ℕ
  pub at : ℕ
  pub taken : IsTakenAt story message at
  pub broken : breaks left at (message_at story message) ≡ true
  pub is : fall ≡ fall_by (message_at story message) message at

pub breaking : (story : Story) (left : List (List State)) (fall : Fall) → first_fall story left ≡ Some fall → Breaks story left fall
breaking story left fall e =
    let b = breaking_from story left 0 story.lines fall e in
    let on : 0 + b.on ≡ b.on = omega arith in
    record {
      message = b.message;
      at = b.on;
      taken = b.taken;
      broken = ap (λ k. breaks left k (message_at story b.message)) (sym on) ∙ b.broken;
      is = b.is ∙ ap (λ k. fall_by (message_at story b.message) b.message k) on;
    }

-- where no fall comes first, no message breaks the line
or_none : (first later : Option Fall) → or_later first later ≡ None → (first ≡ None) × (later ≡ None)
or_none None later e = (refl, e)
or_none (Some fall) later e = absurd (cc)

unbroken_from : (story : Story) (left : List (List State)) (at : ℕ) (lines : List Line) → first_fall_from story left at lines ≡ None
    → (j m : ℕ) → slice_get lines j ≡ Some (Take m) → breaks left (at + j) (message_at story m) ≡ false
unbroken_from story left at [] none j m is = absurd (cc)
unbroken_from story left at (line ∷ lines) none zero m is =
    let same : line ≡ Take m = cc in
    let here : at ≡ at + 0 = omega arith in
    let first : fall_at story left at (Take m) ≡ None =
    ap (fall_at story left at) (sym same) ∙ (or_none (fall_at story left at line) (first_fall_from story left (at + 1) lines) none).0 in
    ap (λ k. breaks left k (message_at story m)) (sym here) ∙ by (breaks left at (message_at story m)) refl first
  where
    by : (b : Bool) → breaks left at (message_at story m) ≡ b → cond b (Some (fall_by (message_at story m) m at)) None ≡ None
        → breaks left at (message_at story m) ≡ false
    by true broken e = absurd (cc)
    by false whole e = whole
unbroken_from story left at (line ∷ lines) none (suc j) m is =
    let next : at + 1 + j ≡ at + suc j = omega arith in
    ap (λ k. breaks left k (message_at story m)) (sym next)
    ∙ unbroken_from story left (at + 1) lines (or_none (fall_at story left at line) (first_fall_from story left (at + 1) lines) none).1 j m is

pub unbroken : (story : Story) (left : List (List State)) → first_fall story left ≡ None
    → (m at : ℕ) → IsTakenAt story m at → breaks left at (message_at story m) ≡ false
unbroken story left none m at is =
    let on : 0 + at ≡ at = omega arith in
    ap (λ k. breaks left k (message_at story m)) (sym on) ∙ unbroken_from story left 0 story.lines none at m is

-- what each fall by a message keeps, all of them keep
pub falls_keep : (story : Story) (P : List Dropped → List (List State) → Type 0)
    → ((drops : List Dropped) (left : List (List State)) (fall : Fall) → Breaks story left fall → P drops left
    → P (drops ++ drops_of fall left) (left_after fall left))
    → (n : ℕ) (drops : List Dropped) (left : List (List State)) → P drops left
    → P (drops ++ (falls_by_messages story n left).drops) (falls_by_messages story n left).left
falls_keep story P step zero drops left holds = subst (λ ds. P ds left) (sym (append-nil drops)) holds
falls_keep story P step (suc n) drops left holds = by (first_fall story left) refl (λ ds l. falls_keep story P step n ds l)
  where
    by : (o : Option Fall) → first_fall story left ≡ o
        → ((ds : List Dropped) (l : List (List State)) → P ds l → P (ds ++ (falls_by_messages story n l).drops) (falls_by_messages story n l).left)
        → P (drops ++ (falls left o (falls_by_messages story n)).drops) (falls left o (falls_by_messages story n)).left
    by None first rest = subst (λ ds. P ds left) (sym (append-nil drops)) holds
    by (Some fall) first rest =
        let after = left_after fall left in
        subst (λ ds. P ds (falls_by_messages story n after).left)
        (append_assoc drops (drops_of fall left) (falls_by_messages story n after).drops)
        (rest (drops ++ drops_of fall left) after (step drops left fall (breaking story left fall first) holds))

-- the fall of the process that fails
record Failing (at : ℕ) (lines : List Line) : Type 0 where
  process : ℕ
  on : ℕ
  fails : slice_get lines on ≡ Some (Fail process)
  is : failure_from at lines ≡ Some (record { process = process; after = at + on; message = None })

-- no failure stands at the first line
past : (at : ℕ) (line : Line) (lines : List Line) → failure_from at (line ∷ lines) ≡ failure_from (at + 1) lines → Failing (at + 1) lines
    → Failing at (line ∷ lines)
past at line lines skips f =
    let next : at + 1 + f.on ≡ at + suc f.on = omega arith in
    record {
      process = f.process;
      on = suc f.on;
      fails = f.fails;
      is = skips ∙ f.is ∙ ap (λ (k : ℕ). Some (record { process = f.process; after = k; message = None })) next;
    }

failing_from : (at : ℕ) (lines : List Line) → list_any is_failure lines ≡ true → Failing at lines
failing_from at [] e = absurd (cc)
failing_from at (Begin p ∷ lines) e = past at (Begin p) lines refl (failing_from (at + 1) lines e)
failing_from at (Point p ∷ lines) e = past at (Point p) lines refl (failing_from (at + 1) lines e)
failing_from at (Send m ∷ lines) e = past at (Send m) lines refl (failing_from (at + 1) lines e)
failing_from at (Take m ∷ lines) e = past at (Take m) lines refl (failing_from (at + 1) lines e)
failing_from at (Fail p ∷ lines) e =
    let here : at ≡ at + 0 = omega arith in
    record {
      process = p;
      on = zero;
      fails = refl;
      is = ap (λ (k : ℕ). Some (record { process = p; after = k; message = None })) here;
    }

-- what a process that fails has after its failure, it gives up
abbrev pub failure : ℕ → ℕ → Fall
failure p at = record { process = p; after = at; message = None }

-- a process fails, and that is its fall
pub record Fails (story : Story) : Type 0 where
  pub process : ℕ
  pub at : ℕ
  pub fails : FailsAt story process at
  pub is : failure_from 0 story.lines ≡ Some (failure process at)

pub failing : (story : Story) → has_failed story ≡ true → Fails story
failing story e =
    let f = failing_from 0 story.lines e in
    let on : 0 + f.on ≡ f.on = omega arith in
    record {
      process = f.process;
      at = f.on;
      fails = f.fails;
      is = f.is ∙ ap (λ (k : ℕ). Some (failure f.process k)) on;
    }
