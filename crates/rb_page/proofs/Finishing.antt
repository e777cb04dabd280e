-- How a text ends that passed through a sink which escapes it.
use Rattle.std.proofs.Common.{◌≡◌, ℕ, ◌+◌, ◌-◌, ◌≤◌, true, List, [], ◌∷◌, ◌++◌, length, take, drop, Option, Some, None, Result, Ok, Err, OnOk, OnErr, refl, sym, ap, ◌∙◌, subst, arith, length-append}
use Rattle.std.proofs.lemmas.Bool.Decides.{nat_tests}
use Rattle.std.proofs.lemmas.List.{append-nil, take-append-drop}
use Rattle.std.proofs.lemmas.Grind.{flat_map-append}
use Rattle.std.proofs.Math.Seq.{drop-append_seam, take-append_seam, take-append-add}
use Rattle.rb_outside.specs.Outside.{Faults, WrotePart, failed_once, then_written}
use Rattle.rb_outside.specs.Puts.{Puts}
use Rattle.rb_outside.proofs.Puts.{failed_after}
use Rattle.rb_outside.proofs.Written.{WrotePart-within, then_written-nil}
use Rattle.rb_page.specs.Escape.{escaped, escaped_byte}
use Rattle.rb_page.specs.Told.{Passes, has_grown, put_since, told}

-- two lists that begin with as many elements
same_parts : (a b x y : List ℕ) → length a ≡ length b → a ++ x ≡ b ++ y → (a ≡ b) × (x ≡ y)
same_parts a b x y long is = (
  sym (take-append_seam a x) ∙ ap (take (length a)) is ∙ ap (λ n. take n (b ++ y)) long ∙ take-append_seam b y,
  sym (drop-append_seam a x) ∙ ap (drop (length a)) is ∙ ap (λ n. drop n (b ++ y)) long ∙ drop-append_seam b y,
)

some_same : (x y : List ℕ) → Some x ≡ Some y → x ≡ y
some_same x y is = cc

cons_same : (m n : ℕ) (x y : List ℕ) → (m ∷ x) ≡ (n ∷ y) → (m ≡ n) × (x ≡ y)
cons_same m n x y is = (cc, cc)

-- of two that tell the same both are the same
told_parts : (begin start put text : List ℕ) → told (Some begin) put ≡ then_written (told (Some start) []) text → (begin ≡ start) × (put ≡ text)
told_parts begin start put text is =
    let parts = cons_same (length begin) (length start) (begin ++ put) ((start ++ []) ++ text)
    (some_same (length begin ∷ (begin ++ put)) (length start ∷ ((start ++ []) ++ text)) is) in
    same_parts begin start put text parts.0 (parts.1 ∙ ap (λ (x : List ℕ). x ++ text) (append-nil start))

-- what was written at the start, and then
told_start : (begin start : Option (List ℕ)) (put text : List ℕ) → told begin put ≡ then_written (told start []) text
    → (begin ≡ start) × (then_written begin (escaped put) ≡ then_written start (escaped text))
told_start None None put text is = (refl, refl)
told_start None (Some s) put text is = absurd (cc)
told_start (Some b) None put text is = absurd (cc)
told_start (Some b) (Some s) put text is =
    let same = told_parts b s put text is in (
      ap (λ (x : List ℕ). Some x) same.0,
      ap (λ (x : List ℕ). Some (x ++ escaped put)) same.0 ∙ ap (λ (x : List ℕ). Some (s ++ escaped x)) same.1,
    )

-- what was written so far is a front of it
front_of : (start now : Option (List ℕ)) (rest all : List ℕ) → has_grown start now ≡ true → then_written now rest ≡ then_written start all
    → WrotePart start now all
front_of None None rest all grown is = (0, omega arith, refl)
front_of None (Some n) rest all grown is = absurd (cc)
front_of (Some s) None rest all grown is = absurd (cc)
front_of (Some s) (Some n) rest all grown is =
    let same : n ++ rest ≡ s ++ all = some_same (n ++ rest) (s ++ all) is in
    let long : length s ≤ length n = grind (arith, nat_tests, grown) in
    let sizes : length n + length rest ≡ length s + length all = sym (length-append n rest) ∙ ap length same ∙ length-append s all in
    let size : length n ≡ length s + (length n - length s) = omega arith in
    let front : n ≡ s ++ take (length n - length s) all =
    sym (take-append_seam n rest) ∙ ap (take (length n)) same ∙ ap (λ m. take m (s ++ all)) size ∙ take-append-add s all (length n - length s) in
    (length n - length s, omega arith, ap (λ (x : List ℕ). Some x) front)

-- nothing failed before the end
pub settled_end : {T U E D : Type 0} (r : Result U E) (w : Result T D) (v : T) (begin begins start now after : Option (List ℕ))
    (rest left text : List ℕ) (f0 f1 f2 : Faults)
    → w ≡ Ok v → Passes begin now rest → Passes begins after left → begins ≡ begin → then_written after left ≡ then_written now rest
    → OnOk r (left ≡ []) → OnOk r (f2.count ≡ f1.count) → OnErr r (f2 ≡ failed_once f1)
    → Puts text (told start []) (told begin (put_since begin (then_written now rest))) f0 f1 w → Puts (escaped text) start after f0 f2 r
settled_end (Ok u) w v begin begins start now after rest left text f0 f1 f2 is p q same moved none quiet failed put =
    let was : Puts text (told start []) (told begin (put_since begin (then_written now rest))) f0 f1 (Ok v) =
    subst (λ x. Puts text (told start []) (told begin (put_since begin (then_written now rest))) f0 f1 x) is put in
    let whole = told_start begin start (put_since begin (then_written now rest)) text was.ok in
    record {
      ok = sym (then_written-nil after) ∙ ap (then_written after) (sym none) ∙ moved ∙ p.0 ∙ whole.1;
      quiet = quiet ∙ was.quiet;
      err = tt;
      failed = tt;
    }
settled_end (Err e) w v begin begins start now after rest left text f0 f1 f2 is p q same moved none quiet failed put =
    let was : Puts text (told start []) (told begin (put_since begin (then_written now rest))) f0 f1 (Ok v) =
    subst (λ x. Puts text (told start []) (told begin (put_since begin (then_written now rest))) f0 f1 x) is put in
    let whole = told_start begin start (put_since begin (then_written now rest)) text was.ok in
    record {
      ok = tt;
      quiet = tt;
      err = front_of start after left (escaped text) (subst (λ s. has_grown s after ≡ true) (same ∙ whole.0) q.1) (moved ∙ p.0 ∙ whole.1);
      failed = failed_after f0 f1 f2 was.quiet failed;
    }

-- a write failed before the end
pub stopped_end : {T U E D : Type 0} (r : Result U E) (w : Result T D) (d : D) (e : E) (begin start now : Option (List ℕ))
    (rest text : List ℕ) (f0 f1 : Faults)
    → w ≡ Err d → r ≡ Err e → Passes begin now rest → Puts text (told start []) (told begin (put_since begin (then_written now rest))) f0 f1 w
    → Puts (escaped text) start now f0 f1 r
stopped_end {T} {U} r w d e begin start now rest text f0 f1 is ends p put =
    let was : Puts {T = T} text (told start []) (told begin (put_since begin (then_written now rest))) f0 f1 (Err d) =
    subst (λ x. Puts text (told start []) (told begin (put_since begin (then_written now rest))) f0 f1 x) is put in
    let k = was.err.0 in
    let whole = told_start begin start (put_since begin (then_written now rest)) (take k text) was.err.2 in
    let part : WrotePart start now (escaped (take k text)) =
    front_of start now rest (escaped (take k text)) (subst (λ s. has_grown s now ≡ true) whole.0 p.1) (p.0 ∙ whole.1) in
    let parts : escaped (take k text) ++ escaped (drop k text) ≡ escaped text =
    sym (flat_map-append escaped_byte (take k text) (drop k text)) ∙ ap escaped (take-append-drop k text) in
    let stopped : Puts {T = U} (escaped text) start now f0 f1 (Err e) = record {
      ok = tt;
      quiet = tt;
      err = subst (WrotePart start now) parts (WrotePart-within start now (escaped (take k text)) (escaped (drop k text)) part);
      failed = was.failed;
    } in
    subst (λ x. Puts (escaped text) start now f0 f1 x) (sym ends) stopped
