-- A text that passes through a sink which escapes it.
use Rattle.std.proofs.Common.{◌≡◌, ℕ, ◌+◌, ◌-◌, ◌*◌, ◌/◌, ◌%◌, ◌^◌, ◌<◌, ◌≤◌, nat_eq, nat_le, nat_lt, Bool, true, false, not, ◌&&◌, ◌||◌, List, [], ◌∷◌, ◌++◌, length, take, drop, get_or, Result, Ok, Err, IfOk, OnErr, Option, Some, None, cond, codes, decimal, refl, sym, ap, ◌∙◌, append_assoc, length-append, arith, subst}
use Rattle.std.proofs.lemmas.Bool.Decides.{nat_tests}
use Rattle.std.proofs.lemmas.Fmt.{decimal_by_steps}
use Rattle.rb_page.specs.Escape.{escaped, escaped_byte, is_plain, reference}
use Rattle.rb_page.specs.Told.{Passes, are_bytes, has_grown, put_since, told, unescaped}
use Rattle.rb_outside.specs.Outside.{then_written}
use Rattle.std.proofs.Math.Seq.{drop-append_seam}
use Rattle.std.proofs.lemmas.Grind.{flat_map-append}
use Rattle.std.proofs.lemmas.List.{append-nil, take-append-drop}
use Rattle.rb_outside.proofs.Written.{then_written-append, then_written-nil}

-- one digit is read
digit_read : (n d : ℕ) (rest : List ℕ) → nat_eq d 59 ≡ false → unescaped (Some n) (d ∷ rest) ≡ unescaped (Some (n * 10 + (d - 48))) rest
digit_read n d rest other = ap (λ t. cond t (n ∷ unescaped None rest) (unescaped (Some (n * 10 + (d - 48))) rest)) other

no_end : (d : ℕ) → d ≤ 57 → nat_eq d 59 ≡ false
no_end d small = grind (arith, nat_tests)

-- the digits of a number are read
digits_read : (n : ℕ) → n < 2 ^ 64 → (rest : List ℕ) → unescaped (Some 0) (decimal n ++ rest) ≡ unescaped (Some n) rest
digits_read = decimal_by_steps (λ n ds. (rest : List ℕ) → unescaped (Some 0) (ds ++ rest) ≡ unescaped (Some n) rest) one more where
  one : (n : ℕ) → n < 10 → (rest : List ℕ) → unescaped (Some 0) ((48 + n) ∷ rest) ≡ unescaped (Some n) rest
  one n small rest =
      let value : 0 * 10 + ((48 + n) - 48) ≡ n = omega arith in
      digit_read 0 (48 + n) rest (no_end (48 + n) (omega arith)) ∙ ap (λ k. unescaped (Some k) rest) value

  more : (n : ℕ) (ds : List ℕ) → 10 ≤ n → ((rest : List ℕ) → unescaped (Some 0) (ds ++ rest) ≡ unescaped (Some (n / 10)) rest)
      → (rest : List ℕ) → unescaped (Some 0) ((ds ++ ((48 + n % 10) ∷ [])) ++ rest) ≡ unescaped (Some n) rest
  more n ds large before rest =
      let value : (n / 10) * 10 + ((48 + n % 10) - 48) ≡ n = omega arith in
      let small : 48 + n % 10 ≤ 57 = omega arith in
      ap (unescaped (Some 0)) (append_assoc ds ((48 + n % 10) ∷ []) rest) ∙ before ((48 + n % 10) ∷ rest)
      ∙ digit_read (n / 10) (48 + n % 10) rest (no_end (48 + n % 10) small) ∙ ap (λ k. unescaped (Some k) rest) value

reference_read : (b : ℕ) → b < 256 → (rest : List ℕ) → unescaped None (reference b ++ rest) ≡ b ∷ unescaped None rest
reference_read b small rest =
    let parts : (decimal b ++ codes ";") ++ rest ≡ decimal b ++ (59 ∷ rest) = append_assoc (decimal b) (codes ";") rest in
    ap (unescaped (Some 0)) parts ∙ digits_read b (omega arith) (59 ∷ rest)

no_markup : (t u v w : Bool) → (not (t || u || v) && w) ≡ true → t ≡ false
no_markup true u v w h = absurd (cc)
no_markup false u v w h = refl

-- a byte is read back
byte_read : (b : ℕ) → b < 256 → (rest : List ℕ) → unescaped None (escaped_byte b ++ rest) ≡ b ∷ unescaped None rest
byte_read b small rest = by (is_plain b) refl where
  by : (t : Bool) → is_plain b ≡ t → unescaped None (cond t (b ∷ []) (reference b) ++ rest) ≡ b ∷ unescaped None rest
  by true plain =
      ap (λ t. cond t (unescaped (Some 0) rest) (b ∷ unescaped None rest))
      (no_markup (nat_eq b 38) (nat_eq b 60) (nat_eq b 62) (nat_eq b 9 || nat_eq b 10 || (nat_le 32 b && nat_le b 126)) plain)
  by false other = reference_read b small rest

-- a text is read back
pub text_read : (text : List ℕ) → are_bytes text ≡ true → unescaped None (escaped text) ≡ text
text_read [] small = refl
text_read (b ∷ bs) small = by (nat_lt b 256) refl small (λ h. text_read bs h) where
  by : (t : Bool) → nat_lt b 256 ≡ t → (t && are_bytes bs) ≡ true → (are_bytes bs ≡ true → unescaped None (escaped bs) ≡ bs)
      → unescaped None (escaped_byte b ++ escaped bs) ≡ b ∷ bs
  by true is rest behind = byte_read b (grind (arith, nat_tests, is)) (escaped bs) ∙ ap (λ (xs : List ℕ). b ∷ xs) (behind rest)
  by false is rest behind = absurd (cc)

bytes_both : (a b : List ℕ) → are_bytes a ≡ true → are_bytes b ≡ true → are_bytes (a ++ b) ≡ true
bytes_both [] b one two = two
bytes_both (x ∷ a) b one two = by (nat_lt x 256) one (λ h. bytes_both a b h two) where
  by : (t : Bool) → (t && are_bytes a) ≡ true → (are_bytes a ≡ true → are_bytes (a ++ b) ≡ true) → (t && are_bytes (a ++ b)) ≡ true
  by true rest behind = behind rest
  by false rest behind = absurd (cc)

-- what stands behind the start is read back
since_start : (start text : List ℕ) → are_bytes text ≡ true → put_since (Some start) (Some (start ++ escaped text)) ≡ text
since_start start text small = ap (unescaped None) (drop-append_seam start (escaped text)) ∙ text_read text small

-- More of a text was put: so it is with what was told before, and what is told now has it behind.
pub record Goes (start before now : Option (List ℕ)) (more : List ℕ) : Type 0 where
  pub all : now ≡ then_written start (escaped (put_since start now))
  pub bytes : are_bytes (put_since start now) ≡ true
  pub tells : told start (put_since start now) ≡ then_written (told start (put_since start before)) more

pub goes : (start before now : Option (List ℕ)) (more : List ℕ) → before ≡ then_written start (escaped (put_since start before))
    → are_bytes (put_since start before) ≡ true → are_bytes more ≡ true → now ≡ then_written before (escaped more) → Goes start before now more
goes None before now more all small bytes is = record { all = is ∙ ap (λ v. then_written v (escaped more)) all; bytes = refl; tells = refl }
goes (Some start) before now more all small bytes is =
    let text = put_since (Some start) before in
    let joined : (start ++ escaped text) ++ escaped more ≡ start ++ escaped (text ++ more) =
    append_assoc start (escaped text) (escaped more) ∙ ap (λ (x : List ℕ). start ++ x) (sym (flat_map-append escaped_byte text more)) in
    let whole : now ≡ Some (start ++ escaped (text ++ more)) =
    is ∙ ap (λ v. then_written v (escaped more)) all ∙ ap (λ (x : List ℕ). Some x) joined in
    let small_both : are_bytes (text ++ more) ≡ true = bytes_both text more small bytes in
    let read : put_since (Some start) now ≡ text ++ more = ap (put_since (Some start)) whole ∙ since_start start (text ++ more) small_both in
    record {
      all = whole ∙ ap (λ (x : List ℕ). Some (start ++ escaped x)) (sym read);
      bytes = ap are_bytes read ∙ small_both;
      tells = ap (λ (x : List ℕ). Some (length start ∷ (start ++ x))) read ∙ ap (λ (x : List ℕ). Some (length start ∷ x)) (sym (append_assoc start text more));
    }

-- what has grown grows on
grows : (start now : Option (List ℕ)) (more : List ℕ) → has_grown start now ≡ true → has_grown start (then_written now more) ≡ true
grows None now more h = refl
grows (Some start) None more h = refl
grows (Some start) (Some now) more h = grind (arith, nat_tests, length-append now more)

-- a sink took bytes of what is left of a reference
pub passed_on : (start now after : Option (List ℕ)) (rest left more : List ℕ) → after ≡ then_written now more → then_written after left ≡ then_written now rest
    → Passes start now rest → Passes start after left
passed_on start now after rest left more is same p =
    let family : Option (List ℕ) → Type 0 =
    λ v. (v ≡ then_written start (escaped (put_since start v))) × (has_grown start after ≡ true) × (are_bytes (put_since start v) ≡ true) in
    subst family (sym same) (p.0, ap (has_grown start) is ∙ grows start now more p.1, p.2)

-- what a sink took of what is left, and what is left then
pub took : (now after : Option (List ℕ)) (rest shown left : List ℕ) (n : ℕ) → shown ≡ rest → after ≡ then_written now (take n shown)
    → left ≡ drop n rest → then_written after left ≡ then_written now rest
took now after rest shown left n is wrote behind =
    (λ i. then_written (wrote i) (behind i))
    ∙ then_written-append now (take n shown) (drop n rest)
    ∙ ap (λ (text : List ℕ). then_written now (take n text ++ drop n rest)) is
    ∙ ap (then_written now) (take-append-drop n rest)

-- more of a text was put
pub put_on : (start now after : Option (List ℕ)) (rest left more front : List ℕ) → after ≡ then_written now front → are_bytes more ≡ true
    → then_written after left ≡ then_written (then_written now rest) (escaped more) → Passes start now rest → Passes start after left
put_on start now after rest left more front grown bytes is p =
    let g = goes start (then_written now rest) (then_written after left) more p.0 p.2 bytes is in
    (g.all, ap (has_grown start) grown ∙ grows start now front p.1, g.bytes)

-- a byte by itself
pub one_byte : (b : ℕ) → b < 256 → are_bytes (b ∷ []) ≡ true
one_byte b small = by (nat_lt b 256) (grind (arith, nat_tests)) where
  by : (t : Bool) → t ≡ true → (t && true) ≡ true
  by true is = refl
  by false is = is

-- nothing was left before a byte
settled : (now : Option (List ℕ)) (rest : List ℕ) (text bytes : List ℕ) → rest ≡ [] → text ≡ bytes → then_written (then_written now rest) text ≡ then_written now bytes
settled now rest text bytes none is =
    ap (λ v. then_written v text) (ap (then_written now) none ∙ then_written-nil now) ∙ ap (then_written now) is

-- a reference was begun
pub begun : (now after : Option (List ℕ)) (rest left : List ℕ) (b n : ℕ) → rest ≡ [] → is_plain b ≡ false → 38 ∷ left ≡ reference b → 0 < n → n ≤ 1
    → after ≡ then_written now (take n (38 ∷ [])) → then_written after left ≡ then_written (then_written now rest) (escaped (b ∷ []))
begun now after rest left b n none other is some one wrote =
    let n_is : n ≡ 1 = omega arith in
    let front : after ≡ then_written now (38 ∷ []) = wrote ∙ ap (λ k. then_written now (take k (38 ∷ []))) n_is in
    let text : escaped (b ∷ []) ≡ 38 ∷ left = append-nil (escaped_byte b) ∙ ap (λ t. cond t (b ∷ []) (reference b)) other ∙ sym is in
    ap (λ v. then_written v left) front ∙ then_written-append now (38 ∷ []) left ∙ sym (settled now rest (escaped (b ∷ [])) (38 ∷ left) none text)

-- a byte that stands for itself was passed on
pub passed : (now after : Option (List ℕ)) (rest left : List ℕ) (b n : ℕ) → rest ≡ [] → left ≡ [] → is_plain b ≡ true → 0 < n → n ≤ 1
    → after ≡ then_written now (take n (b ∷ [])) → then_written after left ≡ then_written (then_written now rest) (escaped (b ∷ []))
passed now after rest left b n none nothing plain some one wrote =
    let n_is : n ≡ 1 = omega arith in
    let front : after ≡ then_written now (b ∷ []) = wrote ∙ ap (λ k. then_written now (take k (b ∷ []))) n_is in
    let text : escaped (b ∷ []) ≡ b ∷ [] = append-nil (escaped_byte b) ∙ ap (λ t. cond t (b ∷ []) (reference b)) plain in
    ap (then_written after) nothing ∙ then_written-nil after ∙ front ∙ sym (settled now rest (escaped (b ∷ [])) (b ∷ []) none text)

-- the same is told where nothing more was put
pub told_same : (start begin now after : Option (List ℕ)) → begin ≡ start → after ≡ now → told begin (put_since begin after) ≡ told start (put_since start now)
told_same start begin now after same is = ap (λ s. told s (put_since s after)) same ∙ ap (λ v. told start (put_since start v)) is

-- and more, where more was put
pub told_more : (start begin now after : Option (List ℕ)) (rest more : List ℕ) → begin ≡ start → Passes start now rest → are_bytes more ≡ true
    → after ≡ then_written (then_written now rest) (escaped more)
    → told begin (put_since begin after) ≡ then_written (told start (put_since start (then_written now rest))) more
told_more start begin now after rest more same p bytes is =
    ap (λ s. told s (put_since s after)) same ∙ (goes start (then_written now rest) after more p.0 p.2 bytes is).tells

-- so it is whether a byte that stands for itself was passed on or not
pub passed_or_not : {E : Type 0} (r : Result ℕ E) (start now after : Option (List ℕ)) (rest : List ℕ) (b : ℕ) → rest ≡ [] → is_plain b ≡ true → b < 256
    → IfOk r (λ n. 0 < n) → IfOk r (λ n. n ≤ 1) → IfOk r (λ n. after ≡ then_written now (take n (b ∷ []))) → OnErr r (after ≡ now)
    → Passes start now rest → Passes start after rest
passed_or_not (Ok n) start now after rest b none plain small some one wrote same p =
    put_on start now after rest rest (b ∷ []) (take n (b ∷ [])) wrote (one_byte b small) (passed now after rest rest b n none none plain some one wrote) p
passed_or_not (Err e) start now after rest b none plain small some one wrote same p = subst (λ v. Passes start v rest) (sym same) p

-- the first byte of some
pub first_byte : (bytes : List ℕ) (d : ℕ) → 0 < length bytes → get_or bytes 0 d ∷ [] ≡ take 1 bytes
first_byte [] d some = absurd (omega arith)
first_byte (b ∷ bs) d some = refl
