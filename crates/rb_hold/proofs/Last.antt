-- The last of stored lines.
use Rattle.std.proofs.Common.{◌≡◌, ℕ, zero, suc, ◌+◌, ◌-◌, ◌<◌, ◌≤◌, Bool, true, false, cond, List, [], ◌∷◌, ◌++◌, length, take, drop, nat_eq, slice_get, Some, refl, ap, sym, ◌∙◌, subst, append_assoc, arith, length-append}
use Rattle.std.proofs.Math.Seq.{take-append_seam, take-suc}
use Rattle.std.proofs.lemmas.Bool.{eqb-true}
use Rattle.std.proofs.lemmas.List.{drop-take, take-append-drop}
use Rattle.std.proofs.lemmas.Option.{get_or_from_slice_get}
use Rattle.rb_hold.specs.Held.{IsLine}
use Rattle.rb_hold.specs.Stored.{ended, stored, begun_with, lines_in, AreLines}
use Rattle.rb_hold.proofs.Lines.{one_more}

-- the lines of bytes that begin with a byte and end with LF
joined : (byte : ℕ) (lines : List (List ℕ)) (bytes : List ℕ) → stored lines ≡ bytes ++ 10 ∷ [] → (b : Bool)
    → stored (cond b ([] ∷ lines) (begun_with byte lines)) ≡ cond b 10 byte ∷ (bytes ++ 10 ∷ [])
joined byte lines bytes h true = ap (λ (rest : List ℕ). 10 ∷ rest) h
joined byte [] bytes h false = absurd (let long = ap length h ∙ length-append bytes (10 ∷ []) in omega (arith, long))
joined byte (line ∷ lines) bytes h false = ap (λ (rest : List ℕ). byte ∷ rest) h

by_end : (byte : ℕ) (bytes : List ℕ) → (b : Bool) → nat_eq byte 10 ≡ b → cond b 10 byte ≡ byte
by_end byte bytes true e = sym (eqb-true byte 10 e)
by_end byte bytes false e = refl

-- bytes that end with LF are stored lines
pub ended_are_lines : (bytes : List ℕ) → AreLines (bytes ++ 10 ∷ [])
ended_are_lines [] = refl
ended_are_lines (byte ∷ bytes) =
    joined byte (lines_in (bytes ++ 10 ∷ [])) bytes (ended_are_lines bytes) (nat_eq byte 10)
    ∙ ap (λ (n : ℕ). n ∷ (bytes ++ 10 ∷ [])) (by_end byte bytes (nat_eq byte 10) refl)

-- and stored lines end with LF
abbrev pub Ends : List ℕ → Type 0
Ends bytes = (front : List ℕ) × (bytes ≡ front ++ 10 ∷ [])

pub stored_ends : (line : List ℕ) (lines : List (List ℕ)) → Ends (stored (line ∷ lines))
stored_ends line [] = (line, append_assoc line (10 ∷ []) [])
stored_ends line (next ∷ lines) =
    let rest = stored_ends next lines in
    (ended line ++ rest.0, ap (λ (bytes : List ℕ). ended line ++ bytes) rest.1 ∙ sym (append_assoc (ended line) rest.0 (10 ∷ [])))

pub lines_end : (bytes : List ℕ) → AreLines bytes → 0 < length bytes → Ends bytes
lines_end bytes h some = by (lines_in bytes) h
  where
    by : (lines : List (List ℕ)) → stored lines ≡ bytes → Ends bytes
    by [] e = absurd (let none = ap length e in omega (arith, none, some))
    by (line ∷ lines) e = subst Ends e (stored_ends line lines)

-- the last of a list that ends with it
last_at : {A : Type 0} (xs : List A) (x : A) → slice_get (xs ++ x ∷ []) (length (xs ++ x ∷ []) - 1) ≡ Some x
last_at [] x = refl
last_at (y ∷ xs) x =
    let long = length-append xs (x ∷ []) in
    let k : length (y ∷ xs ++ x ∷ []) - 1 ≡ suc (length (xs ++ x ∷ []) - 1) = omega (arith, long) in
    ap (slice_get (y ∷ xs ++ x ∷ [])) k ∙ last_at xs x

-- nothing, or what ends with LF, is stored lines
front_are_lines : (front : List ℕ) (start : ℕ) → start ≤ length front → (0 < start → slice_get front (start - 1) ≡ Some 10)
    → AreLines (take start front)
front_are_lines front zero within behind = refl
front_are_lines front (suc k) within behind =
    let there : slice_get front k ≡ Some 10 =
    subst (λ (n : ℕ). slice_get front n ≡ Some 10) (omega arith) (behind (omega arith)) in
    let is = take-suc front k 10 (omega arith)
    ∙ ap (λ (byte : ℕ). take k front ++ byte ∷ []) (get_or_from_slice_get front k 10 10 there) in
    subst AreLines (sym is) (ended_are_lines (take k front))

at_end : (front : List ℕ) (start : ℕ) → start ≤ length front → IsLine (drop start front)
    → (0 < start → slice_get front (start - 1) ≡ Some 10)
    → slice_get (lines_in (front ++ 10 ∷ [])) (length (lines_in (front ++ 10 ∷ [])) - 1) ≡ Some (drop start front)
at_end front start within line behind =
    let first = take start front in
    let last = drop start front in
    let lines : lines_in (front ++ 10 ∷ []) ≡ lines_in first ++ last ∷ [] =
    ap (λ (bytes : List ℕ). lines_in (bytes ++ 10 ∷ [])) (sym (take-append-drop start front))
    ∙ one_more first last (front_are_lines front start within behind) line in
    ap (λ (all : List (List ℕ)). slice_get all (length all - 1)) lines ∙ last_at (lines_in first) last

-- What begins behind the last LF but one is the last of stored lines.
pub last_is : (bytes : List ℕ) (start : ℕ) → AreLines bytes → 0 < length bytes → start ≤ length bytes - 1
    → IsLine (drop start (take (length bytes - 1) bytes))
    → (0 < start → slice_get (take (length bytes - 1) bytes) (start - 1) ≡ Some 10)
    → Some (take (length bytes - 1 - start) (drop start bytes)) ≡ slice_get (lines_in bytes) (length (lines_in bytes) - 1)
last_is bytes start h some within line behind =
    let ends = lines_end bytes h some in
    let front = ends.0 in
    let long : length bytes - 1 ≡ length front = let n = ap length ends.1 ∙ length-append front (10 ∷ []) in omega (arith, n) in
    let all : take (length bytes - 1) bytes ≡ front =
    ap (λ (n : ℕ). take n bytes) long ∙ ap (take (length front)) ends.1 ∙ take-append_seam front (10 ∷ []) in
    let sum : start + (length bytes - 1 - start) ≡ length bytes - 1 = omega (arith, within) in
    let here : take (length bytes - 1 - start) (drop start bytes) ≡ drop start front =
    sym (drop-take start (length bytes - 1 - start) bytes) ∙ ap (λ (n : ℕ). drop start (take n bytes)) sum ∙ ap (drop start) all in
    ap Some here
    ∙ sym (at_end front start (omega (arith, within, long)) (subst (λ (f : List ℕ). IsLine (drop start f)) all line)
    (subst (λ (f : List ℕ). 0 < start → slice_get f (start - 1) ≡ Some 10) all behind))
    ∙ ap (λ (all : List ℕ). slice_get (lines_in all) (length (lines_in all) - 1)) (sym ends.1)
