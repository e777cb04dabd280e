-- The pieces of a line are joined.
use Rattle.std.proofs.Common.{◌≡◌, ◌≢◌, ℕ, zero, suc, ◌+◌, ◌*◌, ◌<◌, ◌≤◌, ◌^◌, ℤ, pos, negsuc, Bool, true, false, cond, List, [], ◌∷◌, ◌++◌, map, length, take, refl, ap, sym, ◌∙◌, subst, arith}
use Rattle.std.specs.Prelude.{get_or, slice_get}
use Rattle.std.specs.Fmt.{decimal, signed_decimal}
use lib.Signed.{mag}
use Rattle.std.specs.Option.{unwrap_or}
use Rattle.std.proofs.lemmas.Fmt.{decimal-digits_of, decimal_digit, length_signed_le}
use Rattle.std.proofs.lemmas.List.{append_assoc, length-append, length-map, length-take-le, map_more}
use Rattle.std.proofs.lemmas.List.Elements.{All-append, All-cons, All-nil}
use Rattle.rb_hold.specs.Held.{IsLine}
use Rattle.rb_code.specs.WordMachine.Act.{joined_pieces}
use Rattle.rb_operands.specs.declared.line.Piece.{Piece}
use Rattle.rb_operands.specs.Pieces.{AreTexts, IsText, piece_text}

no_text : IsText []
no_text = record { short = omega arith; line = All-nil _ }

pub text_there : (texts : List (List ℕ)) (k : ℕ) → AreTexts texts → IsText (unwrap_or (slice_get texts k) [])
text_there [] k h = no_text
text_there (text ∷ texts) zero h = h.0
text_there (text ∷ texts) (suc k) h = text_there texts k h.1

glyphs_line : (ds : List ℕ) → IsLine (map (λ d. 48 + d) ds)
glyphs_line [] = All-nil _
glyphs_line (d ∷ ds) = All-cons (λ (byte : ℕ). byte ≢ 10) (48 + d) (map (λ d. 48 + d) ds) (λ e. absurd (omega arith)) (glyphs_line ds)

digits_line : (n : ℕ) → n < 2 ^ 64 → IsLine (decimal n)
digits_line zero h =
    subst IsLine (sym (decimal_digit 0 (omega arith)))
    (All-cons (λ (byte : ℕ). byte ≢ 10) 48 [] (λ e. absurd (omega arith)) (All-nil (λ (byte : ℕ). byte ≢ 10)))
digits_line (suc n) h = subst IsLine (sym (decimal-digits_of (suc n) (omega arith) h)) (glyphs_line _)

number_line : (z : ℤ) → mag z < 2 ^ 63 → IsLine (signed_decimal z)
number_line (pos n) h = digits_line n (omega arith)
number_line (negsuc n) h = All-cons (λ (byte : ℕ). byte ≢ 10) 45 (decimal (suc n)) (λ e. absurd (omega arith)) (digits_line (suc n) (omega arith))

pub number_text : (z : ℤ) → mag z < 2 ^ 63 → IsText (signed_decimal z)
number_text z h = record { short = (let k = length_signed_le 19 z (omega arith) h in omega arith); line = number_line z h }

-- one piece more, at the end
joined_push : (ps : List (List ℕ)) (p : List ℕ) (is_first : Bool) → (is_first ≡ true → length ps ≡ 0) → (is_first ≡ false → 0 < length ps)
    → joined_pieces (ps ++ p ∷ []) ≡ cond is_first (joined_pieces ps) (joined_pieces ps ++ 32 ∷ []) ++ p
joined_push [] p true a b = refl
joined_push [] p false a b = absurd (let h = b refl in omega arith)
joined_push (q ∷ ps) p true a b = absurd (let h = a refl in omega arith)
joined_push (q ∷ []) p false a b = sym (append_assoc q (32 ∷ []) p)
joined_push (q ∷ r ∷ ps) p false a b =
    ap (λ (l : List ℕ). q ++ 32 ∷ l) (joined_push (r ∷ ps) p false (λ e. absurd (no e)) (λ e. omega arith))
    ∙ again q (joined_pieces (r ∷ ps)) p
  where
    no : false ≡ true → ⊥
    no e = cc

    again : (q l p : List ℕ) → q ++ 32 ∷ ((l ++ 32 ∷ []) ++ p) ≡ ((q ++ 32 ∷ l) ++ 32 ∷ []) ++ p
    again q l p =
        sym (append_assoc q (32 ∷ (l ++ 32 ∷ [])) p) ∙ ap (λ (x : List ℕ). x ++ p) (sym (append_assoc q (32 ∷ l) (32 ∷ [])))

-- what a line of the first pieces keeps
pub record IsJoined (texts : List (List ℕ)) (pieces : List Piece) (i : ℕ) (bytes : List ℕ) : Type 0 where
  pub joined : bytes ≡ joined_pieces (map (piece_text texts) (take i pieces))
  pub line : IsLine bytes
  pub short : length bytes ≤ 257 * i

pub joined_more : (texts : List (List ℕ)) (pieces : List Piece) (i : ℕ) (d : Piece) (before after : List ℕ) (is_first : Bool) → i < length pieces
    → (is_first ≡ true → i ≡ 0) → (is_first ≡ false → 0 < i) → IsJoined texts pieces i before → IsText (piece_text texts (get_or pieces i d))
    → after ≡ cond is_first before (before ++ 32 ∷ []) ++ piece_text texts (get_or pieces i d) → IsJoined texts pieces (i + 1) after
joined_more texts pieces i d before after is_first h first later j t e = record {
  joined =
      e ∙ ap (λ (l : List ℕ). cond is_first l (l ++ 32 ∷ []) ++ text) j.joined
      ∙ sym (joined_push texts_now text is_first (λ q. long ∙ first q) (λ q. let k = later q in let l = long in omega arith))
      ∙ ap joined_pieces (sym (map_more (piece_text texts) pieces i d h));
  line = subst IsLine (sym e) (All-append (λ (byte : ℕ). byte ≢ 10) (cond is_first before (before ++ 32 ∷ [])) text (front is_first) t.line);
  short = let k = ap length e in let a = length-append (cond is_first before (before ++ 32 ∷ [])) text in let f =
      front_long is_first in let s = t.short in let o = j.short in omega arith;
}
  where
    text : List ℕ
    text = piece_text texts (get_or pieces i d)

    texts_now : List (List ℕ)
    texts_now = map (piece_text texts) (take i pieces)

    long : length texts_now ≡ i
    long = length-map (take i pieces) (piece_text texts) ∙ length-take-le i pieces (omega arith)

    front : (b : Bool) → IsLine (cond b before (before ++ 32 ∷ []))
    front true = j.line
    front false = All-append (λ (byte : ℕ). byte ≢ 10) before (32 ∷ []) j.line
        (All-cons (λ (byte : ℕ). byte ≢ 10) 32 [] (λ e. absurd (omega arith)) (All-nil (λ (byte : ℕ). byte ≢ 10)))

    front_long : (b : Bool) → length (cond b before (before ++ 32 ∷ [])) ≤ length before + 1
    front_long true = omega arith
    front_long false = let k = length-append before (32 ∷ []) in omega arith
