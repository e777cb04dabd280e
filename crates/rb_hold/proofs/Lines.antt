-- Lines that are stored are the lines that are read back.
use Rattle.std.proofs.Common.{◌≡◌, ◌≢◌, ℕ, zero, suc, ◌+◌, ◌-◌, ◌<◌, ◌≤◌, Bool, true, false, not, cond, List, [], ◌∷◌, ◌++◌, length, take, drop, nat_eq, nat_lt, slice_get, count_by, sum_by, Some, None, position, option_map, refl, sym, ap, ◌∙◌, subst, append_assoc, arith, length-append, length-drop, drop_of_length-le}
use Rattle.std.specs.List.{AllByRecursion, position_or_len}
use Rattle.std.proofs.lemmas.Bool.{ne_eqb, eqb-false, lt-ltb}
use Rattle.std.proofs.lemmas.List.Sums.{sum_by-cons, sum_by-append}
use Rattle.std.proofs.lemmas.Grind.{flat_map-append}
use Rattle.std.proofs.Math.Seq.{take-append_seam, drop-append_seam}
use Rattle.std.proofs.lemmas.List.{drop-drop, take-append-drop, append-nil, take-take, take_all, length-take-le}
use Rattle.rb_hold.specs.Held.{held_bytes, IsLine, IsLengthOf}
use Rattle.rb_hold.specs.Stored.{ended, stored, begun_with, lines_in, AreLines, IsBuffer}
use Rattle.rb_base.specs.declared.limits.TheConstants.{MOST_HELD_BYTES}

-- a line end is found where one stands
abbrev pub is_end : ℕ → Bool
is_end byte = nat_eq byte 10

-- the rest of a line is one
rest_is_line : (byte : ℕ) (line : List ℕ) → IsLine (byte ∷ line) → IsLine line
rest_is_line byte line h = λ k d within. h (suc k) d (omega (arith, within))

-- its first byte is no line end
first_is_none : (byte : ℕ) (line : List ℕ) → IsLine (byte ∷ line) → is_end byte ≡ false
first_is_none byte line h = ne_eqb byte 10 (h 0 0 (omega arith))

-- a stored line, and what follows it
pub line_first : (line rest : List ℕ) → IsLine line → lines_in (line ++ 10 ∷ rest) ≡ line ∷ lines_in rest
line_first [] rest h = refl
line_first (byte ∷ line) rest h =
    ap (λ (b : Bool). cond b ([] ∷ lines_in (line ++ 10 ∷ rest)) (begun_with byte (lines_in (line ++ 10 ∷ rest)))) (first_is_none byte line h)
    ∙ ap (begun_with byte) (line_first line rest (rest_is_line byte line h))

-- stored lines, and what follows them
pub lines_first : (lines : List (List ℕ)) (rest : List ℕ) → AllByRecursion IsLine lines → lines_in (stored lines ++ rest) ≡ lines ++ lines_in rest
lines_first [] rest h = refl
lines_first (line ∷ lines) rest h =
    ap lines_in (append_assoc (line ++ 10 ∷ []) (stored lines) rest ∙ append_assoc line (10 ∷ []) (stored lines ++ rest))
    ∙ line_first line (stored lines ++ rest) h.0
    ∙ ap (λ (others : List (List ℕ)). line ∷ others) (lines_first lines rest h.1)

-- stored lines are read back
pub lines_back : (lines : List (List ℕ)) → AllByRecursion IsLine lines → lines_in (stored lines) ≡ lines
lines_back lines h = ap lines_in (sym (append-nil (stored lines))) ∙ lines_first lines [] h ∙ append-nil lines

-- a byte that is no line end, before a line
more_is_line : (byte : ℕ) (line : List ℕ) → byte ≢ 10 → IsLine line → IsLine (byte ∷ line)
more_is_line byte line other h zero d within = other
more_is_line byte line other h (suc k) d within = h k d (omega (arith, within))

-- no byte makes a line
none_is_line : IsLine []
none_is_line k d within = absurd (omega (arith, within))

begun_are_lines : (byte : ℕ) (lines : List (List ℕ)) → byte ≢ 10 → AllByRecursion IsLine lines → AllByRecursion IsLine (begun_with byte lines)
begun_are_lines byte [] other h = (more_is_line byte [] other none_is_line, tt)
begun_are_lines byte (line ∷ lines) other h = (more_is_line byte line other h.0, h.1)

by_end : (byte : ℕ) (lines : List (List ℕ)) → AllByRecursion IsLine lines → (b : Bool) → is_end byte ≡ b
    → AllByRecursion IsLine (cond b ([] ∷ lines) (begun_with byte lines))
by_end byte lines h true e = (none_is_line, h)
by_end byte lines h false e = begun_are_lines byte lines (eqb-false byte 10 e) h

-- what is read back are lines
pub are_lines : (bytes : List ℕ) → AllByRecursion IsLine (lines_in bytes)
are_lines [] = tt
are_lines (byte ∷ bytes) = by_end byte (lines_in bytes) (are_lines bytes) (is_end byte) refl

-- stored lines have as many bytes as are held
pub stored_length : (lines : List (List ℕ)) → length (stored lines) ≡ held_bytes lines
stored_length [] = refl
stored_length (line ∷ lines) =
    length-append (line ++ 10 ∷ []) (stored lines)
    ∙ ap (λ (n : ℕ). n + length (stored lines)) (length-append line (10 ∷ []))
    ∙ ap (λ (n : ℕ). (length line + 1) + n) (stored_length lines)
    ∙ sym (sum_by-cons (λ (one : List ℕ). length one + 1) line lines)

-- the first lines of those that are stored
pub first_lines : (lines : List (List ℕ)) (k : ℕ) → take (held_bytes (take k lines)) (stored lines) ≡ stored (take k lines)
first_lines lines k =
    let parts : stored lines ≡ stored (take k lines) ++ stored (drop k lines) =
    ap stored (sym (take-append-drop k lines)) ∙ flat_map-append ended (take k lines) (drop k lines) in
    ap (λ (n : ℕ). take n (stored lines)) (sym (stored_length (take k lines)))
    ∙ ap (take (length (stored (take k lines)))) parts
    ∙ take-append_seam (stored (take k lines)) (stored (drop k lines))

pub all_taken : (lines : List (List ℕ)) (k : ℕ) → AllByRecursion IsLine lines → AllByRecursion IsLine (take k lines)
all_taken lines zero h = tt
all_taken [] (suc k) h = tt
all_taken (line ∷ lines) (suc k) h = (h.0, all_taken lines k h.1)

-- the line end of the first of stored lines
end_of_first : (line more : List ℕ) → IsLine line → position_or_len is_end ((line ++ 10 ∷ []) ++ more) ≡ length line
end_of_first [] more h = refl
end_of_first (byte ∷ line) more h =
    ap (λ (b : Bool). cond (not b) (1 + position_or_len is_end ((line ++ 10 ∷ []) ++ more)) 0) (first_is_none byte line h)
    ∙ ap (λ (n : ℕ). 1 + n) (end_of_first line more (rest_is_line byte line h)) ∙ omega arith

pub first_end : (lines : List (List ℕ)) → AllByRecursion IsLine lines → position is_end (stored lines) ≡ option_map length (slice_get lines 0)
first_end [] h = refl
first_end (line ∷ lines) h =
    let more = stored lines in
    let at = end_of_first line more h.0 in
    let within : length line < length ((line ++ 10 ∷ []) ++ more) =
    omega (arith, length-append (line ++ 10 ∷ []) more, length-append line (10 ∷ [])) in
    ap (λ (n : ℕ). cond (nat_lt n (length ((line ++ 10 ∷ []) ++ more))) (Some n) None) at
    ∙ ap (λ (b : Bool). cond b (Some (length line)) None) (lt-ltb _ _ within)

-- the first of stored lines
pub first_bytes : (line : List ℕ) (lines : List (List ℕ)) → take (length line) (stored (line ∷ lines)) ≡ line
first_bytes line lines =
    ap (take (length line)) (append_assoc line (10 ∷ []) (stored lines)) ∙ take-append_seam line (10 ∷ stored lines)

-- the others
pub other_bytes : (line : List ℕ) (lines : List (List ℕ)) → drop (length line + 1) (stored (line ∷ lines)) ≡ stored lines
other_bytes line lines =
    ap (λ (n : ℕ). drop n (stored (line ∷ lines))) (sym (length-append line (10 ∷ [])))
    ∙ drop-append_seam (line ++ 10 ∷ []) (stored lines)

-- the held bytes of stored lines
pub length_of : (bytes : List ℕ) → AreLines bytes → held_bytes (lines_in bytes) ≡ length bytes
length_of bytes h = sym (stored_length (lines_in bytes)) ∙ ap length h

-- the held bytes of the lines in the first bytes
pub held_is : (bytes : List ℕ) (held : ℕ) → held ≤ length bytes → AreLines (take held bytes) → held_bytes (lines_in (take held bytes)) ≡ held
held_is bytes held within h = length_of (take held bytes) h ∙ length-take-le held bytes within

-- the first lines have no more
fewer : (lines : List (List ℕ)) (k : ℕ) → held_bytes (take k lines) ≤ held_bytes lines
fewer lines k =
    let each : List ℕ → ℕ = λ one. length one + 1 in
    omega (arith, sum_by-append each (take k lines) (drop k lines), ap (sum_by each) (take-append-drop k lines))

-- the first lines of the held ones lie in the first bytes of them
pub cut_within : (bytes : List ℕ) (held n k : ℕ) → held ≤ length bytes → AreLines (take held bytes)
    → IsLengthOf n k (lines_in (take held bytes)) → n ≤ held
cut_within bytes held n k within h cut =
    omega (arith, fewer (lines_in (take held bytes)) k, length_of (take held bytes) h, cut.1, length-take-le held bytes within)

pub cut_bytes : (bytes : List ℕ) (held n k : ℕ) → held ≤ length bytes → AreLines (take held bytes) → IsLengthOf n k (lines_in (take held bytes))
    → take n bytes ≡ stored (take k (lines_in (take held bytes)))
cut_bytes bytes held n k within h cut =
    let lines = lines_in (take held bytes) in
    sym (take-take n held bytes (cut_within bytes held n k within h cut))
    ∙ ap (take n) (sym h)
    ∙ ap (λ (m : ℕ). take m (stored lines)) (sym cut.1)
    ∙ first_lines lines k

pub cut_lines : (bytes : List ℕ) (held n k : ℕ) → held ≤ length bytes → AreLines (take held bytes) → IsLengthOf n k (lines_in (take held bytes))
    → lines_in (take n bytes) ≡ take k (lines_in (take held bytes))
cut_lines bytes held n k within h cut =
    let lines = lines_in (take held bytes) in
    ap lines_in (cut_bytes bytes held n k within h cut) ∙ lines_back (take k lines) (all_taken lines k (are_lines (take held bytes)))

pub cut_are_lines : (bytes : List ℕ) (held n k : ℕ) → held ≤ length bytes → AreLines (take held bytes) → IsLengthOf n k (lines_in (take held bytes))
    → AreLines (take n bytes)
cut_are_lines bytes held n k within h cut =
    ap stored (cut_lines bytes held n k within h cut) ∙ sym (cut_bytes bytes held n k within h cut)

-- one more line after stored ones
pub one_more : (bytes line : List ℕ) → AreLines bytes → IsLine line → lines_in ((bytes ++ line) ++ 10 ∷ []) ≡ lines_in bytes ++ line ∷ []
one_more bytes line h is_line =
    let lines = lines_in bytes in
    ap lines_in (append_assoc bytes line (10 ∷ []) ∙ ap (λ (first : List ℕ). first ++ (line ++ 10 ∷ [])) (sym h))
    ∙ lines_first lines (line ++ 10 ∷ []) (are_lines bytes)
    ∙ ap (λ (others : List (List ℕ)). lines ++ others) (line_first line [] is_line)

pub one_more_are_lines : (bytes line : List ℕ) → AreLines bytes → IsLine line → AreLines ((bytes ++ line) ++ 10 ∷ [])
one_more_are_lines bytes line h is_line =
    let lines = lines_in bytes in
    ap stored (one_more bytes line h is_line)
    ∙ flat_map-append ended lines (line ∷ [])
    ∙ ap (λ (first : List ℕ). first ++ ((line ++ 10 ∷ []) ++ [])) h
    ∙ ap (λ (last : List ℕ). bytes ++ last) (append-nil (line ++ 10 ∷ []))
    ∙ sym (append_assoc bytes line (10 ∷ []))

-- What follows from the length n of the first of stored lines.
pub record First (bytes : List ℕ) (n : ℕ) : Type 0 where
  pub first : Some (take n bytes) ≡ slice_get (lines_in bytes) 0
  pub others : lines_in (drop (n + 1) bytes) ≡ drop 1 (lines_in bytes)
  pub are_lines : AreLines (drop (n + 1) bytes)
  pub within : n + 1 ≤ length bytes

-- the same of the lines that are stored
first_of_stored : (lines : List (List ℕ)) (n : ℕ) → AllByRecursion IsLine lines
    → option_map length (slice_get lines 0) ≡ Some n → First (stored lines) n
first_of_stored [] n h e = cc
first_of_stored (line ∷ lines) n h e =
    let here : length line ≡ n = cc in
    subst (First (stored (line ∷ lines))) here (record {
      first = ap Some (first_bytes line lines) ∙ ap (λ (all : List (List ℕ)). slice_get all 0) (sym (lines_back (line ∷ lines) h));
      others = ap lines_in (other_bytes line lines) ∙ lines_back lines h.1 ∙ ap (drop 1) (sym (lines_back (line ∷ lines) h));
      are_lines = ap (λ (rest : List ℕ). stored (lines_in rest)) (other_bytes line lines) ∙ ap stored (lines_back lines h.1)
          ∙ sym (other_bytes line lines);
      within = omega (arith, length-append (line ++ 10 ∷ []) (stored lines), length-append line (10 ∷ []));
    })

pub first_of : (bytes : List ℕ) (n : ℕ) → AreLines bytes → option_map length (slice_get (lines_in bytes) 0) ≡ Some n → First bytes n
first_of bytes n h e = subst (λ (rest : List ℕ). First rest n) h (first_of_stored (lines_in bytes) n (are_lines bytes) e)

-- a buffer that ends with one more line, all of it held
pub one_more_buffer : (bytes line items : List ℕ) (n room : ℕ) → items ≡ (bytes ++ line) ++ 10 ∷ [] → n ≡ length items → AreLines bytes → IsLine line
    → length items ≤ MOST_HELD_BYTES → MOST_HELD_BYTES ≤ room → IsBuffer items n n room
one_more_buffer bytes line items n room is_items is_n h is_line few has_room =
    let all : take n items ≡ items = take_all n items (omega (arith, is_n)) in
    let none : drop n items ≡ [] = drop_of_length-le items (omega (arith, is_n)) in
    record {
      held_within = omega (arith, is_n);
      waiting_within = omega (arith, is_n);
      few = few;
      has_room = has_room;
      held_lines = subst AreLines (sym (all ∙ is_items)) (one_more_are_lines bytes line h is_line);
      waiting_lines = subst AreLines (sym none) refl;
    }

pub one_more_held : (bytes line items : List ℕ) (n : ℕ) → items ≡ (bytes ++ line) ++ 10 ∷ [] → n ≡ length items → AreLines bytes → IsLine line
    → lines_in (take n items) ≡ lines_in bytes ++ line ∷ []
one_more_held bytes line items n is_items is_n h is_line =
    ap lines_in (take_all n items (omega (arith, is_n)) ∙ is_items) ∙ one_more bytes line h is_line

pub none_waits : (items : List ℕ) (n : ℕ) → n ≡ length items → lines_in (drop n items) ≡ []
none_waits items n is_n = ap lines_in (drop_of_length-le items (omega (arith, is_n)))

-- the same of the waiting lines of a buffer
pub first_from : (bytes seen : List ℕ) (waiting n : ℕ) → seen ≡ bytes → AreLines (drop waiting bytes)
    → option_map length (slice_get (lines_in (take (length seen - waiting) (drop waiting seen))) 0) ≡ Some n → First (drop waiting bytes) n
first_from bytes seen waiting n same h e =
    let all : take (length seen - waiting) (drop waiting seen) ≡ drop waiting seen = take_all _ _ (omega (arith, length-drop waiting seen)) in
    let is : drop waiting bytes ≡ take (length seen - waiting) (drop waiting seen) = ap (drop waiting) (sym same) ∙ sym all in
    first_of (drop waiting bytes) n h (ap (λ (rest : List ℕ). option_map length (slice_get (lines_in rest) 0)) is ∙ e)

-- a buffer after its first waiting line, of length n, was passed
pub passed : (bytes : List ℕ) (waiting n : ℕ) → drop (waiting + n + 1) bytes ≡ drop (n + 1) (drop waiting bytes)
passed bytes waiting n = ap (λ (m : ℕ). drop m bytes) {y = waiting + (n + 1)} (omega arith) ∙ sym (drop-drop (n + 1) waiting bytes)

pub passed_within : (bytes : List ℕ) (waiting n : ℕ) → waiting ≤ length bytes → First (drop waiting bytes) n → waiting + n + 1 ≤ length bytes
passed_within bytes waiting n within first = omega (arith, first.within, length-drop waiting bytes)

pub passed_buffer : (bytes : List ℕ) (held waiting n room : ℕ) → IsBuffer bytes held waiting room → First (drop waiting bytes) n
    → IsBuffer bytes held (waiting + n + 1) room
passed_buffer bytes held waiting n room old first = record {
  held_within = old.held_within;
  waiting_within = passed_within bytes waiting n old.waiting_within first;
  few = old.few;
  has_room = old.has_room;
  held_lines = old.held_lines;
  waiting_lines = subst AreLines (sym (passed bytes waiting n)) first.are_lines;
}

pub passed_others : (bytes : List ℕ) (waiting n : ℕ) → First (drop waiting bytes) n
    → lines_in (drop (waiting + n + 1) bytes) ≡ drop 1 (lines_in (drop waiting bytes))
passed_others bytes waiting n first = ap lines_in (passed bytes waiting n) ∙ first.others

-- no line end stands in a line
none_in_line : (line more : List ℕ) → IsLine line → count_by is_end (line ++ more) ≡ count_by is_end more
none_in_line [] more h = refl
none_in_line (byte ∷ line) more h =
    let all = sum_by-cons (λ (b : ℕ). cond (is_end b) 1 0) byte (line ++ more) in
    let none = ap {B = ℕ} (λ (b : Bool). cond b 1 0) (first_is_none byte line h) in
    omega (arith, all, none, none_in_line line more (rest_is_line byte line h))

-- so stored lines have a line end each
ends_counted : (lines : List (List ℕ)) → AllByRecursion IsLine lines → count_by is_end (stored lines) ≡ length lines
ends_counted [] h = refl
ends_counted (line ∷ lines) h =
    let first = ap (count_by is_end) (append_assoc line (10 ∷ []) (stored lines)) ∙ none_in_line line (10 ∷ stored lines) h.0 in
    let more = sum_by-cons (λ (b : ℕ). cond (is_end b) 1 0) 10 (stored lines) in
    omega (arith, first, more, ends_counted lines h.1)

pub lines_counted : (bytes : List ℕ) → AreLines bytes → count_by is_end bytes ≡ length (lines_in bytes)
lines_counted bytes h = ap (count_by is_end) (sym h) ∙ ends_counted (lines_in bytes) (are_lines bytes)
