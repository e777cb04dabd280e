-- What comes next stands at its place in the bytes.
use Rattle.std.proofs.Common.{◌≡◌, ℕ, ◌+◌, ◌==◌, ◌≤◌, ◌<◌, Bool, true, not, List, [], ◌∷◌, ◌++◌, length, get_or, take, drop, refl, ap, sym, subst, ◌∙◌, arith, length-append}
use Rattle.std.proofs.lemmas.Bool.{and_parts, not-true, cond-false}
use Rattle.std.proofs.lemmas.List.{take-append-drop, length-take-le, drop_more}
use Rattle.rb_base.specs.declared.edition.Edition.{Edition}
use Rattle.rb_base.specs.declared.place.Place.{Place}
use Rattle.rb_base.specs.declared.fault.SourceFault.{SourceFault}
use Rattle.rb_lex.specs.declared.gap.Step.{Step}
use Rattle.rb_lex.specs.declared.gap.Step.TheVariants.{Pass, Begin, Fault}
use Rattle.rb_lex.specs.Bytes.{place_after, place_past, columns_on}
use Rattle.rb_lex.specs.Tokens.{Lexeme, Front, Whole, Faulty, Next, End, Found, Refused, cut, front, next_from}
use Rattle.rb_lex.specs.Gaps.{step_of}
use Rattle.rb_lex.proofs.Steps.{next_by, by_step}
use Rattle.rb_lex.proofs.Fronts.{has_no_lf, FrontStands, front-stands}

-- a token stands behind a gap, and holds a byte or more
pub record FoundStands (p : Place) (bytes : List ℕ) (token : Lexeme) (at : Place) (left : List ℕ) : Type 0 where
  pub gap : List ℕ
  pub parts : bytes ≡ gap ++ (token.text ++ left)
  pub begins : token.place ≡ place_past p gap
  pub ends : at ≡ place_past token.place token.text
  pub some : 1 ≤ length token.text

-- a fault stands at a byte
pub record FaultStands (p : Place) (bytes : List ℕ) (fault : SourceFault) : Type 0 where
  pub before : List ℕ
  pub byte : ℕ
  pub after : List ℕ
  pub parts : bytes ≡ before ++ byte ∷ after
  pub stands : fault.place ≡ place_past p before

-- what comes next stands where it says; the end stands behind all bytes
abbrev pub NextStands : Place → List ℕ → Next → Type 0
NextStands p bytes (End at) = at ≡ place_past p bytes
NextStands p bytes (Found token at left) = FoundStands p bytes token at left
NextStands p bytes (Refused fault) = FaultStands p bytes fault

-- columns add up
columns_on-none : (p : Place) → p ≡ columns_on p 0
columns_on-none p = let e : p.column ≡ p.column + 0 = omega arith in ap (λ c. let q : Place = record { line = p.line; column = c } in q) e

columns_on-more : (p : Place) (n : ℕ) → columns_on (columns_on p 1) n ≡ columns_on p (1 + n)
columns_on-more p n = let e : (p.column + 1) + n ≡ p.column + (1 + n) =
    omega arith in ap (λ c. let q : Place = record { line = p.line; column = c } in q) e

-- bytes with no LF stand on one line
pub place_past-columns : (p : Place) (bytes : List ℕ) → has_no_lf bytes ≡ true → place_past p bytes ≡ columns_on p (length bytes)
place_past-columns p [] h = columns_on-none p
place_past-columns p (b ∷ bs) h =
    let both = and_parts (not (b == 10)) (has_no_lf bs) h in
    let here : place_after p b ≡ columns_on p 1 = cond-false (b == 10) _ _ (not-true (b == 10) both.0) in
    place_past-columns (place_after p b) bs both.1 ∙ ap (λ q. columns_on q (length bs)) here ∙ columns_on-more p (length bs)
    ∙ ap (columns_on p) (omega arith)

-- what stands at a front, cut off there
cut-stands : (f : Front) (p : Place) (bytes : List ℕ) → FrontStands f bytes → NextStands p bytes (cut f p bytes)
cut-stands (Whole kind n) p bytes h =
    let long : length (take n bytes) ≡ n = length-take-le n bytes h.1 in
    record {
      gap = [];
      parts = sym (take-append-drop n bytes);
      begins = refl;
      ends = ap (columns_on p) (sym long) ∙ sym (place_past-columns p (take n bytes) h.2);
      some = omega (arith, h.0, long);
    }
cut-stands (Faulty name n) p bytes h =
    let long : length (take n bytes) ≡ n = length-take-le n bytes (omega (arith, h.0)) in
    record {
      before = take n bytes;
      byte = get_or bytes n 0;
      after = drop (n + 1) bytes;
      parts = sym (take-append-drop n bytes) ∙ ap (λ l. take n bytes ++ l) (drop_more bytes n 0 h.0);
      stands = ap (columns_on p) (sym long) ∙ sym (place_past-columns p (take n bytes) h.1);
    }

-- one byte more stands before it
one_further : (p : Place) (b : ℕ) (bs : List ℕ) (next : Next) → NextStands (place_after p b) bs next → NextStands p (b ∷ bs) next
one_further p b bs (End at) h = h
one_further p b bs (Found token at left) h =
    record { gap = b ∷ h.gap; parts = ap (λ l. b ∷ l) h.parts; begins = h.begins; ends = h.ends; some = h.some }
one_further p b bs (Refused fault) h =
    record { before = b ∷ h.before; byte = h.byte; after = h.after; parts = ap (λ l. b ∷ l) h.parts; stands = h.stands }

-- the step of `next_from-stands`
step-stands : (s : Step) (edition : Edition) (p : Place) (b : ℕ) (bs : List ℕ)
    → ((comment : Bool) → NextStands (place_after p b) bs (next_from edition comment (place_after p b) bs))
    → NextStands p (b ∷ bs) (next_by s edition p b bs)
step-stands (Pass comment) edition p b bs h =
    one_further p b bs (next_from edition comment (place_after p b) bs) (h comment)
step-stands Begin edition p b bs h = cut-stands (front edition (b ∷ bs)) p (b ∷ bs) (front-stands edition b bs)
step-stands Fault edition p b bs h =
    record { before = []; byte = b; after = bs; parts = refl; stands = refl }

-- what comes next, from any place
pub next_from-stands : (edition : Edition) (comment : Bool) (p : Place) (bytes : List ℕ) → NextStands p bytes (next_from edition comment p bytes)
next_from-stands edition comment p [] = refl
next_from-stands edition comment p (b ∷ bs) =
    subst (NextStands p (b ∷ bs)) (sym (by_step edition comment p b bs))
    (step-stands (step_of comment b) edition p b bs (λ c. next_from-stands edition c (place_after p b) bs))

-- a token that comes next stands behind a gap
pub found-stands : (edition : Edition) (comment : Bool) (p : Place) (bytes : List ℕ) (token : Lexeme) (at : Place) (left : List ℕ)
    → next_from edition comment p bytes ≡ Found token at left → FoundStands p bytes token at left
found-stands edition comment p bytes token at left e = subst (NextStands p bytes) e (next_from-stands edition comment p bytes)

-- each token leaves fewer bytes
pub found-progress : (edition : Edition) (comment : Bool) (p : Place) (bytes : List ℕ) (token : Lexeme) (at : Place) (left : List ℕ)
    → next_from edition comment p bytes ≡ Found token at left → length left < length bytes
found-progress edition comment p bytes token at left e =
    let s = found-stands edition comment p bytes token at left e in
    omega (arith, ap length s.parts, length-append s.gap (token.text ++ left), length-append token.text left, s.some)
