-- The tokens of a text stand at their places in it, and their places rise.
use Rattle.std.proofs.Common.{◌≡◌, ℕ, ◌+◌, ◌==◌, ◌≤◌, ◌<◌, Bool, true, false, cond, ◌⊎◌, inl, inr, List, [], ◌∷◌, ◌++◌, length, refl, ap, sym, subst, ◌∙◌, arith, append_assoc, All, AllPairs}
use Rattle.std.proofs.lemmas.List.Elements.{All-cons, All-nil}
use Rattle.std.proofs.lemmas.List.Kept.{AllPairs-cons}
use Rattle.std.proofs.lemmas.List.{append-nil}
use Rattle.rb_base.specs.declared.edition.Edition.{Edition}
use Rattle.rb_base.specs.declared.place.Place.{Place}
use Rattle.rb_lex.specs.Bytes.{first_place, place_after, place_past}
use Rattle.rb_lex.specs.Tokens.{Lexeme, Found, Ending, TokensFrom, no_more, one_more, a_fault, next_from, edition_of}
use Rattle.rb_lex.specs.Laws.{StandsAt, TokensStand, IsBefore, TokensRise, EndingStandsAt, EndingStands}
use Rattle.rb_lex.proofs.Landing.{FaultStands, NextStands, next_from-stands, found-stands}

-- places go on from one part to the next
pub place_past-append : (p : Place) (xs ys : List ℕ) → place_past p (xs ++ ys) ≡ place_past (place_past p xs) ys
place_past-append p [] ys = refl
place_past-append p (x ∷ xs) ys = place_past-append (place_after p x) xs ys

-- a place in a source, with the bytes before it and those from it on
pub record IsAt (source : List ℕ) (p : Place) (before bytes : List ℕ) : Type 0 where
  pub parts : source ≡ before ++ bytes
  pub stands : p ≡ place_past first_place before

-- further on in the source
further : (source : List ℕ) (p q : Place) (before bytes gap rest : List ℕ) → IsAt source p before bytes
    → bytes ≡ gap ++ rest → q ≡ place_past p gap → IsAt source q (before ++ gap) rest
further source p q before bytes gap rest here e f =
    record {
      parts = here.parts ∙ ap (λ l. before ++ l) e ∙ sym (append_assoc before gap rest);
      stands = f ∙ ap (λ x. place_past x gap) here.stands ∙ sym (place_past-append first_place before gap);
    }

-- the part that begins at such a place
stands_from : (source : List ℕ) (text rest : List ℕ) (p : Place) (before : List ℕ) → IsAt source p before (text ++ rest) → StandsAt source text p
stands_from source text rest p before here =
    (before, rest, here.parts ∙ sym (append_assoc before text rest), here.stands)

-- the tokens from a place in the source on
tokens-stand_from : (edition : Edition) (source : List ℕ) (p : Place) (before bytes : List ℕ) (tokens : List Lexeme) (ending : Ending)
    → IsAt source p before bytes → TokensFrom edition p bytes tokens ending
    → All (λ token. StandsAt source token.text token.place) tokens
tokens-stand_from edition source _ before _ _ _ here (no_more p bytes at e) = All-nil _
tokens-stand_from edition source _ before _ _ _ here (a_fault p bytes fault e) = All-nil _
tokens-stand_from edition source _ before _ _ _ here (one_more p bytes token at left tokens ending e rest) =
    let s = found-stands edition false p bytes token at left e in
    let begun : IsAt source token.place (before ++ s.gap) (token.text ++ left) =
    further source p token.place before bytes s.gap (token.text ++ left) here s.parts s.begins in
    let done : IsAt source at ((before ++ s.gap) ++ token.text) left =
    further source token.place at (before ++ s.gap) (token.text ++ left) token.text left begun refl s.ends in
    All-cons (λ t. StandsAt source t.text t.place) token tokens
    (stands_from source token.text left token.place (before ++ s.gap) begun)
    (tokens-stand_from edition source at ((before ++ s.gap) ++ token.text) left tokens ending done rest)

pub tokens_stand : TokensStand
tokens_stand bytes tokens ending t =
    tokens-stand_from (edition_of bytes) bytes first_place [] bytes tokens ending (record { parts = refl; stands = refl }) t

-- the ending of those tokens
ending-stands_from : (edition : Edition) (source : List ℕ) (p : Place) (before bytes : List ℕ) (tokens : List Lexeme) (ending : Ending)
    → IsAt source p before bytes → TokensFrom edition p bytes tokens ending → EndingStandsAt source ending
ending-stands_from edition source _ before _ _ _ here (no_more p bytes at e) =
    let s : at ≡ place_past p bytes = subst (NextStands p bytes) e (next_from-stands edition false p bytes) in
    let last = further source p at before bytes bytes [] here (sym (append-nil bytes)) s in
    last.stands ∙ ap (place_past first_place) (sym (last.parts ∙ append-nil (before ++ bytes)))
ending-stands_from edition source _ before _ _ _ here (a_fault p bytes fault e) =
    let s : FaultStands p bytes fault = subst (NextStands p bytes) e (next_from-stands edition false p bytes) in (
      s.byte,
      stands_from source (s.byte ∷ []) s.after fault.place (before ++ s.before)
          (further source p fault.place before bytes s.before (s.byte ∷ s.after) here s.parts s.stands),
    )
ending-stands_from edition source _ before _ _ _ here (one_more p bytes token at left tokens ending e rest) =
    let s = found-stands edition false p bytes token at left e in
    let begun : IsAt source token.place (before ++ s.gap) (token.text ++ left) =
    further source p token.place before bytes s.gap (token.text ++ left) here s.parts s.begins in
    let done : IsAt source at ((before ++ s.gap) ++ token.text) left =
    further source token.place at (before ++ s.gap) (token.text ++ left) token.text left begun refl s.ends in
    ending-stands_from edition source at ((before ++ s.gap) ++ token.text) left tokens ending done rest

pub ending_stands : EndingStands
ending_stands bytes tokens ending t =
    ending-stands_from (edition_of bytes) bytes first_place [] bytes tokens ending (record { parts = refl; stands = refl }) t

-- one place is the other or stands before it
abbrev pub IsNotAfter : Place → Place → Type 0
IsNotAfter p q = (p.line < q.line) ⊎ ((p.line ≡ q.line) × (p.column ≤ q.column))

-- the order of places
not_after-trans : (p q r : Place) → IsNotAfter p q → IsNotAfter q r → IsNotAfter p r
not_after-trans p q r a b = grind arith

before-trans : (p q r : Place) → IsBefore p q → IsNotAfter q r → IsBefore p r
before-trans p q r a b = grind arith

before-not_after : (p q : Place) → IsBefore p q → IsNotAfter p q
before-not_after p q a = grind arith

step_before : (x : Bool) (p : Place)
    → IsBefore p (cond x (record { line = p.line + 1; column = 1 }) (record { line = p.line; column = p.column + 1 }))
step_before true p = inl (omega arith)
step_before false p = inr (refl, omega arith)

-- bytes lead to no earlier place
pub place_past-not_after : (p : Place) (bytes : List ℕ) → IsNotAfter p (place_past p bytes)
place_past-not_after p [] = inr (refl, omega arith)
place_past-not_after p (b ∷ bs) =
    not_after-trans p (place_after p b) (place_past (place_after p b) bs)
    (before-not_after p (place_after p b) (step_before (b == 10) p)) (place_past-not_after (place_after p b) bs)

-- and a byte or more to a later one
pub place_past-before : (p : Place) (bytes : List ℕ) → 1 ≤ length bytes → IsBefore p (place_past p bytes)
place_past-before p [] h = absurd (omega arith)
place_past-before p (b ∷ bs) h =
    before-trans p (place_after p b) (place_past (place_after p b) bs) (step_before (b == 10) p) (place_past-not_after (place_after p b) bs)

-- the place behind a token that comes next stands after the token
pub found-before : (edition : Edition) (p : Place) (bytes : List ℕ) (token : Lexeme) (at : Place) (left : List ℕ)
    → next_from edition false p bytes ≡ Found token at left → IsNotAfter p token.place × IsBefore token.place at
found-before edition p bytes token at left e =
    let s = found-stands edition false p bytes token at left e in (
      subst (IsNotAfter p) (sym s.begins) (place_past-not_after p s.gap),
      subst (IsBefore token.place) (sym s.ends) (place_past-before token.place token.text s.some),
    )

-- no token stands before the place from which they are read
later_tokens : (edition : Edition) (p : Place) (bytes : List ℕ) (tokens : List Lexeme) (ending : Ending)
    → TokensFrom edition p bytes tokens ending → All (λ t. IsNotAfter p t.place) tokens
later_tokens edition _ _ _ _ (no_more p bytes at e) = All-nil _
later_tokens edition _ _ _ _ (a_fault p bytes fault e) = All-nil _
later_tokens edition _ _ _ _ (one_more p bytes token at left tokens ending e rest) =
    let b = found-before edition p bytes token at left e in
    let p_at = not_after-trans p token.place at b.0 (before-not_after token.place at b.1) in
    All-cons (λ t. IsNotAfter p t.place) token tokens b.0
    (λ k d h. not_after-trans p at _ p_at (later_tokens edition at left tokens ending rest k d h))

-- each token stands before those that come after it
rise_from : (edition : Edition) (p : Place) (bytes : List ℕ) (tokens : List Lexeme) (ending : Ending)
    → TokensFrom edition p bytes tokens ending → AllPairs (λ t u. IsBefore t.place u.place) tokens
rise_from edition _ _ _ _ (no_more p bytes at e) = λ i j d h k. absurd (omega (arith, k))
rise_from edition _ _ _ _ (a_fault p bytes fault e) = λ i j d h k. absurd (omega (arith, k))
rise_from edition _ _ _ _ (one_more p bytes token at left tokens ending e rest) =
    let b = found-before edition p bytes token at left e in
    AllPairs-cons (λ t u. IsBefore t.place u.place) token tokens
    (λ k d h. before-trans token.place at _ b.1 (later_tokens edition at left tokens ending rest k d h))
    (rise_from edition at left tokens ending rest)

pub tokens_rise : TokensRise
tokens_rise bytes tokens ending t = rise_from (edition_of bytes) first_place bytes tokens ending t
