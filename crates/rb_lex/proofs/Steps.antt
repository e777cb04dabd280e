-- What comes next, byte by byte before a token.
use Rattle.std.proofs.Common.{◌≡◌, ℕ, ◌==◌, ◌≤◌, ◌+◌, ◌-◌, ◌*◌, ◌^◌, Bool, true, false, cond, List, [], ◌∷◌, length, get_or, drop, take, refl, ap, ◌∙◌, arith, length-take, length-drop}
use Rattle.std.specs.Bool.{if◌then◌else◌}
use Rattle.rb_base.specs.declared.edition.Edition.{Edition}
use Rattle.rb_base.specs.declared.place.Place.{Place}
use Rattle.rb_base.specs.declared.fault.FaultName.TheVariants.{X1}
use Rattle.rb_lex.specs.declared.gap.Step.{Step}
use Rattle.rb_lex.specs.declared.gap.Step.TheVariants.{Pass, Begin, Fault}
use Rattle.rb_lex.specs.Bytes.{is_blank, is_comment_byte, place_after}
use Rattle.rb_lex.specs.Tokens.{Next, Refused, next_from}
use Rattle.rb_lex.proofs.Choosing.{rest_cons}
use Rattle.rb_lex.specs.Gaps.{HasRoom, here, step_of}

-- what comes next, by the step that the first byte makes
abbrev pub next_by : Step → Edition → Place → ℕ → List ℕ → Next
next_by (Pass comment) edition p b bs = next_from edition comment (place_after p b) bs
next_by Begin edition p b bs = here edition p (b ∷ bs)
next_by Fault edition p b bs = Refused (record { name = X1; place = p })

-- the two cases of `by_step`, over the tests of the byte
in_comment : (is_end goes_on : Bool) (edition : Edition) (p : Place) (b : ℕ) (bs : List ℕ)
    → cond is_end (next_by (Pass false) edition p b bs) (cond goes_on (next_by (Pass true) edition p b bs) (next_by Fault edition p b bs))
    ≡ next_by (cond is_end (Pass false) (cond goes_on (Pass true) Fault)) edition p b bs
in_comment true _ edition p b bs = refl
in_comment false true edition p b bs = refl
in_comment false false edition p b bs = refl

outside : (blank begins : Bool) (edition : Edition) (p : Place) (b : ℕ) (bs : List ℕ)
    → cond blank (next_by (Pass false) edition p b bs) (cond begins (next_by (Pass true) edition p b bs) (next_by Begin edition p b bs))
    ≡ next_by (cond blank (Pass false) (cond begins (Pass true) Begin)) edition p b bs
outside true _ edition p b bs = refl
outside false true edition p b bs = refl
outside false false edition p b bs = refl

-- one step of the definition
pub by_step : (edition : Edition) (comment : Bool) (p : Place) (b : ℕ) (bs : List ℕ)
    → next_from edition comment p (b ∷ bs) ≡ next_by (step_of comment b) edition p b bs
by_step edition true p b bs = in_comment (b == 10) (is_comment_byte b) edition p b bs
by_step edition false p b bs = outside (is_blank b) (b == 35) edition p b bs

-- a byte that is passed changes nothing of what comes next
pub passed : (edition : Edition) (comment goes_on : Bool) (p : Place) (bytes : List ℕ) → 1 ≤ length bytes
    → step_of comment (get_or bytes 0 0) ≡ Pass goes_on
    → next_from edition comment p bytes ≡ next_from edition goes_on (place_after p (get_or bytes 0 0)) (take (length bytes - 1) (drop 1 bytes))
passed edition comment goes_on p [] h e = absurd (omega arith)
passed edition comment goes_on p (b ∷ bs) h e =
    rw (rest_cons b bs) (by_step edition comment p b bs ∙ ap (λ s. next_by s edition p b bs) e)

-- where a token begins, it comes next
pub begins : (edition : Edition) (comment : Bool) (p : Place) (bytes : List ℕ) → 1 ≤ length bytes
    → step_of comment (get_or bytes 0 0) ≡ Begin → next_from edition comment p bytes ≡ here edition p bytes
begins edition comment p [] h e = absurd (omega arith)
begins edition comment p (b ∷ bs) h e = by_step edition comment p b bs ∙ ap (λ s. next_by s edition p b bs) e

-- the place of the next byte leaves room
room_by : (lf : Bool) (p : Place) (left all : ℕ) → left + 1 ≡ all → p.line + p.column + 2 * all ≤ 2 ^ 22
    → let next : Place = if lf then record { line = p.line + 1; column = 1 } else record { line = p.line; column = p.column + 1 } in
    next.line + next.column + 2 * left ≤ 2 ^ 22
room_by true p left all one e = omega arith
room_by false p left all one e = omega arith

-- a byte that is passed leaves room
pub HasRoom-after : (p : Place) (bytes : List ℕ) → 1 ≤ length bytes → HasRoom p bytes
    → HasRoom (place_after p (get_or bytes 0 0)) (take (length bytes - 1) (drop 1 bytes))
HasRoom-after p bytes h e =
    room_by (get_or bytes 0 0 == 10) p (length (take (length bytes - 1) (drop 1 bytes))) (length bytes)
    (simp (length-take, length-drop) (omega arith)) e
