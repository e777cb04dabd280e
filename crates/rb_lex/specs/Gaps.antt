-- What the reading of one token answers: the point where it stands after blanks and comments, and the point after it.
use Rattle.std.specs.Prelude.{◌≡◌, ℕ, ◌+◌, ◌*◌, ◌^◌, ◌==◌, ◌≤◌, Bool, true, false, cond, List, [], ◌∷◌, length, Option, Some, None, Result, Ok, Err}
use Rattle.rb_base.specs.declared.edition.Edition.{Edition}
use Rattle.rb_base.specs.declared.place.Place.{Place}
use Rattle.rb_base.specs.declared.fault.SourceFault.{SourceFault}
use Rattle.rb_lex.specs.declared.token.Token.{Token}
use Rattle.rb_lex.specs.declared.gap.Point.{Point}
use Rattle.rb_lex.specs.declared.gap.Step.{Step}
use Rattle.rb_lex.specs.declared.gap.Step.TheVariants.{Pass, Begin, Fault}
use Rattle.rb_lex.specs.declared.reading.Reading.{Reading}
use Rattle.rb_lex.specs.Bytes.{is_blank, is_comment_byte}
use Rattle.rb_lex.specs.Tokens.{Next, End, Found, Refused, cut, front}
use Rattle.rb_lex.specs.Reader.{lexeme_of}

-- a byte adds at most 2 to the line and the column together, so places fit as long as this holds
abbrev pub HasRoom : Place → List ℕ → Type 0
HasRoom p bytes = p.line + p.column + 2 * length bytes ≤ 2 ^ 22

-- what a byte does before a token, inside a comment or not
abbrev pub step_of : Bool → ℕ → Step
step_of true b = cond (b == 10) (Pass false) (cond (is_comment_byte b) (Pass true) Fault)
step_of false b = cond (is_blank b) (Pass false) (cond (b == 35) (Pass true) Begin)

-- what comes next where no blank and no comment stands
abbrev pub here : Edition → Place → List ℕ → Next
here edition p [] = End p
here edition p (b ∷ bs) = cut (front edition (b ∷ bs)) p (b ∷ bs)

-- what comes next stands at the point itself, or is a fault of a comment
abbrev pub Passes : Next → Edition → Result Point SourceFault → Type 0
Passes next edition (Ok point) = next ≡ here edition point.place point.left.now
Passes next edition (Err fault) = next ≡ Refused fault

-- what comes next is the end with no byte left, or this token with the point after it
abbrev pub ReadsToken : Next → Option Token → Point → Type 0
ReadsToken next None after = (next ≡ End after.place) × (after.left.now ≡ [])
ReadsToken next (Some token) after = next ≡ Found (lexeme_of token) after.place after.left.now

-- a reading is what comes next
abbrev pub Reads : Next → Result Reading SourceFault → Type 0
Reads next (Ok reading) = ReadsToken next reading.token reading.after
Reads next (Err fault) = next ≡ Refused fault
