-- A page with the texts of a run in the places of its marks.
use Rattle.std.specs.Prelude.{ℕ, ◌+◌, nat_eq, cond, List, [], ◌∷◌, ◌++◌, length, take, drop, codes, Option, Some, None, option_map}
use Rattle.std.specs.List.{starts_with}
use Rattle.rb_page.specs.Escape.{escaped}

-- the first place at which a mark stands in a text
abbrev pub place_of : List ℕ → List ℕ → Option ℕ
place_of mark [] = None
place_of mark (b ∷ bs) = cond (starts_with nat_eq (b ∷ bs) mark) (Some 0) (option_map (λ at. at + 1) (place_of mark bs))

-- what stands before a place, and what behind it
pub record Cut : Type 0 where
  pub before : List ℕ
  pub behind : List ℕ

-- a text that is cut at this place, and a mark of this length taken out; where there is none all stands before it
abbrev pub cut_from : ℕ → List ℕ → Option ℕ → Cut
cut_from size text None = record { before = text; behind = [] }
cut_from size text (Some at) = record { before = take at text; behind = drop (at + size) text }

-- a text that is cut at the first place of a mark
abbrev pub cut_at : List ℕ → List ℕ → Cut
cut_at mark text = cut_from (length mark) text (place_of mark text)

-- The parts of a page: what stands before the source, the schedule and the trace, each behind the one before, and the rest.
pub record Parts : Type 0 where
  pub source : List ℕ
  pub schedule : List ℕ
  pub trace : List ℕ
  pub rest : List ℕ

-- what stands behind the source, and behind the schedule
abbrev pub behind_source : List ℕ → List ℕ
behind_source page = (cut_at (codes "@SOURCE@") page).behind

abbrev pub behind_schedule : List ℕ → List ℕ
behind_schedule page = (cut_at (codes "@SCHEDULE@") (behind_source page)).behind

abbrev pub parts_of : List ℕ → Parts
parts_of page = record {
  source = (cut_at (codes "@SOURCE@") page).before;
  schedule = (cut_at (codes "@SCHEDULE@") (behind_source page)).before;
  trace = (cut_at (codes "@TRACE@") (behind_schedule page)).before;
  rest = (cut_at (codes "@TRACE@") (behind_schedule page)).behind;
}

-- what stands up to the place of the trace, with the texts of a source and a schedule in their places
abbrev pub before_trace : List ℕ → List ℕ → List ℕ → List ℕ → List ℕ → List ℕ
before_trace first second third source schedule = (first ++ escaped source) ++ ((second ++ escaped schedule) ++ third)

-- parts with the texts in their places
abbrev pub filled : Parts → List ℕ → List ℕ → List ℕ → List ℕ
filled parts source schedule trace =
    before_trace parts.source parts.schedule parts.trace source schedule ++ (escaped trace ++ parts.rest)

-- the page with the source, the schedule and the trace of a run in the places of its marks
abbrev pub page_text : List ℕ → List ℕ → List ℕ → List ℕ → List ℕ
page_text page source schedule trace = filled (parts_of page) source schedule trace
