-- What `trace` and `page` hold of their texts, and what they write.
use Rattle.std.specs.Prelude.{◌≡◌, ℕ, ◌≤◌, List, [], ◌∷◌, length, Option, Some, None, Result}
use Rattle.rb_base.specs.declared.limits.TheConstants.{MOST_BYTES}
use Rattle.rb_outside.specs.Outside.{Faults}
use Rattle.rb_syntax.specs.Tree.{Tree}
use Rattle.rb_page.specs.Page.{page_text}
use Rattle.rb_picture.specs.Meant.{tree_trace_text}
use Rattle.rb_hall.specs.declared.command.Unwritten.{Unwritten}
use Rattle.rb_hall.specs.declared.fault.Fault.{Fault}
use Rattle.rb_verdict.specs.Texts.{names_of}
use Rattle.rb_commands.specs.Explained.{ExplainsProgram, NamesOfSource}
use Rattle.rb_commands.specs.Written.{EndsOverTurns}
use Rattle.rb_commands.specs.declared.why.Why.{Why}
use Rattle.rb_show.specs.Traced.{IsTraced}
use Rattle.rb_show.specs.declared.page.Pages.{Pages}
use Rattle.rb_show.specs.declared.page.Pages.TheVariants as pages
use Rattle.rb_show.specs.declared.trace.Traces.{Traces}
use Rattle.rb_show.specs.declared.trace.Traces.TheVariants as traces

-- the text of a trace: by itself, or in a page with its source and its schedule
abbrev pub text_in : Option (List ℕ) → List ℕ → List ℕ → List ℕ → List ℕ
text_in None source schedule trace = trace
text_in (Some page) source schedule trace = page_text page source schedule trace

-- A schedule is judged over a source with this tree; it is refused, or the trace of the run is written, in this page. Of a refusal the names of the
-- source are known.
abbrev pub EndsDrawn : Option (List ℕ) → List ℕ → Tree → List ℕ → Option (List ℕ) → Option (List ℕ) → Faults → Faults
    → Result (Unit {0}) (Unwritten Why) → Type 0
EndsDrawn page source tree schedule =
    EndsOverTurns (names_of tree) (λ turns. text_in page source schedule (tree_trace_text tree turns)) (NamesOfSource source) schedule

-- `trace`: the source, with its text, and then the schedule as it was read
abbrev pub HoldsTrace : List (List ℕ) → Traces → Type 0
HoldsTrace texts traces.Nothing = texts ≡ []
HoldsTrace texts (traces.Program source traced) = (texts ≡ source.now ∷ []) × IsTraced source.now traced
HoldsTrace texts (traces.Both source traced schedule) =
    (texts ≡ source.now ∷ schedule.now ∷ []) × IsTraced source.now traced × (length schedule.now ≤ MOST_BYTES)

-- `page`: the page, then the source, with its text, and then the schedule as it was read
abbrev pub HoldsPage : List (List ℕ) → Pages → Type 0
HoldsPage texts pages.Nothing = texts ≡ []
HoldsPage texts (pages.Page page) = texts ≡ page.now ∷ []
HoldsPage texts (pages.Program page source traced) = (texts ≡ page.now ∷ source.now ∷ []) × IsTraced source.now traced
HoldsPage texts (pages.All page source traced schedule) =
    (texts ≡ page.now ∷ source.now ∷ schedule.now ∷ []) × IsTraced source.now traced × (length schedule.now ≤ MOST_BYTES)

-- what is known of a fault of the texts behind a page; a page itself has none
pub data ExplainsPage : List (List ℕ) → Fault → Why → Type 0 where
  behind_page : (page : List ℕ) (texts : List (List ℕ)) (fault : Fault) (known : Why) → ExplainsProgram NamesOfSource texts fault known
      → ExplainsPage (page ∷ texts) fault known
