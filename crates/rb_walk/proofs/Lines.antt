-- The line of a `print`, item by item.
use Rattle.std.proofs.Common.{◌≡◌, ◌+◌, ◌<◌, ℕ, Bool, true, false, cond, List, [], ◌∷◌, ◌++◌, length, map, get_or, drop, Result, Ok, Err, Vec, ap, sym, ◌∙◌}
use Rattle.std.specs.declared.alloc.Global.{Global}
use Rattle.std.proofs.lemmas.List.{drop_more}
use Rattle.rb_base.specs.declared.event.Cause.{Cause}
use Rattle.rb_base.specs.declared.event.Cause.TheVariants.{Hold}
use Rattle.rb_syntax.specs.declared.statement.Item.{Item}
use Rattle.rb_syntax.specs.Plain.{print_item, printed as plain_printed}
use Rattle.rb_meaning.specs.Environment.{Environment}
use Rattle.rb_meaning.specs.State.{State, with_held}
use Rattle.rb_meaning.specs.Step.{after_blank, held_with, line_from, printed}
use Rattle.rb_meaning.specs.Value.{and_then}
use Rattle.rb_walk.specs.declared.halt.Halt.{Halt}
use Rattle.rb_walk.specs.declared.halt.Halt.TheVariants.{Stuck, Memory}
use Rattle.rb_walk.specs.Comes.{AddsAs, Comes, Gives}
use Rattle.rb_walk.specs.Holding.{Adds}

-- What the whole line comes to is what was written, and then what the items from a place on come to.
pub record LineSoFar (env : Environment) (items : List Item) (i : ℕ) (first : Bool) (line : List ℕ) : Type 0 where
  pub goes_on : line_from env true (map print_item items) ≡ and_then (line_from env first (map print_item (drop i items))) (λ rest. Ok (line ++ rest))

-- what a line comes to behind its bytes so far, by what an item comes to and what the items after it come to
abbrev after_item : Bool → List ℕ → Result (List ℕ) Cause → Result (List ℕ) Cause → Result (List ℕ) Cause
after_item first line outcome others =
    and_then (and_then outcome (λ text. and_then others (λ rest. Ok (after_blank text first ++ rest)))) (λ rest. Ok (line ++ rest))

-- the item at a place comes to this, and the others come after it
at_item : (env : Environment) (items : List Item) (i : ℕ) (item : Item) (first : Bool) (line : List ℕ) (outcome : Result (List ℕ) Cause)
    → LineSoFar env items i first line → i < length items → item ≡ get_or items i item → printed env (plain_printed item.what) ≡ outcome
    → line_from env true (map print_item items) ≡ after_item first line outcome (line_from env false (map print_item (drop (i + 1) items)))
at_item env items i item first line outcome so_far h is e =
    so_far.goes_on
    ∙ ap (λ left. and_then (line_from env first (map print_item left)) (λ rest. Ok (line ++ rest)))
    (drop_more items i item h ∙ ap (λ one. one ∷ drop (i + 1) items) (sym is))
    ∙ ap (λ o. after_item first line o (line_from env false (map print_item (drop (i + 1) items)))) e

-- a trap at an item is that of the line
line_traps : (env : Environment) (items : List Item) (i : ℕ) (item : Item) (first : Bool) (line : List ℕ) (cause : Cause)
    → LineSoFar env items i first line → i < length items → item ≡ get_or items i item → printed env (plain_printed item.what) ≡ Err cause
    → line_from env true (map print_item items) ≡ Err cause
line_traps env items i item first line cause so_far h is e = at_item env items i item first line (Err cause) so_far h is e

-- where an item halts, the line halts
pub line_halts : (env : Environment) (items : List Item) (i : ℕ) (item : Item) (first : Bool) (line old new : List ℕ) (halt : Halt)
    → LineSoFar env items i first line → i < length items → item ≡ get_or items i item
    → AddsAs {A = Unit {0}} old (printed env (plain_printed item.what)) new (Err halt)
    → Gives {B = Vec ℕ Global} (λ line. line.items) (line_from env true (map print_item items)) (Err halt)
line_halts env items i item first line old new Stuck so_far h is trapped =
    (trapped.0, line_traps env items i item first line trapped.0 so_far h is trapped.1)
line_halts env items i item first line old new Memory so_far h is short = tt

-- a line that joins the held lines, or halts
pub line_held : (s : State) (line : List ℕ) (new : List (List ℕ)) (result : Result (Unit {0}) Halt)
    → Adds s.held line new result → Comes (held_with s line) (with_held new s) result
line_held s line new (Ok _) added =
    ap (λ b. cond b (Err Hold) (Ok (with_held (s.held ++ line ∷ []) s))) added.0 ∙ ap (λ held. Ok (with_held held s)) (sym added.1)
line_held s line new (Err Stuck) full = (Hold, ap (λ b. cond b (Err Hold) (Ok (with_held (s.held ++ line ∷ []) s))) full)
line_held s line new (Err Memory) short = tt
