-- A message breaks a line once, so there are no more falls than lines.
use Rattle.std.proofs.Common.{◌≡◌, ℕ, zero, suc, ◌+◌, ◌≤◌, ◌<◌, Bool, true, false, nat_lt, cond, List, [], ◌∷◌, length, slice_get, Option, Some, None, refl, ap, ◌∙◌, sym, subst, arith, length-set}
use Rattle.std.proofs.lemmas.Bool.{lt-ltb, ltb-false, ltb-true}
use Rattle.rb_domino.specs.declared.line.Line.{Line}
use Rattle.rb_domino.specs.declared.line.Line.TheVariants.{Begin, Point, Send, Take, Fail}
use Rattle.rb_domino.specs.declared.state.State.{State}
use Rattle.rb_domino.specs.declared.state.Fall.{Fall}
use Rattle.rb_domino.specs.History.{Story}
use Rattle.rb_domino.specs.Recovery.{fall_by, falls, falls_by_messages, first_fall, left_after, left_to, message_at, stands, states_before}
use Rattle.rb_domino.specs.Board.{IsOrderly, NamesKnown}
use Rattle.rb_domino.proofs.FirstFall.{all_at, breaks_both}
use Rattle.rb_domino.proofs.Falling.{stands_earlier, stands_fallen}
use Rattle.rb_domino.proofs.theorem.Descending.{before_up_to}
use Rattle.rb_domino.proofs.theorem.Causes.{message_known}
use Rattle.rb_domino.proofs.theorem.Falls.{Breaks, breaking}

-- 1 at a line where a message is taken before its receiver's state
abbrev open_here : Story → List (List State) → ℕ → Line → ℕ
open_here story left at (Begin p) = 0
open_here story left at (Point p) = 0
open_here story left at (Send m) = 0
open_here story left at (Take m) = cond (nat_lt at (stands left (message_at story m).receiver).place) 1 0
open_here story left at (Fail p) = 0

-- how many such lines there are
abbrev opens : Story → List (List State) → ℕ → List Line → ℕ
opens story left at [] = 0
opens story left at (line ∷ lines) = open_here story left at line + opens story left (at + 1) lines

-- no more than there are lines
at_most_one : (story : Story) (left : List (List State)) (at : ℕ) (line : Line) → open_here story left at line ≤ 1
at_most_one story left at (Begin p) = omega arith
at_most_one story left at (Point p) = omega arith
at_most_one story left at (Send m) = omega arith
at_most_one story left at (Take m) = by (nat_lt at (stands left (message_at story m).receiver).place)
  where
    by : (b : Bool) → cond b 1 0 ≤ 1
    by true = omega arith
    by false = omega arith
at_most_one story left at (Fail p) = omega arith

few_opens : (story : Story) (left : List (List State)) (at : ℕ) (lines : List Line) → opens story left at lines ≤ length lines
few_opens story left at [] = omega arith
few_opens story left at (line ∷ lines) = omega (arith, at_most_one story left at line, few_opens story left (at + 1) lines)

-- where nobody stands later, no line is open that was not
fewer_here : (story : Story) (left new : List (List State)) → ((p : ℕ) → (stands new p).place ≤ (stands left p).place)
    → (at : ℕ) (line : Line) → open_here story new at line ≤ open_here story left at line
fewer_here story left new down at (Begin p) = omega arith
fewer_here story left new down at (Point p) = omega arith
fewer_here story left new down at (Send m) = omega arith
fewer_here story left new down at (Take m) =
    by (nat_lt at (stands new receiver).place) refl (nat_lt at (stands left receiver).place) refl
  where
    receiver : ℕ
    receiver = (message_at story m).receiver

    by : (a : Bool) → nat_lt at (stands new (message_at story m).receiver).place ≡ a
        → (b : Bool) → nat_lt at (stands left (message_at story m).receiver).place ≡ b → cond a 1 0 ≤ cond b 1 0
    by false one b two = omega arith
    by true one true two = omega arith
    by true one false two =
        let high : at < (stands new (message_at story m).receiver).place = ltb-true at (stands new (message_at story m).receiver).place one in
        let low : (stands left (message_at story m).receiver).place ≤ at = ltb-false at (stands left (message_at story m).receiver).place two in
        absurd (let never : ⊥ = omega (arith, high, low, down (message_at story m).receiver) in never)
fewer_here story left new down at (Fail p) = omega arith

fewer : (story : Story) (left new : List (List State)) → ((p : ℕ) → (stands new p).place ≤ (stands left p).place)
    → (at : ℕ) (lines : List Line) → opens story new at lines ≤ opens story left at lines
fewer story left new down at [] = omega arith
fewer story left new down at (line ∷ lines) = omega (arith, fewer_here story left new down at line, fewer story left new down (at + 1) lines)

-- a line that was open is so no more
one_fewer : (story : Story) (left new : List (List State)) → ((p : ℕ) → (stands new p).place ≤ (stands left p).place)
    → (at : ℕ) (lines : List Line) (j m : ℕ) → slice_get lines j ≡ Some (Take m)
    → at + j < (stands left (message_at story m).receiver).place → (stands new (message_at story m).receiver).place ≤ at + j
    → opens story new at lines + 1 ≤ opens story left at lines
one_fewer story left new down at [] j m is high low = absurd (cc)
one_fewer story left new down at (line ∷ lines) zero m is high low =
    let same : line ≡ Take m = cc in
    let was : open_here story left at line ≡ 1 =
    ap (open_here story left at) same ∙ ap (λ b. cond b 1 0) (lt-ltb at (stands left (message_at story m).receiver).place (omega (arith, high))) in
    let is_now : open_here story new at line ≡ 0 =
    ap (open_here story new at) same ∙ closed (nat_lt at (stands new (message_at story m).receiver).place) refl in
    omega (arith, was, is_now, fewer story left new down (at + 1) lines)
  where
    closed : (b : Bool) → nat_lt at (stands new (message_at story m).receiver).place ≡ b → ◌≡◌ {A = ℕ} (cond b 1 0) 0
    closed true late =
        let up : at < (stands new (message_at story m).receiver).place = ltb-true at (stands new (message_at story m).receiver).place late in
        absurd (let never : ⊥ = omega (arith, up, low) in never)
    closed false early = refl
one_fewer story left new down at (line ∷ lines) (suc j) m is high low =
    let rest : opens story new (at + 1) lines + 1 ≤ opens story left (at + 1) lines =
    one_fewer story left new down (at + 1) lines j m is (omega (arith, high)) (omega (arith, low)) in
    omega (arith, rest, fewer_here story left new down at line)

abbrev open_lines : Story → List (List State) → ℕ
open_lines story left = opens story left 0 story.lines

-- each fall by a message closes its line
closes : (story : Story) (left : List (List State)) (fall : Fall) → IsOrderly story → length left ≡ length story.processes
    → Breaks story left fall → open_lines story (left_after fall left) + 1 ≤ open_lines story left
closes story left fall orderly counted b =
    let message = message_at story b.message in
    let both = breaks_both left b.at message b.broken in
    let m_known = all_at (NamesKnown (length story.processes) (length story.messages)) story.lines b.at _ orderly.lines b.taken in
    let known : message.receiver < length left = omega (arith, counted, (message_known story b.message orderly m_known).receiver) in
    let kept = states_before b.at (left_to left message.receiver) in
    let new = left_after (fall_by message b.message b.at) left in
    let low : (stands new message.receiver).place ≤ b.at =
    subst (λ (s : State). s.place ≤ b.at) (sym (stands_fallen left message.receiver kept known))
    (before_up_to b.at (left_to left message.receiver)) in
    subst (λ f. open_lines story (left_after f left) + 1 ≤ open_lines story left) (sym b.is)
    (one_fewer story left new (λ p. stands_earlier left message.receiver b.at p known) 0 story.lines b.at b.message b.taken
    (omega (arith, both.0)) (omega (arith, low)))

-- after so many falls no message breaks the line
enough : (story : Story) → IsOrderly story → (n : ℕ) (left : List (List State)) → length left ≡ length story.processes
    → open_lines story left ≤ n → first_fall story (falls_by_messages story n left).left ≡ None
enough story orderly zero left counted few = by (first_fall story left) refl
  where
    by : (o : Option Fall) → first_fall story left ≡ o → first_fall story left ≡ None
    by None e = e
    by (Some fall) e =
        absurd (let never : ⊥ = omega (arith, closes story left fall orderly counted (breaking story left fall e), few) in never)
enough story orderly (suc n) left counted few = by (first_fall story left) refl (λ l. enough story orderly n l)
  where
    by : (o : Option Fall) → first_fall story left ≡ o
        → ((l : List (List State)) → length l ≡ length story.processes → open_lines story l ≤ n
        → first_fall story (falls_by_messages story n l).left ≡ None)
        → first_fall story (falls left o (falls_by_messages story n)).left ≡ None
    by None e rest = e
    by (Some fall) e rest =
        rest (left_after fall left) (length-set left fall.process (states_before fall.after (left_to left fall.process)) ∙ counted)
        (omega (arith, closes story left fall orderly counted (breaking story left fall e), few))

pub all_ended : (story : Story) (left : List (List State)) → IsOrderly story → length left ≡ length story.processes
    → first_fall story (falls_by_messages story (length story.lines) left).left ≡ None
all_ended story left orderly counted = enough story orderly (length story.lines) left counted (few_opens story left 0 story.lines)
