-- A script that is read, or walked, up to a line.
use Rattle.std.proofs.Common.{◌≡◌, true, false, ℕ, ◌+◌, ◌≤◌, ◌<◌, List, [], ◌∷◌, ◌++◌, length, Option, Some, None, Result, Ok, Err, refl, ap, ◌∙◌, sym, subst, arith}
use Rattle.std.specs.Option.{is_some, option_to_list}
use Rattle.std.specs.Result.{IsOk}
use Rattle.rb_base.specs.declared.fault.TextFault.{TextFault}
use Rattle.rb_base.specs.declared.fault.FaultName.{FaultName}
use Rattle.rb_sched.specs.Schedule.{lines_of}
use Rattle.rb_script.specs.declared.order.Order.{Order}
use Rattle.rb_script.specs.Script.{TakesOrder, after_line, in_front, line_read, orders_of, script_of}
use Rattle.rb_script.specs.Walk.{IsFaultless, orders_in, orders_left}

-- the orders of some lines, in front of which a line has one or none
pub record Parts (order : Option Order) (others : Result (List Order) TextFault) (orders : List Order) : Type 0 where
  pub later : List Order
  pub others_are : others ≡ Ok later
  pub joined : option_to_list order ++ later ≡ orders

parts_of : (order : Option Order) (others : Result (List Order) TextFault) (orders : List Order) → in_front order others ≡ Ok orders
    → Parts order others orders
parts_of None (Ok later) orders e = record { later = later; others_are = refl; joined = cc }
parts_of None (Err fault) orders e = absurd (cc)
parts_of (Some order) (Ok later) orders e = record { later = later; others_are = refl; joined = cc }
parts_of (Some order) (Err fault) orders e = absurd (cc)

joined_parts : (order : Option Order) (later : List Order) → in_front order (Ok later) ≡ Ok (option_to_list order ++ later)
joined_parts None later = refl
joined_parts (Some order) later = refl

faulty_parts : (order : Option Order) (fault : TextFault) → in_front order (Err fault) ≡ Err fault
faulty_parts None fault = refl
faulty_parts (Some order) fault = refl

-- what a line without a fault asks for and where it leads, and what follows it
pub record Splits (first : Result (Option Order × ℕ) FaultName) (others : ℕ → Result (List Order) TextFault) (orders : List Order) : Type 0 where
  pub order : Option Order
  pub position : ℕ
  pub first_is : first ≡ Ok (order, position)
  pub parts : Parts order (others position) orders

pub splits : (first : Result (Option Order × ℕ) FaultName) (at : ℕ) (others : ℕ → Result (List Order) TextFault) (orders : List Order)
    → after_line first at others ≡ Ok orders → Splits first others orders
splits (Ok (order, position)) at others orders e =
    record { order = order; position = position; first_is = refl; parts = parts_of order (others position) orders e }
splits (Err name) at others orders e = absurd (cc)

-- lines without a fault give the same orders wherever they stand
any_place : (names : List (List ℕ)) (turns position at n : ℕ) (lines : List (List ℕ)) (orders : List Order)
    → orders_of names turns position at lines ≡ Ok orders → orders_of names turns position n lines ≡ Ok orders
any_place names turns position at n [] orders e = e
any_place names turns position at n (line ∷ lines) orders e =
    let s = splits (line_read names turns position line) at (λ later. orders_of names turns later (at + 1) lines) orders e in
    ap (λ first. after_line first n (λ later. orders_of names turns later (n + 1) lines)) s.first_is
    ∙ ap (in_front s.order) (any_place names turns s.position (at + 1) (n + 1) lines s.parts.later s.parts.others_are)
    ∙ joined_parts s.order s.parts.later ∙ ap (λ os. Ok os) s.parts.joined

-- a text is read up to a line: what the rest answers tells of the whole
pub record ReadUpTo (names : List (List ℕ)) (turns : ℕ) (text : List ℕ) (position at : ℕ) (rest : List ℕ) : Type 0 where
  pub sound : (orders : List Order) → orders_of names turns position at (lines_of rest) ≡ Ok orders → IsOk (script_of names turns text)
  pub faulty : (fault : TextFault) → orders_of names turns position at (lines_of rest) ≡ Err fault → script_of names turns text ≡ Err fault
  pub few : at + length rest ≤ 1048577

pub read_none : (names : List (List ℕ)) (turns : ℕ) (text : List ℕ) → length text ≤ 1048576 → ReadUpTo names turns text 0 1 text
read_none names turns text few = record { sound = λ orders e. subst IsOk (sym e) refl; faulty = λ fault e. e; few = omega arith }

module _ (names : List (List ℕ)) (turns : ℕ) (text : List ℕ) (position at : ℕ) (rest line after : List ℕ)
    (read : ReadUpTo names turns text position at rest) (cut : lines_of rest ≡ line ∷ lines_of after) where
  -- the rest, by its first line
  by_first : (first : Result (Option Order × ℕ) FaultName) → line_read names turns position line ≡ first
      → orders_of names turns position at (lines_of rest)
      ≡ after_line first at (λ later. orders_of names turns later (at + 1) (lines_of after))
  by_first first e =
      ap (orders_of names turns position at) cut
      ∙ ap (λ one. after_line one at (λ later. orders_of names turns later (at + 1) (lines_of after))) e

  -- a line more is read
  pub read_more : (order : Option Order) (later : ℕ) → length after < length rest
      → line_read names turns position line ≡ Ok (order, later) → ReadUpTo names turns text later (at + 1) after
  read_more order later shorter e = record {
    sound = λ orders is.
        read.sound (option_to_list order ++ orders) (by_first (Ok (order, later)) e ∙ ap (in_front order) is ∙ joined_parts order orders);
    faulty = λ fault is. read.faulty fault (by_first (Ok (order, later)) e ∙ ap (in_front order) is ∙ faulty_parts order fault);
    few = omega (arith, read.few);
  }

  -- a line's fault is that of the text
  pub read_fault : (name : FaultName) → line_read names turns position line ≡ Err name
      → script_of names turns text ≡ Err (record { name = name; at = at })
  read_fault name e = read.faulty (record { name = name; at = at }) (by_first (Err name) e)

pub read_all : (names : List (List ℕ)) (turns : ℕ) (text : List ℕ) (position at : ℕ) (rest : List ℕ)
    → ReadUpTo names turns text position at rest → rest ≡ [] → IsOk (script_of names turns text)
read_all names turns text position at rest read none =
    read.sound [] (ap (λ (bytes : List ℕ). orders_of names turns position at (lines_of bytes)) none)

-- a text that is walked up to a line leaves these orders
pub record WalkedTo (names : List (List ℕ)) (turns first : ℕ) (text : List ℕ) (position : ℕ) (rest : List ℕ) : Type 0 where
  pub faultless : IsFaultless names turns position rest
  pub same : orders_left names turns first text ≡ orders_left names turns position rest

-- what comes to a fault comes to no orders
no_orders : (fault : TextFault) (orders : List Order) (r : Result (List Order) TextFault) → r ≡ Err fault → r ≡ Ok orders → ⊥
no_orders fault orders r failed read = absurd (let same : Err fault ≡ Ok orders = sym failed ∙ read in cc)

-- the first line of a text without a fault has none, nor have those after it
record LineFirst (names : List (List ℕ)) (turns position : ℕ) (rest line after : List ℕ) (order : Option Order) (later : ℕ) : Type 0 where
  faultless : IsFaultless names turns later after
  joined : orders_left names turns position rest ≡ option_to_list order ++ orders_left names turns later after

module _ (names : List (List ℕ)) (turns position : ℕ) (rest line after : List ℕ) (cut : lines_of rest ≡ line ∷ lines_of after)
    (faultless : IsFaultless names turns position rest) where
  whole : (r : Result (List Order) TextFault) → orders_of names turns position 1 (lines_of rest) ≡ r
      → (orders : List Order) × (orders_of names turns position 1 (lines_of rest) ≡ Ok orders)
  whole (Ok orders) is = (orders, is)
  whole (Err fault) is = absurd (let sound : false ≡ true = subst IsOk is faultless in cc)

  line_first : (order : Option Order) (later : ℕ) → line_read names turns position line ≡ Ok (order, later)
      → LineFirst names turns position rest line after order later
  line_first order later e =
      let all = whole (orders_of names turns position 1 (lines_of rest)) refl in
      let first : in_front order (orders_of names turns later 2 (lines_of after)) ≡ Ok all.0 =
      ap (λ one. after_line one 1 (λ p. orders_of names turns p 2 (lines_of after))) (sym e)
      ∙ ap (orders_of names turns position 1) (sym cut) ∙ all.1 in
      let parts = parts_of order (orders_of names turns later 2 (lines_of after)) all.0 first in
      let is = any_place names turns later 2 1 (lines_of after) parts.later parts.others_are in
      record {
        faultless = subst IsOk (sym is) refl;
        joined = ap orders_in all.1 ∙ sym parts.joined ∙ ap (λ r. option_to_list order ++ orders_in r) (sym is);
      }

  pub no_fault : (name : FaultName) → line_read names turns position line ≡ Err name → ⊥
  no_fault name e =
      let all = whole (orders_of names turns position 1 (lines_of rest)) refl in
      no_orders (record { name = name; at = 1 }) all.0
      (after_line (line_read names turns position line) 1 (λ p. orders_of names turns p 2 (lines_of after)))
      (ap (λ one. after_line one 1 (λ p. orders_of names turns p 2 (lines_of after))) e)
      (ap (orders_of names turns position 1) (sym cut) ∙ all.1)

-- a line is walked: an empty one leaves all for the rest, and of any other the order is taken off
module _ (names : List (List ℕ)) (turns first : ℕ) (text : List ℕ) (position : ℕ) (rest line after : List ℕ)
    (walked : WalkedTo names turns first text position rest) (cut : lines_of rest ≡ line ∷ lines_of after) where
  pub walked_on : (order : Option Order) (later : ℕ) → line_read names turns position line ≡ Ok (order, later) → is_some order ≡ false
      → WalkedTo names turns first text later after
  walked_on None later e none =
      let next = line_first names turns position rest line after cut walked.faultless None later e in
      record { faultless = next.faultless; same = walked.same ∙ next.joined }
  walked_on (Some order) later e none = absurd (cc)

  pub walked_off : (order : Option Order) (later : ℕ) → line_read names turns position line ≡ Ok (order, later) → is_some order ≡ true
      → TakesOrder (orders_left names turns first text) order (orders_left names turns later after)
  walked_off None later e some = absurd (cc)
  walked_off (Some order) later e some =
      walked.same ∙ (line_first names turns position rest line after cut walked.faultless (Some order) later e).joined

  pub still_faultless : (order : Option Order) (later : ℕ) → line_read names turns position line ≡ Ok (order, later)
      → IsFaultless names turns later after
  still_faultless order later e = (line_first names turns position rest line after cut walked.faultless order later e).faultless

-- no order is left
pub walked_all : (names : List (List ℕ)) (turns first : ℕ) (text : List ℕ) (position : ℕ) (rest : List ℕ)
    → WalkedTo names turns first text position rest → rest ≡ []
    → (orders_left names turns first text ≡ []) × (orders_left names turns position rest ≡ [])
walked_all names turns first text position rest walked none =
    let left : orders_left names turns position rest ≡ [] = ap (λ (bytes : List ℕ). orders_left names turns position bytes) none in
    (walked.same ∙ left, left)
