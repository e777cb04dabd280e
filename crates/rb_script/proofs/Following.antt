-- The orders of a text without a fault can be followed.
use Rattle.std.proofs.Common.{◌≡◌, ℕ, ◌+◌, ◌-◌, ◌<◌, List, [], ◌∷◌, ◌++◌, length, position, codes, nat_eq, nat_le, Bool, true, false, cond, vec_len, Option, Some, None, Result, Ok, Err, refl, ap, ◌∙◌, sym, subst, arith}
use Rattle.std.specs.Option.{option_to_list}
use Rattle.std.specs.Result.{IsOk}
use Rattle.std.specs.Cmp.Lexicographic.{pointwise}
use Rattle.std.proofs.lemmas.Bool.Decides.{nat_tests}
use Rattle.std.proofs.lemmas.List.Quantifiers.{position-Some}
use Rattle.rb_base.specs.declared.fault.TextFault.{TextFault}
use Rattle.rb_base.specs.declared.fault.FaultName.{FaultName}
use Rattle.rb_base.specs.declared.fault.FaultName.TheVariants.{B1}
use Rattle.rb_base.specs.declared.names.Names.{Names}
use Rattle.rb_base.specs.Bytes.{is_name}
use Rattle.rb_base.specs.Naming.{first_named, process_names}
use Rattle.rb_base.proofs.Named.{length_process_names}
use Rattle.rb_sched.specs.Schedule.{lines_of, words_of}
use Rattle.rb_script.specs.declared.order.Order.{Order}
use Rattle.rb_script.specs.declared.order.Order.TheVariants.{Forth, Back, Show}
use Rattle.rb_script.specs.Script.{CanFollow, asks, counted, followed, known, leads, line_read, order_of_words, orders_of, position_after, process_named, script_of}
use Rattle.rb_script.specs.Walk.{orders_in}
use Rattle.rb_script.proofs.ScriptLines.{splits}

-- an order names one of so many processes, if it names one
abbrev Names-one : ℕ → Order → Type 0
Names-one processes (Forth n) = Unit {0}
Names-one processes (Back n) = Unit {0}
Names-one processes (Show p) = p < processes

abbrev Asks-well : ℕ → Result (Option Order) FaultName → Type 0
Asks-well processes (Ok None) = Unit {0}
Asks-well processes (Ok (Some order)) = Names-one processes order
Asks-well processes (Err name) = Unit {0}

either : (P : Result (Option Order) FaultName → Type 0) (b : Bool) (one other : Result (Option Order) FaultName) → P one → P other
    → P (cond b one other)
either P true one other h i = h
either P false one other h i = i

known_within : (k : ℕ) (place : Option ℕ) → ((p : ℕ) → place ≡ Some p → p < k) → Asks-well k (asks Show (known place))
known_within k None within = tt
known_within k (Some p) within = within p refl

named_within : (names : List (List ℕ)) (word : List ℕ) (formed : Bool)
    → Asks-well (length names) (asks Show (cond formed (known (first_named names word)) (Err B1)))
named_within names word false = tt
named_within names word true =
    known_within (length names) (first_named names word) (λ p found. (position-Some (λ name. pointwise nat_eq name word) names p [] found).0)

counts_well : (k : ℕ) (n : Result ℕ FaultName) → Asks-well k (asks Forth n) × Asks-well k (asks Back n)
counts_well k (Ok n) = (tt, tt)
counts_well k (Err name) = (tt, tt)

words_ask_well : (names words : List (List ℕ)) → Asks-well (length names) (order_of_words names words)
words_ask_well names [] = tt
words_ask_well names (verb ∷ []) = tt
words_ask_well names (verb ∷ word ∷ []) =
    let P : Result (Option Order) FaultName → Type 0 = Asks-well (length names) in
    either P (pointwise nat_eq (codes "step") verb) (asks Forth (counted word)) _ (counts_well (length names) (counted word)).0
    (either P (pointwise nat_eq (codes "back") verb) (asks Back (counted word)) _ (counts_well (length names) (counted word)).1
    (either P (pointwise nat_eq (codes "show") verb) (asks Show (process_named names word)) (Err B1) (named_within names word (is_name word)) tt))
words_ask_well names (verb ∷ word ∷ more ∷ words) = tt

-- an order leads to this position, or none leads away from it
abbrev Leads : ℕ → ℕ → ℕ → Option Order → ℕ → Type 0
Leads processes turns position None later = later ≡ position
Leads processes turns position (Some order) later = Names-one processes order × (position_after turns position order ≡ Some later)

led : (k turns position : ℕ) (order : Order) (o : Option ℕ) (asked : Option Order) (later : ℕ) → Names-one k order
    → position_after turns position order ≡ o → leads order o ≡ Ok (asked, later) → Leads k turns position asked later
led k turns position order None asked later named is e = absurd (cc)
led k turns position order (Some other) asked later named is e =
    let same : Some order ≡ asked = ap first e in
    let to : other ≡ later = ap second e in
    subst (λ (o : Option Order). Leads k turns position o later) same (named, is ∙ ap (λ n. Some n) to)
  where
    first : Result (Option Order × ℕ) FaultName → Option Order
    first (Ok (o, n)) = o
    first (Err name) = Some order

    second : Result (Option Order × ℕ) FaultName → ℕ
    second (Ok (o, n)) = n
    second (Err name) = other

line_leads : (k turns position : ℕ) (asked : Result (Option Order) FaultName) (order : Option Order) (later : ℕ) → Asks-well k asked
    → followed turns position asked ≡ Ok (order, later) → Leads k turns position order later
line_leads k turns position (Ok None) order later well e =
    let none : None ≡ order = ap first e in
    let same : position ≡ later = ap second e in
    subst (λ (o : Option Order). Leads k turns position o later) none (sym same)
  where
    first : Result (Option Order × ℕ) FaultName → Option Order
    first (Ok (o, n)) = o
    first (Err name) = None

    second : Result (Option Order × ℕ) FaultName → ℕ
    second (Ok (o, n)) = n
    second (Err name) = position
line_leads k turns position (Ok (Some order)) asked later well e =
    led k turns position order (position_after turns position order) asked later well refl e
line_leads k turns position (Err name) order later well e = absurd (cc)

-- where an order leads, the orders from there on can be followed
follow_on : (k turns position : ℕ) (order : Option Order) (later : ℕ) (orders all : List Order) → Leads k turns position order later
    → CanFollow k turns later orders → option_to_list order ++ orders ≡ all → CanFollow k turns position all
follow_on k turns position None later orders all leads can e =
    subst (CanFollow k turns position) e (subst (λ n. CanFollow k turns n orders) leads can)
follow_on k turns position (Some (Forth n)) later orders all leads can e =
    subst (CanFollow k turns position) e (by (nat_le (position + n) turns) refl leads.1)
  where
    by : (b : Bool) → nat_le (position + n) turns ≡ b → cond b (Some (position + n)) None ≡ Some later
        → CanFollow k turns position (Forth n ∷ orders)
    by false is to = absurd (cc)
    by true is to = (grind (arith, nat_tests), subst (λ m. CanFollow k turns m orders) (sym (let same : position + n ≡ later = cc in same)) can)
follow_on k turns position (Some (Back n)) later orders all leads can e =
    subst (CanFollow k turns position) e (by (nat_le n position) refl leads.1)
  where
    by : (b : Bool) → nat_le n position ≡ b → cond b (Some (position - n)) None ≡ Some later
        → CanFollow k turns position (Back n ∷ orders)
    by false is to = absurd (cc)
    by true is to = (grind (arith, nat_tests), subst (λ m. CanFollow k turns m orders) (sym (let same : position - n ≡ later = cc in same)) can)
follow_on k turns position (Some (Show p)) later orders all leads can e =
    subst (CanFollow k turns position) e (leads.0, subst (λ n. CanFollow k turns n orders) (sym (let same : position ≡ later = let to = leads.1 in cc in same)) can)

pub can_follow : (names : List (List ℕ)) (turns position at : ℕ) (lines : List (List ℕ)) (orders : List Order)
    → orders_of names turns position at lines ≡ Ok orders → CanFollow (length names) turns position orders
can_follow names turns position at [] orders e =
    let none : [] ≡ orders = cc in
    subst (CanFollow (length names) turns position) none tt
can_follow names turns position at (line ∷ lines) orders e =
    let s = splits (line_read names turns position line) at (λ later. orders_of names turns later (at + 1) lines) orders e in
    follow_on (length names) turns position s.order s.position s.parts.later orders
    (line_leads (length names) turns position (order_of_words names (words_of line)) s.order s.position (words_ask_well names (words_of line)) s.first_is)
    (can_follow names turns s.position (at + 1) lines s.parts.later s.parts.others_are) s.parts.joined

-- so it is of the processes of a program
pub script_can_follow : (names : Names) (turns : ℕ) (text : List ℕ) → IsOk (script_of (process_names names) turns text)
    → CanFollow (vec_len names.processes) turns 0 (orders_in (script_of (process_names names) turns text))
script_can_follow names turns text sound = by (script_of (process_names names) turns text) refl sound
  where
    by : (r : Result (List Order) TextFault) → script_of (process_names names) turns text ≡ r → IsOk r
        → CanFollow (vec_len names.processes) turns 0 (orders_in (script_of (process_names names) turns text))
    by (Err fault) is sound = absurd (cc)
    by (Ok orders) is sound =
        subst (λ (k : ℕ). CanFollow k turns 0 (orders_in (script_of (process_names names) turns text))) (length_process_names names)
        (subst (CanFollow (length (process_names names)) turns 0) (sym (ap orders_in is))
        (can_follow (process_names names) turns 0 1 (lines_of text) orders is))
