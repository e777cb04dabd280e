-- Words are as long as they are spelled: how many bytes a token of a terminal counts at least, and between two points.
use Rattle.std.proofs.Common.{◌≡◌, ℕ, pos, ◌+◌, ◌-◌, ◌≤◌, nat_eq, nat_le, Bool, true, false, cond, List, [], ◌∷◌, length, drop, Some, refl, ap, arith}
use Rattle.std.specs.Cmp.Lexicographic.{pointwise}
use Rattle.std.specs.List.{list_all}
use Rattle.std.specs.Ordering.{int_eq}
use Rattle.std.proofs.lemmas.Bool.{and_parts, leb-true}
use Rattle.std.proofs.lemmas.List.{length-take}
use Rattle.rb_base.specs.declared.place.Place.{Place}
use Rattle.rb_lex.specs.declared.token.Kind.{Kind}
use Rattle.rb_lex.specs.declared.token.Kind.TheVariants as kinds
use Rattle.rb_grammar.specs.declared.level.Level.{Level}
use Rattle.rb_grammar.specs.declared.level.Level.TheVariants as levels
use Rattle.rb_grammar.specs.declared.terminal.Terminal.{Terminal}
use Rattle.rb_grammar.specs.declared.terminal.Terminal.TheVariants as terminals
use Rattle.rb_grammar.specs.Grammar.{Point, Takes, TakesName, TakesNumber, TakesText, TakesEnsure, TakesOperator, TakesComparison, TakesQuantifier, TakesAt, between_quotes}
use Rattle.rb_grammar.specs.Operators.{comparison, operator}
use Rattle.rb_grammar.specs.Terminals.{Spelling, marks, spelled, terminal_of_kind, words}
use Rattle.rb_syntax.specs.declared.expression.Number.{Number}
use Rattle.rb_syntax.specs.declared.expression.Op.{Op}
use Rattle.rb_syntax.specs.declared.expression.Op.TheVariants as ops
use Rattle.rb_syntax.specs.declared.expression.Quantifier.{Quantifier}
use Rattle.rb_syntax.specs.Tree.{Identifier, PrintItem}
use Rattle.rb_world.proofs.ListFacts.{some_same}
use Rattle.rb_scope.proofs.DistinctNames.{same_text}
use Rattle.rb_sizes.proofs.Weighing.Numbers.{kind_extra, number_extra}
use Rattle.rb_sizes.proofs.Weighing.Sizes.{line_extra, size, size_long, size_some, total, total_first}
use Rattle.rb_sizes.proofs.Weighing.Weights.{op_weight, printed_weight}

-- how many a token of a terminal counts at least
abbrev pub least : Terminal → ℕ
least terminals.Or = 2
least terminals.And = 2
least terminals.Program = 7
least terminals.While = 5
least _ = 1

least_spelled : (text : List ℕ) (spellings : List Spelling) (terminal : Terminal) →
    list_all (λ s. nat_le (least s.1) (length s.0)) spellings ≡ true → spelled text spellings ≡ Some terminal → least terminal ≤ length text
least_spelled text [] terminal h e = absurd cc
least_spelled text ((bytes, here) ∷ others) terminal h e =
    let both = and_parts (nat_le (least here) (length bytes)) (list_all (λ (s : Spelling). nat_le (least s.1) (length s.0)) others) h in
    by (pointwise nat_eq bytes text) refl both.0 (λ later. least_spelled text others terminal both.1 later) e
  where
    by : (same : Bool) → pointwise nat_eq bytes text ≡ same → nat_le (least here) (length bytes) ≡ true
        → (spelled text others ≡ Some terminal → least terminal ≤ length text)
        → cond same (Some here) (spelled text others) ≡ Some terminal → least terminal ≤ length text
    by true p long rest q =
        let here_is : here ≡ terminal = some_same q in
        let long_is : length bytes ≡ length text = ap length (same_text bytes text p) in
        let least_is : least here ≡ least terminal = ap least here_is in
        let enough = leb-true (least here) (length bytes) long in
        omega arith
    by false p long rest q = rest q

least_kind : (kind : Kind) (text : List ℕ) (terminal : Terminal) → terminal_of_kind kind text ≡ Some terminal → least terminal ≤ size text
least_kind kinds.Name text terminal e = let is = ap least (some_same e) in let some = size_some text in omega arith
least_kind (kinds.Number value) text terminal e =
    let is = ap least (some_same e) in let one = two_or_another (int_eq value (pos 2)) in let some = size_some text in omega arith
  where
    two_or_another : (test : Bool) → least (cond test terminals.Two terminals.Number) ≡ 1
    two_or_another true = refl
    two_or_another false = refl
least_kind kinds.Text text terminal e = let is = ap least (some_same e) in let some = size_some text in omega arith
least_kind kinds.Word text terminal e = let some = least_spelled text words terminal refl e in let long = size_long text in omega arith
least_kind kinds.Mark text terminal e = let some = least_spelled text marks terminal refl e in let long = size_long text in omega arith

least_some : (terminal : Terminal) → 1 ≤ least terminal
least_some terminals.Or = omega arith
least_some terminals.And = omega arith
least_some terminals.Program = omega arith
least_some terminals.While = omega arith
least_some _ = omega arith

-- how many bytes the tokens left at a point count
abbrev pub ahead : Point → ℕ
ahead a = total a.left

-- behind a token they are fewer
pub past : {terminal : Terminal} {a b : Point} → Takes terminal a b → least terminal + ahead b ≤ ahead a
past {terminal = terminal} {a = a} {b = b} t =
    let all = total_first t.token a.left b.left t.stands in let some = least_kind t.token.kind t.token.text terminal t.fits in omega arith

pub past_name : {name : Identifier} {a b : Point} → TakesName name a b → size name.text + ahead b ≤ ahead a
past_name {a = a} {b = b} t =
    let all = total_first t.token a.left b.left t.stands in let same = ap (λ (name : Identifier). size name.text) t.is in omega arith

pub past_number : {number : Number} {a b : Point} → TakesNumber number a b → 1 + number_extra number.value + ahead b ≤ ahead a
past_number {a = a} {b = b} t =
    let all = total_first t.token a.left b.left t.stands in
    let some = size_some t.token.text in
    let same = ap kind_extra t.fits in
    let value = ap (λ (number : Number). number_extra number.value) t.is in
    omega arith

pub past_ensure : {number : ℕ} {place : Place} {a b : Point} → TakesEnsure number place a b → 1 + line_extra place.line + ahead b ≤ ahead a
past_ensure {a = a} {b = b} t =
    let all = total_first t.token a.left b.left t.stands in
    let some = size_some t.token.text in
    let line = ap (λ (place : Place). line_extra place.line) t.at in
    omega arith

-- a text is shorter than its token
between_short : (text : List ℕ) → 1 + length (between_quotes text) ≤ size text
between_short text =
    let few = length-take (length text - 2) (drop 1 text) in
    let some = size_some text in
    let long = size_long text in
    omega arith

pub past_text : {item : PrintItem} {a b : Point} → TakesText item a b → printed_weight item.what + ahead b ≤ ahead a
past_text {a = a} {b = b} t =
    let all = total_first t.token a.left b.left t.stands in
    let same = ap (λ (item : PrintItem). printed_weight item.what) t.is in
    let short = between_short t.token.text in
    omega arith

-- an operator weighs no more than its token
two_at_most : (op : Op) → op_weight op ≤ 2
two_at_most ops.Or = omega arith
two_at_most ops.And = omega arith
two_at_most _ = omega arith

operator_light : (terminal : Terminal) (level : Level) (op : Op) → operator (Some terminal) level ≡ Some op → op_weight op ≤ least terminal
operator_light terminals.Or level op e = two_at_most op
operator_light terminals.And level op e = two_at_most op
operator_light terminals.Plus levels.Sum op e = let is = ap op_weight (some_same e) in omega arith
operator_light terminals.Minus levels.Sum op e = let is = ap op_weight (some_same e) in omega arith
operator_light terminals.Star levels.Product op e = let is = ap op_weight (some_same e) in omega arith
operator_light terminals.Slash levels.Product op e = let is = ap op_weight (some_same e) in omega arith
operator_light terminals.Percent levels.Product op e = let is = ap op_weight (some_same e) in omega arith
operator_light _ _ op e = absurd cc

comparison_light : (terminal : Terminal) (op : Op) → comparison (Some terminal) ≡ Some op → op_weight op ≤ least terminal
comparison_light terminals.Equal op e = let is = ap op_weight (some_same e) in omega arith
comparison_light terminals.Unequal op e = let is = ap op_weight (some_same e) in omega arith
comparison_light terminals.Less op e = let is = ap op_weight (some_same e) in omega arith
comparison_light terminals.LessEqual op e = let is = ap op_weight (some_same e) in omega arith
comparison_light terminals.Greater op e = let is = ap op_weight (some_same e) in omega arith
comparison_light terminals.GreaterEqual op e = let is = ap op_weight (some_same e) in omega arith
comparison_light _ op e = absurd cc

pub past_operator : {level : Level} {op : Op} {a b : Point} → TakesOperator level op a b → op_weight op + ahead b ≤ ahead a
past_operator {level = level} {op = op} t = let some = past t.takes in let light = operator_light t.terminal level op t.is in omega arith

pub past_comparison : {op : Op} {a b : Point} → TakesComparison op a b → op_weight op + ahead b ≤ ahead a
past_comparison {op = op} t = let some = past t.takes in let light = comparison_light t.terminal op t.is in omega arith

pub past_quantifier : {kind : Quantifier} {place : Place} {a b : Point} → TakesQuantifier kind place a b → 1 + ahead b ≤ ahead a
past_quantifier t = let some = past t.takes.takes in let one = least_some t.terminal in omega arith

pub past_at : {terminal : Terminal} {place : Place} {a b : Point} → TakesAt terminal place a b → least terminal + ahead b ≤ ahead a
past_at t = past t.takes
