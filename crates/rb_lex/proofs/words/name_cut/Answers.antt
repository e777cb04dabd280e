use Rattle.std.proofs.lemmas.Grind.{common_steps}
use Rattle.std.proofs.Common.{◌≡◌, ℕ, ◌≤◌, ◌<◌, Bool, true, false, cond, List, length, take, take_while, nat_lt, ap, sym, ◌∙◌, arith}
use Rattle.std.specs.List.{prefix_len}
use Rattle.std.proofs.lemmas.Bool.{le-ltb, lt-ltb}
use Rattle.std.proofs.lemmas.List.{length-take-le}
use Rattle.std.proofs.lemmas.List.Sums.{prefix_len-le-length}
use Rattle.rb_base.specs.Bytes.{is_name_byte}
use Rattle.rb_base.specs.Reserved.{is_reserved}
use Rattle.rb_base.specs.declared.edition.Edition.{Edition}
use Rattle.rb_base.specs.declared.fault.FaultName.TheVariants.{X5}
use Rattle.rb_base.specs.declared.limits.TheConstants.{LONGEST_NAME}
use Rattle.rb_lex.specs.declared.token.Kind.TheVariants.{Name, Word}
use Rattle.rb_lex.specs.Tokens.{Whole, Faulty, name_front}
use Rattle.rb_lex.proofs.words.name_cut.Goals as goal

-- the length of the name
length-name : (bytes : List ℕ) (n : ℕ) → n ≡ prefix_len is_name_byte bytes → length (take_while is_name_byte bytes) ≡ n
length-name bytes n is =
    length-take-le (prefix_len is_name_byte bytes) bytes (prefix_len-le-length is_name_byte bytes) ∙ sym is

-- a name that is not too long
whole : (edition : Edition) (bytes : List ℕ) (n : ℕ) (reserved : Bool) → n ≡ prefix_len is_name_byte bytes → n ≤ LONGEST_NAME
    → reserved ≡ is_reserved edition (take n bytes)
    → Whole (cond reserved Word Name) n ≡ name_front edition (take_while is_name_byte bytes)
whole edition bytes n reserved is short tells =
    let text = take_while is_name_byte bytes in
    let many : length text ≡ n = length-name bytes n is in
    let fits : nat_lt LONGEST_NAME (length text) ≡ false = le-ltb LONGEST_NAME (length text) (omega (arith, short, many)) in
    let kind : is_reserved edition text ≡ reserved = sym (tells ∙ ap (λ k. is_reserved edition (take k bytes)) is) in
    sym
    (ap (λ t. cond t (Faulty X5 0) (Whole (cond (is_reserved edition text) Word Name) (length text))) fits
    ∙ (λ i. Whole (cond (kind i) Word Name) (many i)))

-- a name that is too long
too_long : (edition : Edition) (bytes : List ℕ) (n : ℕ) → n ≡ prefix_len is_name_byte bytes → LONGEST_NAME < n
    → Faulty X5 0 ≡ name_front edition (take_while is_name_byte bytes)
too_long edition bytes n is long =
    let text = take_while is_name_byte bytes in
    let many : length text ≡ n = length-name bytes n is in
    let over : nat_lt LONGEST_NAME (length text) ≡ true = lt-ltb LONGEST_NAME (length text) (omega (arith, long, many)) in
    sym (ap (λ t. cond t (Faulty X5 0) (Whole (cond (is_reserved edition text) Word Name) (length text))) over)

pub returns-then-size-gt-LONGEST_NAME-clause-value : goal.returns-then-size-gt-LONGEST_NAME-clause-value
returns-then-size-gt-LONGEST_NAME-clause-value c =
    ap (λ stop. Faulty stop.name stop.offset) c.at_front.ensures
    ∙ too_long c.args.edition c.args.bytes.now c.name_len-size.result c.name_len-size.ensures (omega arith)

pub returns-then-is_reserved-clause-value : goal.returns-then-is_reserved-clause-value
returns-then-is_reserved-clause-value c =
    whole c.args.edition c.args.bytes.now c.name_len-size.result true c.name_len-size.ensures (omega arith)
    c.if-is_reserved.ensures

pub returns-else-is_reserved-clause-value : goal.returns-else-is_reserved-clause-value
returns-else-is_reserved-clause-value c =
    whole c.args.edition c.args.bytes.now c.name_len-size.result false c.name_len-size.ensures (omega arith)
    c.if-is_reserved.ensures

pub returns-then-is_reserved-clause-within : goal.returns-then-is_reserved-clause-within
returns-then-is_reserved-clause-within c =
    omega (arith, c.name_len-size.ensures, prefix_len-le-length is_name_byte c.args.bytes.now)

pub returns-else-is_reserved-clause-within : goal.returns-else-is_reserved-clause-within
returns-else-is_reserved-clause-within c =
    omega (arith, c.name_len-size.ensures, prefix_len-le-length is_name_byte c.args.bytes.now)

pub slice_bounds-is_reserved-end : goal.slice_bounds-is_reserved-end
slice_bounds-is_reserved-end c = grind (arith, common_steps)
