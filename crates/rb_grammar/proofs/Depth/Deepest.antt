-- Trees as deep as their brackets let them be: in each pair of brackets a quantified expression stands around `or`, this
-- around `and`, `not`, a comparison, a sum, a product, a sign and an element, whose index is the next pair.
use Rattle.std.proofs.Common.{◌≡◌, ℕ, zero, suc, ◌+◌, ◌-◌, ◌*◌, ◌≤◌, max, List, [], ◌∷◌, Some, refl, subst, arith}
use Rattle.std.proofs.Math.Nat.{le-max_left, le-max_right}
use Rattle.std.specs.Prelude.{take}
use Rattle.rb_base.specs.declared.edition.Edition.TheVariants as editions
use Rattle.rb_lex.specs.Tokens.{Lexeme}
use Rattle.rb_grammar.specs.Brackets.{open_after, open_from}
use Rattle.rb_grammar.specs.declared.level.Level.{Level}
use Rattle.rb_grammar.specs.declared.level.Level.TheVariants as levels
use Rattle.rb_grammar.specs.declared.terminal.Terminal.{Terminal}
use Rattle.rb_grammar.specs.declared.terminal.Terminal.TheVariants as terminals
use Rattle.rb_grammar.specs.Depth.{expression_depth, depth}
use Rattle.rb_grammar.specs.ExpressionTable.{number_of}
use Rattle.rb_grammar.specs.Grammar.{Takes, TakesName, Derives, DerivesTree, first_edition_row, program_row, no_connection_row}
use Rattle.rb_grammar.specs.Grammar.{processes_row, no_process_row, process_row, no_procedure_row, no_declaration_row}
use Rattle.rb_grammar.specs.Grammar.{no_statement_row, statements_row, print_row, items_row, no_item_row, amount_row}
use Rattle.rb_grammar.specs.Grammar.{quantified_row, chain_row, no_link_row, links_row, disjunct_row, conjunct_row, term_row}
use Rattle.rb_grammar.specs.Grammar.{factor_row, not_row, comparison_row, compared_row, minus_row, variable_row, place_row}
use Rattle.rb_grammar.specs.Grammar.{subscript_row}
use Rattle.rb_grammar.specs.Laws.{DepthIsReached}
use Rattle.rb_grammar.specs.Operators.{operator}
use Rattle.rb_grammar.specs.Parts.{Part}
use Rattle.rb_grammar.specs.Terminals.{terminal_of}
use Rattle.rb_grammar.proofs.Depth.Bounded.{depth_is_bounded}
use Rattle.rb_grammar.proofs.Stopping.Samples.{sample, sample_is}
use Rattle.rb_grammar.proofs.Stopping.Shortest.{from, atom_here, product_operand_here, sum_operand_here, sum_here, conjunction_operand_here, disjunction_operand_here}
use Rattle.rb_syntax.specs.declared.expression.Op.{Op}
use Rattle.rb_syntax.specs.declared.expression.Op.TheVariants as ops
use Rattle.rb_syntax.specs.declared.expression.Quantifier.TheVariants as quantifiers
use Rattle.rb_syntax.specs.Tree.{Identifier, Expression, Literal, Variable, Minus, Negation, Chained, Quantification, Refer, Element, NoLink, Linked, Amount, Printing, NoCommand, Then, Tree}

-- the tokens of one pair of brackets, and then the rest
abbrev in_brackets : List Lexeme → List Lexeme
in_brackets rest =
    sample terminals.Number ∷ sample terminals.Or ∷ sample terminals.Number ∷ sample terminals.And ∷ sample terminals.Not ∷ sample
    terminals.Number ∷ sample terminals.Equal ∷ sample terminals.Number ∷ sample terminals.Plus ∷ sample terminals.Number ∷ sample
    terminals.Star ∷ sample terminals.Minus ∷ rest

abbrev around : List Lexeme → List Lexeme
around rest =
    sample terminals.Every ∷ sample terminals.Name ∷ sample terminals.From ∷ sample terminals.Number ∷ sample terminals.To ∷
    sample terminals.Number ∷ sample terminals.Colon ∷ in_brackets rest

-- an operand with so many pairs of brackets in each other, and then the rest
abbrev operand_before : ℕ → List Lexeme → List Lexeme
operand_before zero rest = sample terminals.Number ∷ rest
operand_before (suc m) rest =
    sample terminals.Name ∷ sample terminals.OpenBracket ∷ around (operand_before m (sample terminals.CloseBracket ∷ rest))

abbrev takes : (terminal : Terminal) (rest : List Lexeme) (names : ℕ) → Takes terminal (from (sample terminal ∷ rest) names 0) (from rest names 0)
takes terminal rest names = record { token = sample terminal; stands = refl; fits = sample_is terminal; names = refl; blocks = refl }

-- the number that stands for every expression
abbrev zero_value : Expression
zero_value = Literal (number_of (sample terminals.Number))

-- the name that stands at a point
abbrev name_at : ℕ → Identifier
name_at names = record { text = (sample terminals.Name).text; place = (sample terminals.Name).place; id = names }

takes_name : (rest : List Lexeme) (names : ℕ) → TakesName (name_at names) (from (sample terminals.Name ∷ rest) names 0) (from rest (names + 1) 0)
takes_name rest names = record { token = sample terminals.Name; stands = refl; fits = refl; is = refl; names = refl; blocks = refl }

-- an operand that is so deep
record Operand (m names : ℕ) (rest : List Lexeme) : Type 0 where
  value : Expression
  later : ℕ
  derived : Derives Part.Atom value (from (operand_before m rest) names 0) (from rest later 0)
  deep : 9 * m + 1 ≤ expression_depth value

-- an expression that is so deep
record Deeper (m names : ℕ) (rest : List Lexeme) : Type 0 where
  value : Expression
  later : ℕ
  derived : Derives Part.Expression value (from (around (operand_before m rest)) names 0) (from rest later 0)
  deep : 9 * m + 9 ≤ expression_depth value

-- the last operand of two is no deeper than its chain
layer : (d e : ℕ) → d ≤ e → d + 1 ≤ 1 + max 1 (max e 0)
layer d e h = let left = le-max_left e 0 in let right = le-max_right 1 (max e 0) in omega (arith, h, left, right)

-- the body of a quantified expression is no deeper than all of it
last : (d e : ℕ) → d ≤ e → d + 1 ≤ 1 + max 1 (max 1 e)
last d e h = let right = le-max_right 1 e in let all = le-max_right 1 (max 1 e) in omega (arith, h, right, all)

-- eight layers around an operand
deepened : (d e : ℕ) → d + 1 ≤ e → d + 9 ≤ 1 + max 1 (max 1
    (1 + max 1 (max (1 + max 1 (max (1 + (1 + max 1 (max (1 + max 1 (max (1 + max 1 (max (1 + e) 0)) 0)) 0))) 0)) 0)))
deepened d e h =
    let signed : d + 2 ≤ 1 + e = omega (arith, h) in
    let product = layer (d + 2) (1 + e) signed in
    let total = layer (d + 2 + 1) _ product in
    let compares = layer (d + 2 + 1 + 1) _ total in
    let negated : d + 6 ≤ 1 + (1 + max 1 (max (1 + max 1 (max (1 + max 1 (max (1 + e) 0)) 0)) 0)) = omega (arith, compares) in
    let conjoined = layer (d + 6) _ negated in
    let disjoined = layer (d + 6 + 1) _ conjoined in
    let all = last (d + 6 + 1 + 1) _ disjoined in
    omega (arith, all)

-- a number, an operator of a level and an operand
linked : (level : Level) (op : Op) (terminal : Terminal) → operator (Some terminal) level ≡ Some op →
    {right : Expression} {tokens rest : List Lexeme} {names later : ℕ} →
    Derives (Part.Operand level) zero_value (from (sample terminals.Number ∷ sample terminal ∷ tokens) names 0)
    (from (sample terminal ∷ tokens) names 0) → Derives (Part.Operand level) right (from tokens names 0) (from rest later 0) →
    Derives (Part.Chain level) (Chained zero_value (Linked op right NoLink))
    (from (sample terminals.Number ∷ sample terminal ∷ tokens) names 0) (from rest later 0)
linked level op terminal e {right} {tokens} {rest} {names} s d =
    chain_row {links = Linked op right NoLink} s (links_row
    (record { terminal = terminal; is = e; takes = takes terminal tokens names }) d no_link_row)

-- a comparison with an operand
compared : {right : Expression} {tokens rest : List Lexeme} {names later : ℕ} →
    Derives (Part.Chain levels.Sum) right (from tokens names 0) (from rest later 0) →
    Derives Part.Comparison (Chained zero_value (Linked ops.Eq right NoLink))
    (from (sample terminals.Number ∷ sample terminals.Equal ∷ tokens) names 0) (from rest later 0)
compared {right} {tokens} {rest} {names} d =
    comparison_row {links = Linked ops.Eq right NoLink} (sum_here names 0 (sample terminals.Equal ∷ tokens))
    (compared_row (record { terminal = terminals.Equal; is = refl; takes = takes terminals.Equal tokens names }) d)

-- a quantified expression over a body
quantified : {body : Expression} {tokens rest : List Lexeme} {names later : ℕ} →
    Derives (Part.Chain levels.Disjunction) body (from tokens (names + 1) 0) (from rest later 0) →
    Derives Part.Expression (Quantification quantifiers.Every (sample terminals.Every).place (name_at names) zero_value zero_value
    body) (from (sample terminals.Every ∷ sample terminals.Name ∷ sample terminals.From ∷ sample terminals.Number ∷ sample
    terminals.To ∷ sample terminals.Number ∷ sample terminals.Colon ∷ tokens) names 0) (from rest later 0)
quantified {body} {tokens} {rest} {names} d =
    let to : List Lexeme = sample terminals.To ∷ sample terminals.Number ∷ sample terminals.Colon ∷ tokens in
    quantified_row (record {
      terminal = terminals.Every;
      is = refl;
      takes = record
          { takes = takes terminals.Every _ names; is = refl };
    })
    (takes_name (sample terminals.From ∷ sample terminals.Number ∷ to) names)
    (takes terminals.From (sample terminals.Number ∷ to) (names + 1)) (sum_here (names + 1) 0 to)
    (takes terminals.To _ (names + 1)) (sum_here (names + 1) 0 (sample terminals.Colon ∷ tokens))
    (takes terminals.Colon tokens (names + 1)) d

-- all of it around an operand
disjunction_over : {value : Expression} {tokens rest : List Lexeme} {names later : ℕ} →
    Derives Part.Atom value (from tokens names 0) (from rest later 0) →
    Derives (Part.Chain levels.Disjunction) (Chained zero_value
    (Linked ops.Or (Chained zero_value (Linked ops.And (Negation
    (Chained zero_value (Linked ops.Eq (Chained zero_value (Linked ops.Add
    (Chained zero_value (Linked ops.Mul (Minus value) NoLink)) NoLink)) NoLink))) NoLink)) NoLink))
    (from (in_brackets tokens) names 0) (from rest later 0)
disjunction_over {value} {tokens} {rest} {names} d =
    linked levels.Disjunction ops.Or terminals.Or refl (disjunction_operand_here names 0 _)
    (disjunct_row (linked levels.Conjunction ops.And terminals.And refl (conjunction_operand_here names 0 _)
    (conjunct_row (not_row (takes terminals.Not _ names) (compared
    (linked levels.Sum ops.Add terminals.Plus refl (sum_operand_here names 0 _)
    (term_row (linked levels.Product ops.Mul terminals.Star refl (product_operand_here names 0 _)
    (factor_row (minus_row (takes terminals.Minus tokens names) d))))))))))

around_operand : (m names : ℕ) (rest : List Lexeme) → Operand m (names + 1) rest → Deeper m names rest
around_operand m names rest o = record {
  value = _;
  later = o.later;
  derived = quantified (disjunction_over o.derived);
  deep = deepened (9 * m) (expression_depth o.value) o.deep;
}

in_index : (m names : ℕ) (rest : List Lexeme) → Deeper m (names + 1) (sample terminals.CloseBracket ∷ rest) → Operand (suc m) names rest
in_index m names rest e = record {
  value = Variable (Refer (name_at names) (Element e.value));
  later = e.later;
  derived = variable_row (place_row (takes_name _ names) (subscript_row (takes terminals.OpenBracket _ (names + 1)) e.derived
      (takes terminals.CloseBracket rest e.later)));
  deep = let deep = e.deep in omega (arith, deep);
}

operand : (m names : ℕ) (rest : List Lexeme) → Operand m names rest
operand zero names rest = record { value = zero_value; later = names; derived = atom_here names 0 rest; deep = omega arith }
operand (suc m) names rest =
    in_index m names rest (around_operand m (names + 1) (sample terminals.CloseBracket ∷ rest)
    (operand m (names + 1 + 1) (sample terminals.CloseBracket ∷ rest)))

-- what stands behind the expression
abbrev behind_it : List Lexeme
behind_it = sample terminals.Semicolon ∷ sample terminals.CloseBrace ∷ sample terminals.End ∷ sample terminals.Dot ∷ []

-- the text of a process that prints such an expression, and its tree
abbrev text : ℕ → List Lexeme
text n =
    sample terminals.Program ∷ sample terminals.Name ∷ sample terminals.Semicolon ∷ sample terminals.Process ∷ sample
    terminals.Name ∷ sample terminals.OpenBrace ∷ sample terminals.Print ∷ around (operand_before n behind_it)

abbrev tree_of : Expression → ℕ → Tree
tree_of value names = record {
  name = name_at 0;
  channels = [];
  conversations = [];
  processes = record {
    name = name_at 1;
    variables = [];
    procedures = [];
    commands = Then (Printing (record { place = (sample terminals.Every).place; what = Amount value } ∷ [])) NoCommand;
  } ∷ [];
  names = names;
  blocks = 0;
  edition = editions.First;
}

text_derives : (n : ℕ) (e : Deeper n 2 behind_it) → DerivesTree (tree_of e.value e.later) (text n)
text_derives n e = record {
  end = from [] e.later 0;
  derived = first_edition_row (program_row {connections = ([], [])} (takes terminals.Program _ 0) (takes_name _ 0)
      (takes terminals.Semicolon _ 1) no_connection_row (processes_row
      (process_row (takes terminals.Process _ 1) (takes_name _ 1) (takes terminals.OpenBrace _ 2) no_declaration_row
      no_procedure_row (statements_row (print_row (takes terminals.Print _ 2)
      (items_row (amount_row (record { token = sample terminals.Every; others = _; stands = refl; is = refl }) e.derived)
      no_item_row) (takes terminals.Semicolon _ e.later)) no_statement_row) (takes terminals.CloseBrace _ e.later))
      no_process_row) (takes terminals.End _ e.later) (takes terminals.Dot _ e.later));
  whole = refl;
}

-- at most n brackets are open after any of these tokens, with o open before them
record Few (n o : ℕ) (tokens : List Lexeme) : Type 0 where
  is : (k : ℕ) → open_from o (take k tokens) ≤ n

few_none : (n o : ℕ) → o ≤ n → (k : ℕ) → open_from o (take k []) ≤ n
few_none n o h zero = h
few_none n o h (suc k) = h

few_more : (n o : ℕ) (token : Lexeme) (tokens : List Lexeme) → o ≤ n → Few n (open_after (terminal_of token) o) tokens → (k : ℕ) →
    open_from o (take k (token ∷ tokens)) ≤ n
few_more n o token tokens h few zero = h
few_more n o token tokens h few (suc k) = few.is k

nil : {n o : ℕ} → o ≤ n → Few n o []
nil {n} {o} h = record { is = few_none n o h }

next : {n o : ℕ} {token : Lexeme} {tokens : List Lexeme} → o ≤ n → Few n (open_after (terminal_of token) o) tokens → Few n o (token ∷ tokens)
next {n} {o} {token} {tokens} h few = record { is = few_more n o token tokens h few }

few_around : {n o : ℕ} {rest : List Lexeme} → o ≤ n → Few n o rest → Few n o (around rest)
few_around h few =
    next h (next h (next h (next h (next h (next h (next h (next h
    (next h (next h (next h (next h (next h (next h (next h (next h (next h (next h (next h few))))))))))))))))))

few_operand : (m : ℕ) {n o : ℕ} {rest : List Lexeme} → o + m ≤ n → Few n o rest → Few n o (operand_before m rest)
few_operand zero h few = next (omega (arith, h)) few
few_operand (suc m) {n} {o} {rest} h few =
    let here : o ≤ n = omega (arith, h) in
    let there : o + 1 ≤ n = omega (arith, h) in
    let back : o ≡ o + 1 - 1 = omega arith in
    next here (next here (few_around there (few_operand m (omega (arith, h)) (next there (subst (λ p. Few n p rest) back few)))))

few_text : (n : ℕ) → Few (n + 1) 0 (text n)
few_text n =
    let none : 0 ≤ n + 1 = omega arith in
    let one : 1 ≤ n + 1 = omega arith in
    let ends : Few (n + 1) 1 behind_it = next one (next one (next none (next none (nil none)))) in
    next none (next none (next none (next none (next none (next none (next one (few_around one (few_operand n (omega arith) ends))))))))

-- the only statement of the only process is all that is deep
deep_tree : (d : ℕ) → 1 + d ≤ max (max 0 (max (1 + max d 0) 0)) 0
deep_tree d =
    let item = le-max_left d 0 in
    let statement = le-max_left (1 + max d 0) 0 in
    let process = le-max_right 0 (max (1 + max d 0) 0) in
    let whole = le-max_left (max 0 (max (1 + max d 0) 0)) 0 in
    omega (arith, item, statement, process, whole)

pub depth_is_reached : DepthIsReached
depth_is_reached n =
    let e = around_operand n 2 behind_it (operand n 3 behind_it) in
    let tree : Tree = tree_of e.value e.later in
    let few = (few_text n).is in
    let most : depth tree ≤ 9 * (n + 1) + 1 = depth_is_bounded (text n) tree (n + 1) (text_derives n e) few in
    let least : 1 + expression_depth e.value ≤ depth tree = deep_tree (expression_depth e.value) in
    let deep : 9 * n + 9 ≤ expression_depth e.value = e.deep in
    (text n, tree, text_derives n e, few, omega (arith, most, least, deep))
