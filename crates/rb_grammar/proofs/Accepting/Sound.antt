-- What the machine accepts is derived: every form of the table is a row of the grammar. Here the notions, and expressions.
use Rattle.std.proofs.Common.{◌≡◌, ℕ, ℤ, ◌∷◌, Option, Some, None, refl, ap, subst, ◌∙◌}
use Rattle.rb_lex.specs.declared.token.Kind.TheVariants as kinds
use Rattle.rb_lex.specs.Tokens.{Lexeme}
use Rattle.rb_grammar.specs.declared.level.Level.{Level}
use Rattle.rb_grammar.specs.declared.level.Level.TheVariants as levels
use Rattle.rb_grammar.specs.declared.terminal.Terminal.{Terminal}
use Rattle.rb_grammar.specs.declared.terminal.Terminal.TheVariants as terminals
use Rattle.rb_grammar.specs.ExpressionTable.{Start, begin, nothing_after, name_of, value_of, number_of, variable_after}
use Rattle.rb_grammar.specs.ExpressionTable.{literal_after, chain_after, compared_after, quantified_after, start_number}
use Rattle.rb_grammar.specs.ExpressionTable.{start_subscript, start_place, start_atom, start_factor, start_link, start_product}
use Rattle.rb_grammar.specs.ExpressionTable.{start_product_operand, start_sum, start_sum_operand, start_compared}
use Rattle.rb_grammar.specs.ExpressionTable.{start_comparison, start_negation, start_conjunction, start_conjunction_operand}
use Rattle.rb_grammar.specs.ExpressionTable.{start_disjunction, start_disjunction_operand, start_operand, start_chain}
use Rattle.rb_grammar.specs.ExpressionTable.{start_expression}
use Rattle.rb_grammar.specs.Grammar.{Point, Takes, TakesAt, TakesName, TakesNumber, TakesQuantifier, Derives, expression_row}
use Rattle.rb_grammar.specs.Grammar.{quantified_row, chain_row, links_row, disjunct_row, conjunct_row, term_row, factor_row}
use Rattle.rb_grammar.specs.Grammar.{not_row, no_not_row, comparison_row, compared_row, minus_row, no_minus_row, literal_row}
use Rattle.rb_grammar.specs.Grammar.{variable_row, prior_row, brackets_row, place_row, subscript_row, number_row}
use Rattle.rb_grammar.specs.Machine.{Advances, names_after, blocks_after}
use Rattle.rb_grammar.specs.Operators.{operator, comparison}
use Rattle.rb_grammar.specs.Parts.{Part}
use Rattle.rb_grammar.specs.Plans.{Value, Seen, Plan, Done, Token, Call, bind}
use Rattle.rb_grammar.specs.Terminals.{terminal_of}
use Rattle.rb_grammar.proofs.Reaching.{seen_from}
use Rattle.rb_grammar.proofs.Spelled.{number_kind, two_kind}
use Rattle.rb_syntax.specs.declared.expression.Number.{Number}
use Rattle.rb_syntax.specs.declared.expression.Op.{Op}
use Rattle.rb_syntax.specs.declared.expression.Quantifier.{Quantifier}

-- whatever tokens and derived parts a plan is given, what it gives in the end has this property
abbrev pub Follows : {A : Type 0} → (A → Point → Type 0) → Plan A → Point → Type 0
Follows P (Done v) a = P v a
Follows P (Token terminal f) a = (token : Lexeme) (b : Point) → Advances terminal token a b → Follows P (f (seen_from token a)) b
Follows P (Call part f) a = (v : Value part) (b : Point) → Derives part v a b → Follows P (f v) b

pub follows_bind : {A B : Type 0} (P : A → Point → Type 0) (Q : B → Point → Type 0) (plan : Plan A) (k : A → Plan B) (a : Point) →
    Follows P plan a → ((v : A) (b : Point) → P v b → Follows Q (k v) b) → Follows Q (bind plan k) a
follows_bind P Q (Done v) k a h g = g v a h
follows_bind P Q (Token terminal f) k a h g =
    λ token b t. follows_bind P Q (f (seen_from token a)) k b (h token b t) g
follows_bind P Q (Call part f) k a h g = λ v b d. follows_bind P Q (f v) k b (h v b d) g

-- the same of the plan after a first token
abbrev pub Begun : {A : Type 0} → (A → Point → Type 0) → Lexeme → Point → Point → Start A → Type 0
Begun P token a b None = Unit {0}
Begun P token a b (Some f) = Follows P (f (seen_from token a)) b

begun_begin : {A B : Type 0} (P : A → Point → Type 0) (Q : B → Point → Type 0) (token : Lexeme) (a b : Point) (begun : Start A)
    (rest : Seen → A → Plan B) → Begun P token a b begun → ((v : A) (c : Point) → P v c →
    Follows Q (rest (seen_from token a) v) c) → Begun Q token a b (begin begun rest)
begun_begin P Q token a b None rest h g = tt
begun_begin P Q token a b (Some f) rest h g =
    follows_bind P Q (f (seen_from token a)) (rest (seen_from token a)) b h g

-- a fact of a number is one of an equal number
pub ended : (P : ℕ → ℕ → Type 0) {names names_before blocks blocks_before : ℕ} → names ≡ names_before → blocks ≡ blocks_before →
    P names blocks → P names_before blocks_before
ended P {names_before = names_before} {blocks = blocks} n m p =
    subst (λ x. P names_before x) m (subst (λ x. P x blocks) n p)

-- a token was passed, which is of this terminal, or of none
pub record Passes (first : Option Terminal) (token : Lexeme) (a b : Point) : Type 0 where
  pub stands : a.left ≡ token ∷ b.left
  pub is : terminal_of token ≡ first
  pub names : b.names ≡ names_after first a.names
  pub blocks : b.blocks ≡ blocks_after first a.blocks

pub advanced : {terminal : Terminal} {token : Lexeme} {a b : Point} → Passes (Some terminal) token a b → Advances terminal token a b
advanced h = record { stands = h.stands; is = h.is; names = h.names; blocks = h.blocks }

pub plain : {terminal : Terminal} {token : Lexeme} {a b : Point} (h : Advances terminal token a b) → b.names ≡ a.names →
    b.blocks ≡ a.blocks → Takes terminal a b
plain {token = token} h n m = record { token = token; stands = h.stands; fits = h.is; names = n; blocks = m }

-- a token that is neither a name nor `ensure`
pub passed : {terminal : Terminal} {token : Lexeme} {a b : Point} (h : Passes (Some terminal) token a b) → b.names ≡ a.names →
    b.blocks ≡ a.blocks → Takes terminal a b
passed h n m = plain (advanced h) n m

pub placed : {terminal : Terminal} {token : Lexeme} {a b : Point} (h : Passes (Some terminal) token a b) → b.names ≡ a.names →
    b.blocks ≡ a.blocks → TakesAt terminal token.place a b
placed {token = token} h n m = record {
  takes = record { token = token; stands = h.stands; fits = h.is; names = n; blocks = m };
  is = refl;
}

pub named : {token : Lexeme} {a b : Point} (h : Advances terminals.Name token a b) → TakesName (name_of (seen_from token a)) a b
named {token = token} h = record { token = token; stands = h.stands; fits = h.is; is = refl; names = h.names; blocks = h.blocks }

counted_number : (token : Lexeme) (value : ℤ) → token.kind ≡ kinds.Number value → number_of token ≡ record { value = value; place = token.place }
counted_number token value e =
    ap (λ kind. let n : Number = record { value = value_of kind; place = token.place } in n) e

pub counted : {token : Lexeme} {a b : Point} → (value : ℤ) × (token.kind ≡ kinds.Number value) → a.left ≡ token ∷ b.left →
    b.names ≡ a.names → b.blocks ≡ a.blocks → TakesNumber (number_of token) a b
counted {token = token} number stands names blocks = record {
  token = token;
  value = number.0;
  stands = stands;
  fits = number.1;
  is = counted_number token number.0 number.1;
  names = names;
  blocks = blocks;
}

-- each form of the table, by its row
abbrev pub Forms : (part : Part) → Start (Value part) → Lexeme → Point → Point → Type 0
Forms part begun token a b = Begun (λ v c. Derives part v a c) token a b begun

pub then_rest : (token : Lexeme) (a b : Point) (part part_first : Part) (begun : Start (Value part_first))
    (rest : Seen → Value part_first → Plan (Value part)) → Forms part_first begun token a b →
    ((v : Value part_first) (c : Point) → Derives part_first v a c →
    Follows (λ w d. Derives part w a d) (rest (seen_from token a) v) c) → Forms part (begin begun rest) token a b
then_rest token a b part part_first begun rest h g =
    begun_begin (λ v c. Derives part_first v a c) (λ v c. Derives part v a c) token a b begun rest h g

-- an operator is neither a name nor `ensure`
pub operator_names : (terminal : Terminal) (level : Level) (op : Op) (n : ℕ) → operator (Some terminal) level ≡ Some op →
    names_after (Some terminal) n ≡ n
operator_names terminals.Name level op n e = absurd cc
operator_names _ level op n e = refl

pub operator_blocks : (terminal : Terminal) (level : Level) (op : Op) (n : ℕ) → operator (Some terminal) level ≡ Some op →
    blocks_after (Some terminal) n ≡ n
operator_blocks terminals.Ensure level op n e = absurd cc
operator_blocks _ level op n e = refl

pub comparison_names : (terminal : Terminal) (op : Op) (n : ℕ) → comparison (Some terminal) ≡ Some op → names_after (Some terminal) n ≡ n
comparison_names terminals.Name op n e = absurd cc
comparison_names _ op n e = refl

pub comparison_blocks : (terminal : Terminal) (op : Op) (n : ℕ) → comparison (Some terminal) ≡ Some op → blocks_after (Some terminal) n ≡ n
comparison_blocks terminals.Ensure op n e = absurd cc
comparison_blocks _ op n e = refl

module _ (token : Lexeme) (a b : Point) where
  pub number_sound : (first : Option Terminal) → Passes first token a b → Forms Part.Number (start_number first) token a b
  number_sound (Some terminals.Number) h =
      number_row (counted (number_kind token.kind token.text h.is) h.stands h.names h.blocks)
  number_sound (Some terminals.Two) h =
      number_row (counted (two_kind token.kind token.text h.is) h.stands h.names h.blocks)
  number_sound _ h = tt

  pub subscript_sound : (first : Option Terminal) → Passes first token a b → Forms Part.Subscript (start_subscript first) token a b
  subscript_sound (Some terminals.OpenBracket) h =
      λ index c i close d z. subscript_row (passed h h.names h.blocks) i (plain z z.names z.blocks)
  subscript_sound _ h = tt

  pub place_sound : (first : Option Terminal) → Passes first token a b → Forms Part.Place (start_place first) token a b
  place_sound (Some terminals.Name) h = λ subscript c s. place_row (named (advanced h)) s
  place_sound _ h = tt

  pub atom_sound : (first : Option Terminal) → Passes first token a b → Forms Part.Atom (start_atom first) token a b
  atom_sound (Some terminals.Prior) h = λ place c p. prior_row (placed h h.names h.blocks) p
  atom_sound (Some terminals.OpenParen) h =
      λ value c e close d z. brackets_row (passed h h.names h.blocks) e (plain z z.names z.blocks)
  atom_sound (Some terminals.Name) h =
      then_rest token a b Part.Atom Part.Place (start_place (Some terminals.Name)) variable_after
      (place_sound (Some terminals.Name) h) (λ v c d. variable_row d)
  atom_sound first h =
      then_rest token a b Part.Atom Part.Number (start_number first) literal_after (number_sound first h) (λ v c d. literal_row d)

  pub factor_sound : (first : Option Terminal) → Passes first token a b → Forms Part.Factor (start_factor first) token a b
  factor_sound (Some terminals.Minus) h = λ operand c o. minus_row (passed h h.names h.blocks) o
  factor_sound first h =
      then_rest token a b Part.Factor Part.Atom (start_atom first) nothing_after (atom_sound first h) (λ v c d. no_minus_row d)

  link_found : (terminal : Terminal) (level : Level) (found : Option Op) → Passes (Some terminal) token a b →
      operator (Some terminal) level ≡ found → Forms (Part.Links level) (start_link level found) token a b
  link_found terminal level None h e = tt
  link_found terminal level (Some op) h e =
      λ right c r links d l. links_row (record {
        terminal = terminal;
        is = e;
        takes = passed h (h.names ∙ operator_names terminal level op a.names e) (h.blocks ∙ operator_blocks terminal level op a.blocks e);
      }) r l

  pub link_sound : (level : Level) (first : Option Terminal) → Passes first token a b →
      Forms (Part.Links level) (start_link level (operator first level)) token a b
  link_sound level None h = tt
  link_sound level (Some terminal) h = link_found terminal level (operator (Some terminal) level) h refl

  -- a chain, if its operand is one
  chain_from : (level : Level) (first : Option Terminal) → Forms (Part.Operand level) (start_operand level first) token a b →
      Forms (Part.Chain level) (start_chain level first) token a b
  chain_from level first h =
      then_rest token a b (Part.Chain level) (Part.Operand level) (start_operand level first) (chain_after level) h (λ v c t links d l. chain_row t l)

  product_operand_sound : (first : Option Terminal) → Passes first token a b →
      Forms (Part.Operand levels.Product) (start_product_operand first) token a b
  product_operand_sound first h =
      then_rest token a b (Part.Operand levels.Product) Part.Factor (start_factor first) nothing_after (factor_sound first h) (λ v c d. factor_row d)

  sum_operand_sound : (first : Option Terminal) → Passes first token a b → Forms (Part.Operand levels.Sum) (start_sum_operand first) token a b
  sum_operand_sound first h =
      then_rest token a b (Part.Operand levels.Sum) (Part.Chain levels.Product) (start_product first) nothing_after
      (chain_from levels.Product first (product_operand_sound first h)) (λ v c d. term_row d)

  compared_found : (terminal : Terminal) (found : Option Op) → Passes (Some terminal) token a b →
      comparison (Some terminal) ≡ found → Forms Part.Compared (start_compared found) token a b
  compared_found terminal None h e = tt
  compared_found terminal (Some op) h e =
      λ right c r. compared_row (record {
        terminal = terminal;
        is = e;
        takes = passed h (h.names ∙ comparison_names terminal op a.names e) (h.blocks ∙ comparison_blocks terminal op a.blocks e);
      }) r

  pub compared_sound : (first : Option Terminal) → Passes first token a b → Forms Part.Compared (start_compared (comparison first)) token a b
  compared_sound None h = tt
  compared_sound (Some terminal) h = compared_found terminal (comparison (Some terminal)) h refl

  pub comparison_sound : (first : Option Terminal) → Passes first token a b → Forms Part.Comparison (start_comparison first) token a b
  comparison_sound first h =
      then_rest token a b Part.Comparison (Part.Chain levels.Sum) (start_sum first) compared_after
      (chain_from levels.Sum first (sum_operand_sound first h)) (λ v c t links d l. comparison_row t l)

  pub negation_sound : (first : Option Terminal) → Passes first token a b → Forms Part.Negation (start_negation first) token a b
  negation_sound (Some terminals.Not) h = λ operand c o. not_row (passed h h.names h.blocks) o
  negation_sound first h =
      then_rest token a b Part.Negation Part.Comparison (start_comparison first) nothing_after (comparison_sound first h) (λ v c d. no_not_row d)

  conjunction_operand_sound : (first : Option Terminal) → Passes first token a b →
      Forms (Part.Operand levels.Conjunction) (start_conjunction_operand first) token a b
  conjunction_operand_sound first h =
      then_rest token a b (Part.Operand levels.Conjunction) Part.Negation (start_negation first) nothing_after
      (negation_sound first h) (λ v c d. conjunct_row d)

  disjunction_operand_sound : (first : Option Terminal) → Passes first token a b →
      Forms (Part.Operand levels.Disjunction) (start_disjunction_operand first) token a b
  disjunction_operand_sound first h =
      then_rest token a b (Part.Operand levels.Disjunction) (Part.Chain levels.Conjunction) (start_conjunction first)
      nothing_after (chain_from levels.Conjunction first (conjunction_operand_sound first h)) (λ v c d. disjunct_row d)

  pub operand_sound : (level : Level) (first : Option Terminal) → Passes first token a b →
      Forms (Part.Operand level) (start_operand level first) token a b
  operand_sound levels.Disjunction first h = disjunction_operand_sound first h
  operand_sound levels.Conjunction first h = conjunction_operand_sound first h
  operand_sound levels.Sum first h = sum_operand_sound first h
  operand_sound levels.Product first h = product_operand_sound first h

  pub chain_sound : (level : Level) (first : Option Terminal) → Passes first token a b → Forms (Part.Chain level) (start_chain level first) token a b
  chain_sound level first h = chain_from level first (operand_sound level first h)

  quantified_sound : (kind : Quantifier) → TakesQuantifier kind token.place a b →
      Follows (λ v c. Derives Part.Expression v a c) (quantified_after kind (seen_from token a)) b
  quantified_sound kind q =
      λ name c n from d f low e l to g t high i u colon j x body k v. quantified_row q (named n) (plain f f.names f.blocks) l
      (plain t t.names t.blocks) u (plain x x.names x.blocks) v

  pub expression_sound : (first : Option Terminal) → Passes first token a b → Forms Part.Expression (start_expression first) token a b
  expression_sound (Some terminals.Every) h =
      quantified_sound _ (record { terminal = terminals.Every; is = refl; takes = placed h h.names h.blocks })
  expression_sound (Some terminals.Some) h =
      quantified_sound _ (record { terminal = terminals.Some; is = refl; takes = placed h h.names h.blocks })
  expression_sound (Some terminals.Sum) h =
      quantified_sound _ (record { terminal = terminals.Sum; is = refl; takes = placed h h.names h.blocks })
  expression_sound first h =
      then_rest token a b Part.Expression (Part.Chain levels.Disjunction) (start_disjunction first) nothing_after
      (chain_sound levels.Disjunction first h) (λ v c d. expression_row d)
