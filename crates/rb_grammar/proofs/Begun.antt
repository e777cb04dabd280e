-- Forms that begin with an operator or a word that the code looked up.
use Rattle.std.proofs.Common.{◌≡◌, true, Option, Some, sym, ap, ◌∙◌}
use Rattle.rb_lex.specs.Tokens.{Lexeme}
use Rattle.rb_grammar.specs.declared.level.Level.{Level}
use Rattle.rb_grammar.specs.declared.terminal.Terminal.{Terminal}
use Rattle.rb_grammar.specs.ExpressionTable.{start_link, start_compared}
use Rattle.rb_grammar.specs.Grammar.{Point}
use Rattle.rb_grammar.specs.Machine.{Advances, fits}
use Rattle.rb_grammar.specs.Operators.{operator, comparison, quantifier}
use Rattle.rb_grammar.specs.Parts.{Part}
use Rattle.rb_grammar.specs.Plans.{Done, Call}
use Rattle.rb_grammar.proofs.Reaching.{Reaches, starts}
use Rattle.rb_grammar.proofs.Accepting.Starts.{found_fits}
use Rattle.rb_syntax.specs.declared.expression.Op.{Op}
use Rattle.rb_syntax.specs.declared.expression.Quantifier.{Quantifier}
use Rattle.rb_syntax.specs.Tree.{Linked}

-- the operator that was found does stand first
pub operator_fits : {op : Op} {seen first : Option Terminal} {terminal : Terminal} (level : Level)
    (e : (operator seen level ≡ Some op) × (seen ≡ Some terminal)) → seen ≡ first → fits first terminal ≡ true
operator_fits level e same = found_fits e.1 same

-- a link begins with its operator
pub link_begun : {op : Op} {seen : Option Terminal} {terminal : Terminal} {token : Lexeme} {a b : Point} (level : Level) →
    (operator seen level ≡ Some op) × (seen ≡ Some terminal) → Advances terminal token a b →
    Reaches (Part.Links level) a (Call (Part.Operand level)
    (λ right. Call (Part.Links level) (λ links. Done (Linked op right links)))) b
link_begun {op} {seen} {terminal} level e h =
    starts (λ seen. Call (Part.Operand level) (λ right. Call (Part.Links level) (λ links. Done (Linked op right links))))
    (ap (start_link level) (ap (λ first. operator first level) (sym e.1) ∙ e.0)) h

-- the comparison that was found begins the right side
pub compared_found : {op : Op} {seen : Option Terminal} {terminal : Terminal} →
    (comparison seen ≡ Some op) × (seen ≡ Some terminal) → start_compared (comparison (Some terminal)) ≡ start_compared (Some op)
compared_found e = ap start_compared (ap comparison (sym e.1) ∙ e.0)

-- the word that was found
pub word_found : {kind : Quantifier} {seen : Option Terminal} {terminal : Terminal} →
    (quantifier seen ≡ Some kind) × (seen ≡ Some terminal) → quantifier (Some terminal) ≡ Some kind
word_found e = ap quantifier (sym e.1) ∙ e.0
