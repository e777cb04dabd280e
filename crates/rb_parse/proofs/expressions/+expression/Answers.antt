use Rattle.std.proofs.Common.{refl, sym, ap, subst, ◌∙◌, arith, [], ◌∷◌, ◌++◌, IfErr, IfOk}
use Rattle.rb_grammar.proofs.Begun.{compared_found, link_begun, operator_fits, word_found}
use Rattle.rb_grammar.proofs.Accepting.Forms.{atom_place, expression_chain, factor_atom, negation_comparison, quantified_begun}
use Rattle.rb_grammar.proofs.Pushing.{links_end, links_init, links_step}
use Rattle.rb_grammar.proofs.Reaching.{begins, by_part, by_terminal, complete, exhausts, exhausts_within, exit_first, exit_memory}
use Rattle.rb_grammar.proofs.Reaching.{exit_missed, exit_sure, exit_within, last_start, passes, same_value, starts, unread}
use Rattle.rb_grammar.proofs.Reaching.{within}
use Rattle.rb_grammar.proofs.Accepting.Starts.{fits_same, no_place, no_subscript, some_place}
use Rattle.rb_grammar.proofs.Takes.{name_taken}
use Rattle.rb_grammar.specs.ExpressionTable.{chain_after, compared_after, nothing_after, quantified_after, start_compared, start_link, variable_after}
use Rattle.rb_grammar.specs.Machine.{Reads, Stops}
use Rattle.rb_grammar.specs.Operators.{comparison, operator, quantifier}
use Rattle.rb_grammar.specs.Parts.{Part}
use Rattle.rb_grammar.specs.Reading.{Exhausts, Stopped}
use Rattle.rb_syntax.proofs.Bridge.{expression_neg, expression_not, expression_prior, expression_quantified, expression_value}
use Rattle.rb_syntax.specs.Plain.{expression, links_of, subscript}
use Rattle.rb_syntax.specs.Tree.{Element, Minus, Negation, NoLink, Quantification, Refer, Scalar}
use Rattle.rb_grammar.specs.declared.level.Level.TheVariants as levels
use Rattle.rb_parse.proofs.Closing.{last_closed, last_held, last_missed}
use Rattle.rb_parse.proofs.Handed.{last_made, last_read, last_stopped, last_unmade}
use Rattle.rb_parse.proofs.Shorter.{and_fewer, at_most, call_fewer, call_takes_none, call_weaker, falls_40, no_more}
use Rattle.rb_parse.proofs.expressions.+expression.Goals as goal

pub read_expression-returns-in-None-clause-err : goal.read_expression-returns-in-None-clause-err
read_expression-returns-in-None-clause-err t c =
    last_stopped _ c.read_chain.result refl (begins (Part.Chain levels.Disjunction) c.args.cursor.now.point nothing_after
    (expression_chain _ (ap quantifier (sym c.look.ensures) ∙ c.in-None.ensures)) refl refl) c.read_chain.ensures.err

pub read_expression-returns-in-None-clause-ok : goal.read_expression-returns-in-None-clause-ok
read_expression-returns-in-None-clause-ok t c =
    last_read _ c.read_chain.result expression expression (λ _. refl)
    (begins (Part.Chain levels.Disjunction) c.args.cursor.now.point nothing_after
    (expression_chain _ (ap quantifier (sym c.look.ensures) ∙ c.in-None.ensures)) refl refl) c.read_chain.ensures.ok

pub read_quantified-returns-in_err-token-clause-err : goal.read_quantified-returns-in_err-token-clause-err
read_quantified-returns-in_err-token-clause-err t c =
    exit_sure _ c.from_residual.result c.from_residual.ensures.1 refl (fits_same _ _ c.requires.1)
    (last_start (quantified_after c.args.word.kind) (quantified_begun c.args.word.terminal c.args.word.kind
    (word_found c.requires))) c.in_err-token.ensures.err

pub read_quantified-returns-in_err-name-clause-err : goal.read_quantified-returns-in_err-name-clause-err
read_quantified-returns-in_err-name-clause-err t c =
    exit_missed c.from_residual-in_err-name.result c.from_residual-in_err-name.ensures.1 c.in_ok-token.ensures.ending
    (starts (quantified_after c.args.word.kind) (quantified_begun c.args.word.terminal c.args.word.kind (word_found c.requires))
    c.in_ok-token.ensures.ok) c.in_err-name.ensures.err

pub read_quantified-returns-in_err-take-clause-err : goal.read_quantified-returns-in_err-take-clause-err
read_quantified-returns-in_err-take-clause-err t c =
    exit_missed c.from_residual-in_err-take.result c.from_residual-in_err-take.ensures.1
    (c.in_ok-name.ensures.ending ∙ c.in_ok-token.ensures.ending)
    (by_terminal (starts (quantified_after c.args.word.kind)
    (quantified_begun c.args.word.terminal c.args.word.kind (word_found c.requires)) c.in_ok-token.ensures.ok)
    (name_taken c.in_ok-name.ensures.ok)) c.in_err-take.ensures.err

pub read_quantified-returns-in_err-least-clause-err : goal.read_quantified-returns-in_err-least-clause-err
read_quantified-returns-in_err-least-clause-err t c =
    exit_within c.from_residual-in_err-least.result c.from_residual-in_err-least.ensures.1
    (c.in_ok-take.ensures.ending ∙ c.in_ok-name.ensures.ending ∙ c.in_ok-token.ensures.ending)
    (by_terminal (by_terminal (starts (quantified_after c.args.word.kind)
    (quantified_begun c.args.word.terminal c.args.word.kind (word_found c.requires)) c.in_ok-token.ensures.ok)
    (name_taken c.in_ok-name.ensures.ok)) c.in_ok-take.ensures.ok) c.in_err-least.ensures.err

pub read_quantified-returns-in_err-low-clause-err : goal.read_quantified-returns-in_err-low-clause-err
read_quantified-returns-in_err-low-clause-err t c =
    exit_missed c.from_residual-in_err-low.result c.from_residual-in_err-low.ensures.1
    (c.in_ok-least.ensures.ending ∙ c.in_ok-take.ensures.ending ∙ c.in_ok-name.ensures.ending ∙ c.in_ok-token.ensures.ending)
    (by_part (by_terminal (by_terminal (starts (quantified_after c.args.word.kind)
    (quantified_begun c.args.word.terminal c.args.word.kind (word_found c.requires)) c.in_ok-token.ensures.ok)
    (name_taken c.in_ok-name.ensures.ok)) c.in_ok-take.ensures.ok) c.in_ok-least.ensures.ok) c.in_err-low.ensures.err

pub read_quantified-returns-in_err-most-clause-err : goal.read_quantified-returns-in_err-most-clause-err
read_quantified-returns-in_err-most-clause-err t c =
    exit_within c.from_residual-in_err-most.result c.from_residual-in_err-most.ensures.1
    (c.in_ok-low.ensures.ending ∙ c.in_ok-least.ensures.ending ∙ c.in_ok-take.ensures.ending ∙ c.in_ok-name.ensures.ending ∙
    c.in_ok-token.ensures.ending) (by_terminal (by_part (by_terminal
    (by_terminal (starts (quantified_after c.args.word.kind)
    (quantified_begun c.args.word.terminal c.args.word.kind (word_found c.requires)) c.in_ok-token.ensures.ok)
    (name_taken c.in_ok-name.ensures.ok)) c.in_ok-take.ensures.ok) c.in_ok-least.ensures.ok) c.in_ok-low.ensures.taken.1)
    c.in_err-most.ensures.err

pub read_quantified-returns-in_err-high-clause-err : goal.read_quantified-returns-in_err-high-clause-err
read_quantified-returns-in_err-high-clause-err t c =
    exit_missed c.from_residual-in_err-high.result c.from_residual-in_err-high.ensures.1
    (c.in_ok-most.ensures.ending ∙ c.in_ok-low.ensures.ending ∙ c.in_ok-least.ensures.ending ∙ c.in_ok-take.ensures.ending ∙
    c.in_ok-name.ensures.ending ∙ c.in_ok-token.ensures.ending)
    (by_part (by_terminal (by_part (by_terminal (by_terminal
    (starts (quantified_after c.args.word.kind) (quantified_begun c.args.word.terminal c.args.word.kind (word_found c.requires))
    c.in_ok-token.ensures.ok) (name_taken c.in_ok-name.ensures.ok)) c.in_ok-take.ensures.ok) c.in_ok-least.ensures.ok)
    c.in_ok-low.ensures.taken.1) c.in_ok-most.ensures.ok) c.in_err-high.ensures.err

pub read_quantified-returns-in_err-body-clause-err : goal.read_quantified-returns-in_err-body-clause-err
read_quantified-returns-in_err-body-clause-err t c =
    exit_within c.from_residual-in_err-body.result c.from_residual-in_err-body.ensures.1
    (c.in_ok-high.ensures.ending ∙ c.in_ok-most.ensures.ending ∙ c.in_ok-low.ensures.ending ∙ c.in_ok-least.ensures.ending ∙
    c.in_ok-take.ensures.ending ∙ c.in_ok-name.ensures.ending ∙ c.in_ok-token.ensures.ending)
    (by_terminal (by_part (by_terminal (by_part (by_terminal
    (by_terminal (starts (quantified_after c.args.word.kind)
    (quantified_begun c.args.word.terminal c.args.word.kind (word_found c.requires)) c.in_ok-token.ensures.ok)
    (name_taken c.in_ok-name.ensures.ok)) c.in_ok-take.ensures.ok) c.in_ok-least.ensures.ok) c.in_ok-low.ensures.taken.1)
    c.in_ok-most.ensures.ok) c.in_ok-high.ensures.taken.1) c.in_err-body.ensures.err

pub read_quantified-returns-clause-ok : goal.read_quantified-returns-clause-ok
read_quantified-returns-clause-ok t c =
    same_value (sym (expression_quantified c.args.word.kind c.in_ok-token.token.place c.in_ok-name.name c.in_ok-low.low
    c.in_ok-high.high c.in_ok-body.body)) (same_value (λ j. Quantification c.args.word.kind c.in_ok-token.token.place
    (sym (c.in_ok-name.ensures.ok).is j) (expression (sym c.in_ok-low.ensures.same j).value)
    (expression (sym c.in_ok-high.ensures.same j).value) (expression c.in_ok-body.body.value)) (complete (by_part (by_terminal (by_part
    (by_terminal (by_part (by_terminal (by_terminal (starts (quantified_after c.args.word.kind)
    (quantified_begun c.args.word.terminal c.args.word.kind (word_found c.requires)) c.in_ok-token.ensures.ok)
    (name_taken c.in_ok-name.ensures.ok)) c.in_ok-take.ensures.ok) c.in_ok-least.ensures.ok) c.in_ok-low.ensures.taken.1)
    c.in_ok-most.ensures.ok) c.in_ok-high.ensures.taken.1) c.in_ok-body.ensures.ok)))

pub read_boxed-returns-in_err-value-clause-err : goal.read_boxed-returns-in_err-value-clause-err
read_boxed-returns-in_err-value-clause-err t c =
    exit_within c.from_residual.result c.from_residual.ensures.1 refl (unread (Part.Chain c.args.level) c.args.cursor.now.point)
    c.in_err-value.ensures.err

pub read_boxed-returns-clause-err : goal.read_boxed-returns-clause-err
read_boxed-returns-clause-err t c =
    last_unmade _ _ _ c.boxed.result c.boxed.ensures.memory

pub read_boxed-returns-clause-ok : goal.read_boxed-returns-clause-ok
read_boxed-returns-clause-ok t c =
    last_held c.boxed.result (λ held. held.value) expression
    (complete (by_part (unread (Part.Chain c.args.level) c.args.cursor.now.point) c.in_ok-value.ensures.ok)) c.boxed.ensures.ok

pub read_chain-returns-in_err-first-clause-err : goal.read_chain-returns-in_err-first-clause-err
read_chain-returns-in_err-first-clause-err t c =
    exit_within c.from_residual.result c.from_residual.ensures.1 refl
    (begins (Part.Operand c.args.level) c.args.cursor.now.point (chain_after c.args.level) refl refl refl)
    c.in_err-first.ensures.err

pub read_chain-returns-in_err-links-clause-err : goal.read_chain-returns-in_err-links-clause-err
read_chain-returns-in_err-links-clause-err t c =
    exit_within c.from_residual-in_err-links.result c.from_residual-in_err-links.ensures.1 c.in_ok-first.ensures.ending
    (by_part (begins (Part.Operand c.args.level) c.args.cursor.now.point (chain_after c.args.level) refl refl refl)
    c.in_ok-first.ensures.ok) c.in_err-links.ensures.err

pub read_chain-returns-clause-err : goal.read_chain-returns-clause-err
read_chain-returns-clause-err t c =
    last_unmade _ _ _ c.chain.result c.chain.ensures.err

pub read_chain-returns-clause-ok : goal.read_chain-returns-clause-ok
read_chain-returns-clause-ok t c =
    last_made c.chain.result expression (complete (by_part (by_part
    (begins (Part.Operand c.args.level) c.args.cursor.now.point (chain_after c.args.level) refl refl refl)
    c.in_ok-first.ensures.ok) c.in_ok-links.ensures.ok)) c.chain.ensures.ok

pub read_links-links-init : goal.read_links-links-init
read_links-links-init t c =
    record {
      reached = links_init c.args.level c.new-links.result.items c.args.cursor.now.point c.new-links.ensures.items;
      ending = refl;
      shorter = omega arith;
    }

pub read_links-returns-in_err-take-clause-err : goal.read_links-returns-in_err-take-clause-err
read_links-returns-in_err-take-clause-err t c =
    exit_sure _ c.from_residual.result c.from_residual.ensures.1 c.links.invariant.ending
    (operator_fits c.args.level c.in-Some.ensures c.look.ensures)
    (λ l. exhausts_within c.links.invariant.reached (exhausts (link_begun c.args.level c.in-Some.ensures l.takes) l.ended))
    c.in_err-take.ensures.err

pub read_links-returns-in_err-right-clause-err : goal.read_links-returns-in_err-right-clause-err
read_links-returns-in_err-right-clause-err t c =
    exit_within c.from_residual-in_err-right.result c.from_residual-in_err-right.ensures.1
    (c.in_ok-take.ensures.ending ∙ c.links.invariant.ending)
    (within c.links.invariant.reached (link_begun c.args.level c.in-Some.ensures c.in_ok-take.ensures.ok))
    c.in_err-right.ensures.err

pub read_links-links-preserved : goal.read_links-links-preserved
read_links-links-preserved t c =
    record {
      reached = links_step c.args.level c.links.links.items c.append.new.list.items
          (record { op = c.in-Some.field-0.op; right = c.in_ok-right.right }) c.in_ok-append.ensures.items c.links.invariant.reached
          (by_part (link_begun c.args.level c.in-Some.ensures c.in_ok-take.ensures.ok) c.in_ok-right.ensures.ok);
      ending = c.in_ok-right.ensures.ending ∙ c.in_ok-take.ensures.ending ∙ c.links.invariant.ending;
      shorter = omega (arith, c.in_ok-take.ensures.shorter, c.in_ok-right.ensures.shorter, c.links.invariant.shorter);
    }

pub read_links-returns-in_err-append-clause-err : goal.read_links-returns-in_err-append-clause-err
read_links-returns-in_err-append-clause-err t c =
    exit_memory _ _ _ c.from_residual-in_err-append.result _ c.from_residual-in_err-append.ensures.1 c.in_err-append.ensures.memory

pub read_links-returns-clause-ok : goal.read_links-returns-clause-ok
read_links-returns-clause-ok t c =
    links_end c.args.level c.links.links.items c.links.invariant.reached
    (ap (λ first. start_link c.args.level (operator first c.args.level)) (sym c.look.ensures) ∙ ap (start_link c.args.level)
    c.in_default.ensures)

pub read_operand-returns-in-Disjunction-clause-err : goal.read_operand-returns-in-Disjunction-clause-err
read_operand-returns-in-Disjunction-clause-err t c =
    subst (λ level. IfErr c.read_chain.result (Stopped (Stops (Part.Operand level) c.args.cursor.now.point
    c.read_chain.new.cursor.point) (Exhausts (Part.Operand level) c.args.cursor.now.point) c.args.cursor.now.ending))
    (sym c.in-Disjunction.is) (last_stopped _ c.read_chain.result refl (begins (Part.Chain levels.Conjunction) c.args.cursor.now.point nothing_after refl refl refl) c.read_chain.ensures.err)

pub read_operand-returns-in-Disjunction-clause-ok : goal.read_operand-returns-in-Disjunction-clause-ok
read_operand-returns-in-Disjunction-clause-ok t c =
    subst (λ level. IfOk c.read_chain.result (λ value. Reads (Part.Operand level) (expression value) c.args.cursor.now.point
    c.read_chain.new.cursor.point)) (sym c.in-Disjunction.is) (last_read _ c.read_chain.result expression
    expression (λ _. refl) (begins (Part.Chain levels.Conjunction) c.args.cursor.now.point nothing_after refl refl refl) c.read_chain.ensures.ok)

pub read_operand-returns-in-Conjunction-clause-err : goal.read_operand-returns-in-Conjunction-clause-err
read_operand-returns-in-Conjunction-clause-err t c =
    subst (λ level. IfErr c.read_negation.result (Stopped (Stops (Part.Operand level) c.args.cursor.now.point
    c.read_negation.new.cursor.point) (Exhausts (Part.Operand level) c.args.cursor.now.point) c.args.cursor.now.ending))
    (sym c.in-Conjunction.is) (last_stopped _ c.read_negation.result refl (begins Part.Negation c.args.cursor.now.point nothing_after refl refl refl) c.read_negation.ensures.err)

pub read_operand-returns-in-Conjunction-clause-ok : goal.read_operand-returns-in-Conjunction-clause-ok
read_operand-returns-in-Conjunction-clause-ok t c =
    subst (λ level. IfOk c.read_negation.result (λ value. Reads (Part.Operand level) (expression value) c.args.cursor.now.point
    c.read_negation.new.cursor.point)) (sym c.in-Conjunction.is) (last_read _ c.read_negation.result expression
    expression (λ _. refl) (begins Part.Negation c.args.cursor.now.point nothing_after refl refl refl) c.read_negation.ensures.ok)

pub read_operand-returns-in-Sum-clause-err : goal.read_operand-returns-in-Sum-clause-err
read_operand-returns-in-Sum-clause-err t c =
    subst (λ level. IfErr c.read_chain-in-Sum.result (Stopped (Stops (Part.Operand level) c.args.cursor.now.point
    c.read_chain-in-Sum.new.cursor.point) (Exhausts (Part.Operand level) c.args.cursor.now.point) c.args.cursor.now.ending))
    (sym c.in-Sum.is) (last_stopped _ c.read_chain-in-Sum.result refl (begins (Part.Chain levels.Product) c.args.cursor.now.point nothing_after refl refl refl) c.read_chain-in-Sum.ensures.err)

pub read_operand-returns-in-Sum-clause-ok : goal.read_operand-returns-in-Sum-clause-ok
read_operand-returns-in-Sum-clause-ok t c =
    subst (λ level. IfOk c.read_chain-in-Sum.result (λ value. Reads (Part.Operand level) (expression value) c.args.cursor.now.point
    c.read_chain-in-Sum.new.cursor.point)) (sym c.in-Sum.is) (last_read _ c.read_chain-in-Sum.result expression
    expression (λ _. refl) (begins (Part.Chain levels.Product) c.args.cursor.now.point nothing_after refl refl refl) c.read_chain-in-Sum.ensures.ok)

pub read_operand-returns-in-Product-clause-err : goal.read_operand-returns-in-Product-clause-err
read_operand-returns-in-Product-clause-err t c =
    subst (λ level. IfErr c.read_factor.result (Stopped (Stops (Part.Operand level) c.args.cursor.now.point
    c.read_factor.new.cursor.point) (Exhausts (Part.Operand level) c.args.cursor.now.point) c.args.cursor.now.ending))
    (sym c.in-Product.is) (last_stopped _ c.read_factor.result refl (begins Part.Factor c.args.cursor.now.point nothing_after refl refl refl) c.read_factor.ensures.err)

pub read_operand-returns-in-Product-clause-ok : goal.read_operand-returns-in-Product-clause-ok
read_operand-returns-in-Product-clause-ok t c =
    subst (λ level. IfOk c.read_factor.result (λ value. Reads (Part.Operand level) (expression value) c.args.cursor.now.point
    c.read_factor.new.cursor.point)) (sym c.in-Product.is) (last_read _ c.read_factor.result expression
    expression (λ _. refl) (begins Part.Factor c.args.cursor.now.point nothing_after refl refl refl) c.read_factor.ensures.ok)

pub read_negation-returns-in_err-take-clause-err : goal.read_negation-returns-in_err-take-clause-err
read_negation-returns-in_err-take-clause-err t c =
    exit_sure _ c.from_residual.result c.from_residual.ensures.1 refl (sym c.if-stands_at.ensures) (last_start _ refl) c.in_err-take.ensures.err

pub read_negation-returns-in_err-operand-clause-err : goal.read_negation-returns-in_err-operand-clause-err
read_negation-returns-in_err-operand-clause-err t c =
    exit_within c.from_residual-in_err-operand.result c.from_residual-in_err-operand.ensures.1 c.in_ok-take.ensures.ending
    (starts _ refl c.in_ok-take.ensures.ok) c.in_err-operand.ensures.err

pub read_negation-returns-in_err-held-clause-err : goal.read_negation-returns-in_err-held-clause-err
read_negation-returns-in_err-held-clause-err t c =
    exit_memory _ _ _ c.from_residual-in_err-held.result _ c.from_residual-in_err-held.ensures.1 c.in_err-held.ensures.memory

pub read_negation-returns-in_ok-held-clause-ok : goal.read_negation-returns-in_ok-held-clause-ok
read_negation-returns-in_ok-held-clause-ok t c =
    same_value (ap (λ e. Negation (expression e)) (sym c.in_ok-held.ensures.ok) ∙ sym (expression_not c.in_ok-held.held))
    (complete (by_part (starts _ refl c.in_ok-take.ensures.ok) c.in_ok-operand.ensures.ok))

pub read_negation-returns-else-stands_at-clause-err : goal.read_negation-returns-else-stands_at-clause-err
read_negation-returns-else-stands_at-clause-err t c =
    last_stopped _ c.read_comparison-else-stands_at.result refl
    (begins Part.Comparison c.args.cursor.now.point nothing_after (negation_comparison _ (sym c.if-stands_at.ensures)) refl refl) c.read_comparison-else-stands_at.ensures.err

pub read_negation-returns-else-stands_at-clause-ok : goal.read_negation-returns-else-stands_at-clause-ok
read_negation-returns-else-stands_at-clause-ok t c =
    last_read _ c.read_comparison-else-stands_at.result expression expression (λ _. refl)
    (begins Part.Comparison c.args.cursor.now.point nothing_after (negation_comparison _ (sym c.if-stands_at.ensures)) refl refl) c.read_comparison-else-stands_at.ensures.ok

pub read_comparison-returns-in_err-left-clause-err : goal.read_comparison-returns-in_err-left-clause-err
read_comparison-returns-in_err-left-clause-err t c =
    exit_within c.from_residual.result c.from_residual.ensures.1 refl
    (begins (Part.Chain levels.Sum) c.args.cursor.now.point compared_after refl refl refl) c.in_err-left.ensures.err

pub read_comparison-returns-in_err-links-clause-err : goal.read_comparison-returns-in_err-links-clause-err
read_comparison-returns-in_err-links-clause-err t c =
    exit_within c.from_residual-in_err-links.result c.from_residual-in_err-links.ensures.1 c.in_ok-left.ensures.ending
    (by_part (begins (Part.Chain levels.Sum) c.args.cursor.now.point compared_after refl refl refl) c.in_ok-left.ensures.ok)
    c.in_err-links.ensures.err

pub read_comparison-returns-clause-err : goal.read_comparison-returns-clause-err
read_comparison-returns-clause-err t c =
    last_unmade _ _ _ c.chain.result c.chain.ensures.err

pub read_comparison-returns-clause-ok : goal.read_comparison-returns-clause-ok
read_comparison-returns-clause-ok t c =
    last_made c.chain.result expression (complete (by_part (by_part
    (begins (Part.Chain levels.Sum) c.args.cursor.now.point compared_after refl refl refl) c.in_ok-left.ensures.ok)
    c.in_ok-links.ensures.ok)) c.chain.ensures.ok

pub read_compared-returns-in-None-clause-ok : goal.read_compared-returns-in-None-clause-ok
read_compared-returns-in-None-clause-ok t c =
    same_value (ap links_of (sym c.new.ensures.items)) (passes NoLink _
    (ap start_compared (ap comparison (sym c.look.ensures) ∙ c.in-None.ensures)) refl)

pub read_right-returns-in_err-take-clause-err : goal.read_right-returns-in_err-take-clause-err
read_right-returns-in_err-take-clause-err t c =
    exit_sure _ c.from_residual.result c.from_residual.ensures.1 refl (fits_same _ _ c.requires.1)
    (last_start _ (compared_found c.requires)) c.in_err-take.ensures.err

pub read_right-returns-in_err-right-clause-err : goal.read_right-returns-in_err-right-clause-err
read_right-returns-in_err-right-clause-err t c =
    exit_within c.from_residual-in_err-right.result c.from_residual-in_err-right.ensures.1 c.in_ok-take.ensures.ending
    (starts _ (compared_found c.requires) c.in_ok-take.ensures.ok) c.in_err-right.ensures.err

pub read_right-returns-in_err-append-clause-err : goal.read_right-returns-in_err-append-clause-err
read_right-returns-in_err-append-clause-err t c =
    exit_memory _ _ _ c.from_residual-in_err-append.result _ c.from_residual-in_err-append.ensures.1 c.in_err-append.ensures.memory

pub read_right-returns-clause-ok : goal.read_right-returns-clause-ok
read_right-returns-clause-ok t c =
    same_value (ap links_of (sym (c.in_ok-append.ensures.items ∙ ap
    (λ held. held ++ (record { op = c.args.operator.op; right = c.in_ok-right.right } ∷ [])) c.new-links.ensures.items)))
    (complete (by_part (starts _ (compared_found c.requires) c.in_ok-take.ensures.ok) c.in_ok-right.ensures.ok))

pub read_factor-returns-in_err-take-clause-err : goal.read_factor-returns-in_err-take-clause-err
read_factor-returns-in_err-take-clause-err t c =
    exit_sure _ c.from_residual.result c.from_residual.ensures.1 refl (sym c.if-stands_at.ensures) (last_start _ refl) c.in_err-take.ensures.err

pub read_factor-returns-in_err-operand-clause-err : goal.read_factor-returns-in_err-operand-clause-err
read_factor-returns-in_err-operand-clause-err t c =
    exit_within c.from_residual-in_err-operand.result c.from_residual-in_err-operand.ensures.1 c.in_ok-take.ensures.ending
    (starts _ refl c.in_ok-take.ensures.ok) c.in_err-operand.ensures.err

pub read_factor-returns-in_err-held-clause-err : goal.read_factor-returns-in_err-held-clause-err
read_factor-returns-in_err-held-clause-err t c =
    exit_memory _ _ _ c.from_residual-in_err-held.result _ c.from_residual-in_err-held.ensures.1 c.in_err-held.ensures.memory

pub read_factor-returns-in_ok-held-clause-ok : goal.read_factor-returns-in_ok-held-clause-ok
read_factor-returns-in_ok-held-clause-ok t c =
    same_value (ap (λ e. Minus (expression e)) (sym c.in_ok-held.ensures.ok) ∙ sym (expression_neg c.in_ok-held.held))
    (complete (by_part (starts _ refl c.in_ok-take.ensures.ok) c.in_ok-operand.ensures.ok))

pub read_factor-returns-else-stands_at-clause-err : goal.read_factor-returns-else-stands_at-clause-err
read_factor-returns-else-stands_at-clause-err t c =
    last_stopped _ c.read_atom-else-stands_at.result refl
    (begins Part.Atom c.args.cursor.now.point nothing_after (factor_atom _ (sym c.if-stands_at.ensures)) refl refl) c.read_atom-else-stands_at.ensures.err

pub read_factor-returns-else-stands_at-clause-ok : goal.read_factor-returns-else-stands_at-clause-ok
read_factor-returns-else-stands_at-clause-ok t c =
    last_read _ c.read_atom-else-stands_at.result expression expression (λ _. refl)
    (begins Part.Atom c.args.cursor.now.point nothing_after (factor_atom _ (sym c.if-stands_at.ensures)) refl refl) c.read_atom-else-stands_at.ensures.ok

pub read_atom-returns-in_err-target-clause-err : goal.read_atom-returns-in_err-target-clause-err
read_atom-returns-in_err-target-clause-err t c =
    exit_within c.from_residual.result c.from_residual.ensures.1 refl
    (begins Part.Place c.args.cursor.now.point variable_after (atom_place _ (some_place _ (sym c.if-stands_at.ensures))) refl
    refl) c.in_err-target.ensures.err

pub read_atom-returns-in_ok-target-clause-ok : goal.read_atom-returns-in_ok-target-clause-ok
read_atom-returns-in_ok-target-clause-ok t c =
    same_value (sym (expression_value c.in_ok-target.target))
    (complete (by_part (begins Part.Place c.args.cursor.now.point variable_after
    (atom_place _ (some_place _ (sym c.if-stands_at.ensures))) refl refl) c.in_ok-target.ensures.ok))

pub read_prior-returns-in_err-token-clause-err : goal.read_prior-returns-in_err-token-clause-err
read_prior-returns-in_err-token-clause-err t c =
    exit_sure _ c.from_residual.result c.from_residual.ensures.1 refl c.requires (last_start _ refl) c.in_err-token.ensures.err

pub read_prior-returns-in_err-target-clause-err : goal.read_prior-returns-in_err-target-clause-err
read_prior-returns-in_err-target-clause-err t c =
    exit_within c.from_residual-in_err-target.result c.from_residual-in_err-target.ensures.1 c.in_ok-token.ensures.ending
    (starts _ refl c.in_ok-token.ensures.ok) c.in_err-target.ensures.err

pub read_prior-returns-clause-ok : goal.read_prior-returns-clause-ok
read_prior-returns-clause-ok t c =
    same_value (sym (expression_prior c.in_ok-token.token.place c.in_ok-target.target))
    (complete (by_part (starts _ refl c.in_ok-token.ensures.ok) c.in_ok-target.ensures.ok))

pub read_brackets-returns-in_err-take-clause-err : goal.read_brackets-returns-in_err-take-clause-err
read_brackets-returns-in_err-take-clause-err t c =
    exit_sure _ c.from_residual.result c.from_residual.ensures.1 refl c.requires (last_start _ refl) c.in_err-take.ensures.err

pub read_brackets-returns-in_err-value-clause-err : goal.read_brackets-returns-in_err-value-clause-err
read_brackets-returns-in_err-value-clause-err t c =
    exit_within c.from_residual-in_err-value.result c.from_residual-in_err-value.ensures.1 c.in_ok-take.ensures.ending
    (starts _ refl c.in_ok-take.ensures.ok) c.in_err-value.ensures.err

pub read_brackets-returns-clause-err : goal.read_brackets-returns-clause-err
read_brackets-returns-clause-err t c =
    last_missed _ _ c.closed.result (c.in_ok-value.ensures.ending ∙ c.in_ok-take.ensures.ending)
    (by_part (starts _ refl c.in_ok-take.ensures.ok) c.in_ok-value.ensures.ok) c.closed.ensures.err

pub read_brackets-returns-clause-ok : goal.read_brackets-returns-clause-ok
read_brackets-returns-clause-ok t c =
    last_closed _ c.closed.result expression _
    (λ token taken. complete (by_terminal (by_part (starts _ refl c.in_ok-take.ensures.ok) c.in_ok-value.ensures.ok) taken))
    c.closed.ensures.same c.closed.ensures.taken

pub read_place-returns-in_err-name-clause-err : goal.read_place-returns-in_err-name-clause-err
read_place-returns-in_err-name-clause-err t c =
    exit_first Part.Place _ refl (no_place _) refl c.from_residual.result c.from_residual.ensures.1 refl c.in_err-name.ensures.err

pub read_place-returns-in_err-index-clause-err : goal.read_place-returns-in_err-index-clause-err
read_place-returns-in_err-index-clause-err t c =
    exit_within c.from_residual-in_err-index.result c.from_residual-in_err-index.ensures.1 c.in_ok-name.ensures.ending
    (starts _ refl (name_taken c.in_ok-name.ensures.ok)) c.in_err-index.ensures.err

pub read_place-returns-clause-ok : goal.read_place-returns-clause-ok
read_place-returns-clause-ok t c =
    same_value (ap (λ name. Refer name (subscript c.in_ok-index.index)) (sym (c.in_ok-name.ensures.ok).is))
    (complete (by_part (starts _ refl (name_taken c.in_ok-name.ensures.ok)) c.in_ok-index.ensures.ok))

pub read_subscript-returns-in_err-take-clause-err : goal.read_subscript-returns-in_err-take-clause-err
read_subscript-returns-in_err-take-clause-err t c =
    exit_sure _ c.from_residual.result c.from_residual.ensures.1 refl (sym c.if-stands_at.ensures) (last_start _ refl) c.in_err-take.ensures.err

pub read_subscript-returns-in_err-value-clause-err : goal.read_subscript-returns-in_err-value-clause-err
read_subscript-returns-in_err-value-clause-err t c =
    exit_within c.from_residual-in_err-value.result c.from_residual-in_err-value.ensures.1 c.in_ok-take.ensures.ending
    (starts _ refl c.in_ok-take.ensures.ok) c.in_err-value.ensures.err

pub read_subscript-returns-in_err-index-clause-err : goal.read_subscript-returns-in_err-index-clause-err
read_subscript-returns-in_err-index-clause-err t c =
    exit_missed c.from_residual-in_err-index.result c.from_residual-in_err-index.ensures.1
    (c.in_ok-value.ensures.ending ∙ c.in_ok-take.ensures.ending)
    (by_part (starts _ refl c.in_ok-take.ensures.ok) c.in_ok-value.ensures.ok) c.in_err-index.ensures.err

pub read_subscript-returns-in_err-held-clause-err : goal.read_subscript-returns-in_err-held-clause-err
read_subscript-returns-in_err-held-clause-err t c =
    exit_memory _ _ _ c.from_residual-in_err-held.result _ c.from_residual-in_err-held.ensures.1 c.in_err-held.ensures.memory

pub read_subscript-returns-in_ok-held-clause-ok : goal.read_subscript-returns-in_ok-held-clause-ok
read_subscript-returns-in_ok-held-clause-ok t c =
    same_value (ap (λ e. Element (expression e)) (sym (c.in_ok-held.ensures.ok ∙ c.in_ok-index.ensures.same)))
    (complete (by_terminal (by_part (starts _ refl c.in_ok-take.ensures.ok) c.in_ok-value.ensures.ok) c.in_ok-index.ensures.taken.1))

pub read_subscript-returns-else-stands_at-clause-ok : goal.read_subscript-returns-else-stands_at-clause-ok
read_subscript-returns-else-stands_at-clause-ok t c =
    passes Scalar _ (no_subscript _ (sym c.if-stands_at.ensures)) refl

pub read_quantified-returns-in_err-token-clause-ending : goal.read_quantified-returns-in_err-token-clause-ending
read_quantified-returns-in_err-token-clause-ending t c = c.in_err-token.ensures.ending

pub read_quantified-returns-in_err-name-clause-ending : goal.read_quantified-returns-in_err-name-clause-ending
read_quantified-returns-in_err-name-clause-ending t c = c.in_err-name.ensures.ending ∙ c.in_ok-token.ensures.ending

pub read_quantified-returns-in_err-take-clause-ending : goal.read_quantified-returns-in_err-take-clause-ending
read_quantified-returns-in_err-take-clause-ending t c =
    c.in_err-take.ensures.ending ∙ c.in_ok-name.ensures.ending ∙ c.in_ok-token.ensures.ending

pub read_quantified-returns-in_err-least-clause-ending : goal.read_quantified-returns-in_err-least-clause-ending
read_quantified-returns-in_err-least-clause-ending t c =
    c.in_err-least.ensures.ending ∙ c.in_ok-take.ensures.ending ∙ c.in_ok-name.ensures.ending ∙ c.in_ok-token.ensures.ending

pub read_quantified-returns-in_err-low-clause-ending : goal.read_quantified-returns-in_err-low-clause-ending
read_quantified-returns-in_err-low-clause-ending t c =
    c.in_err-low.ensures.ending ∙ c.in_ok-least.ensures.ending ∙ c.in_ok-take.ensures.ending ∙ c.in_ok-name.ensures.ending ∙ c.in_ok-token.ensures.ending

pub read_quantified-returns-in_err-most-clause-ending : goal.read_quantified-returns-in_err-most-clause-ending
read_quantified-returns-in_err-most-clause-ending t c =
    c.in_err-most.ensures.ending ∙ c.in_ok-low.ensures.ending ∙ c.in_ok-least.ensures.ending ∙ c.in_ok-take.ensures.ending ∙ c.in_ok-name.ensures.ending ∙ c.in_ok-token.ensures.ending

pub read_quantified-returns-in_err-high-clause-ending : goal.read_quantified-returns-in_err-high-clause-ending
read_quantified-returns-in_err-high-clause-ending t c =
    c.in_err-high.ensures.ending ∙ c.in_ok-most.ensures.ending ∙ c.in_ok-low.ensures.ending ∙ c.in_ok-least.ensures.ending ∙ c.in_ok-take.ensures.ending ∙ c.in_ok-name.ensures.ending ∙ c.in_ok-token.ensures.ending

pub read_quantified-returns-in_err-body-clause-ending : goal.read_quantified-returns-in_err-body-clause-ending
read_quantified-returns-in_err-body-clause-ending t c =
    c.in_err-body.ensures.ending ∙ c.in_ok-high.ensures.ending ∙ c.in_ok-most.ensures.ending ∙ c.in_ok-low.ensures.ending ∙ c.in_ok-least.ensures.ending ∙ c.in_ok-take.ensures.ending ∙ c.in_ok-name.ensures.ending ∙ c.in_ok-token.ensures.ending

pub read_quantified-returns-clause-ending : goal.read_quantified-returns-clause-ending
read_quantified-returns-clause-ending t c =
    c.in_ok-body.ensures.ending ∙ c.in_ok-high.ensures.ending ∙ c.in_ok-most.ensures.ending ∙ c.in_ok-low.ensures.ending ∙ c.in_ok-least.ensures.ending ∙ c.in_ok-take.ensures.ending ∙ c.in_ok-name.ensures.ending ∙ c.in_ok-token.ensures.ending

pub read_quantified-returns-clause-shorter : goal.read_quantified-returns-clause-shorter
read_quantified-returns-clause-shorter t c =
    and_fewer c.in_ok-body.ensures.shorter (and_fewer c.in_ok-high.ensures.shorter (and_fewer c.in_ok-most.ensures.shorter (and_fewer c.in_ok-low.ensures.shorter (and_fewer c.in_ok-least.ensures.shorter (and_fewer c.in_ok-take.ensures.shorter (and_fewer c.in_ok-name.ensures.shorter c.in_ok-token.ensures.shorter))))))

pub read_boxed-returns-in_err-value-clause-ending : goal.read_boxed-returns-in_err-value-clause-ending
read_boxed-returns-in_err-value-clause-ending t c = c.in_err-value.ensures.ending

pub read_boxed-returns-clause-ending : goal.read_boxed-returns-clause-ending
read_boxed-returns-clause-ending t c = c.in_ok-value.ensures.ending

pub read_boxed-returns-clause-shorter : goal.read_boxed-returns-clause-shorter
read_boxed-returns-clause-shorter t c = call_takes_none c.boxed.result c.in_ok-value.ensures.shorter

pub read_chain-returns-in_err-first-clause-ending : goal.read_chain-returns-in_err-first-clause-ending
read_chain-returns-in_err-first-clause-ending t c = c.in_err-first.ensures.ending

pub read_chain-returns-in_err-links-clause-ending : goal.read_chain-returns-in_err-links-clause-ending
read_chain-returns-in_err-links-clause-ending t c = c.in_err-links.ensures.ending ∙ c.in_ok-first.ensures.ending

pub read_chain-returns-clause-ending : goal.read_chain-returns-clause-ending
read_chain-returns-clause-ending t c = c.in_ok-links.ensures.ending ∙ c.in_ok-first.ensures.ending

pub read_chain-returns-clause-shorter : goal.read_chain-returns-clause-shorter
read_chain-returns-clause-shorter t c =
    call_takes_none c.chain.result (no_more c.in_ok-links.ensures.shorter c.in_ok-first.ensures.shorter)

pub read_links-returns-in_err-take-clause-ending : goal.read_links-returns-in_err-take-clause-ending
read_links-returns-in_err-take-clause-ending t c = c.in_err-take.ensures.ending ∙ c.links.invariant.ending

pub read_links-returns-in_err-right-clause-ending : goal.read_links-returns-in_err-right-clause-ending
read_links-returns-in_err-right-clause-ending t c =
    c.in_err-right.ensures.ending ∙ c.in_ok-take.ensures.ending ∙ c.links.invariant.ending

pub read_links-returns-in_err-append-clause-ending : goal.read_links-returns-in_err-append-clause-ending
read_links-returns-in_err-append-clause-ending t c =
    c.in_ok-right.ensures.ending ∙ c.in_ok-take.ensures.ending ∙ c.links.invariant.ending

pub read_links-links-smaller : goal.read_links-links-smaller
read_links-links-smaller t c = and_fewer c.in_ok-right.ensures.shorter c.in_ok-take.ensures.shorter

pub read_negation-returns-in_err-take-clause-ending : goal.read_negation-returns-in_err-take-clause-ending
read_negation-returns-in_err-take-clause-ending t c = c.in_err-take.ensures.ending

pub read_negation-returns-in_err-operand-clause-ending : goal.read_negation-returns-in_err-operand-clause-ending
read_negation-returns-in_err-operand-clause-ending t c =
    c.in_err-operand.ensures.ending ∙ c.in_ok-take.ensures.ending

pub read_negation-returns-in_err-held-clause-ending : goal.read_negation-returns-in_err-held-clause-ending
read_negation-returns-in_err-held-clause-ending t c = c.in_ok-operand.ensures.ending ∙ c.in_ok-take.ensures.ending

pub read_negation-returns-in_ok-held-clause-ending : goal.read_negation-returns-in_ok-held-clause-ending
read_negation-returns-in_ok-held-clause-ending t c = c.in_ok-operand.ensures.ending ∙ c.in_ok-take.ensures.ending

pub read_negation-returns-in_ok-held-clause-shorter : goal.read_negation-returns-in_ok-held-clause-shorter
read_negation-returns-in_ok-held-clause-shorter t c =
    and_fewer c.in_ok-operand.ensures.shorter c.in_ok-take.ensures.shorter

pub read_comparison-returns-in_err-left-clause-ending : goal.read_comparison-returns-in_err-left-clause-ending
read_comparison-returns-in_err-left-clause-ending t c = c.in_err-left.ensures.ending

pub read_comparison-returns-in_err-links-clause-ending : goal.read_comparison-returns-in_err-links-clause-ending
read_comparison-returns-in_err-links-clause-ending t c = c.in_err-links.ensures.ending ∙ c.in_ok-left.ensures.ending

pub read_comparison-returns-clause-ending : goal.read_comparison-returns-clause-ending
read_comparison-returns-clause-ending t c = c.in_ok-links.ensures.ending ∙ c.in_ok-left.ensures.ending

pub read_comparison-returns-clause-shorter : goal.read_comparison-returns-clause-shorter
read_comparison-returns-clause-shorter t c =
    call_takes_none c.chain.result (no_more c.in_ok-links.ensures.shorter c.in_ok-left.ensures.shorter)

pub read_right-returns-in_err-take-clause-ending : goal.read_right-returns-in_err-take-clause-ending
read_right-returns-in_err-take-clause-ending t c = c.in_err-take.ensures.ending

pub read_right-returns-in_err-right-clause-ending : goal.read_right-returns-in_err-right-clause-ending
read_right-returns-in_err-right-clause-ending t c = c.in_err-right.ensures.ending ∙ c.in_ok-take.ensures.ending

pub read_right-returns-in_err-append-clause-ending : goal.read_right-returns-in_err-append-clause-ending
read_right-returns-in_err-append-clause-ending t c = c.in_ok-right.ensures.ending ∙ c.in_ok-take.ensures.ending

pub read_right-returns-clause-ending : goal.read_right-returns-clause-ending
read_right-returns-clause-ending t c = c.in_ok-right.ensures.ending ∙ c.in_ok-take.ensures.ending

pub read_right-returns-clause-shorter : goal.read_right-returns-clause-shorter
read_right-returns-clause-shorter t c = and_fewer c.in_ok-right.ensures.shorter c.in_ok-take.ensures.shorter

pub read_factor-returns-in_err-take-clause-ending : goal.read_factor-returns-in_err-take-clause-ending
read_factor-returns-in_err-take-clause-ending t c = c.in_err-take.ensures.ending

pub read_factor-returns-in_err-operand-clause-ending : goal.read_factor-returns-in_err-operand-clause-ending
read_factor-returns-in_err-operand-clause-ending t c = c.in_err-operand.ensures.ending ∙ c.in_ok-take.ensures.ending

pub read_factor-returns-in_err-held-clause-ending : goal.read_factor-returns-in_err-held-clause-ending
read_factor-returns-in_err-held-clause-ending t c = c.in_ok-operand.ensures.ending ∙ c.in_ok-take.ensures.ending

pub read_factor-returns-in_ok-held-clause-ending : goal.read_factor-returns-in_ok-held-clause-ending
read_factor-returns-in_ok-held-clause-ending t c = c.in_ok-operand.ensures.ending ∙ c.in_ok-take.ensures.ending

pub read_factor-returns-in_ok-held-clause-shorter : goal.read_factor-returns-in_ok-held-clause-shorter
read_factor-returns-in_ok-held-clause-shorter t c =
    and_fewer c.in_ok-operand.ensures.shorter c.in_ok-take.ensures.shorter

pub read_atom-returns-in_err-target-clause-ending : goal.read_atom-returns-in_err-target-clause-ending
read_atom-returns-in_err-target-clause-ending t c = c.in_err-target.ensures.ending

pub read_atom-returns-in_ok-target-clause-ending : goal.read_atom-returns-in_ok-target-clause-ending
read_atom-returns-in_ok-target-clause-ending t c = c.in_ok-target.ensures.ending

pub read_atom-returns-in_ok-target-clause-shorter : goal.read_atom-returns-in_ok-target-clause-shorter
read_atom-returns-in_ok-target-clause-shorter t c = c.in_ok-target.ensures.shorter

pub read_prior-returns-in_err-token-clause-ending : goal.read_prior-returns-in_err-token-clause-ending
read_prior-returns-in_err-token-clause-ending t c = c.in_err-token.ensures.ending

pub read_prior-returns-in_err-target-clause-ending : goal.read_prior-returns-in_err-target-clause-ending
read_prior-returns-in_err-target-clause-ending t c = c.in_err-target.ensures.ending ∙ c.in_ok-token.ensures.ending

pub read_prior-returns-clause-ending : goal.read_prior-returns-clause-ending
read_prior-returns-clause-ending t c = c.in_ok-target.ensures.ending ∙ c.in_ok-token.ensures.ending

pub read_prior-returns-clause-shorter : goal.read_prior-returns-clause-shorter
read_prior-returns-clause-shorter t c = and_fewer c.in_ok-target.ensures.shorter c.in_ok-token.ensures.shorter

pub read_brackets-returns-in_err-take-clause-ending : goal.read_brackets-returns-in_err-take-clause-ending
read_brackets-returns-in_err-take-clause-ending t c = c.in_err-take.ensures.ending

pub read_brackets-returns-in_err-value-clause-ending : goal.read_brackets-returns-in_err-value-clause-ending
read_brackets-returns-in_err-value-clause-ending t c = c.in_err-value.ensures.ending ∙ c.in_ok-take.ensures.ending

pub read_brackets-returns-clause-ending : goal.read_brackets-returns-clause-ending
read_brackets-returns-clause-ending t c =
    c.closed.ensures.ending ∙ c.in_ok-value.ensures.ending ∙ c.in_ok-take.ensures.ending

pub read_brackets-returns-clause-shorter : goal.read_brackets-returns-clause-shorter
read_brackets-returns-clause-shorter t c =
    call_fewer _ _ c.closed.result c.closed.ensures.shorter (and_fewer c.in_ok-value.ensures.shorter c.in_ok-take.ensures.shorter)

pub read_place-returns-in_err-name-clause-ending : goal.read_place-returns-in_err-name-clause-ending
read_place-returns-in_err-name-clause-ending t c = c.in_err-name.ensures.ending

pub read_place-returns-in_err-index-clause-ending : goal.read_place-returns-in_err-index-clause-ending
read_place-returns-in_err-index-clause-ending t c = c.in_err-index.ensures.ending ∙ c.in_ok-name.ensures.ending

pub read_place-returns-clause-ending : goal.read_place-returns-clause-ending
read_place-returns-clause-ending t c = c.in_ok-index.ensures.ending ∙ c.in_ok-name.ensures.ending

pub read_place-returns-clause-shorter : goal.read_place-returns-clause-shorter
read_place-returns-clause-shorter t c = no_more c.in_ok-index.ensures.shorter c.in_ok-name.ensures.shorter

pub read_subscript-returns-in_err-take-clause-ending : goal.read_subscript-returns-in_err-take-clause-ending
read_subscript-returns-in_err-take-clause-ending t c = c.in_err-take.ensures.ending

pub read_subscript-returns-in_err-value-clause-ending : goal.read_subscript-returns-in_err-value-clause-ending
read_subscript-returns-in_err-value-clause-ending t c = c.in_err-value.ensures.ending ∙ c.in_ok-take.ensures.ending

pub read_subscript-returns-in_err-index-clause-ending : goal.read_subscript-returns-in_err-index-clause-ending
read_subscript-returns-in_err-index-clause-ending t c =
    c.in_err-index.ensures.ending ∙ c.in_ok-value.ensures.ending ∙ c.in_ok-take.ensures.ending

pub read_subscript-returns-in_err-held-clause-ending : goal.read_subscript-returns-in_err-held-clause-ending
read_subscript-returns-in_err-held-clause-ending t c =
    c.in_ok-index.ensures.ending ∙ c.in_ok-value.ensures.ending ∙ c.in_ok-take.ensures.ending

pub read_subscript-returns-in_ok-held-clause-ending : goal.read_subscript-returns-in_ok-held-clause-ending
read_subscript-returns-in_ok-held-clause-ending t c =
    c.in_ok-index.ensures.ending ∙ c.in_ok-value.ensures.ending ∙ c.in_ok-take.ensures.ending

pub read_subscript-returns-in_ok-held-clause-shorter : goal.read_subscript-returns-in_ok-held-clause-shorter
read_subscript-returns-in_ok-held-clause-shorter t c =
    at_most (and_fewer c.in_ok-index.ensures.shorter (and_fewer c.in_ok-value.ensures.shorter c.in_ok-take.ensures.shorter))

pub read_compared-returns-in-Some-clause-shorter : goal.read_compared-returns-in-Some-clause-shorter
read_compared-returns-in-Some-clause-shorter t c = call_weaker _ _ c.read_right.result c.read_right.ensures.shorter

pub read_place-read_subscript-requires : goal.read_place-read_subscript-requires
read_place-read_subscript-requires t c = (falls_40 16 17 c.decreases (omega arith) c.in_ok-name.ensures.shorter, tt)

pub read_factor-read_atom-requires : goal.read_factor-read_atom-requires
read_factor-read_atom-requires t c = (falls_40 19 20 c.decreases (omega arith) c.in_ok-take.ensures.shorter, tt)

pub read_negation-read_comparison-requires : goal.read_negation-read_comparison-requires
read_negation-read_comparison-requires t c = (falls_40 25 26 c.decreases (omega arith) c.in_ok-take.ensures.shorter, tt)

pub read_quantified-read_boxed-requires : goal.read_quantified-read_boxed-requires
read_quantified-read_boxed-requires t c = (falls_40 31 31 c.decreases (omega arith) (and_fewer c.in_ok-take.ensures.shorter (and_fewer c.in_ok-name.ensures.shorter c.in_ok-token.ensures.shorter)), tt)

pub read_quantified-read_boxed-requires-2 : goal.read_quantified-read_boxed-requires-2
read_quantified-read_boxed-requires-2 t c = (falls_40 31 31 c.decreases (omega arith) (and_fewer c.in_ok-low.ensures.shorter (and_fewer c.in_ok-least.ensures.shorter (and_fewer c.in_ok-take.ensures.shorter (and_fewer c.in_ok-name.ensures.shorter c.in_ok-token.ensures.shorter)))), tt)

pub read_quantified-read_boxed-requires-3 : goal.read_quantified-read_boxed-requires-3
read_quantified-read_boxed-requires-3 t c = (falls_40 31 31 c.decreases (omega arith) (and_fewer c.in_ok-high.ensures.shorter (and_fewer c.in_ok-most.ensures.shorter (and_fewer c.in_ok-low.ensures.shorter (and_fewer c.in_ok-least.ensures.shorter (and_fewer c.in_ok-take.ensures.shorter (and_fewer c.in_ok-name.ensures.shorter c.in_ok-token.ensures.shorter)))))), tt)

pub read_subscript-read_expression-requires : goal.read_subscript-read_expression-requires
read_subscript-read_expression-requires t c = (falls_40 32 16 c.decreases (omega arith) c.in_ok-take.ensures.shorter, tt)

pub read_brackets-read_expression-requires : goal.read_brackets-read_expression-requires
read_brackets-read_expression-requires t c = (falls_40 32 18 c.decreases (omega arith) c.in_ok-take.ensures.shorter, tt)

pub read_prior-read_place-requires : goal.read_prior-read_place-requires
read_prior-read_place-requires t c = (falls_40 17 18 c.decreases (omega arith) c.in_ok-token.ensures.shorter, tt)

pub read_comparison-read_compared-requires : goal.read_comparison-read_compared-requires
read_comparison-read_compared-requires t c = (falls_40 31 25 c.decreases (omega arith) c.in_ok-left.ensures.shorter, tt)
