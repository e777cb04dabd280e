-- What the table says of what stands first, one fact for each choice among forms that the code makes.
use Rattle.std.proofs.Common.{◌≡◌, true, false, Option, Some, None, refl, ap, true≢false}
use Rattle.std.proofs.lemmas.Bool.{false≢true}
use Rattle.std.specs.Option.{is_some}
use Rattle.rb_base.specs.declared.edition.Edition.{Edition}
use Rattle.rb_base.specs.declared.edition.Edition.TheVariants as editions
use Rattle.rb_grammar.specs.declared.terminal.Terminal.{Terminal}
use Rattle.rb_grammar.specs.declared.terminal.Terminal.TheVariants as terminals
use Rattle.rb_grammar.specs.ExpressionTable.{Start, begin, nothing_after, variable_after, literal_after, start_number}
use Rattle.rb_grammar.specs.ExpressionTable.{start_place, start_atom, start_factor, start_comparison, start_negation}
use Rattle.rb_grammar.specs.ExpressionTable.{start_disjunction, start_expression, quantified_after}
use Rattle.rb_grammar.specs.Machine.{fits}
use Rattle.rb_grammar.specs.Operators.{quantifier}
use Rattle.rb_grammar.specs.Plans.{Seen, Plan}
use Rattle.rb_syntax.specs.declared.expression.Quantifier.{Quantifier}
use Rattle.rb_syntax.specs.declared.expression.Quantifier.TheVariants as quantifiers
use Rattle.rb_grammar.specs.StatementTable.{amount_after, assignment_after, recovering_after, alternates_after, start_item, start_alternate, start_other_alternates, start_recovery, start_statement}
use Rattle.rb_grammar.specs.Table.{channels_after, conversations_after, start_channel, start_conversation, start_connections, start_unmarked, start_program}

pub is_none : {A : Type 0} (o : Option A) → is_some o ≡ false → o ≡ None
is_none None e = refl
is_none (Some v) e = absurd cc

pub begin_none : {A B : Type 0} (begun : Start A) (rest : Seen → A → Plan B) → is_some begun ≡ false → begin begun rest ≡ None
begin_none None rest e = refl
begin_none (Some f) rest e = absurd cc

pub begin_some : {A B : Type 0} (begun : Start A) (rest : Seen → A → Plan B) → is_some begun ≡ true → is_some (begin begun rest) ≡ true
begin_some None rest e = absurd cc
begin_some (Some f) rest e = refl

pub begin_still : {A B : Type 0} (begun : Start A) (rest : Seen → A → Plan B) → is_some begun ≡ false → is_some (begin begun rest) ≡ false
begin_still None rest e = refl
begin_still (Some f) rest e = absurd cc

pub atom_place : (first : Option Terminal) → is_some (start_place first) ≡ true → start_atom first ≡ begin (start_place first) variable_after
atom_place (Some terminals.Name) e = refl
atom_place _ e = absurd (false≢true e)

pub atom_number : (first : Option Terminal) → is_some (start_number first) ≡ true → start_atom first ≡ begin (start_number first) literal_after
atom_number (Some terminals.Number) e = refl
atom_number (Some terminals.Two) e = refl
atom_number _ e = absurd (false≢true e)

pub atom_literal : (first : Option Terminal) → fits first terminals.Name ≡ false → fits first terminals.Prior ≡ false →
    fits first terminals.OpenParen ≡ false → start_atom first ≡ begin (start_number first) literal_after
atom_literal (Some terminals.Name) e f g = absurd (true≢false e)
atom_literal (Some terminals.Prior) e f g = absurd (true≢false f)
atom_literal (Some terminals.OpenParen) e f g = absurd (true≢false g)
atom_literal _ e f g = refl

-- a factor without its sign is an atom
pub factor_atom : (first : Option Terminal) → fits first terminals.Minus ≡ false → start_factor first ≡ begin (start_atom first) nothing_after
factor_atom (Some terminals.Minus) e = absurd (true≢false e)
factor_atom _ e = refl

pub negation_comparison : (first : Option Terminal) → fits first terminals.Not ≡ false →
    start_negation first ≡ begin (start_comparison first) nothing_after
negation_comparison (Some terminals.Not) e = absurd (true≢false e)
negation_comparison _ e = refl

pub expression_chain : (first : Option Terminal) → quantifier first ≡ None → start_expression first ≡ begin (start_disjunction first) nothing_after
expression_chain (Some terminals.Every) e = absurd cc
expression_chain (Some terminals.Some) e = absurd cc
expression_chain (Some terminals.Sum) e = absurd cc
expression_chain _ e = refl

pub item_amount : (first : Option Terminal) → fits first terminals.Text ≡ false → start_item first ≡ begin (start_expression first) amount_after
item_amount (Some terminals.Text) e = absurd (true≢false e)
item_amount _ e = refl

pub statement_recovery : (edition : Edition) (first : Option Terminal) → is_some (start_recovery edition first) ≡ true →
    start_statement edition first ≡ begin (start_recovery edition first) recovering_after
statement_recovery edition (Some terminals.Ensure) e = refl
statement_recovery edition _ e = absurd (false≢true e)

pub statement_place : (edition : Edition) (first : Option Terminal) → is_some (start_place first) ≡ true →
    start_statement edition first ≡ begin (start_place first) assignment_after
statement_place edition (Some terminals.Name) e = refl
statement_place edition _ e = absurd (false≢true e)

pub statement_assignment : (edition : Edition) (first : Option Terminal) → fits first terminals.Receive ≡ false →
    fits first terminals.If ≡ false → fits first terminals.While ≡ false → fits first terminals.Ensure ≡ false →
    fits first terminals.Converse ≡ false → fits first terminals.Print ≡ false → fits first terminals.Send ≡ false →
    fits first terminals.Call ≡ false → fits first terminals.Fail ≡ false →
    start_statement edition first ≡ begin (start_place first) assignment_after
statement_assignment edition (Some terminals.Receive) a b c d e f g h i = absurd (true≢false a)
statement_assignment edition (Some terminals.If) a b c d e f g h i = absurd (true≢false b)
statement_assignment edition (Some terminals.While) a b c d e f g h i = absurd (true≢false c)
statement_assignment edition (Some terminals.Ensure) a b c d e f g h i = absurd (true≢false d)
statement_assignment edition (Some terminals.Converse) a b c d e f g h i = absurd (true≢false e)
statement_assignment edition (Some terminals.Print) a b c d e f g h i = absurd (true≢false f)
statement_assignment edition (Some terminals.Send) a b c d e f g h i = absurd (true≢false g)
statement_assignment edition (Some terminals.Call) a b c d e f g h i = absurd (true≢false h)
statement_assignment edition (Some terminals.Fail) a b c d e f g h i = absurd (true≢false i)
statement_assignment edition _ a b c d e f g h i = refl

pub other_alternate : (edition : Edition) (first : Option Terminal) → is_some (start_alternate edition first) ≡ true →
    start_other_alternates edition first ≡ begin (start_alternate edition first) (alternates_after edition)
other_alternate edition (Some terminals.By) e = refl
other_alternate edition _ e = absurd (false≢true e)

pub connections_channel : (first : Option Terminal) → is_some (start_channel first) ≡ true →
    start_connections first ≡ begin (start_channel first) channels_after
connections_channel (Some terminals.Channel) e = refl
connections_channel _ e = absurd (false≢true e)

pub connections_conversation : (first : Option Terminal) → is_some (start_conversation first) ≡ true →
    start_connections first ≡ begin (start_conversation first) conversations_after
connections_conversation (Some terminals.Conversation) e = refl
connections_conversation _ e = absurd (false≢true e)

pub program_unmarked : (first : Option Terminal) → fits first terminals.Edition ≡ false →
    start_program first ≡ begin (start_unmarked editions.First first) nothing_after
program_unmarked (Some terminals.Edition) e = absurd (true≢false e)
program_unmarked _ e = refl

-- the word of a quantified expression begins it
pub quantified_begun : (terminal : Terminal) (kind : Quantifier) → quantifier (Some terminal) ≡ Some kind →
    start_expression (Some terminal) ≡ Some (quantified_after kind)
quantified_begun terminals.Every kind e = let same : quantifiers.Every ≡ kind = cc in ap (λ k. Some (quantified_after k)) same
quantified_begun terminals.Some kind e = let same : quantifiers.Any ≡ kind = cc in ap (λ k. Some (quantified_after k)) same
quantified_begun terminals.Sum kind e = let same : quantifiers.Total ≡ kind = cc in ap (λ k. Some (quantified_after k)) same
quantified_begun _ kind e = absurd cc
