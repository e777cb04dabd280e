-- Where a form does not begin, and where it does: one fact for each token that the code asks for.
use Rattle.std.proofs.Common.{◌≡◌, ℕ, true, false, true≢false, List, [], ◌∷◌, Option, Some, None, refl, sym, ap, ◌∙◌}
use Rattle.std.specs.Option.{is_some}
use denote.Enum.Bare.{true_same}
use Rattle.rb_base.specs.declared.place.Place.{Place}
use Rattle.rb_lex.specs.Tokens.{Lexeme}
use Rattle.rb_syntax.specs.Tree.{PrintItem, Words}
use Rattle.rb_grammar.specs.contracts.terminal.Terminal.{the_type}
use Rattle.rb_base.specs.declared.edition.Edition.{Edition}
use Rattle.rb_base.specs.declared.edition.Edition.TheVariants as editions
use Rattle.rb_grammar.specs.declared.terminal.Terminal.{Terminal}
use Rattle.rb_grammar.specs.declared.terminal.Terminal.TheVariants as terminals
use Rattle.rb_grammar.specs.ExpressionTable.{begin, nothing_after, start_number, start_subscript, start_place}
use Rattle.rb_grammar.specs.Machine.{fits, look, first_of, place_of}
use Rattle.rb_grammar.specs.StatementTable.{start_item, declarations_after, statements_after, start_more_items}
use Rattle.rb_grammar.specs.StatementTable.{start_more_expressions, start_size, start_declaration, start_declarations}
use Rattle.rb_grammar.specs.StatementTable.{start_block, start_optional_else, start_alternate, start_recovery, start_statement}
use Rattle.rb_grammar.specs.StatementTable.{start_statements}
use Rattle.rb_grammar.specs.Table.{procedures_after, processes_after, start_names, start_more_names, start_parameters}
use Rattle.rb_grammar.specs.Table.{start_procedure, start_procedures, start_process, start_more_processes, start_channel}
use Rattle.rb_grammar.specs.Table.{start_conversation, start_connections, start_unmarked}
use Rattle.rb_grammar.proofs.Accepting.Forms.{begin_none}

pub no_channel : (first : Option Terminal) → fits first terminals.Channel ≡ false → start_channel first ≡ None
no_channel (Some terminals.Channel) e = absurd (true≢false e)
no_channel _ e = refl

pub no_conversation : (first : Option Terminal) → fits first terminals.Conversation ≡ false → start_conversation first ≡ None
no_conversation (Some terminals.Conversation) e = absurd (true≢false e)
no_conversation _ e = refl

pub no_declaration : (first : Option Terminal) → fits first terminals.Var ≡ false → start_declaration first ≡ None
no_declaration (Some terminals.Var) e = absurd (true≢false e)
no_declaration _ e = refl

pub no_size : (first : Option Terminal) → fits first terminals.OpenBracket ≡ false → start_size first ≡ None
no_size (Some terminals.OpenBracket) e = absurd (true≢false e)
no_size _ e = refl

pub no_block : (edition : Edition) (first : Option Terminal) → fits first terminals.OpenBrace ≡ false → start_block edition first ≡ None
no_block edition (Some terminals.OpenBrace) e = absurd (true≢false e)
no_block edition _ e = refl

pub no_alternate : (edition : Edition) (first : Option Terminal) → fits first terminals.By ≡ false → start_alternate edition first ≡ None
no_alternate edition (Some terminals.By) e = absurd (true≢false e)
no_alternate edition _ e = refl

pub no_recovery : (edition : Edition) (first : Option Terminal) → fits first terminals.Ensure ≡ false → start_recovery edition first ≡ None
no_recovery edition (Some terminals.Ensure) e = absurd (true≢false e)
no_recovery edition _ e = refl

pub no_procedure : (edition : Edition) (first : Option Terminal) → fits first terminals.Procedure ≡ false → start_procedure edition first ≡ None
no_procedure edition (Some terminals.Procedure) e = absurd (true≢false e)
no_procedure edition _ e = refl

pub no_process : (edition : Edition) (first : Option Terminal) → fits first terminals.Process ≡ false → start_process edition first ≡ None
no_process edition (Some terminals.Process) e = absurd (true≢false e)
no_process edition _ e = refl

pub no_unmarked : (edition : Edition) (first : Option Terminal) → fits first terminals.Program ≡ false → start_unmarked edition first ≡ None
no_unmarked edition (Some terminals.Program) e = absurd (true≢false e)
no_unmarked edition _ e = refl

pub no_place : (first : Option Terminal) → fits first terminals.Name ≡ false → start_place first ≡ None
no_place (Some terminals.Name) e = absurd (true≢false e)
no_place _ e = refl

pub no_names : (first : Option Terminal) → fits first terminals.Name ≡ false → start_names first ≡ None
no_names (Some terminals.Name) e = absurd (true≢false e)
no_names _ e = refl

pub no_more_names : (first : Option Terminal) → fits first terminals.Comma ≡ false → start_more_names first ≡ None
no_more_names (Some terminals.Comma) e = absurd (true≢false e)
no_more_names _ e = refl

pub no_subscript : (first : Option Terminal) → fits first terminals.OpenBracket ≡ false → start_subscript first ≡ None
no_subscript (Some terminals.OpenBracket) e = absurd (true≢false e)
no_subscript _ e = refl

pub no_more_items : (first : Option Terminal) → fits first terminals.Comma ≡ false → start_more_items first ≡ None
no_more_items (Some terminals.Comma) e = absurd (true≢false e)
no_more_items _ e = refl

pub no_more_expressions : (first : Option Terminal) → fits first terminals.Comma ≡ false → start_more_expressions first ≡ None
no_more_expressions (Some terminals.Comma) e = absurd (true≢false e)
no_more_expressions _ e = refl

pub no_else : (edition : Edition) (first : Option Terminal) → fits first terminals.Else ≡ false → start_optional_else edition first ≡ None
no_else edition (Some terminals.Else) e = absurd (true≢false e)
no_else edition _ e = refl

pub some_channel : (first : Option Terminal) → fits first terminals.Channel ≡ true → is_some (start_channel first) ≡ true
some_channel (Some terminals.Channel) e = refl
some_channel _ e = absurd (true≢false (sym e))

pub some_conversation : (first : Option Terminal) → fits first terminals.Conversation ≡ true → is_some (start_conversation first) ≡ true
some_conversation (Some terminals.Conversation) e = refl
some_conversation _ e = absurd (true≢false (sym e))

pub some_declaration : (first : Option Terminal) → fits first terminals.Var ≡ true → is_some (start_declaration first) ≡ true
some_declaration (Some terminals.Var) e = refl
some_declaration _ e = absurd (true≢false (sym e))

pub some_procedure : (edition : Edition) (first : Option Terminal) → fits first terminals.Procedure ≡ true →
    is_some (start_procedure edition first) ≡ true
some_procedure edition (Some terminals.Procedure) e = refl
some_procedure edition _ e = absurd (true≢false (sym e))

pub some_process : (edition : Edition) (first : Option Terminal) → fits first terminals.Process ≡ true → is_some (start_process edition first) ≡ true
some_process edition (Some terminals.Process) e = refl
some_process edition _ e = absurd (true≢false (sym e))

pub some_alternate : (edition : Edition) (first : Option Terminal) → fits first terminals.By ≡ true → is_some (start_alternate edition first) ≡ true
some_alternate edition (Some terminals.By) e = refl
some_alternate edition _ e = absurd (true≢false (sym e))

pub some_recovery : (edition : Edition) (first : Option Terminal) → fits first terminals.Ensure ≡ true → is_some (start_recovery edition first) ≡ true
some_recovery edition (Some terminals.Ensure) e = refl
some_recovery edition _ e = absurd (true≢false (sym e))

pub some_names : (first : Option Terminal) → fits first terminals.Name ≡ true → is_some (start_names first) ≡ true
some_names (Some terminals.Name) e = refl
some_names _ e = absurd (true≢false (sym e))

pub some_place : (first : Option Terminal) → fits first terminals.Name ≡ true → is_some (start_place first) ≡ true
some_place (Some terminals.Name) e = refl
some_place _ e = absurd (true≢false (sym e))

pub no_number : (first : Option Terminal) → fits first terminals.Two ≡ false → fits first terminals.Number ≡ false → start_number first ≡ None
no_number (Some terminals.Two) e f = absurd (true≢false e)
no_number (Some terminals.Number) e f = absurd (true≢false f)
no_number _ e f = refl

pub no_declarations : (first : Option Terminal) → fits first terminals.Var ≡ false → start_declarations first ≡ None
no_declarations first e = ap (λ begun. begin begun declarations_after) (no_declaration first e)

pub no_procedures : (edition : Edition) (first : Option Terminal) → fits first terminals.Procedure ≡ false → start_procedures edition first ≡ None
no_procedures edition first e = ap (λ begun. begin begun (procedures_after edition)) (no_procedure edition first e)

pub no_more_processes : (edition : Edition) (first : Option Terminal) → fits first terminals.Process ≡ false →
    start_more_processes edition first ≡ None
no_more_processes edition first e = ap (λ begun. begin begun (processes_after edition)) (no_process edition first e)

pub no_parameters : (first : Option Terminal) → fits first terminals.Name ≡ false → start_parameters first ≡ None
no_parameters first e = ap (λ begun. begin begun nothing_after) (no_names first e)

pub no_connections : (first : Option Terminal) → fits first terminals.Channel ≡ false →
    fits first terminals.Conversation ≡ false → start_connections first ≡ None
no_connections (Some terminals.Channel) e f = absurd (true≢false e)
no_connections (Some terminals.Conversation) e f = absurd (true≢false f)
no_connections _ e f = refl

-- both editions have statements that begin alike
pub same_statements : (edition : Edition) (first : Option Terminal) →
    is_some (start_statement editions.First first) ≡ is_some (start_statement edition first)
same_statements edition (Some terminals.Name) = refl
same_statements edition _ = refl

pub no_statements : (edition : Edition) (first : Option Terminal) → is_some (start_statement editions.First first) ≡ false →
    start_statements edition first ≡ None
no_statements edition first e =
    begin_none (start_statement edition first) (statements_after edition) (sym (same_statements edition first) ∙ e)

pub fits_same : (first : Option Terminal) (terminal : Terminal) → first ≡ Some terminal → fits first terminal ≡ true
fits_same first terminal e = ap (λ x. fits x terminal) e ∙ true_same the_type terminal terminal refl

-- what was found does stand first
pub found_fits : {seen first : Option Terminal} {terminal : Terminal} → seen ≡ Some terminal → seen ≡ first → fits first terminal ≡ true
found_fits {first = first} {terminal = terminal} e same = fits_same first terminal (sym same ∙ e)

pub place_first : (left : List Lexeme) (place : Place) → place_of left ≡ Some place → (first_of left).place ≡ place
place_first [] place e = absurd cc
place_first (token ∷ others) place e = cc

nothing_first : (left : List Lexeme) → place_of left ≡ None → look left ≡ None
nothing_first [] e = refl
nothing_first (token ∷ others) e = absurd cc

pub no_item : (left : List Lexeme) → place_of left ≡ None → start_item (look left) ≡ None
no_item left e = ap start_item (nothing_first left e)

-- a text, at its place
abbrev pub text_at : Place → List ℕ → PrintItem
text_at place text = record { place = place; what = Words text }
