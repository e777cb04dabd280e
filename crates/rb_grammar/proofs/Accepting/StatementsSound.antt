-- What the machine accepts is derived: declarations and statements.
use Rattle.std.proofs.Common.{Option, Some, refl}
use Rattle.rb_lex.specs.Tokens.{Lexeme}
use Rattle.rb_base.specs.declared.edition.Edition.{Edition}
use Rattle.rb_base.specs.declared.edition.Edition.TheVariants as editions
use Rattle.rb_grammar.specs.declared.terminal.Terminal.{Terminal}
use Rattle.rb_grammar.specs.declared.terminal.Terminal.TheVariants as terminals
use Rattle.rb_grammar.specs.ExpressionTable.{nothing_after, start_place, start_expression}
use Rattle.rb_grammar.specs.Grammar.{Point, TakesText, TakesEnsure, StandsAt, declarations_row, declaration_row, size_row}
use Rattle.rb_grammar.specs.Grammar.{block_row, statements_row, assignment_row, print_row, send_row, receive_row, waits_row}
use Rattle.rb_grammar.specs.Grammar.{never_waits_row, if_row, else_row, while_row, call_row, fail_row, recover_row, converse_row}
use Rattle.rb_grammar.specs.Grammar.{recovery_row, alternates_row, alternate_row, other_alternates_row, error_row, items_row}
use Rattle.rb_grammar.specs.Grammar.{more_items_row, text_row, amount_row, arguments_row, expressions_row, more_expressions_row}
use Rattle.rb_grammar.specs.Machine.{Advances}
use Rattle.rb_grammar.specs.Parts.{Part}
use Rattle.rb_grammar.specs.StatementTable.{text_item, amount_after, items_after, expressions_after, alternates_after}
use Rattle.rb_grammar.specs.StatementTable.{declarations_after, assignment_after, recovering_after, statements_after, start_item}
use Rattle.rb_grammar.specs.StatementTable.{start_items, start_more_items, start_arguments, start_expressions}
use Rattle.rb_grammar.specs.StatementTable.{start_more_expressions, start_size, start_declaration, start_declarations}
use Rattle.rb_grammar.specs.StatementTable.{start_block, start_optional_else, start_receipt_end, start_alternates}
use Rattle.rb_grammar.specs.StatementTable.{start_alternate, start_other_alternates, start_recovery, start_statement}
use Rattle.rb_grammar.specs.StatementTable.{start_statements}
use Rattle.rb_grammar.proofs.Accepting.Sound.{Forms, Passes, advanced, plain, passed, named, then_rest, place_sound, expression_sound}

texted : {token : Lexeme} {a b : Point} (h : Advances terminals.Text token a b) → TakesText (text_item token) a b
texted {token = token} h = record { token = token; stands = h.stands; fits = h.is; is = refl; names = h.names; blocks = h.blocks }

ensured : {token : Lexeme} {a b : Point} (h : Advances terminals.Ensure token a b) → TakesEnsure a.blocks token.place a b
ensured {token = token} h = record {
  token = token;
  stands = h.stands;
  fits = h.is;
  is = refl;
  at = refl;
  names = h.names;
  blocks = h.blocks;
}

stands_first : {first : Option Terminal} {token : Lexeme} {a b : Point} → Passes first token a b → StandsAt token.place a
stands_first {token = token} {b = b} h = record { token = token; others = b.left; stands = h.stands; is = refl }

module _ (token : Lexeme) (a b : Point) where
  pub item_sound : (first : Option Terminal) → Passes first token a b → Forms Part.Item (start_item first) token a b
  item_sound (Some terminals.Text) h = text_row (texted (advanced h))
  item_sound first h =
      then_rest token a b Part.Item Part.Expression (start_expression first) amount_after (expression_sound token a b first h)
      (λ v c e. amount_row (stands_first h) e)

  pub items_sound : (first : Option Terminal) → Passes first token a b → Forms Part.Items (start_items first) token a b
  items_sound first h =
      then_rest token a b Part.Items Part.Item (start_item first) items_after (item_sound first h) (λ v c i others d m. items_row i m)

  pub more_items_sound : (first : Option Terminal) → Passes first token a b → Forms Part.MoreItems (start_more_items first) token a b
  more_items_sound (Some terminals.Comma) h =
      λ item c i others d m. more_items_row (passed h h.names h.blocks) i m
  more_items_sound _ h = tt

  pub expressions_sound : (first : Option Terminal) → Passes first token a b → Forms Part.Expressions (start_expressions first) token a b
  expressions_sound first h =
      then_rest token a b Part.Expressions Part.Expression (start_expression first) expressions_after
      (expression_sound token a b first h) (λ v c i others d m. expressions_row i m)

  pub arguments_sound : (first : Option Terminal) → Passes first token a b → Forms Part.Arguments (start_arguments first) token a b
  arguments_sound first h =
      then_rest token a b Part.Arguments Part.Expressions (start_expressions first) nothing_after (expressions_sound first h)
      (λ v c i. arguments_row i)

  pub more_expressions_sound : (first : Option Terminal) → Passes first token a b →
      Forms Part.MoreExpressions (start_more_expressions first) token a b
  more_expressions_sound (Some terminals.Comma) h =
      λ argument c i others d m. more_expressions_row (passed h h.names h.blocks) i m
  more_expressions_sound _ h = tt

  pub size_sound : (first : Option Terminal) → Passes first token a b → Forms Part.Size (start_size first) token a b
  size_sound (Some terminals.OpenBracket) h =
      λ size c n close d z. size_row (passed h h.names h.blocks) n (plain z z.names z.blocks)
  size_sound _ h = tt

  pub declaration_sound : (first : Option Terminal) → Passes first token a b → Forms Part.Declaration (start_declaration first) token a b
  declaration_sound (Some terminals.Var) h =
      λ name c n size d i semicolon e s. declaration_row (passed h h.names h.blocks) (named n) i (plain s s.names s.blocks)
  declaration_sound _ h = tt

  pub declarations_sound : (first : Option Terminal) → Passes first token a b → Forms Part.Declarations (start_declarations first) token a b
  declarations_sound first h =
      then_rest token a b Part.Declarations Part.Declaration (start_declaration first) declarations_after
      (declaration_sound first h) (λ v c s others d m. declarations_row s m)

  module _ (edition : Edition) where
    pub block_sound : (first : Option Terminal) → Passes first token a b → Forms (Part.Block edition) (start_block edition first) token a b
    block_sound (Some terminals.OpenBrace) h =
        λ variables c v commands d m close e z. block_row (passed h h.names h.blocks) v m (plain z z.names z.blocks)
    block_sound _ h = tt

    pub optional_else_sound : (first : Option Terminal) → Passes first token a b →
        Forms (Part.OptionalElse edition) (start_optional_else edition first) token a b
    optional_else_sound (Some terminals.Else) h = λ body c v. else_row (passed h h.names h.blocks) v
    optional_else_sound _ h = tt

    pub alternate_sound : (first : Option Terminal) → Passes first token a b →
        Forms (Part.Alternate edition) (start_alternate edition first) token a b
    alternate_sound (Some terminals.By) h =
        λ body c v word d e. alternate_row (passed h h.names h.blocks) v (plain e e.names e.blocks)
    alternate_sound _ h = tt

    pub alternates_sound : (first : Option Terminal) → Passes first token a b →
        Forms (Part.Alternates edition) (start_alternates edition first) token a b
    alternates_sound first h =
        then_rest token a b (Part.Alternates edition) (Part.Alternate edition) (start_alternate edition first)
        (alternates_after edition) (alternate_sound first h) (λ v c f others d o. alternates_row f o)

    pub other_alternates_sound : (first : Option Terminal) → Passes first token a b →
        Forms (Part.OtherAlternates edition) (start_other_alternates edition first) token a b
    other_alternates_sound (Some terminals.Error) h =
        λ semicolon c s. error_row (passed h h.names h.blocks) (plain s s.names s.blocks)
    other_alternates_sound first h =
        then_rest token a b (Part.OtherAlternates edition) (Part.Alternate edition) (start_alternate edition first)
        (alternates_after edition) (alternate_sound first h) (λ v c f others d o. other_alternates_row f o)

    pub recovery_sound : (first : Option Terminal) → Passes first token a b → Forms (Part.Recovery edition) (start_recovery edition first) token a b
    recovery_sound (Some terminals.Ensure) h =
        λ test c t within d w bound e n alternates f o. recovery_row (ensured (advanced h)) t (plain w w.names w.blocks) n o
    recovery_sound _ h = tt

    pub statement_sound : (first : Option Terminal) → Passes first token a b →
        Forms (Part.Statement edition) (start_statement edition first) token a b
    statement_sound (Some terminals.Print) h =
        λ items c i semicolon d s. print_row (passed h h.names h.blocks) i (plain s s.names s.blocks)
    statement_sound (Some terminals.Send) h =
        λ channel c n value d v semicolon e s. send_row (passed h h.names h.blocks) (named n) v (plain s s.names s.blocks)
    statement_sound (Some terminals.Receive) h =
        λ channel c n place d p otherwise e o. receive_row (passed h h.names h.blocks) (named n) p o
    statement_sound (Some terminals.If) h =
        λ test c t body d v otherwise e o. if_row (passed h h.names h.blocks) t v o
    statement_sound (Some terminals.While) h = λ test c t body d v. while_row (passed h h.names h.blocks) t v
    statement_sound (Some terminals.Call) h =
        λ procedure c n bracket d o arguments e g close f z semicolon i s. call_row (passed h h.names h.blocks) (named n)
        (plain o o.names o.blocks) g (plain z z.names z.blocks) (plain s s.names s.blocks)
    statement_sound (Some terminals.Fail) h =
        λ semicolon c s. fail_row (passed h h.names h.blocks) (plain s s.names s.blocks)
    statement_sound (Some terminals.Ensure) h =
        then_rest token a b (Part.Statement edition) (Part.Recovery edition) (start_recovery edition (Some terminals.Ensure))
        recovering_after (recovery_sound (Some terminals.Ensure) h) (λ v c r. recover_row r)
    statement_sound (Some terminals.Converse) h =
        λ conversation c n block d r. converse_row (passed h h.names h.blocks) (named n) r
    statement_sound first h =
        then_rest token a b (Part.Statement edition) Part.Place (start_place first) assignment_after
        (place_sound token a b first h) (λ v c p becomes d t value e x semicolon f s. assignment_row p (plain t t.names t.blocks)
        x (plain s s.names s.blocks))

    pub statements_sound : (first : Option Terminal) → Passes first token a b →
        Forms (Part.Statements edition) (start_statements edition first) token a b
    statements_sound first h =
        then_rest token a b (Part.Statements edition) (Part.Statement edition) (start_statement edition first)
        (statements_after edition) (statement_sound first h) (λ v c s others d m. statements_row s m)

  pub receipt_end_sound : (edition : Edition) (first : Option Terminal) → Passes first token a b →
      Forms (Part.ReceiptEnd edition) (start_receipt_end edition first) token a b
  receipt_end_sound editions.First (Some terminals.Semicolon) h = waits_row (passed h h.names h.blocks)
  receipt_end_sound editions.Second (Some terminals.Semicolon) h = waits_row (passed h h.names h.blocks)
  receipt_end_sound editions.Second (Some terminals.Else) h =
      λ body c v. never_waits_row (passed h h.names h.blocks) v
  receipt_end_sound editions.First _ h = tt
  receipt_end_sound editions.Second _ h = tt
