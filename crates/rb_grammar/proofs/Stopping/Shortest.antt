-- A short text of each part, and so an end of each plan.
use Rattle.std.proofs.Common.{◌≡◌, ℕ, ◌+◌, List, [], ◌∷◌, ◌++◌, Some, None, refl}
use Rattle.rb_lex.specs.Tokens.{Lexeme}
use Rattle.rb_base.specs.declared.edition.Edition.{Edition}
use Rattle.rb_base.specs.declared.edition.Edition.TheVariants as editions
use Rattle.rb_grammar.specs.declared.level.Level.TheVariants as levels
use Rattle.rb_grammar.specs.declared.terminal.Terminal.TheVariants as terminals
use Rattle.rb_grammar.specs.Grammar.{Point, Derives, first_edition_row, program_row, no_connection_row, channel_row}
use Rattle.rb_grammar.specs.Grammar.{conversation_row, names_row, no_name_row, processes_row, no_process_row, process_row}
use Rattle.rb_grammar.specs.Grammar.{no_procedure_row, procedure_row, no_parameter_row, no_declaration_row, declaration_row}
use Rattle.rb_grammar.specs.Grammar.{no_size_row, block_row, no_statement_row, waits_row, no_else_row, fail_row, recovery_row}
use Rattle.rb_grammar.specs.Grammar.{alternates_row, alternate_row, error_row, items_row, no_item_row, no_argument_row}
use Rattle.rb_grammar.specs.Grammar.{expressions_row, no_more_expression_row, no_link_row, not_compared_row, place_row}
use Rattle.rb_grammar.specs.Grammar.{no_subscript_row}
use Rattle.rb_grammar.specs.Machine.{names_after, blocks_after}
use Rattle.rb_grammar.specs.Parts.{Part}
use Rattle.rb_grammar.specs.Plans.{Value, Plan, Done, Token, Call}
use Rattle.rb_grammar.specs.StatementTable.{amount_at}
use Rattle.rb_grammar.specs.Table.{tree_with}
use Rattle.rb_grammar.proofs.Stopping.Samples.{sample}
use Rattle.rb_grammar.proofs.Accepting.Sound.{Follows}
use Rattle.rb_syntax.specs.Tree.{Refer, Scalar, NoLink, NoCommand, Failure, Scope, NoElse, Recovers, NoAlternate, Alternate, Tree}
pub use Rattle.rb_grammar.proofs.Stopping.ShortExpressions.{from, sampled, sample_advances, number, zero_value, name_at, number_here}
pub use Rattle.rb_grammar.proofs.Stopping.ShortExpressions.{atom_here, factor_here, product_operand_here, product_here, sum_operand_here}
pub use Rattle.rb_grammar.proofs.Stopping.ShortExpressions.{sum_here, comparison_here, negation_here, conjunction_operand_here}
pub use Rattle.rb_grammar.proofs.Stopping.ShortExpressions.{conjunction_here, disjunction_operand_here, disjunction_here, expression_here}
pub use Rattle.rb_grammar.proofs.Stopping.ShortExpressions.{item_here, takes, takes_name}

-- tokens that derive a part, whatever stands behind them
pub record Short (part : Part) (names blocks : ℕ) : Type 0 where
  pub tokens : List Lexeme
  pub value : Value part
  pub later_names : ℕ
  pub later_blocks : ℕ
  pub derives : (rest : List Lexeme) → Derives part value (from (tokens ++ rest) names blocks) (from rest later_names later_blocks)

module _ (names blocks : ℕ) where
  -- no tokens
  abbrev nothing : (part : Part) (value : Value part) → ((a : Point) → Derives part value a a) → Short part names blocks
  nothing part value derives = record {
    tokens = [];
    value = value;
    later_names = names;
    later_blocks = blocks;
    derives = λ rest. derives (from rest names blocks);
  }

  -- one number
  abbrev alone : (part : Part) (value : Value part) → ((rest : List Lexeme) →
      Derives part value (from (sample terminals.Number ∷ rest) names blocks) (from rest names blocks)) → Short part names blocks
  alone part value derives = record {
    tokens = sample terminals.Number ∷ [];
    value = value;
    later_names = names;
    later_blocks = blocks;
    derives = derives;
  }

  abbrev short_place : Short Part.Place names blocks
  short_place = record {
    tokens = sample terminals.Name ∷ [];
    value = Refer (name_at names blocks) Scalar;
    later_names = names + 1;
    later_blocks = blocks;
    derives = λ rest. place_row (takes_name names blocks rest) no_subscript_row;
  }

  module _ (edition : Edition) where
    pub block_here : (rest : List Lexeme) → Derives (Part.Block edition) (Scope [] NoCommand)
        (from (sample terminals.OpenBrace ∷ sample terminals.CloseBrace ∷ rest) names blocks) (from rest names blocks)
    block_here rest =
        block_row (takes names blocks terminals.OpenBrace _ refl refl) no_declaration_row no_statement_row
        (takes names blocks terminals.CloseBrace rest refl refl)

    abbrev short_block : Short (Part.Block edition) names blocks
    short_block = record {
      tokens = sample terminals.OpenBrace ∷ sample terminals.CloseBrace ∷ [];
      value = Scope [] NoCommand;
      later_names = names;
      later_blocks = blocks;
      derives = block_here;
    }

    abbrev short_statement : Short (Part.Statement edition) names blocks
    short_statement = record {
      tokens = sample terminals.Fail ∷ sample terminals.Semicolon ∷ [];
      value = Failure;
      later_names = names;
      later_blocks = blocks;
      derives = λ rest. fail_row (takes names blocks terminals.Fail _ refl refl) (takes names blocks terminals.Semicolon rest refl refl);
    }

    abbrev short_receipt_end : Short (Part.ReceiptEnd edition) names blocks
    short_receipt_end = record {
      tokens = sample terminals.Semicolon ∷ [];
      value = NoElse;
      later_names = names;
      later_blocks = blocks;
      derives = λ rest. waits_row (takes names blocks terminals.Semicolon rest refl refl);
    }

    pub alternate_here : (rest : List Lexeme) → Derives (Part.Alternate edition) (Scope [] NoCommand)
        (from (sample terminals.By ∷ sample terminals.OpenBrace ∷ sample terminals.CloseBrace ∷ sample terminals.Else ∷ rest)
        names blocks) (from rest names blocks)
    alternate_here rest =
        alternate_row (takes names blocks terminals.By _ refl refl) (block_here (sample terminals.Else ∷ rest))
        (takes names blocks terminals.Else rest refl refl)

    abbrev short_alternate : Short (Part.Alternate edition) names blocks
    short_alternate = record {
      tokens = sample terminals.By ∷ sample terminals.OpenBrace ∷ sample terminals.CloseBrace ∷ sample terminals.Else ∷ [];
      value = Scope [] NoCommand;
      later_names = names;
      later_blocks = blocks;
      derives = alternate_here;
    }

    pub error_here : (rest : List Lexeme) → Derives (Part.OtherAlternates edition) NoAlternate
        (from (sample terminals.Error ∷ sample terminals.Semicolon ∷ rest) names blocks) (from rest names blocks)
    error_here rest = error_row (takes names blocks terminals.Error _ refl refl) (takes names blocks terminals.Semicolon rest refl refl)

    abbrev short_other_alternates : Short (Part.OtherAlternates edition) names blocks
    short_other_alternates = record {
      tokens = sample terminals.Error ∷ sample terminals.Semicolon ∷ [];
      value = NoAlternate;
      later_names = names;
      later_blocks = blocks;
      derives = error_here;
    }

abbrev short_alternates : (edition : Edition) (names blocks : ℕ) → Short (Part.Alternates edition) names blocks
short_alternates edition names blocks = record {
  tokens = sample terminals.By ∷ sample terminals.OpenBrace ∷ sample terminals.CloseBrace ∷ sample terminals.Else ∷ sample
      terminals.Error ∷ sample terminals.Semicolon ∷ [];
  value = Alternate (Scope [] NoCommand) NoAlternate;
  later_names = names;
  later_blocks = blocks;
  derives = λ rest. alternates_row (alternate_here names blocks edition _) (error_here names blocks edition rest);
}

abbrev short_recovery : (edition : Edition) (names blocks : ℕ) → Short (Part.Recovery edition) names blocks
short_recovery edition names blocks = record {
  tokens = sample terminals.Ensure ∷ sample terminals.Number ∷ sample terminals.Within ∷ sample terminals.Number ∷ sample
      terminals.By ∷ sample terminals.OpenBrace ∷ sample terminals.CloseBrace ∷ sample terminals.Else ∷ sample terminals.Error ∷
      sample terminals.Semicolon ∷ [];
  value = Recovers blocks None (sample terminals.Ensure).place zero_value number (Alternate (Scope [] NoCommand) NoAlternate);
  later_names = names;
  later_blocks = blocks + 1;
  derives = λ rest. recovery_row (record {
    token = sample terminals.Ensure;
    stands = refl;
    fits = refl;
    is = refl;
    at = refl;
    names = refl;
    blocks = refl;
  }) (expression_here names (blocks + 1) _) (takes names (blocks + 1) terminals.Within _ refl refl)
      (number_here names (blocks + 1) _) (alternates_row (alternate_here names (blocks + 1) edition _)
      (error_here names (blocks + 1) edition rest));
}

abbrev short_declaration : (names blocks : ℕ) → Short Part.Declaration names blocks
short_declaration names blocks = record {
  tokens = sample terminals.Var ∷ sample terminals.Name ∷ sample terminals.Semicolon ∷ [];
  value = record { name = name_at names blocks; size = None };
  later_names = names + 1;
  later_blocks = blocks;
  derives = λ rest. declaration_row (takes names blocks terminals.Var _ refl refl) (takes_name names blocks _) no_size_row
      (takes (names + 1) blocks terminals.Semicolon rest refl refl);
}

abbrev short_procedure : (edition : Edition) (names blocks : ℕ) → Short (Part.Procedure edition) names blocks
short_procedure edition names blocks = record {
  tokens = sample terminals.Procedure ∷ sample terminals.Name ∷ sample terminals.OpenParen ∷ sample terminals.CloseParen ∷ sample
      terminals.OpenBrace ∷ sample terminals.CloseBrace ∷ [];
  value = record { name = name_at names blocks; parameters = []; body = Scope [] NoCommand };
  later_names = names + 1;
  later_blocks = blocks;
  derives = λ rest. procedure_row (takes names blocks terminals.Procedure _ refl refl) (takes_name names blocks _)
      (takes (names + 1) blocks terminals.OpenParen _ refl refl) no_parameter_row
      (takes (names + 1) blocks terminals.CloseParen _ refl refl) (block_here (names + 1) blocks edition rest);
}

abbrev short_process : (edition : Edition) (names blocks : ℕ) → Short (Part.Process edition) names blocks
short_process edition names blocks = record {
  tokens = sample terminals.Process ∷ sample terminals.Name ∷ sample terminals.OpenBrace ∷ sample terminals.CloseBrace ∷ [];
  value = record { name = name_at names blocks; variables = []; procedures = []; commands = NoCommand };
  later_names = names + 1;
  later_blocks = blocks;
  derives = λ rest. process_row (takes names blocks terminals.Process _ refl refl) (takes_name names blocks _)
      (takes (names + 1) blocks terminals.OpenBrace _ refl refl) no_declaration_row no_procedure_row no_statement_row
      (takes (names + 1) blocks terminals.CloseBrace rest refl refl);
}

abbrev short_processes : (edition : Edition) (names blocks : ℕ) → Short (Part.Processes edition) names blocks
short_processes edition names blocks =
    let process = short_process edition names blocks in
    record {
      tokens = process.tokens;
      value = process.value ∷ [];
      later_names = names + 1;
      later_blocks = blocks;
      derives = λ rest. processes_row (process.derives rest) no_process_row;
    }

abbrev short_names : (names blocks : ℕ) → Short Part.Names names blocks
short_names names blocks = record {
  tokens = sample terminals.Name ∷ [];
  value = name_at names blocks ∷ [];
  later_names = names + 1;
  later_blocks = blocks;
  derives = λ rest. names_row (takes_name names blocks rest) no_name_row;
}

abbrev short_channel : (names blocks : ℕ) → Short Part.Channel names blocks
short_channel names blocks = record {
  tokens = sample terminals.Channel ∷ sample terminals.Name ∷ sample terminals.From ∷ sample terminals.Name ∷ sample terminals.To
      ∷ sample terminals.Name ∷ sample terminals.Size ∷ sample terminals.Number ∷ sample terminals.Semicolon ∷ [];
  value = record {
    name = name_at names blocks;
    sender = name_at (names + 1) blocks;
    receiver = name_at (names + 1 + 1) blocks;
    size = number;
  };
  later_names = names + 1 + 1 + 1;
  later_blocks = blocks;
  derives = λ rest. channel_row (takes names blocks terminals.Channel _ refl refl) (takes_name names blocks _)
      (takes (names + 1) blocks terminals.From _ refl refl) (takes_name (names + 1) blocks _)
      (takes (names + 1 + 1) blocks terminals.To _ refl refl) (takes_name (names + 1 + 1) blocks _)
      (takes (names + 1 + 1 + 1) blocks terminals.Size _ refl refl) (number_here (names + 1 + 1 + 1) blocks _)
      (takes (names + 1 + 1 + 1) blocks terminals.Semicolon rest refl refl);
}

abbrev short_conversation : (names blocks : ℕ) → Short Part.Conversation names blocks
short_conversation names blocks = record {
  tokens = sample terminals.Conversation ∷ sample terminals.Name ∷ sample terminals.OpenParen ∷ sample terminals.Name ∷ sample
      terminals.CloseParen ∷ sample terminals.Semicolon ∷ [];
  value = record { name = name_at names blocks; members = name_at (names + 1) blocks ∷ [] };
  later_names = names + 1 + 1;
  later_blocks = blocks;
  derives = λ rest. conversation_row (takes names blocks terminals.Conversation _ refl refl) (takes_name names blocks _)
      (takes (names + 1) blocks terminals.OpenParen _ refl refl) (names_row (takes_name (names + 1) blocks _) no_name_row)
      (takes (names + 1 + 1) blocks terminals.CloseParen _ refl refl)
      (takes (names + 1 + 1) blocks terminals.Semicolon rest refl refl);
}

abbrev short_unmarked : (edition : Edition) (names blocks : ℕ) → Short (Part.Unmarked edition) names blocks
short_unmarked edition names blocks =
    let process = short_process edition (names + 1) blocks in
    record {
      tokens = sample terminals.Program ∷ sample terminals.Name ∷ sample terminals.Semicolon ∷
          (process.tokens ++ (sample terminals.End ∷ sample terminals.Dot ∷ []));
      value = tree_with edition (name_at names blocks) ([], []) (process.value ∷ []) (names + 1 + 1) blocks;
      later_names = names + 1 + 1;
      later_blocks = blocks;
      derives = λ rest. program_row (takes names blocks terminals.Program _ refl refl) (takes_name names blocks _)
          (takes (names + 1) blocks terminals.Semicolon _ refl refl) no_connection_row
          (processes_row (process.derives (sample terminals.End ∷ sample terminals.Dot ∷ rest)) no_process_row)
          (takes (names + 1 + 1) blocks terminals.End _ refl refl) (takes (names + 1 + 1) blocks terminals.Dot rest refl refl);
    }

abbrev short_program : (names blocks : ℕ) → Short Part.Program names blocks
short_program names blocks =
    let unmarked = short_unmarked editions.First names blocks in
    record {
      tokens = unmarked.tokens;
      value = unmarked.value;
      later_names = unmarked.later_names;
      later_blocks = unmarked.later_blocks;
      derives = λ rest. first_edition_row (unmarked.derives rest);
    }

abbrev pub short : (part : Part) (names blocks : ℕ) → Short part names blocks
short Part.Program names blocks = short_program names blocks
short (Part.Unmarked edition) names blocks = short_unmarked edition names blocks
short Part.Connections names blocks = nothing names blocks Part.Connections ([], []) (λ a. no_connection_row)
short Part.Channel names blocks = short_channel names blocks
short Part.Conversation names blocks = short_conversation names blocks
short Part.Names names blocks = short_names names blocks
short Part.MoreNames names blocks = nothing names blocks Part.MoreNames [] (λ a. no_name_row)
short (Part.Process edition) names blocks = short_process edition names blocks
short (Part.Processes edition) names blocks = short_processes edition names blocks
short (Part.MoreProcesses edition) names blocks = nothing names blocks (Part.MoreProcesses edition) [] (λ a. no_process_row)
short (Part.Procedures edition) names blocks = nothing names blocks (Part.Procedures edition) [] (λ a. no_procedure_row)
short (Part.Procedure edition) names blocks = short_procedure edition names blocks
short Part.Parameters names blocks = nothing names blocks Part.Parameters [] (λ a. no_parameter_row)
short Part.Declarations names blocks = nothing names blocks Part.Declarations [] (λ a. no_declaration_row)
short Part.Declaration names blocks = short_declaration names blocks
short Part.Size names blocks = nothing names blocks Part.Size None (λ a. no_size_row)
short (Part.Block edition) names blocks = short_block names blocks edition
short (Part.Statements edition) names blocks = nothing names blocks (Part.Statements edition) NoCommand (λ a. no_statement_row)
short (Part.Statement edition) names blocks = short_statement names blocks edition
short (Part.OptionalElse edition) names blocks = nothing names blocks (Part.OptionalElse edition) NoElse (λ a. no_else_row)
short (Part.ReceiptEnd edition) names blocks = short_receipt_end names blocks edition
short (Part.Recovery edition) names blocks = short_recovery edition names blocks
short (Part.Alternates edition) names blocks = short_alternates edition names blocks
short (Part.Alternate edition) names blocks = short_alternate names blocks edition
short (Part.OtherAlternates edition) names blocks = short_other_alternates names blocks edition
short Part.Items names blocks =
    alone names blocks Part.Items (amount_at (sample terminals.Number).place zero_value ∷ [])
    (λ rest. items_row (item_here names blocks rest) no_item_row)
short Part.MoreItems names blocks = nothing names blocks Part.MoreItems [] (λ a. no_item_row)
short Part.Item names blocks = alone names blocks Part.Item (amount_at (sample terminals.Number).place zero_value) (item_here names blocks)
short Part.Arguments names blocks = nothing names blocks Part.Arguments [] (λ a. no_argument_row)
short Part.Expressions names blocks =
    alone names blocks Part.Expressions (zero_value ∷ []) (λ rest. expressions_row (expression_here names blocks rest) no_more_expression_row)
short Part.MoreExpressions names blocks = nothing names blocks Part.MoreExpressions [] (λ a. no_more_expression_row)
short Part.Expression names blocks = alone names blocks Part.Expression zero_value (expression_here names blocks)
short (Part.Chain levels.Disjunction) names blocks = alone names blocks (Part.Chain levels.Disjunction) zero_value (disjunction_here names blocks)
short (Part.Chain levels.Conjunction) names blocks = alone names blocks (Part.Chain levels.Conjunction) zero_value (conjunction_here names blocks)
short (Part.Chain levels.Sum) names blocks = alone names blocks (Part.Chain levels.Sum) zero_value (sum_here names blocks)
short (Part.Chain levels.Product) names blocks = alone names blocks (Part.Chain levels.Product) zero_value (product_here names blocks)
short (Part.Links level) names blocks = nothing names blocks (Part.Links level) NoLink (λ a. no_link_row)
short (Part.Operand levels.Disjunction) names blocks = alone names blocks (Part.Operand levels.Disjunction) zero_value
    (disjunction_operand_here names blocks)
short (Part.Operand levels.Conjunction) names blocks = alone names blocks (Part.Operand levels.Conjunction) zero_value
    (conjunction_operand_here names blocks)
short (Part.Operand levels.Sum) names blocks = alone names blocks (Part.Operand levels.Sum) zero_value (sum_operand_here names blocks)
short (Part.Operand levels.Product) names blocks = alone names blocks (Part.Operand levels.Product) zero_value (product_operand_here names blocks)
short Part.Negation names blocks = alone names blocks Part.Negation zero_value (negation_here names blocks)
short Part.Comparison names blocks = alone names blocks Part.Comparison zero_value (comparison_here names blocks)
short Part.Compared names blocks = nothing names blocks Part.Compared NoLink (λ a. not_compared_row)
short Part.Factor names blocks = alone names blocks Part.Factor zero_value (factor_here names blocks)
short Part.Atom names blocks = alone names blocks Part.Atom zero_value (atom_here names blocks)
short Part.Place names blocks = short_place names blocks
short Part.Subscript names blocks = nothing names blocks Part.Subscript Scalar (λ a. no_subscript_row)
short Part.Number names blocks = alone names blocks Part.Number number (number_here names blocks)

-- tokens that end a plan, and the tree that comes of them
pub completion : Plan Tree → ℕ → ℕ → List Lexeme
completion (Done tree) names blocks = []
completion (Token terminal f) names blocks =
    sample terminal ∷ completion (f (sampled terminal names blocks)) (names_after (Some terminal) names) (blocks_after (Some terminal) blocks)
completion (Call part k) names blocks =
    (short part names blocks).tokens ++ completion (k (short part names blocks).value) (short part names blocks).later_names
    (short part names blocks).later_blocks

-- what a plan promises comes true with them
module _ (Q : Tree → Point → Type 0) where
  pub completed : (plan : Plan Tree) (names blocks : ℕ) → Follows Q plan (from (completion plan names blocks) names blocks) →
      (tree : Tree) × (end : Point) × (end.left ≡ []) × Q tree end
  unfolding completion
  completed (Done tree) names blocks q = (tree, from [] names blocks, refl, q)
  completed (Token terminal f) names blocks q =
      completed (f (sampled terminal names blocks)) _ _ (q (sample terminal) _ (sample_advances terminal _ names blocks))
  completed (Call part k) names blocks q =
      let s = short part names blocks in
      completed (k s.value) s.later_names s.later_blocks (q s.value _ (s.derives (completion (k s.value) s.later_names s.later_blocks)))
