-- Trees in memory, as the plan has them.
use Rattle.std.proofs.Common.{◌≡◌, ℕ, List, Option, None, Vec, sym, ap, ◌∙◌}
use Rattle.std.specs.declared.alloc.Global.{Global}
use Rattle.rb_base.specs.declared.place.Place.{Place}
use Rattle.rb_lex.specs.Tokens.{Lexeme}
use Rattle.rb_base.specs.declared.edition.Edition.{Edition}
use Rattle.rb_grammar.specs.declared.terminal.Terminal.TheVariants as terminals
use Rattle.rb_grammar.specs.Grammar.{Point}
use Rattle.rb_grammar.specs.Machine.{Advances}
use Rattle.rb_grammar.specs.Table.{tree_with}
use Rattle.rb_syntax.proofs.Bridge.{recovery_layer, recovery_out}
use Rattle.rb_syntax.specs.declared.expression.Expr.{Expr}
use Rattle.rb_syntax.specs.declared.expression.Number.{Number}
use Rattle.rb_syntax.specs.declared.statement.Block.{Block}
use Rattle.rb_syntax.specs.declared.statement.Recovery.{roll-Recovery, out-roll-Recovery}
use Rattle.rb_syntax.specs.Plain.{expression, recovery_block, alternates_of}
use Rattle.rb_syntax.specs.Tree.{Recovers, Identifier, Declaration, Commands, Body, ChannelDeclaration, ConversationDeclaration, ProcedureDeclaration, ProcessDeclaration, Tree}

abbrev pub variable_with : Option Number → Identifier → Declaration
variable_with size name = record { name = name; size = size }

abbrev pub channel_of : Number → Identifier → Identifier → Identifier → ChannelDeclaration
channel_of size name sender receiver = record { name = name; sender = sender; receiver = receiver; size = size }

abbrev pub conversation_of : List Identifier → Identifier → ConversationDeclaration
conversation_of members name = record { name = name; members = members }

abbrev pub procedure_of : List Identifier → Body → Identifier → ProcedureDeclaration
procedure_of parameters body name = record { name = name; parameters = parameters; body = body }

abbrev pub process_of : List Declaration → List ProcedureDeclaration → Commands → Identifier → ProcessDeclaration
process_of variables procedures commands name = record {
  name = name;
  variables = variables;
  procedures = procedures;
  commands = commands;
}

abbrev pub tree_of : List ChannelDeclaration → List ConversationDeclaration → List ProcessDeclaration → Identifier → ℕ → ℕ → Edition → Tree
tree_of channels conversations processes name names blocks edition = record {
  name = name;
  channels = channels;
  conversations = conversations;
  processes = processes;
  names = names;
  blocks = blocks;
  edition = edition;
}

-- a program, whose numbers are those after its last token
pub made_program : {held name : Identifier} {channels : List ChannelDeclaration} {conversations : List ConversationDeclaration}
    {processes : List ProcessDeclaration} {names blocks : ℕ} {token : Lexeme} {a b : Point} (edition : Edition) → name ≡ held →
    names ≡ b.names → blocks ≡ b.blocks → Advances terminals.Dot token a b →
    tree_with edition held (channels, conversations) processes a.names a.blocks ≡ tree_of channels conversations processes name
    names blocks edition
made_program {channels = channels} {conversations = conversations} {processes = processes} edition n e f dot =
    λ j. tree_of channels conversations processes (sym n j) (sym (e ∙ dot.names) j) (sym (f ∙ dot.blocks) j) edition

-- a recovery block in memory, without a conversation
pub recovery_made : (number : ℕ) (place : Place) (test : Expr) (bound : Number) (alternates : Vec Block Global) →
    recovery_block (roll-Recovery record {
      number = number;
      conversation = None;
      place = place;
      test = test;
      bound = bound;
      alternates = alternates;
    }) ≡ Recovers number None place (expression test) bound (alternates_of alternates.items)
recovery_made number place test bound alternates =
    recovery_out (roll-Recovery record {
      number = number;
      conversation = None;
      place = place;
      test = test;
      bound = bound;
      alternates = alternates;
    }) ∙ ap recovery_layer (out-roll-Recovery record
    { number = number; conversation = None; place = place; test = test; bound = bound; alternates = alternates })
