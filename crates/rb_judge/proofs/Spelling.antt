-- The names and texts of the tree of a source are spelled as its tokens are.
use Rattle.std.proofs.Common.{◌≡◌, ℕ, List, ◌∷◌, sym, subst}
use Rattle.std.specs.List.{AllByRecursion}
use Rattle.std.proofs.lemmas.List.Elements.{All-from_recursion}
use Rattle.rb_base.specs.declared.edition.Edition.{Edition}
use Rattle.rb_base.specs.declared.edition.Edition.TheVariants as editions
use Rattle.rb_base.specs.declared.place.Place.{Place}
use Rattle.rb_lex.specs.Tokens.{Ending, Lexeme, Tokens, edition_of}
use Rattle.rb_grammar.specs.declared.terminal.Terminal.{Terminal}
use Rattle.rb_grammar.specs.Grammar.{Point, Takes, TakesName, TakesText, TakesEnsure, joined, start_of, Derives, first_edition_row, second_edition_row, program_row}
use Rattle.rb_grammar.specs.Grammar.{no_connection_row, channels_row, conversations_row, channel_row, conversation_row}
use Rattle.rb_grammar.specs.Grammar.{processes_row, no_process_row, more_processes_row, process_row}
use Rattle.rb_grammar.specs.Grammar.{no_procedure_row, procedures_row, procedure_row, no_declaration_row, declarations_row, declaration_row, block_row}
use Rattle.rb_grammar.specs.Grammar.{no_statement_row, statements_row, assignment_row, print_row, send_row, receive_row}
use Rattle.rb_grammar.specs.Grammar.{waits_row, never_waits_row, if_row, no_else_row, else_row, while_row, call_row, fail_row}
use Rattle.rb_grammar.specs.Grammar.{recover_row, converse_row, recovery_row, alternates_row, alternate_row, other_alternates_row}
use Rattle.rb_grammar.specs.Grammar.{error_row, items_row, no_item_row, more_items_row, text_row, amount_row}
use Rattle.rb_grammar.specs.Parts.{Part}
use Rattle.rb_grammar.specs.Values.{Value}
use Rattle.rb_grammar.proofs.Numbering.Travels.{travels}
use Rattle.rb_scope.specs.Spelled.{AlternatesSpelled, BodySpelled, CommandSpelled, CommandsSpelled, IsNaming, IsSpelled, OtherwiseSpelled, PrintedSpelled, ProcedureSpelled, ProcessSpelled, RecoverySpelled}
use Rattle.rb_syntax.specs.Tree.{Identifier, Declaration, PrintItem, Body, Scope, RecoveryBlock, Recovers, ChannelDeclaration, ConversationDeclaration, Tree}
use Rattle.rb_meaning.specs.Step.{commands_of}
use Rattle.rb_judge.specs.Laws.{OfEveryAccepted}
use Rattle.rb_judge.proofs.SourceEditions.{in_first, of_second_edition}
use Rattle.rb_judge.proofs.TokensSpelled.{TokenSpelled, name_is, text_is, tokens_spelled}

module _ (edition : Edition) where
  -- the tokens left at a point are spelled
  abbrev Ahead : Point → Type 0
  Ahead a = AllByRecursion (TokenSpelled edition) a.left

  -- they still are at a later one
  record Onward (a b : Point) : Type 0 where
    is : Ahead a → Ahead b

  behind_token : (token : Lexeme) (a b : Point) → a.left ≡ token ∷ b.left → Ahead a → TokenSpelled edition token × Ahead b
  behind_token token a b stands ahead = subst (AllByRecursion (TokenSpelled edition)) stands ahead

  -- behind a token, a name and a part
  past : {terminal : Terminal} {a b : Point} → Takes terminal a b → Ahead a → Ahead b
  past {a = a} {b = b} t ahead = (behind_token t.token a b t.stands ahead).1

  past_name : {name : Identifier} {a b : Point} → TakesName name a b → Ahead a → Ahead b
  past_name {a = a} {b = b} t ahead = (behind_token t.token a b t.stands ahead).1

  past_ensure : {number : ℕ} {place : Place} {a b : Point} → TakesEnsure number place a b → Ahead a → Ahead b
  past_ensure {a = a} {b = b} t ahead = (behind_token t.token a b t.stands ahead).1

  behind : {part : Part} {value : Value part} {a b : Point} → Derives part value a b → Ahead a → Ahead b
  behind d ahead = (travels Onward (λ a. record { is = λ h. h }) (λ a b c r s. record { is = λ h. s.is (r.is h) })
      (λ terminal token a b t. record { is = λ h. (behind_token token a b t.stands h).1 }) d).is ahead

  -- a name and a text are spelled
  naming : {name : Identifier} {a b : Point} → TakesName name a b → Ahead a → IsNaming edition name.text
  naming {a = a} {b = b} t ahead =
      subst (λ (name : Identifier). IsNaming edition name.text) (sym t.is)
      (name_is edition t.token t.fits (behind_token t.token a b t.stands ahead).0)

  quoting : {item : PrintItem} {a b : Point} → TakesText item a b → Ahead a → PrintedSpelled item.what
  quoting {a = a} {b = b} t ahead =
      subst (λ (item : PrintItem). PrintedSpelled item.what) (sym t.is)
      (text_is edition t.token t.fits (behind_token t.token a b t.stands ahead).0)

  -- lists of parts
  abbrev ChannelsSpelled : List ChannelDeclaration → Type 0
  ChannelsSpelled channels = AllByRecursion (λ channel. IsNaming edition channel.name.text) channels

  abbrev ConversationsSpelled : List ConversationDeclaration → Type 0
  ConversationsSpelled conversations = AllByRecursion (λ conversation. IsNaming edition conversation.name.text) conversations

  abbrev VariablesSpelled : List Declaration → Type 0
  VariablesSpelled variables = AllByRecursion (λ variable. IsNaming edition variable.name.text) variables

  abbrev ItemsSpelled : List PrintItem → Type 0
  ItemsSpelled items = AllByRecursion (λ item. PrintedSpelled item.what) items

  -- how each part of a program is spelled; the others hold no text, and no name that is declared
  abbrev PartSpelled : (part : Part) → Value part → Type 0
  PartSpelled Part.Connections v = ChannelsSpelled v.0 × ConversationsSpelled v.1
  PartSpelled Part.Channel v = IsNaming edition v.name.text
  PartSpelled Part.Conversation v = IsNaming edition v.name.text
  PartSpelled (Part.Process _) v = ProcessSpelled edition v
  PartSpelled (Part.Processes _) v = AllByRecursion (ProcessSpelled edition) v
  PartSpelled (Part.MoreProcesses _) v = AllByRecursion (ProcessSpelled edition) v
  PartSpelled (Part.Procedures _) v = AllByRecursion (ProcedureSpelled edition) v
  PartSpelled (Part.Procedure _) v = ProcedureSpelled edition v
  PartSpelled Part.Declarations v = VariablesSpelled v
  PartSpelled Part.Declaration v = IsNaming edition v.name.text
  PartSpelled (Part.Block _) v = BodySpelled v
  PartSpelled (Part.Statements _) v = CommandsSpelled v
  PartSpelled (Part.Statement _) v = CommandSpelled v
  PartSpelled (Part.OptionalElse _) v = OtherwiseSpelled v
  PartSpelled (Part.ReceiptEnd _) v = OtherwiseSpelled v
  PartSpelled (Part.Recovery _) v = RecoverySpelled v
  PartSpelled (Part.Alternates _) v = AlternatesSpelled v
  PartSpelled (Part.Alternate _) v = BodySpelled v
  PartSpelled (Part.OtherAlternates _) v = AlternatesSpelled v
  PartSpelled Part.Items v = ItemsSpelled v
  PartSpelled Part.MoreItems v = ItemsSpelled v
  PartSpelled Part.Item v = PrintedSpelled v.what
  PartSpelled part v = Unit {0}

  commands_spelled : (body : Body) → BodySpelled body → CommandsSpelled (commands_of body)
  commands_spelled (Scope variables commands) h = h

  joined_spelled : (name : Identifier) (block : RecoveryBlock) → RecoverySpelled block → RecoverySpelled (joined name block)
  joined_spelled name (Recovers number conversation place test bound alternates) h = h

  -- where the tokens are, each part that they derive is
  part_spelled : {part : Part} {value : Value part} {a b : Point} → Derives part value a b → Ahead a → PartSpelled part value
  part_spelled no_connection_row h = (tt, tt)
  part_spelled (channels_row d e) h =
      let others = part_spelled e (behind d h) in ((part_spelled d h, others.0), others.1)
  part_spelled (conversations_row d e) h =
      let others = part_spelled e (behind d h) in (others.0, (part_spelled d h, others.1))
  part_spelled (channel_row t n u m v k w d x) h = naming n (past t h)
  part_spelled (conversation_row t n u d v w) h = naming n (past t h)
  part_spelled (processes_row d e) h = (part_spelled d h, part_spelled e (behind d h))
  part_spelled no_process_row h = tt
  part_spelled (more_processes_row d e) h = (part_spelled d h, part_spelled e (behind d h))
  part_spelled (process_row {variables = variables} {procedures = procedures} t n u d e f v) h =
      let named = past t h in
      let inside = past u (past_name n named) in
      let later = behind d inside in record {
        name = naming n named;
        variables = All-from_recursion (λ (variable : Declaration). IsNaming edition variable.name.text) variables (part_spelled d inside);
        procedures = All-from_recursion (ProcedureSpelled edition) procedures (part_spelled e later);
        commands = part_spelled f (behind e later);
      }
  part_spelled no_procedure_row h = tt
  part_spelled (procedures_row d e) h = (part_spelled d h, part_spelled e (behind d h))
  part_spelled (procedure_row {body = body} t n u d v e) h =
      let named = past t h in record {
        name = naming n named;
        commands = commands_spelled body (part_spelled e (past v (behind d (past u (past_name n named)))));
      }
  part_spelled no_declaration_row h = tt
  part_spelled (declarations_row d e) h = (part_spelled d h, part_spelled e (behind d h))
  part_spelled (declaration_row t n d u) h = naming n (past t h)
  part_spelled (block_row t d e u) h = part_spelled e (behind d (past t h))
  part_spelled no_statement_row h = tt
  part_spelled (statements_row d e) h = (part_spelled d h, part_spelled e (behind d h))
  part_spelled (assignment_row d t e u) h = tt
  part_spelled (print_row {items = items} t d u) h =
      All-from_recursion (λ (item : PrintItem). PrintedSpelled item.what) items (part_spelled d (past t h))
  part_spelled (send_row t n d u) h = tt
  part_spelled (receive_row t n d e) h = part_spelled e (behind d (past_name n (past t h)))
  part_spelled (waits_row t) h = tt
  part_spelled (never_waits_row t d) h = part_spelled d (past t h)
  part_spelled (if_row t d e f) h =
      let inside = behind d (past t h) in (part_spelled e inside, part_spelled f (behind e inside))
  part_spelled no_else_row h = tt
  part_spelled (else_row t d) h = part_spelled d (past t h)
  part_spelled (while_row t d e) h = part_spelled e (behind d (past t h))
  part_spelled (call_row t n u d v w) h = tt
  part_spelled (fail_row t u) h = tt
  part_spelled (recover_row d) h = part_spelled d h
  part_spelled (converse_row {conversation = name} {block = block} t n d) h =
      joined_spelled name block (part_spelled d (past_name n (past t h)))
  part_spelled (recovery_row m d t e f) h = part_spelled f (behind e (past t (behind d (past_ensure m h))))
  part_spelled (alternates_row d e) h = (part_spelled d h, part_spelled e (behind d h))
  part_spelled (alternate_row t d u) h = part_spelled d (past t h)
  part_spelled (other_alternates_row d e) h = (part_spelled d h, part_spelled e (behind d h))
  part_spelled (error_row t u) h = tt
  part_spelled (items_row d e) h = (part_spelled d h, part_spelled e (behind d h))
  part_spelled no_item_row h = tt
  part_spelled (more_items_row t d e) h =
      let inside = past t h in (part_spelled d inside, part_spelled e (behind d inside))
  part_spelled (text_row t) h = quoting t h
  part_spelled (amount_row s d) h = tt
  part_spelled _ h = tt

-- so is a whole tree, where the tokens are spelled as in its edition
tree_spelled : {edition : Edition} {tree : Tree} {a b : Point} → Derives (Part.Unmarked edition) tree a b → Ahead edition a → IsSpelled tree
tree_spelled {edition = edition} (program_row {connections = connections} {processes = processes} t n u d e v w) h =
    let inside = past edition u (past_name edition n (past edition t h)) in
    let both = part_spelled edition d inside in record {
      channels = All-from_recursion (λ (channel : ChannelDeclaration). IsNaming edition channel.name.text) connections.0 both.0;
      conversations =
          All-from_recursion (λ (conversation : ConversationDeclaration). IsNaming edition conversation.name.text) connections.1 both.1;
      processes = All-from_recursion (ProcessSpelled edition) processes (part_spelled edition e (behind edition d inside));
    }

-- a source of the second edition begins with the word for it
source_spelled : {source : List ℕ} {tree : Tree} {tokens : List Lexeme} {ending : Ending} {end : Point} → Tokens source tokens ending
    → Derives Part.Program tree (start_of tokens) end → IsSpelled tree
source_spelled {source = source} cut (first_edition_row d) = tree_spelled d (in_first (edition_of source) _ (tokens_spelled cut))
source_spelled {source = source} {tokens = tokens} cut (second_edition_row t u v d) =
    let edition = editions.Second in
    let ahead = subst (λ (e : Edition). AllByRecursion (TokenSpelled e) tokens) (of_second_edition cut t) (tokens_spelled cut) in
    tree_spelled d (past edition v (past edition u (past edition t ahead)))

pub accepted_are_spelled : OfEveryAccepted IsSpelled
accepted_are_spelled source tree a = source_spelled a.derived.cut a.derived.derived.derived
