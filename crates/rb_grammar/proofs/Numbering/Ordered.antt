-- What is told of a tree from left to right is what is told of its tokens, with its channels and conversations as the text
-- mixes them; of names and of recovery blocks alike.
use Rattle.std.proofs.Common.{◌≡◌, ℕ, false, List, [], ◌∷◌, Some, refl, sym, ap, ap₂, ◌∙◌}
use Rattle.rb_base.specs.declared.place.Place.{Place}
use Rattle.rb_lex.specs.Tokens.{Lexeme}
use Rattle.rb_base.specs.declared.edition.Edition.{Edition}
use Rattle.rb_grammar.specs.declared.terminal.Terminal.{Terminal}
use Rattle.rb_grammar.specs.declared.terminal.Terminal.TheVariants as terminals
use Rattle.rb_grammar.specs.Grammar.{Point, Takes, TakesName, TakesEnsure, chain, joined, Derives, first_edition_row}
use Rattle.rb_grammar.specs.Grammar.{second_edition_row, program_row, no_connection_row, channels_row, conversations_row}
use Rattle.rb_grammar.specs.Grammar.{channel_row, conversation_row, names_row, no_name_row, more_names_row, processes_row}
use Rattle.rb_grammar.specs.Grammar.{no_process_row, more_processes_row, process_row, no_procedure_row, procedures_row}
use Rattle.rb_grammar.specs.Grammar.{procedure_row, no_parameter_row, parameters_row, no_declaration_row, declarations_row}
use Rattle.rb_grammar.specs.Grammar.{declaration_row, no_size_row, size_row, block_row, no_statement_row, statements_row}
use Rattle.rb_grammar.specs.Grammar.{assignment_row, print_row, send_row, receive_row, waits_row, never_waits_row, if_row}
use Rattle.rb_grammar.specs.Grammar.{no_else_row, else_row, while_row, call_row, fail_row, recover_row, converse_row}
use Rattle.rb_grammar.specs.Grammar.{recovery_row, alternates_row, alternate_row, other_alternates_row, error_row, items_row}
use Rattle.rb_grammar.specs.Grammar.{no_item_row, more_items_row, text_row, amount_row, no_argument_row, arguments_row}
use Rattle.rb_grammar.specs.Grammar.{expressions_row, no_more_expression_row, more_expressions_row, expression_row}
use Rattle.rb_grammar.specs.Grammar.{quantified_row, chain_row, no_link_row, links_row, disjunct_row, conjunct_row, term_row}
use Rattle.rb_grammar.specs.Grammar.{factor_row, not_row, no_not_row, comparison_row, not_compared_row, compared_row, minus_row}
use Rattle.rb_grammar.specs.Grammar.{no_minus_row, literal_row, variable_row, prior_row, brackets_row, place_row}
use Rattle.rb_grammar.specs.Grammar.{no_subscript_row, subscript_row, number_row}
use Rattle.rb_grammar.specs.Machine.{names_after, blocks_after, Advances}
use Rattle.rb_grammar.specs.Order.{Telling, each, expression_told, reference_told, subscript_told, links_told, declaration_told}
use Rattle.rb_grammar.specs.Order.{item_told, command_told, commands_told, body_told, otherwise_told, recovery_told}
use Rattle.rb_grammar.specs.Order.{alternates_told, channel_told, conversation_told, procedure_told, process_told, Connection}
use Rattle.rb_grammar.specs.Order.{AChannel, AConversation, channels_among, conversations_among, connection_told, token_told}
use Rattle.rb_grammar.specs.Order.{told_from}
use Rattle.rb_grammar.specs.Parts.{Part}
use Rattle.rb_grammar.specs.Values.{Value}
use Rattle.rb_grammar.proofs.Numbering.Steps.{is_numbered, Passes, advances, ensure_taken, passes, passes_number, passes_text, passes_operator, passes_comparison, passes_quantifier, Tells, then, nothing, put}
use Rattle.rb_grammar.proofs.Takes.{name_taken}
use Rattle.rb_syntax.specs.Tree.{Identifier, Expression, Links, NoLink, Linked, RecoveryBlock, ChannelDeclaration, ConversationDeclaration}

-- what is told from a point on
abbrev pub told_at : {A : Type 0} → Telling A → Point → List A
told_at telling a = told_from telling a.names a.blocks a.left

-- channels and conversations as the text mixes them, with f before and g behind
pub record Mixes {A : Type 0} (telling : Telling A) (channels : List ChannelDeclaration)
    (conversations : List ConversationDeclaration) (f g : List A → List A) (a b : Point) : Type 0 where
  pub all : List Connection
  pub are_channels : channels_among all ≡ channels
  pub are_conversations : conversations_among all ≡ conversations
  pub told : Tells (told_at telling) (λ rest. f (each (connection_told telling) all (g rest))) a b

-- what is told at a point, by the token that stands there
pub first_told : {A : Type 0} (telling : Telling A) (terminal : Terminal) (token : Lexeme) (a b : Point) →
    Advances terminal token a b → told_at telling a ≡ token_told telling (Some terminal) token a.names a.blocks
    (told_at telling b)
first_told telling terminal token a b h =
    ap (λ left. told_from telling a.names a.blocks left) h.stands
    ∙ ap (λ first. token_told telling first token a.names a.blocks
    (told_from telling (names_after first a.names) (blocks_after first a.blocks) b.left)) h.is
    ∙ ap₂ (λ n m. token_told telling (Some terminal) token a.names a.blocks (told_from telling n m b.left)) (sym h.names) (sym h.blocks)

-- one telling
module _ {A : Type 0} (telling : Telling A) where
  -- a part behind channels and conversations, and then the rest
  abbrev of : (part : Part) → Value part → List A → List A
  of Part.Channel v rest = channel_told telling v rest
  of Part.Conversation v rest = conversation_told telling v rest
  of Part.Names v rest = each telling.name v rest
  of Part.MoreNames v rest = each telling.name v rest
  of (Part.Process edition) v rest = process_told telling v rest
  of (Part.Processes edition) v rest = each (process_told telling) v rest
  of (Part.MoreProcesses edition) v rest = each (process_told telling) v rest
  of (Part.Procedures edition) v rest = each (procedure_told telling) v rest
  of (Part.Procedure edition) v rest = procedure_told telling v rest
  of Part.Parameters v rest = each telling.name v rest
  of Part.Declarations v rest = each (declaration_told telling) v rest
  of Part.Declaration v rest = declaration_told telling v rest
  of (Part.Block edition) v rest = body_told telling v rest
  of (Part.Statements edition) v rest = commands_told telling v rest
  of (Part.Statement edition) v rest = command_told telling v rest
  of (Part.OptionalElse edition) v rest = otherwise_told telling v rest
  of (Part.ReceiptEnd edition) v rest = otherwise_told telling v rest
  of (Part.Recovery edition) v rest = recovery_told telling v rest
  of (Part.Alternates edition) v rest = alternates_told telling v rest
  of (Part.Alternate edition) v rest = body_told telling v rest
  of (Part.OtherAlternates edition) v rest = alternates_told telling v rest
  of Part.Items v rest = each (item_told telling) v rest
  of Part.MoreItems v rest = each (item_told telling) v rest
  of Part.Item v rest = item_told telling v rest
  of Part.Arguments v rest = each (expression_told telling) v rest
  of Part.Expressions v rest = each (expression_told telling) v rest
  of Part.MoreExpressions v rest = each (expression_told telling) v rest
  of Part.Expression v rest = expression_told telling v rest
  of (Part.Chain level) v rest = expression_told telling v rest
  of (Part.Links level) v rest = links_told telling v rest
  of (Part.Operand level) v rest = expression_told telling v rest
  of Part.Negation v rest = expression_told telling v rest
  of Part.Comparison v rest = expression_told telling v rest
  of Part.Compared v rest = links_told telling v rest
  of Part.Factor v rest = expression_told telling v rest
  of Part.Atom v rest = expression_told telling v rest
  of Part.Place v rest = reference_told telling v rest
  of Part.Subscript v rest = subscript_told telling v rest
  of _ v rest = rest

  -- what is told from one point to another is what is told of a part
  abbrev pub Ordered : (part : Part) → Value part → Point → Point → Type 0
  Ordered Part.Program v a b = Mixes telling v.channels v.conversations (telling.name v.name) (each (process_told telling) v.processes) a b
  Ordered (Part.Unmarked edition) v a b =
      Mixes telling v.channels v.conversations (telling.name v.name) (each (process_told telling) v.processes) a b
  Ordered Part.Connections v a b = Mixes telling v.0 v.1 (λ rest. rest) (λ rest. rest) a b
  Ordered part v a b = Tells (told_at telling) (of part v) a b

  nothing_added : (terminal : Terminal) (token : Lexeme) (n m : ℕ) (rest : List A) → is_numbered terminal ≡ false →
      token_told telling (Some terminal) token n m rest ≡ rest
  nothing_added terminals.Name token n m rest e = absurd cc
  nothing_added terminals.Ensure token n m rest e = absurd cc
  nothing_added _ token n m rest e = refl

  -- any token but a name and `ensure` is passed
  over : {a b : Point} → Passes a b → Tells (told_at telling) (λ rest. rest) a b
  over {a} {b} t = record {
    is = first_told telling t.terminal t.token a b (advances t)
        ∙ nothing_added t.terminal t.token a.names a.blocks (told_at telling b) t.plain;
  }

  past : {terminal : Terminal} {a b : Point} → Takes terminal a b → is_numbered terminal ≡ false → Tells (told_at telling) (λ rest. rest) a b
  past t e = over (passes t e)

  -- a name is told first
  takes : {name : Identifier} {a b : Point} → TakesName name a b → Tells (told_at telling) (telling.name name) a b
  takes {name} {a} {b} t = record {
    is = first_told telling terminals.Name t.token a b (name_taken t)
        ∙ ap (λ first. telling.name first (told_at telling b)) (sym t.is);
  }

  -- and so is a recovery block, at its word `ensure`
  takes_ensure : {number : ℕ} {place : Place} {a b : Point} → TakesEnsure number place a b →
      Tells (told_at telling) (telling.recovery number place) a b
  takes_ensure {number} {place} {a} {b} t = record {
    is = first_told telling terminals.Ensure t.token a b (ensure_taken t)
        ∙ ap (λ n. telling.recovery n t.token.place (told_at telling b)) (sym t.is)
        ∙ ap (λ p. telling.recovery number p (told_at telling b)) (sym t.at);
  }

  chain_told : (first : Expression) (links : Links) (rest : List A) →
      expression_told telling first (links_told telling links rest) ≡ expression_told telling (chain first links) rest
  chain_told first NoLink rest = refl
  chain_told first (Linked op right links) rest = refl

  -- a recovery that a row derives has no conversation of its own, so the one that it joins comes first
  joined_told : {edition : Edition} {block : RecoveryBlock} {a b : Point} → Derives (Part.Recovery edition) block a b →
      (name : Identifier) (rest : List A) → telling.name name (recovery_told telling block rest) ≡ recovery_told telling
      (joined name block) rest
  joined_told (recovery_row t d u e f) name rest = refl

  -- one channel more
  channel_first : (first : ChannelDeclaration) {channels : List ChannelDeclaration} {conversations : List ConversationDeclaration}
      {a b c : Point} → Tells (told_at telling) (channel_told telling first) a b →
      Mixes telling channels conversations (λ rest. rest) (λ rest. rest) b c →
      Mixes telling (first ∷ channels) conversations (λ rest. rest) (λ rest. rest) a c
  channel_first first t m = record {
    all = AChannel first ∷ m.all;
    are_channels = ap (λ others. first ∷ others) m.are_channels;
    are_conversations = m.are_conversations;
    told = then t m.told;
  }

  -- one conversation more
  conversation_first : (first : ConversationDeclaration) {channels : List ChannelDeclaration}
      {conversations : List ConversationDeclaration} {a b c : Point} →
      Tells (told_at telling) (conversation_told telling first) a b →
      Mixes telling channels conversations (λ rest. rest) (λ rest. rest) b c →
      Mixes telling channels (first ∷ conversations) (λ rest. rest) (λ rest. rest) a c
  conversation_first first t m = record {
    all = AConversation first ∷ m.all;
    are_channels = m.are_channels;
    are_conversations = ap (λ others. first ∷ others) m.are_conversations;
    told = then t m.told;
  }

  -- what stands before and behind them
  whole : {channels : List ChannelDeclaration} {conversations : List ConversationDeclaration} {f g : List A → List A}
      {a b c d : Point} → Tells (told_at telling) f a b → Mixes telling channels conversations (λ rest. rest) (λ rest. rest) b c →
      Tells (told_at telling) g c d → Mixes telling channels conversations f g a d
  whole s m t = record {
    all = m.all;
    are_channels = m.are_channels;
    are_conversations = m.are_conversations;
    told = then s (then m.told t);
  }

  -- tokens that are neither before a program
  behind : {channels : List ChannelDeclaration} {conversations : List ConversationDeclaration} {f g : List A → List A}
      {a b c : Point} → Tells (told_at telling) (λ rest. rest) a b → Mixes telling channels conversations f g b c →
      Mixes telling channels conversations f g a c
  behind s m = record { all = m.all; are_channels = m.are_channels; are_conversations = m.are_conversations; told = then s m.told }

  pub ordered : {part : Part} {value : Value part} {a b : Point} → Derives part value a b → Ordered part value a b
  ordered (first_edition_row d) = ordered d
  ordered (second_edition_row t u v d) = behind (then (past t refl) (then (past u refl) (past v refl))) (ordered d)
  ordered (program_row t n u d e v w) = whole (then (past t refl) (then (takes n) (past u refl))) (ordered d)
      (then (ordered e) (then (past v refl) (past w refl)))
  ordered no_connection_row = record { all = []; are_channels = refl; are_conversations = refl; told = nothing }
  ordered (channels_row {first = first} d e) = channel_first first (ordered d) (ordered e)
  ordered (conversations_row {first = first} d e) = conversation_first first (ordered d) (ordered e)
  ordered (channel_row t n u m v k w d x) = then (past t refl)
      (then (takes n) (then (past u refl) (then (takes m) (then (past v refl)
      (then (takes k) (then (past w refl) (then (ordered d) (past x refl))))))))
  ordered (conversation_row t n u d v w) = then (past t refl)
      (then (takes n) (then (past u refl) (then (ordered d) (then (past v refl) (past w refl)))))
  ordered (names_row n d) = then (takes n) (ordered d)
  ordered no_name_row = nothing
  ordered (more_names_row t n d) = then (past t refl) (then (takes n) (ordered d))
  ordered (processes_row d e) = then (ordered d) (ordered e)
  ordered no_process_row = nothing
  ordered (more_processes_row d e) = then (ordered d) (ordered e)
  ordered (process_row t n u d e f v) = then (past t refl) (then (takes n)
      (then (past u refl) (then (ordered d) (then (ordered e) (then (ordered f) (past v refl))))))
  ordered no_procedure_row = nothing
  ordered (procedures_row d e) = then (ordered d) (ordered e)
  ordered (procedure_row t n u d v e) = then (past t refl) (then (takes n) (then (past u refl) (then (ordered d) (then (past v refl) (ordered e)))))
  ordered no_parameter_row = nothing
  ordered (parameters_row d) = ordered d
  ordered no_declaration_row = nothing
  ordered (declarations_row d e) = then (ordered d) (ordered e)
  ordered (declaration_row t n d u) = then (past t refl) (then (takes n) (then (ordered d) (past u refl)))
  ordered no_size_row = nothing
  ordered (size_row t d u) = then (past t refl) (then (ordered d) (past u refl))
  ordered (block_row t d e u) = then (past t refl) (then (ordered d) (then (ordered e) (past u refl)))
  ordered no_statement_row = nothing
  ordered (statements_row d e) = then (ordered d) (ordered e)
  ordered (assignment_row d t e u) = then (ordered d) (then (past t refl) (then (ordered e) (past u refl)))
  ordered (print_row t d u) = then (past t refl) (then (ordered d) (past u refl))
  ordered (send_row t n d u) = then (past t refl) (then (takes n) (then (ordered d) (past u refl)))
  ordered (receive_row t n d e) = then (past t refl) (then (takes n) (then (ordered d) (ordered e)))
  ordered (waits_row t) = past t refl
  ordered (never_waits_row t d) = then (past t refl) (ordered d)
  ordered (if_row t d e f) = then (past t refl) (then (ordered d) (then (ordered e) (ordered f)))
  ordered no_else_row = nothing
  ordered (else_row t d) = then (past t refl) (ordered d)
  ordered (while_row t d e) = then (past t refl) (then (ordered d) (ordered e))
  ordered (call_row t n u d v w) = then (past t refl) (then (takes n) (then (past u refl) (then (ordered d) (then (past v refl) (past w refl)))))
  ordered (fail_row t u) = then (past t refl) (past u refl)
  ordered (recover_row d) = ordered d
  ordered (converse_row {conversation = name} t n d) =
      put (joined_told d name) (then (past t refl) (then (takes n) (ordered d)))
  ordered (recovery_row m d t e f) = then (takes_ensure m) (then (ordered d) (then (past t refl) (then (ordered e) (ordered f))))
  ordered (alternates_row d e) = then (ordered d) (ordered e)
  ordered (alternate_row t d u) = then (past t refl) (then (ordered d) (past u refl))
  ordered (other_alternates_row d e) = then (ordered d) (ordered e)
  ordered (error_row t u) = then (past t refl) (past u refl)
  ordered (items_row d e) = then (ordered d) (ordered e)
  ordered no_item_row = nothing
  ordered (more_items_row t d e) = then (past t refl) (then (ordered d) (ordered e))
  ordered (text_row t) = put (λ rest. ap (λ item. item_told telling item rest) (sym t.is)) (over (passes_text t))
  ordered (amount_row s d) = ordered d
  ordered no_argument_row = nothing
  ordered (arguments_row d) = ordered d
  ordered (expressions_row d e) = then (ordered d) (ordered e)
  ordered no_more_expression_row = nothing
  ordered (more_expressions_row t d e) = then (past t refl) (then (ordered d) (ordered e))
  ordered (expression_row d) = ordered d
  ordered (quantified_row q n t d u e v f) = then (over (passes_quantifier q))
      (then (takes n) (then (past t refl) (then (ordered d) (then (past u refl)
      (then (ordered e) (then (past v refl) (ordered f)))))))
  ordered (chain_row {first = first} {links = links} d e) = put (chain_told first links) (then (ordered d) (ordered e))
  ordered no_link_row = nothing
  ordered (links_row o d e) = then (over (passes_operator o)) (then (ordered d) (ordered e))
  ordered (disjunct_row d) = ordered d
  ordered (conjunct_row d) = ordered d
  ordered (term_row d) = ordered d
  ordered (factor_row d) = ordered d
  ordered (not_row t d) = then (past t refl) (ordered d)
  ordered (no_not_row d) = ordered d
  ordered (comparison_row {left = left} {links = links} d e) = put (chain_told left links) (then (ordered d) (ordered e))
  ordered not_compared_row = nothing
  ordered (compared_row o d) = then (over (passes_comparison o)) (ordered d)
  ordered (minus_row t d) = then (past t refl) (ordered d)
  ordered (no_minus_row d) = ordered d
  ordered (literal_row d) = ordered d
  ordered (variable_row d) = ordered d
  ordered (prior_row w d) = then (past w.takes refl) (ordered d)
  ordered (brackets_row t d u) = then (past t refl) (then (ordered d) (past u refl))
  ordered (place_row n d) = then (takes n) (ordered d)
  ordered no_subscript_row = nothing
  ordered (subscript_row t d u) = then (past t refl) (then (ordered d) (past u refl))
  ordered (number_row i) = over (passes_number i)
