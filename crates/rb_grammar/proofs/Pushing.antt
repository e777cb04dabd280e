-- What stands in a vector, as the plan sees it that still wants the rest.
use Rattle.std.proofs.Common.{◌≡◌, ◌==◌, false, List, [], ◌∷◌, ◌++◌, length, map, None, refl, sym, ap, ◌∙◌}
use Rattle.rb_base.specs.declared.edition.Edition.{Edition}
use Rattle.rb_grammar.specs.declared.level.Level.{Level}
use Rattle.rb_grammar.specs.Grammar.{Point, chain}
use Rattle.rb_grammar.specs.Machine.{Reads, look}
use Rattle.rb_grammar.specs.Parts.{Part}
use Rattle.rb_grammar.specs.Plans.{Plan, Done, Call}
use Rattle.rb_grammar.specs.Table.{start}
use Rattle.rb_grammar.proofs.Reaching.{Reaches, unread, within, by_part, complete, same_rest, same_value, passes}
use Rattle.rb_syntax.proofs.Append.{links_push, links_append_none, commands_push, commands_append_none, alternates_push, alternates_append_none}
use Rattle.rb_syntax.specs.Append.{links_append, commands_append, alternates_append}
use Rattle.rb_syntax.specs.declared.expression.Expr.{Expr}
use Rattle.rb_syntax.specs.declared.expression.Link.{Link}
use Rattle.rb_syntax.specs.declared.expression.Name.{Name}
use Rattle.rb_syntax.specs.declared.program.Channel.{Channel}
use Rattle.rb_syntax.specs.declared.program.Conversation.{Conversation}
use Rattle.rb_syntax.specs.declared.program.Procedure.{Procedure}
use Rattle.rb_syntax.specs.declared.program.Process.{Process}
use Rattle.rb_syntax.specs.declared.statement.Block.{Block}
use Rattle.rb_syntax.specs.declared.statement.Item.{Item}
use Rattle.rb_syntax.specs.declared.statement.Statement.{Statement}
use Rattle.rb_syntax.specs.declared.statement.Var.{Var}
use Rattle.rb_syntax.specs.Plain.{expression, links_of, command, commands_of, body, alternates_of, identifier, declaration}
use Rattle.rb_syntax.specs.Plain.{print_item, channel_declaration, conversation_declaration, procedure_declaration}
use Rattle.rb_syntax.specs.Plain.{process_declaration}
use Rattle.rb_syntax.specs.Tree.{Identifier, Expression, Chained, Links, NoLink, Linked, Commands, NoCommand, Then, Alternates}
use Rattle.rb_syntax.specs.Tree.{NoAlternate, Alternate, Declaration, PrintItem, ChannelDeclaration, ConversationDeclaration}
use Rattle.rb_syntax.specs.Tree.{ProcedureDeclaration, ProcessDeclaration}

pub chain_links : (first : Expression) (xs : List Link) → (length xs == 0) ≡ false → chain first (links_of xs) ≡ Chained first (links_of xs)
chain_links first [] e = absurd cc
chain_links first (x ∷ xs) e = refl

-- one more, with what is still to come
pub map_push : {A B : Type 0} (f : A → B) (xs : List A) (x : A) (after : List B) → map f xs ++ (f x ∷ after) ≡ map f (xs ++ (x ∷ [])) ++ after
map_push f [] x after = refl
map_push f (y ∷ xs) x after = ap (λ rest. f y ∷ rest) (map_push f xs x after)

pub append_none : {A : Type 0} (xs : List A) → xs ++ [] ≡ xs
append_none [] = refl
append_none (x ∷ xs) = ap (λ rest. x ∷ rest) (append_none xs)

abbrev pub after_links : List Link → Links → Plan (Links)
after_links held others = Done (links_append (links_of held) others)

pub links_init : (level : Level) (held : List Link) (a : Point) → held ≡ [] →
    Reaches (Part.Links level) a (Call (Part.Links level) (after_links held)) a
links_init level held a e =
    same_rest (Part.Links level) (λ others. Done others) (after_links held) (λ others. ap (λ xs. after_links xs others) (sym e))
    (unread (Part.Links level) a)

pub links_step : (level : Level) {a b c : Point} (held later : List Link) (x : Link) → later ≡ held ++ (x ∷ []) →
    Reaches (Part.Links level) a (Call (Part.Links level) (after_links held)) b →
    Reaches (Part.Links level) b (Call (Part.Links level) (λ others. Done (Linked x.op (expression x.right) others))) c →
    Reaches (Part.Links level) a (Call (Part.Links level) (after_links later)) c
links_step level held later x e r s =
    same_rest (Part.Links level) (λ others. after_links held (Linked x.op (expression x.right) others)) (after_links later)
    (λ others. ap Done (sym (links_push held x others)) ∙ ap (λ xs. after_links xs others) (sym e)) (within r s)

pub links_end : (level : Level) {a b : Point} (held : List Link) →
    Reaches (Part.Links level) a (Call (Part.Links level) (after_links held)) b → start (Part.Links level) (look b.left) ≡ None →
    Reads (Part.Links level) ((links_of held)) a b
links_end level {b = b} held r e =
    same_value (links_append_none (links_of held)) (complete (by_part r (passes NoLink b e refl)))

abbrev pub after_statements : List Statement → Commands → Plan (Commands)
after_statements held others = Done (commands_append (commands_of held) others)

pub statements_init : (edition : Edition) (held : List Statement) (a : Point) → held ≡ [] →
    Reaches (Part.Statements edition) a (Call (Part.Statements edition) (after_statements held)) a
statements_init edition held a e =
    same_rest (Part.Statements edition) (λ others. Done others) (after_statements held)
    (λ others. ap (λ xs. after_statements xs others) (sym e)) (unread (Part.Statements edition) a)

pub statements_step : (edition : Edition) {a b c : Point} (held later : List Statement) (x : Statement) →
    later ≡ held ++ (x ∷ []) → Reaches (Part.Statements edition) a (Call (Part.Statements edition) (after_statements held)) b →
    Reaches (Part.Statements edition) b (Call (Part.Statements edition) (λ others. Done (Then (command x) others))) c →
    Reaches (Part.Statements edition) a (Call (Part.Statements edition) (after_statements later)) c
statements_step edition held later x e r s =
    same_rest (Part.Statements edition) (λ others. after_statements held (Then (command x) others)) (after_statements later)
    (λ others. ap Done (sym (commands_push held x others)) ∙ ap (λ xs. after_statements xs others) (sym e)) (within r s)

pub statements_end : (edition : Edition) {a b : Point} (held : List Statement) →
    Reaches (Part.Statements edition) a (Call (Part.Statements edition) (after_statements held)) b →
    start (Part.Statements edition) (look b.left) ≡ None → Reads (Part.Statements edition) ((commands_of held)) a b
statements_end edition {b = b} held r e =
    same_value (commands_append_none (commands_of held)) (complete (by_part r (passes NoCommand b e refl)))

abbrev pub after_vars : List Var → List Declaration → Plan (List Declaration)
after_vars held others = Done (map declaration held ++ others)

pub vars_init : (held : List Var) (a : Point) → held ≡ [] → Reaches Part.Declarations a (Call Part.Declarations (after_vars held)) a
vars_init held a e =
    same_rest Part.Declarations (λ others. Done others) (after_vars held) (λ others. ap (λ xs. after_vars xs others) (sym e))
    (unread Part.Declarations a)

pub vars_step : {a b c : Point} (held later : List Var) (x : Var) → later ≡ held ++ (x ∷ []) →
    Reaches Part.Declarations a (Call Part.Declarations (after_vars held)) b →
    Reaches Part.Declarations b (Call Part.Declarations (λ others. Done (declaration x ∷ others))) c →
    Reaches Part.Declarations a (Call Part.Declarations (after_vars later)) c
vars_step held later x e r s =
    same_rest Part.Declarations (λ others. after_vars held (declaration x ∷ others)) (after_vars later)
    (λ others. ap Done (map_push declaration held x others) ∙ ap (λ xs. after_vars xs others) (sym e)) (within r s)

pub vars_end : {a b : Point} (held : List Var) → Reaches Part.Declarations a (Call Part.Declarations (after_vars held)) b →
    start Part.Declarations (look b.left) ≡ None → Reads Part.Declarations (map declaration held) a b
vars_end {b = b} held r e =
    same_value (append_none (map declaration held)) (complete (by_part r (passes [] b e refl)))

abbrev pub after_procedures : List Procedure → List ProcedureDeclaration → Plan (List ProcedureDeclaration)
after_procedures held others = Done (map procedure_declaration held ++ others)

pub procedures_init : (edition : Edition) (held : List Procedure) (a : Point) → held ≡ [] →
    Reaches (Part.Procedures edition) a (Call (Part.Procedures edition) (after_procedures held)) a
procedures_init edition held a e =
    same_rest (Part.Procedures edition) (λ others. Done others) (after_procedures held)
    (λ others. ap (λ xs. after_procedures xs others) (sym e)) (unread (Part.Procedures edition) a)

pub procedures_step : (edition : Edition) {a b c : Point} (held later : List Procedure) (x : Procedure) →
    later ≡ held ++ (x ∷ []) → Reaches (Part.Procedures edition) a (Call (Part.Procedures edition) (after_procedures held)) b →
    Reaches (Part.Procedures edition) b (Call (Part.Procedures edition) (λ others. Done (procedure_declaration x ∷ others))) c →
    Reaches (Part.Procedures edition) a (Call (Part.Procedures edition) (after_procedures later)) c
procedures_step edition held later x e r s =
    same_rest (Part.Procedures edition) (λ others. after_procedures held (procedure_declaration x ∷ others))
    (after_procedures later) (λ others. ap Done (map_push procedure_declaration held x others) ∙ ap
    (λ xs. after_procedures xs others) (sym e)) (within r s)

pub procedures_end : (edition : Edition) {a b : Point} (held : List Procedure) →
    Reaches (Part.Procedures edition) a (Call (Part.Procedures edition) (after_procedures held)) b →
    start (Part.Procedures edition) (look b.left) ≡ None → Reads (Part.Procedures edition) (map procedure_declaration held) a b
procedures_end edition {b = b} held r e =
    same_value (append_none (map procedure_declaration held)) (complete (by_part r (passes [] b e refl)))

abbrev pub after_items : List Item → List PrintItem → Plan (List PrintItem)
after_items held others = Done (map print_item held ++ others)

pub items_init : {a b : Point} (held later : List Item) (x : Item) → held ≡ [] → later ≡ held ++ (x ∷ []) →
    Reaches Part.Items a (Call Part.MoreItems (λ others. Done (print_item x ∷ others))) b →
    Reaches Part.Items a (Call Part.MoreItems (after_items later)) b
items_init held later x none e r =
    same_rest Part.MoreItems (λ others. Done (print_item x ∷ others)) (after_items later)
    (λ others. ap (λ xs. after_items (xs ++ (x ∷ [])) others) (sym none) ∙ ap (λ xs. after_items xs others) (sym e)) r

pub items_step : {a b c : Point} (held later : List Item) (x : Item) → later ≡ held ++ (x ∷ []) →
    Reaches Part.Items a (Call Part.MoreItems (after_items held)) b →
    Reaches Part.MoreItems b (Call Part.MoreItems (λ others. Done (print_item x ∷ others))) c →
    Reaches Part.Items a (Call Part.MoreItems (after_items later)) c
items_step held later x e r s =
    same_rest Part.MoreItems (λ others. after_items held (print_item x ∷ others)) (after_items later)
    (λ others. ap Done (map_push print_item held x others) ∙ ap (λ xs. after_items xs others) (sym e)) (within r s)

pub items_end : {a b : Point} (held : List Item) → Reaches Part.Items a (Call Part.MoreItems (after_items held)) b →
    start Part.MoreItems (look b.left) ≡ None → Reads Part.Items (map print_item held) a b
items_end {b = b} held r e =
    same_value (append_none (map print_item held)) (complete (by_part r (passes [] b e refl)))

abbrev pub after_names : List Name → List Identifier → Plan (List Identifier)
after_names held others = Done (map identifier held ++ others)

pub names_init : {a b : Point} (held later : List Name) (x : Name) → held ≡ [] → later ≡ held ++ (x ∷ []) →
    Reaches Part.Names a (Call Part.MoreNames (λ others. Done (identifier x ∷ others))) b →
    Reaches Part.Names a (Call Part.MoreNames (after_names later)) b
names_init held later x none e r =
    same_rest Part.MoreNames (λ others. Done (identifier x ∷ others)) (after_names later)
    (λ others. ap (λ xs. after_names (xs ++ (x ∷ [])) others) (sym none) ∙ ap (λ xs. after_names xs others) (sym e)) r

pub names_step : {a b c : Point} (held later : List Name) (x : Name) → later ≡ held ++ (x ∷ []) →
    Reaches Part.Names a (Call Part.MoreNames (after_names held)) b →
    Reaches Part.MoreNames b (Call Part.MoreNames (λ others. Done (identifier x ∷ others))) c →
    Reaches Part.Names a (Call Part.MoreNames (after_names later)) c
names_step held later x e r s =
    same_rest Part.MoreNames (λ others. after_names held (identifier x ∷ others)) (after_names later)
    (λ others. ap Done (map_push identifier held x others) ∙ ap (λ xs. after_names xs others) (sym e)) (within r s)

pub names_end : {a b : Point} (held : List Name) → Reaches Part.Names a (Call Part.MoreNames (after_names held)) b →
    start Part.MoreNames (look b.left) ≡ None → Reads Part.Names (map identifier held) a b
names_end {b = b} held r e =
    same_value (append_none (map identifier held)) (complete (by_part r (passes [] b e refl)))

abbrev pub after_values : List Expr → List Expression → Plan (List Expression)
after_values held others = Done (map expression held ++ others)

pub values_init : {a b : Point} (held later : List Expr) (x : Expr) → held ≡ [] → later ≡ held ++ (x ∷ []) →
    Reaches Part.Expressions a (Call Part.MoreExpressions (λ others. Done (expression x ∷ others))) b →
    Reaches Part.Expressions a (Call Part.MoreExpressions (after_values later)) b
values_init held later x none e r =
    same_rest Part.MoreExpressions (λ others. Done (expression x ∷ others)) (after_values later)
    (λ others. ap (λ xs. after_values (xs ++ (x ∷ [])) others) (sym none) ∙ ap (λ xs. after_values xs others) (sym e)) r

pub values_step : {a b c : Point} (held later : List Expr) (x : Expr) → later ≡ held ++ (x ∷ []) →
    Reaches Part.Expressions a (Call Part.MoreExpressions (after_values held)) b →
    Reaches Part.MoreExpressions b (Call Part.MoreExpressions (λ others. Done (expression x ∷ others))) c →
    Reaches Part.Expressions a (Call Part.MoreExpressions (after_values later)) c
values_step held later x e r s =
    same_rest Part.MoreExpressions (λ others. after_values held (expression x ∷ others)) (after_values later)
    (λ others. ap Done (map_push expression held x others) ∙ ap (λ xs. after_values xs others) (sym e)) (within r s)

pub values_end : {a b : Point} (held : List Expr) → Reaches Part.Expressions a (Call Part.MoreExpressions (after_values held)) b →
    start Part.MoreExpressions (look b.left) ≡ None → Reads Part.Expressions (map expression held) a b
values_end {b = b} held r e =
    same_value (append_none (map expression held)) (complete (by_part r (passes [] b e refl)))

abbrev pub after_processes : List Process → List ProcessDeclaration → Plan (List ProcessDeclaration)
after_processes held others = Done (map process_declaration held ++ others)

pub processes_init : (edition : Edition) {a b : Point} (held later : List Process) (x : Process) → held ≡ [] →
    later ≡ held ++ (x ∷ []) → Reaches (Part.Processes edition) a
    (Call (Part.MoreProcesses edition) (λ others. Done (process_declaration x ∷ others))) b →
    Reaches (Part.Processes edition) a (Call (Part.MoreProcesses edition) (after_processes later)) b
processes_init edition held later x none e r =
    same_rest (Part.MoreProcesses edition) (λ others. Done (process_declaration x ∷ others)) (after_processes later)
    (λ others. ap (λ xs. after_processes (xs ++ (x ∷ [])) others) (sym none) ∙ ap (λ xs. after_processes xs others) (sym e)) r

pub processes_step : (edition : Edition) {a b c : Point} (held later : List Process) (x : Process) → later ≡ held ++ (x ∷ []) →
    Reaches (Part.Processes edition) a (Call (Part.MoreProcesses edition) (after_processes held)) b →
    Reaches (Part.MoreProcesses edition) b (Call (Part.MoreProcesses edition) (λ others. Done (process_declaration x ∷ others))) c
    → Reaches (Part.Processes edition) a (Call (Part.MoreProcesses edition) (after_processes later)) c
processes_step edition held later x e r s =
    same_rest (Part.MoreProcesses edition) (λ others. after_processes held (process_declaration x ∷ others))
    (after_processes later) (λ others. ap Done (map_push process_declaration held x others) ∙ ap (λ xs. after_processes xs others)
    (sym e)) (within r s)

pub processes_end : (edition : Edition) {a b : Point} (held : List Process) →
    Reaches (Part.Processes edition) a (Call (Part.MoreProcesses edition) (after_processes held)) b →
    start (Part.MoreProcesses edition) (look b.left) ≡ None → Reads (Part.Processes edition) (map process_declaration held) a b
processes_end edition {b = b} held r e =
    same_value (append_none (map process_declaration held)) (complete (by_part r (passes [] b e refl)))

abbrev pub after_alternates : List Block → Alternates → Plan (Alternates)
after_alternates held others = Done (alternates_append (alternates_of held) others)

pub alternates_init : (edition : Edition) {a b : Point} (held later : List Block) (x : Block) → held ≡ [] →
    later ≡ held ++ (x ∷ []) → Reaches (Part.Alternates edition) a
    (Call (Part.OtherAlternates edition) (λ others. Done (Alternate (body x) others))) b →
    Reaches (Part.Alternates edition) a (Call (Part.OtherAlternates edition) (after_alternates later)) b
alternates_init edition held later x none e r =
    same_rest (Part.OtherAlternates edition) (λ others. Done (Alternate (body x) others)) (after_alternates later)
    (λ others. ap (λ xs. after_alternates (xs ++ (x ∷ [])) others) (sym none) ∙ ap (λ xs. after_alternates xs others) (sym e)) r

pub alternates_step : (edition : Edition) {a b c : Point} (held later : List Block) (x : Block) → later ≡ held ++ (x ∷ []) →
    Reaches (Part.Alternates edition) a (Call (Part.OtherAlternates edition) (after_alternates held)) b →
    Reaches (Part.OtherAlternates edition) b (Call (Part.OtherAlternates edition) (λ others. Done (Alternate (body x) others))) c
    → Reaches (Part.Alternates edition) a (Call (Part.OtherAlternates edition) (after_alternates later)) c
alternates_step edition held later x e r s =
    same_rest (Part.OtherAlternates edition) (λ others. after_alternates held (Alternate (body x) others))
    (after_alternates later) (λ others. ap Done (sym (alternates_push held x others)) ∙ ap (λ xs. after_alternates xs others)
    (sym e)) (within r s)

pub alternates_end : (edition : Edition) {a b c : Point} (held : List Block) →
    Reaches (Part.Alternates edition) a (Call (Part.OtherAlternates edition) (after_alternates held)) b →
    Reads (Part.OtherAlternates edition) NoAlternate b c → Reads (Part.Alternates edition) ((alternates_of held)) a c
alternates_end edition held r s = same_value (alternates_append_none (alternates_of held)) (complete (by_part r s))

abbrev pub after_connections : List Channel → List Conversation → List ChannelDeclaration × List ConversationDeclaration →
    Plan (List ChannelDeclaration × List ConversationDeclaration)
after_connections channels conversations others = Done (
  map channel_declaration channels ++ others.0,
  map conversation_declaration
      conversations ++ others.1,
)

pub connections_init : (channels : List Channel) (conversations : List Conversation) (a : Point) → channels ≡ [] →
    conversations ≡ [] → Reaches Part.Connections a (Call Part.Connections (after_connections channels conversations)) a
connections_init channels conversations a e f =
    same_rest Part.Connections (λ others. Done others) (after_connections channels conversations)
    (λ others. λ j. after_connections (sym e j) (sym f j) others) (unread Part.Connections a)

pub channel_step : {a b c : Point} (channels later : List Channel) (conversations : List Conversation) (x : Channel) →
    later ≡ channels ++ (x ∷ []) → Reaches Part.Connections a (Call Part.Connections (after_connections channels conversations)) b
    → Reaches Part.Connections b (Call Part.Connections (λ others. Done (channel_declaration x ∷ others.0, others.1))) c →
    Reaches Part.Connections a (Call Part.Connections (after_connections later conversations)) c
channel_step channels later conversations x e r s =
    same_rest Part.Connections (λ others. after_connections channels conversations (channel_declaration x ∷ others.0, others.1))
    (after_connections later conversations) (λ others. ap (λ held. Done
    (held, map conversation_declaration conversations ++ others.1)) (map_push channel_declaration channels x others.0) ∙ ap
    (λ xs. after_connections xs conversations others) (sym e)) (within r s)

pub conversation_step : {a b c : Point} (channels : List Channel) (conversations later : List Conversation) (x : Conversation) →
    later ≡ conversations ++ (x ∷ []) → Reaches Part.Connections a
    (Call Part.Connections (after_connections channels conversations)) b →
    Reaches Part.Connections b (Call Part.Connections (λ others. Done (others.0, conversation_declaration x ∷ others.1))) c →
    Reaches Part.Connections a (Call Part.Connections (after_connections channels later)) c
conversation_step channels conversations later x e r s =
    same_rest Part.Connections (λ others. after_connections channels conversations
    (others.0, conversation_declaration x ∷ others.1)) (after_connections channels later)
    (λ others. ap (λ held. Done (map channel_declaration channels ++ others.0, held))
    (map_push conversation_declaration conversations x others.1) ∙ ap (λ xs. after_connections channels xs others) (sym e))
    (within r s)

pub connections_end : {a b : Point} (channels : List Channel) (conversations : List Conversation) →
    Reaches Part.Connections a (Call Part.Connections (after_connections channels conversations)) b →
    start Part.Connections (look b.left) ≡ None → Reads Part.Connections
    (map channel_declaration channels, map conversation_declaration conversations) a b
connections_end {b = b} channels conversations r e =
    same_value (λ j. (
      append_none (map channel_declaration channels) j,
      append_none (map conversation_declaration conversations)
          j,
    )) (complete (by_part r (passes ([], []) b e refl)))
