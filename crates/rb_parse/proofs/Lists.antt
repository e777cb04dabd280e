-- Lists of which each entry is followed by another, or by their end: what is left before an entry, and behind it.
use Rattle.std.proofs.Common.{◌≡◌, List, [], ◌∷◌, ◌++◌, refl, sym, ap, subst, ◌∙◌}
use Rattle.rb_base.specs.declared.edition.Edition.{Edition}
use Rattle.rb_grammar.specs.declared.terminal.Terminal.TheVariants as terminals
use Rattle.rb_grammar.specs.ExpressionTable.{name_of}
use Rattle.rb_grammar.specs.Grammar.{Point}
use Rattle.rb_grammar.specs.Parts.{Part}
use Rattle.rb_grammar.specs.Plans.{Plan, Done, Token, Call}
use Rattle.rb_grammar.specs.StatementTable.{alternates_after, expressions_after, items_after}
use Rattle.rb_grammar.specs.Table.{processes_after}
use Rattle.rb_grammar.proofs.Accepting.Starts.{no_names}
use Rattle.rb_grammar.proofs.Pairs.{opens}
use Rattle.rb_grammar.proofs.Pushing.{after_alternates, after_items, after_names, after_processes, after_values, map_push}
use Rattle.rb_grammar.proofs.Reaching.{Reaches, begins, same_rest}
use Rattle.rb_syntax.proofs.Append.{alternates_push}
use Rattle.rb_syntax.specs.declared.expression.Expr.{Expr}
use Rattle.rb_syntax.specs.declared.expression.Name.{Name}
use Rattle.rb_syntax.specs.declared.program.Process.{Process}
use Rattle.rb_syntax.specs.declared.statement.Block.{Block}
use Rattle.rb_syntax.specs.declared.statement.Item.{Item}
use Rattle.rb_syntax.specs.Plain.{body, expression, identifier, print_item, process_declaration}
use Rattle.rb_syntax.specs.Tree.{Alternate, Alternates, Body, Expression, Identifier, PrintItem, ProcessDeclaration}

abbrev pub item_next : List Item → PrintItem → Plan (List PrintItem)
item_next held entry = Call Part.MoreItems (λ others. after_items held (entry ∷ others))

pub item_first : (held : List Item) (a : Point) → held ≡ [] → Reaches Part.Items a (Call Part.Item (item_next held)) a
item_first held a e =
    same_rest Part.Item _ (item_next held) (λ entry. ap (λ xs. item_next xs entry) (sym e)) (begins Part.Item a items_after refl refl refl)

pub item_read : {a b : Point} (held later : List Item) (x : Item) → later ≡ held ++ (x ∷ []) →
    Reaches Part.Items a (item_next held (print_item x)) b → Reaches Part.Items a (Call Part.MoreItems (after_items later)) b
item_read held later x e r =
    same_rest Part.MoreItems (λ others. after_items held (print_item x ∷ others)) (after_items later)
    (λ others. ap Done (map_push print_item held x others) ∙ ap (λ xs. after_items xs others) (sym e)) r

abbrev pub value_next : List Expr → Expression → Plan (List Expression)
value_next held entry = Call Part.MoreExpressions (λ others. after_values held (entry ∷ others))

pub value_first : (held : List Expr) (a : Point) → held ≡ [] → Reaches Part.Expressions a (Call Part.Expression (value_next held)) a
value_first held a e =
    same_rest Part.Expression _ (value_next held) (λ entry. ap (λ xs. value_next xs entry) (sym e)) (begins Part.Expression a expressions_after refl refl refl)

pub value_read : {a b : Point} (held later : List Expr) (x : Expr) → later ≡ held ++ (x ∷ []) →
    Reaches Part.Expressions a (value_next held (expression x)) b → Reaches Part.Expressions a (Call Part.MoreExpressions (after_values later)) b
value_read held later x e r =
    same_rest Part.MoreExpressions (λ others. after_values held (expression x ∷ others)) (after_values later)
    (λ others. ap Done (map_push expression held x others) ∙ ap (λ xs. after_values xs others) (sym e)) r

abbrev pub process_next : (edition : Edition) → List Process → ProcessDeclaration → Plan (List ProcessDeclaration)
process_next edition held entry = Call (Part.MoreProcesses edition) (λ others. after_processes held (entry ∷ others))

pub process_first : (edition : Edition) → (held : List Process) (a : Point) → held ≡ [] → Reaches (Part.Processes edition) a (Call (Part.Process edition) (process_next edition held)) a
process_first edition held a e =
    same_rest (Part.Process edition) _ (process_next edition held) (λ entry. ap (λ xs. process_next edition xs entry) (sym e)) (begins (Part.Process edition) a (processes_after edition) refl refl refl)

pub process_read : (edition : Edition) → {a b : Point} (held later : List Process) (x : Process) → later ≡ held ++ (x ∷ []) →
    Reaches (Part.Processes edition) a (process_next edition held (process_declaration x)) b → Reaches (Part.Processes edition) a (Call (Part.MoreProcesses edition) (after_processes later)) b
process_read edition held later x e r =
    same_rest (Part.MoreProcesses edition) (λ others. after_processes held (process_declaration x ∷ others)) (after_processes later)
    (λ others. ap Done (map_push process_declaration held x others) ∙ ap (λ xs. after_processes xs others) (sym e)) r

abbrev pub alternate_next : (edition : Edition) → List Block → Body → Plan Alternates
alternate_next edition held entry = Call (Part.OtherAlternates edition) (λ others. after_alternates held (Alternate entry others))

pub alternate_first : (edition : Edition) (held : List Block) (a : Point) → held ≡ [] →
    Reaches (Part.Alternates edition) a (Call (Part.Alternate edition) (alternate_next edition held)) a
alternate_first edition held a e =
    same_rest (Part.Alternate edition) _ (alternate_next edition held) (λ entry. ap (λ xs. alternate_next edition xs entry) (sym e))
    (begins (Part.Alternate edition) a (alternates_after edition) refl refl refl)

pub alternate_read : (edition : Edition) {a b : Point} (held later : List Block) (x : Block) → later ≡ held ++ (x ∷ []) →
    Reaches (Part.Alternates edition) a (alternate_next edition held (body x)) b →
    Reaches (Part.Alternates edition) a (Call (Part.OtherAlternates edition) (after_alternates later)) b
alternate_read edition held later x e r =
    same_rest (Part.OtherAlternates edition) (λ others. after_alternates held (Alternate (body x) others)) (after_alternates later)
    (λ others. ap Done (sym (alternates_push held x others)) ∙ ap (λ xs. after_alternates xs others) (sym e)) r

abbrev pub name_next : List Name → Identifier → Plan (List Identifier)
name_next held entry = Call Part.MoreNames (λ others. after_names held (entry ∷ others))

pub name_first : (held : List Name) (a : Point) → held ≡ [] →
    Reaches Part.Names a (Token terminals.Name (λ seen. name_next held (name_of seen))) a
name_first held a e =
    subst (λ xs. Reaches Part.Names a (Token terminals.Name (λ seen. name_next xs (name_of seen))) a) (sym e)
    (opens Part.Names a (λ seen. name_next [] (name_of seen)) refl (no_names _) refl)

pub name_read : {a b : Point} {entry : Identifier} (held later : List Name) (x : Name) → later ≡ held ++ (x ∷ []) →
    identifier x ≡ entry → Reaches Part.Names a (name_next held entry) b → Reaches Part.Names a (Call Part.MoreNames (after_names later)) b
name_read {entry = entry} held later x e is r =
    same_rest Part.MoreNames (λ others. after_names held (entry ∷ others)) (after_names later)
    (λ others. ap (λ name. after_names held (name ∷ others)) (sym is) ∙ ap Done (map_push identifier held x others)
    ∙ ap (λ xs. after_names xs others) (sym e)) r
