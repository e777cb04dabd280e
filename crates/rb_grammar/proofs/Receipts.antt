-- How a receipt may end, and what follows an alternate.
use Rattle.std.proofs.Common.{◌≡◌, true, false, Option, Some, None, refl}
use Rattle.rb_base.specs.declared.edition.Edition.{Edition}
use Rattle.rb_base.specs.declared.edition.Edition.TheVariants as editions
use Rattle.rb_grammar.specs.declared.terminal.Terminal.{Terminal}
use Rattle.rb_grammar.specs.declared.terminal.Terminal.TheVariants as terminals
use Rattle.rb_grammar.specs.Finding.{may_not_wait}
use Rattle.rb_grammar.specs.Machine.{fits}
use Rattle.rb_grammar.specs.Parts.{Part}
use Rattle.rb_grammar.specs.Plans.{Seen, Plan, Done, Call}
use Rattle.rb_grammar.specs.StatementTable.{start_receipt_end, start_other_alternates}
use Rattle.rb_syntax.specs.Tree.{Otherwise, NoElse, Else}

abbrev pub receipt_else : Seen → Plan Otherwise
receipt_else word = Call (Part.Block editions.Second) (λ body. Done (Else body))

abbrev pub receipt_wait : Seen → Plan Otherwise
receipt_wait semicolon = Done NoElse

pub else_stands : (edition : Edition) (first : Option Terminal) → may_not_wait edition first ≡ true → fits first terminals.Else ≡ true
else_stands editions.First first e = absurd cc
else_stands editions.Second first e = e

pub else_begins : (edition : Edition) (first : Option Terminal) → may_not_wait edition first ≡ true →
    start_receipt_end edition (Some terminals.Else) ≡ Some receipt_else
else_begins editions.First first e = absurd cc
else_begins editions.Second first e = refl

pub wait_begins : (edition : Edition) → start_receipt_end edition (Some terminals.Semicolon) ≡ Some receipt_wait
wait_begins editions.First = refl
wait_begins editions.Second = refl

no_first_end : (first : Option Terminal) → fits first terminals.Semicolon ≡ false → start_receipt_end editions.First first ≡ None
no_first_end (Some terminals.Semicolon) e = absurd cc
no_first_end _ e = refl

no_second_end : (first : Option Terminal) → fits first terminals.Else ≡ false → fits first terminals.Semicolon ≡ false →
    start_receipt_end editions.Second first ≡ None
no_second_end (Some terminals.Else) e f = absurd cc
no_second_end (Some terminals.Semicolon) e f = absurd cc
no_second_end _ e f = refl

pub no_receipt_end : (edition : Edition) (first : Option Terminal) → may_not_wait edition first ≡ false →
    fits first terminals.Semicolon ≡ false → start_receipt_end edition first ≡ None
no_receipt_end editions.First first e f = no_first_end first f
no_receipt_end editions.Second first e f = no_second_end first e f

pub no_other_alternate : (edition : Edition) (first : Option Terminal) → fits first terminals.By ≡ false →
    fits first terminals.Error ≡ false → start_other_alternates edition first ≡ None
no_other_alternate edition (Some terminals.By) e f = absurd cc
no_other_alternate edition (Some terminals.Error) e f = absurd cc
no_other_alternate edition _ e f = refl
