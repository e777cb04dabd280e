use Rattle.std.proofs.Common.{List, ◌≤◌, sym, subst, ◌∷◌, [], arith}
use Rattle.rb_search.specs.Search.{Gains}
use Rattle.rb_flow.specs.Held.{entry_of}
use Rattle.rb_search.specs.Found.{found, pending, IsWell}
use Rattle.rb_entries.specs.declared.cell.Cell.{Cell}
use Rattle.rb_search.proofs.Finding.{first_gains, mark_well}
use Rattle.rb_search.specs.Weight.{left}
use Rattle.rb_search.proofs.Lightening.{first_left}
use Rattle.rb_search.proofs.arrive.arrive_first.Goals as goal

pub returns-in-Ok-clause-gains : goal.returns-in-Ok-clause-gains
returns-in-Ok-clause-gains c =
    let lists = c.args.lists.now
    in let cells = c.args.cells.now
    in subst (λ (after : List Cell). Gains (record { at = c.args.at; entry = entry_of lists c.args.entry } ∷ []) (found lists cells) (pending cells)
    (found lists after) (pending after)) (sym c.in-Ok.ensures.cells)
    (first_gains lists cells c.args.at c.args.entry c.staying-entry.result c.requires.at c.requires.none (c.staying-entry.ensures.entry lists))

pub returns-in-Ok-clause-well : goal.returns-in-Ok-clause-well
returns-in-Ok-clause-well c =
    let lists = c.args.lists.now
    in subst (λ (after : List Cell). IsWell lists after c.mark.new.work) (sym c.in-Ok.ensures.cells)
    (mark_well lists c.args.cells.now c.args.at c.staying-entry.result c.requires.at c.args.work.now c.mark.new.work
    c.requires.well (c.staying-entry.ensures.held lists c.requires.held) c.in-Ok.ensures.keeps c.in-Ok.ensures.has)

pub returns-in-Ok-clause-left : goal.returns-in-Ok-clause-left
returns-in-Ok-clause-left c =
    let lists = c.args.lists.now
    in let cells = c.args.cells.now
    in let work = c.args.work.now
    in subst (λ (after : List Cell). left lists after c.mark.new.work ≤ left lists cells work) (sym c.in-Ok.ensures.cells)
    (first_left lists cells c.args.at c.args.entry c.staying-entry.result work c.mark.new.work c.requires.at c.requires.none
    (c.staying-entry.ensures.entry lists) (omega arith) c.in-Ok.ensures.few)
