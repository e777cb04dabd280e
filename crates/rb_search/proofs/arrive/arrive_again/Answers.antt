use Rattle.std.proofs.Common.{List, ◌≤◌, sym, ap, ◌∙◌, subst, ◌∷◌, [], arith}
use Rattle.rb_search.specs.Search.{Gains}
use Rattle.rb_flow.specs.Held.{entry_of}
use Rattle.rb_search.specs.Found.{found, pending, IsWell}
use Rattle.rb_entries.specs.declared.cell.Cell.{Cell}
use Rattle.rb_search.specs.Meeting.{met_of, IsMet, IsOther}
use Rattle.rb_search.proofs.Finding.{mark_well, meets_none, same_gains, weaker_gains, well_grown}
use Rattle.rb_search.specs.Weight.{left}
use Rattle.rb_search.proofs.Lightening.{grown_left, weaker_left}
use Rattle.rb_search.proofs.arrive.arrive_again.Goals as goal

pub returns-in-Apart-clause-unsound : goal.returns-in-Apart-clause-unsound
returns-in-Apart-clause-unsound c =
    let lists = c.args.lists.now
    in meets_none lists c.args.cells.now c.args.at c.args.entry c.staying-entry.result c.args.known c.requires.known
    (c.staying-entry.ensures.entry lists) (ap (met_of c.meet.new.lists c.args.known) (sym c.in-Apart.is) ∙ c.in-Ok.ensures.met)

pub returns-in-Same-clause-gains : goal.returns-in-Same-clause-gains
returns-in-Same-clause-gains c =
    let lists = c.args.lists.now
    in let cells = c.args.cells.now
    in same_gains lists c.meet.new.lists cells c.args.work.now c.args.at c.args.entry c.staying-entry.result c.args.known
    c.requires.well c.in-Ok.ensures.grown (c.requires.well.held c.args.at c.args.known c.requires.known) c.requires.known
    (c.staying-entry.ensures.entry lists) (ap (met_of c.meet.new.lists c.args.known) (sym c.in-Same.is) ∙ c.in-Ok.ensures.met)

pub returns-in-Same-clause-well : goal.returns-in-Same-clause-well
returns-in-Same-clause-well c =
    well_grown c.args.lists.now c.meet.new.lists c.args.cells.now c.args.work.now c.requires.well c.in-Ok.ensures.grown

pub returns-in-Ok-mark-clause-gains : goal.returns-in-Ok-mark-clause-gains
returns-in-Ok-mark-clause-gains c =
    let lists = c.args.lists.now
    in let cells = c.args.cells.now
    in subst (λ (after : List Cell). Gains (record { at = c.args.at; entry = entry_of lists c.args.entry } ∷ []) (found lists cells) (pending cells)
    (found c.meet.new.lists after) (pending after)) (sym c.in-Ok-mark.ensures.cells)
    (weaker_gains lists c.meet.new.lists cells c.args.work.now c.args.at c.args.entry c.staying-entry.result c.args.known c.in-Weaker.weaker
    c.requires.at c.requires.well c.in-Ok.ensures.grown c.requires.held (c.requires.well.held c.args.at c.args.known c.requires.known)
    c.requires.known (c.staying-entry.ensures.entry lists)
    (ap (met_of c.meet.new.lists c.args.known) (sym c.in-Weaker.is) ∙ c.in-Ok.ensures.met))

pub returns-in-Ok-mark-clause-well : goal.returns-in-Ok-mark-clause-well
returns-in-Ok-mark-clause-well c =
    let lists = c.args.lists.now
    in let cells = c.args.cells.now
    in subst (λ (after : List Cell). IsWell c.meet.new.lists after c.mark.new.work) (sym c.in-Ok-mark.ensures.cells)
    (mark_well c.meet.new.lists cells c.args.at c.in-Weaker.weaker c.requires.at c.args.work.now c.mark.new.work
    (well_grown lists c.meet.new.lists cells c.args.work.now c.requires.well c.in-Ok.ensures.grown)
    (subst (IsMet c.meet.new.lists) c.in-Weaker.is c.in-Ok.ensures.held) c.in-Ok-mark.ensures.keeps c.in-Ok-mark.ensures.has)

pub returns-in-Same-clause-left : goal.returns-in-Same-clause-left
returns-in-Same-clause-left c =
    let same = grown_left c.args.lists.now c.meet.new.lists c.args.cells.now c.args.work.now c.requires.well c.in-Ok.ensures.grown
    in omega arith

pub returns-in-Ok-mark-clause-left : goal.returns-in-Ok-mark-clause-left
returns-in-Ok-mark-clause-left c =
    let lists = c.args.lists.now
    in let cells = c.args.cells.now
    in let work = c.args.work.now
    in subst (λ (after : List Cell). left c.meet.new.lists after c.mark.new.work ≤ left lists cells work) (sym c.in-Ok-mark.ensures.cells)
    (weaker_left lists c.meet.new.lists cells c.args.at c.staying-entry.result c.args.known c.in-Weaker.weaker work c.mark.new.work
    c.requires.at c.requires.well c.in-Ok.ensures.grown c.requires.known
    (ap (met_of c.meet.new.lists c.args.known) (sym c.in-Weaker.is) ∙ c.in-Ok.ensures.met)
    (subst (IsOther lists c.meet.new.lists c.args.known) c.in-Weaker.is c.in-Ok.ensures.other) c.in-Ok-mark.ensures.few)
