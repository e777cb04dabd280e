use Rattle.std.proofs.Common.{◌+◌, Option, option_map, sym, ap, ◌∙◌, subst}
use Rattle.rb_code.specs.Instructions.Plain.{code as plain}
use Rattle.rb_code.specs.SoundCode.Sound.{Loop}
use Rattle.rb_conv.specs.Conversations.{memberships, opening}
use Rattle.rb_search.specs.Found.{found}
use Rattle.rb_flow.specs.Held.{entry_of}
use Rattle.rb_entries.specs.Parts.{loop_of}
use Rattle.rb_search.specs.Watched.{IsWatching}
use Rattle.rb_search.proofs.LoopsStay.{not_kept, passes_by, watches_on}
use Rattle.rb_search.proofs.staying.look.Goals as goal

pub returns-in-None : goal.returns-in-None
returns-in-None c =
    passes_by (plain c.args.code.now) (found c.args.lists.now c.args.cells.now) c.args.counter c.args.at (option_map loop_of c.args.watched)
    (ap (option_map (entry_of c.args.lists.now)) (sym c.in-None.ensures)) c.requires.watching

pub returns-then-not-is_kept : goal.returns-then-not-is_kept
returns-then-not-is_kept c =
    not_kept (plain c.args.code.now) (found c.args.lists.now c.args.cells.now) c.args.counter c.args.at (option_map loop_of c.args.watched)
    (entry_of c.args.lists.now c.in-Some.held) (ap (option_map (entry_of c.args.lists.now)) (sym c.in-Some.ensures))
    (sym c.is_kept.ensures ∙ c.if-not-is_kept.true) c.requires.watching

pub returns : goal.returns
returns c =
    let code = plain c.args.code.now
    in let f = found c.args.lists.now c.args.cells.now
    in subst (λ (w : Option Loop). IsWatching code f c.args.counter (c.args.at + 1) w) (sym c.watch.ensures)
    (watches_on code f c.args.counter (memberships (opening c.args.nested.now)) c.requires.has c.args.at (option_map loop_of c.args.watched)
    (entry_of c.args.lists.now c.in-Some.held) (ap (option_map (entry_of c.args.lists.now)) (sym c.in-Some.ensures))
    (sym c.is_kept.ensures ∙ c.if-not-is_kept.false) c.requires.watching)
