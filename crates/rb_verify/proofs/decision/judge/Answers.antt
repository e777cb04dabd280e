use Rattle.std.proofs.Common.{List, Vec, Global, length, Option, MatchOption, sym, ap, ◌∙◌, subst}
use Rattle.rb_code.specs.Instructions.Plain.{Code, code as plain}
use Rattle.rb_conv.specs.Conversations.{memberships, opening}
use Rattle.rb_search.specs.Found.{found}
use Rattle.rb_search.specs.Joinings.{AreJoinings, EntersTwo, groups_join}
use Rattle.rb_code.specs.SoundCode.Sound.{Table}
use Rattle.rb_search.specs.declared.joining.Joining.{Joining}
use Rattle.rb_verify.proofs.Judging.{as_many, is_sound, joins_fail, loops_leave}
use Rattle.rb_search.proofs.MembersJoin.{counts, join_fails, join_once, two_fail}
use Rattle.rb_verify.proofs.decision.judge.Goals as goal

-- what is told of the blocks of conversations that are entered
abbrev Told : Code → Table → Option (Vec Joining Global) → Type 0
Told code f each = MatchOption each (EntersTwo code f) (λ all. AreJoinings code f (length code.instrs) all.items)

pub returns-then-not-loops_stay_open-clause-unsound : goal.returns-then-not-loops_stay_open-clause-unsound
returns-then-not-loops_stay_open-clause-unsound c =
    let code = plain c.args.code.now
    in let lists = c.args.known.now.lists
    in loops_leave code (memberships (opening c.args.nested.now)) (found lists c.args.known.now.cells) c.requires.found
    (counts c.args.nested.now.conversations.items)
    (c.loops_stay_open.ensures.leave c.if-not-loops_stay_open.true)

pub returns-in-None-clause-unsound : goal.returns-in-None-clause-unsound
returns-in-None-clause-unsound c =
    let code = plain c.args.code.now
    in let groups = memberships (opening c.args.nested.now)
    in let f = found c.args.known.now.lists c.args.known.now.cells
    in let numbers = counts c.args.nested.now.conversations.items
    in joins_fail code groups f c.requires.found numbers (two_fail code groups numbers f c.requires.found.has (subst (Told code f) c.in-None.is c.in-Ok.ensures))

pub returns-then-members_join_once-clause-sound : goal.returns-then-members_join_once-clause-sound
returns-then-members_join_once-clause-sound c =
    let code = plain c.args.code.now
    in let lists = c.args.known.now.lists
    in let groups = c.args.nested.now.conversations.items
    in let f = found lists c.args.known.now.cells
    in is_sound code (memberships (opening c.args.nested.now)) f c.requires.found (counts groups) c.requires.well
    (as_many (opening c.args.nested.now))
    (c.loops_stay_open.ensures.stay c.if-not-loops_stay_open.false)
    (join_once code f groups c.in-Some.all.items
    (subst (Told code f) c.in-Some.is c.in-Ok.ensures)
    (ap (λ (all : List Joining). groups_join 0 all groups) (sym c.deref.ensures.value) ∙ sym c.members_join_once.ensures
    ∙ c.if-members_join_once.true))

pub returns-clause-unsound : goal.returns-clause-unsound
returns-clause-unsound c =
    let code = plain c.args.code.now
    in let lists = c.args.known.now.lists
    in let groups = c.args.nested.now.conversations.items
    in let f = found lists c.args.known.now.cells
    in joins_fail code (memberships (opening c.args.nested.now)) f c.requires.found (counts groups)
    (join_fails code f groups c.in-Some.all.items
    (subst (Told code f) c.in-Some.is c.in-Ok.ensures)
    (ap (λ (all : List Joining). groups_join 0 all groups) (sym c.deref.ensures.value) ∙ sym c.members_join_once.ensures
    ∙ c.if-members_join_once.false))
