-- The instruction is the one at the address.
use Rattle.std.proofs.Common.{length, refl, sym, ◌∙◌, subst, arith}
use Rattle.std.proofs.lemmas.Option.{slice_get_read}
use Rattle.rb_world.proofs.ListFacts.{some_same}
use Rattle.rb_code.specs.Instructions.Plain.{code as plain}
use Rattle.rb_code.specs.SoundCode.Reached.{successors}
use Rattle.rb_code.specs.SoundCode.Sound.{IsMember}
use Rattle.rb_back.specs.Stores.{MayStore}
use Rattle.rb_back.proofs.stores.stores_from.Goals as goal

pub returns-clause-own : goal.returns-clause-own
returns-clause-own c instr k at low may =
    let items = c.args.code.now.instrs.items in
    let same = some_same (sym at ∙ slice_get_read items (length items) c.args.at c.index-instr.result.now refl (omega (arith, c.requires)) c.index-instr.ensures) in
    c.joined.ensures.one k (c.own_stores.ensures k low (subst (λ i. MayStore c.args.most i k) same may))

pub returns-clause-behind : goal.returns-clause-behind
returns-clause-behind c instr b k at to low may =
    let items = c.args.code.now.instrs.items in
    let same = some_same (sym at ∙ slice_get_read items (length items) c.args.at c.index-instr.result.now refl (omega (arith, c.requires)) c.index-instr.ensures) in
    c.joined.ensures.other k (c.stores_behind.ensures b k (subst (λ i. IsMember b (successors (plain c.args.code.now) i c.args.at)) same to) low may)
