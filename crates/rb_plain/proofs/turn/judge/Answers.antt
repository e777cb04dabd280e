-- The acceptance test holds in the process that stands at the number, or the turn is stuck.
use Rattle.std.proofs.Common.{◌≡◌, ℤ, false, Some, Ok, Err, ap, sym, ◌∙◌, subst}
use Rattle.std.proofs.lemmas.Option.{get_or_from_slice_get}
use Rattle.rb_syntax.specs.Plain.{recovery_block, tree}
use Rattle.rb_meaning.specs.Value.{is_zero}
use Rattle.rb_levels.specs.declared.process.Process.{Process}
use Rattle.rb_walk.specs.Comes.{Judges}
use Rattle.rb_levels.specs.Worlds.{process_of, world_of}
use Rattle.rb_plain.proofs.ActedWorlds.{fails, holds, tested_in}
use Rattle.rb_plain.proofs.turn.judge.Goals as goal

pub accept-requires-clause-ready : goal.accept-requires-clause-ready
accept-requires-clause-ready c = λ one there. (c.requires.first one there).0

pub returns-in-Ok : goal.returns-in-Ok
returns-in-Ok c = λ one there.
    let plain = tree c.args.program.now in
    let block = recovery_block c.args.block.now in
    let found = get_or_from_slice_get c.args.processes.now c.args.kept.process one c.index-processes-p.result there in
    let h = subst (λ (x : Process). (v : ℤ) × (tested_in block (process_of x) ≡ Ok v) × (is_zero v ≡ false)) found c.in-Ok.ensures in
    holds plain c.args.kept (process_of one) (world_of plain c.args.processes.now) c.requires.alternate block
    (c.requires.first one there).1 h.0 h.1 h.2
    ∙ ap Some (sym (c.accept.ensures one there))

pub returns-in-Err : goal.returns-in-Err
returns-in-Err c = λ one there.
    let plain = tree c.args.program.now in
    let block = recovery_block c.args.block.now in
    let found = get_or_from_slice_get c.args.processes.now c.args.kept.process one c.index-processes-p.result there in
    let h = subst (λ (x : Process). Judges {A = Unit {0}} (tested_in block (process_of x)) (Err c.in-Err.halt)) found c.in-Err.ensures in
    fails plain c.args.kept (process_of one) (world_of plain c.args.processes.now) c.requires.alternate block
    (c.requires.first one there).1 (Unit {0}) c.in-Err.halt (world_of plain c.args.processes.now) h
