-- The process that stands at the number, and what its level comes to.
use Rattle.std.proofs.Common.{◌≡◌, None, Some, get_or, map, ap, sym, ◌∙◌, subst}
use Rattle.std.proofs.lemmas.Option.{get_or_from_slice_get}
use Rattle.rb_syntax.specs.Plain.{tree}
use Rattle.rb_world.specs.World.{last_of}
use Rattle.rb_walk.specs.States.{state_of}
use Rattle.rb_levels.specs.declared.process.Process.{Process}
use Rattle.rb_levels.specs.Moves.{skipped}
use Rattle.rb_levels.specs.Worlds.{level_of, world_of}
use Rattle.rb_plain.proofs.AcceptedTests.{alone_gone, conversation_at, no_level, together_gone}
use Rattle.rb_plain.proofs.test_line.accept.Goals as goal

pub returns-in-None : goal.returns-in-None
returns-in-None c = λ one there.
    let plain = tree c.args.program.now in
    let processes = c.args.processes.now in
    let levels = map level_of one.levels.items in
    let found = get_or_from_slice_get processes c.args.p one c.index-processes-p.result there in
    no_level plain c.args.p levels (world_of plain processes) (skipped (state_of one.state)) (last_of levels)
    (subst (λ (x : Process). conversation_at (last_of (map level_of x.levels.items)) ≡ None) found
    (sym c.conversation_of.ensures ∙ c.in-None.is))

pub returns-in-Some-None : goal.returns-in-Some-None
returns-in-Some-None c = λ one there.
    let processes = c.args.processes.now in
    let p = c.args.p in
    let x = c.index-processes-p.result in
    let d = c.index-processes-p-in-Some-None.result in
    let found = get_or_from_slice_get processes p one x there in
    let again = get_or_from_slice_get processes p one d there in
    alone_gone (tree c.args.program.now) processes p one (get_or processes p x) (get_or processes p d) found again c.pass.new.self
    (sym c.conversation_of.ensures ∙ c.in-Some-None.is ∙ ap Some c.in-Some-None.field-0-is) c.pass.ensures

pub returns-in-Some-Some : goal.returns-in-Some-Some
returns-in-Some-Some c = λ one there.
    let processes = c.args.processes.now in
    let p = c.args.p in
    let x = c.index-processes-p.result in
    let d = c.index-processes-p-in-Some-Some.result in
    let found = get_or_from_slice_get processes p one x there in
    let again = get_or_from_slice_get processes p one d there in
    together_gone (tree c.args.program.now) processes p one (get_or processes p x) (get_or processes p d) found again c.stand.new.self
    c.pass_line.new.processes c.in-Some-Some.conversation
    (sym c.conversation_of.ensures ∙ c.in-Some-Some.is ∙ ap Some c.in-Some-Some.field-0-is) c.stand.ensures c.pass_line.ensures
