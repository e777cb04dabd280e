use Rattle.std.proofs.Common.{ap, sym, ◌∙◌}
use Rattle.rb_world.proofs.ListFacts.{some_same}
use Rattle.rb_code.specs.Instructions.Plain.{code as plain}
use Rattle.rb_proc.specs.Process.{wanted_of}
use Rattle.rb_scope.proofs.Long.{got}
use Rattle.rb_machine.proofs.ReadAt.{process_there}
use Rattle.rb_machine.proofs.reading.want_at.Goals as goal

pub returns : goal.returns
returns g c q e =
    let one = c.index-procs-p.result in
    let there = process_there c.args.procs.now c.args.p one (got c.args.procs.now c.args.p one c.requires.process c.index-procs-p.is) in
    c.want.ensures ∙ ap (wanted_of (plain c.args.code.now)) (some_same (sym there ∙ e))
